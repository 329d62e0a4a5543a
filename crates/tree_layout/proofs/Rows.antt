-- A row has one layout, and how it is found.
use Rattle.std.proofs.Common.{◌≡◌, ℕ, suc, ◌+◌, ◌-◌, ◌*◌, ◌^◌, ◌<◌, ◌≤◌, Some, None, Option, sym, refl, ap, ◌∙◌, subst, subst₂, ⊎_elim, mul-le-mul_left, pow-suc, add-one, arith}
use mathlib.Core.HLevel.{is_prop→PathP}
use native.Mathlib.Nat.{pow-zero, ℕ_set}
use native.Mathlib.Bridge.{le_prop}
use Rattle.std.proofs.lemmas.Nat.{mul-le}
use Rattle.std.proofs.lemmas.Bool.{cases_lt}
use Rattle.tree_layout.specs.declared.layout.Layout.{Layout}
use Rattle.tree_layout.specs.Levels.{starts, leaves, tree_slots}
use Rattle.tree_layout.specs.Rows.{Laid, LayoutOf}
use Rattle.tree_layout.proofs.Levels.{starts_pow, tree_parts, tree_up, height_below}

module _ (m n : ℕ) (a b : Layout) (la : Laid m n a) (lb : Laid m n b) where
  same_height : a.height ≡ b.height
  same_height =
      ⊎_elim
      (λ l. absurd (omega (arith, la.tallest b.height l, lb.fits)))
      (λ l. ⊎_elim (λ k. absurd (omega (arith, lb.tallest a.height k, la.fits))) (λ k. omega arith) (cases_lt b.height a.height))
      (cases_lt a.height b.height)

  same_layout : a ≡ b
  same_layout =
      λ i. record {
        width = w i;
        height = same_height i;
        base = base i;
        leaves = many i;
        narrowest = is_prop→PathP (λ j. 2 ≤ w j) (λ j. le_prop) a.narrowest b.narrowest i;
        widest = is_prop→PathP (λ j. w j ≤ 32) (λ j. le_prop) a.widest b.widest i;
        above = is_prop→PathP (λ j. base j ≡ starts (w j) (same_height j) * w j) (λ j. ℕ_set _ _) a.above b.above i;
        many = is_prop→PathP (λ j. many j ≡ (w j + 1) ^ same_height j) (λ j. ℕ_set _ _) a.many b.many i;
        small = is_prop→PathP (λ j. tree_slots (w j) (same_height j) ≤ 1048575) (λ j. le_prop) a.small b.small i;
      }
    where
      w : a.width ≡ b.width
      w = la.wide ∙ sym lb.wide

      base : a.base ≡ b.base
      base = la.above ∙ ap (λ h. starts m h * m) same_height ∙ sym lb.above

      many : a.leaves ≡ b.leaves
      many = la.many ∙ ap (leaves m) same_height ∙ sym lb.many

pub one_layout : (m n : ℕ) (a b : Option Layout) → 0 < m → LayoutOf m n a → LayoutOf m n b → a ≡ b
one_layout m n None None pos u v = refl
one_layout m n None (Some b) pos u v = absurd (omega (arith, tree_up m 0 b.height (omega arith), v.fits))
one_layout m n (Some a) None pos u v = absurd (omega (arith, tree_up m 0 a.height (omega arith), u.fits))
one_layout m n (Some a) (Some b) pos u v = ap Some (same_layout m n a b u v)

-- the tree of height h fits in n slots: base of them are above its k leaves
pub record Grown (m n h base k : ℕ) : Type 0 where
  pub narrow : 2 ≤ m
  pub wide : m ≤ 32
  pub counted : n ≤ 1048575
  pub above : base ≡ starts m h * m
  pub many : k ≡ leaves m h
  pub fits : tree_slots m h ≤ n

pub grown_root : (m w n : ℕ) → m ≡ w → 2 ≤ w → w ≤ 32 → n ≤ 1048575 → m ≤ n → Grown m n 0 0 1
grown_root m w n e narrow wide counted l = record {
  narrow = omega arith;
  wide = omega arith;
  counted = counted;
  above = omega arith;
  many = sym (pow-zero (m + 1));
  fits = omega arith;
}

module _ {m n h base k : ℕ} (g : Grown m n h base k) where
  grown_slots : base + k * m ≡ tree_slots m h
  grown_slots = rw (g.above, g.many) (sym (tree_parts m h))

  -- the slots of the tree one level higher
  grown_next : (base + k * m) * (m + 1) + m ≡ tree_slots m (suc h)
  grown_next = rw grown_slots (omega arith)

  grown_one : k ≡ base + 1
  grown_one = rw (g.above, g.many) (sym (starts_pow m h))

  -- no sum of the loop is large
  pub grown_small : (base + k * m ≤ 1048575) × ((base + k * m) * (m + 1) + m < 2 ^ 32) × (k * (m + 1) < 2 ^ 32) × (h < 1048575)
  grown_small = (total, omega (arith, mul-le _ (m + 1) _ 33 total (omega arith)), omega (arith, mul-le k (m + 1) 1048576 33 (omega (arith, grown_one)) (omega arith)), omega (arith, height_below m h (omega arith)))
    where
      total : base + k * m ≤ 1048575
      total = rw grown_slots (omega arith)

  pub grown_less : n - (base + k * m) < n - base
  grown_less = omega (arith, grown_slots, mul-le-mul_left k one, grown_one)
    where
      one : 1 ≤ m
      one = omega arith

  pub grown_more : (base + k * m) * (m + 1) + m ≤ n → Grown m n (h + 1) (base + k * m) (k * (m + 1))
  grown_more l = record {
    narrow = g.narrow;
    wide = g.wide;
    counted = g.counted;
    above = rw (add-one h) grown_slots;
    many = rw (add-one h, g.many, pow-suc (m + 1) h);
    fits = rw (add-one h, ← grown_next) l;
  }

  pub grown_laid : n < (base + k * m) * (m + 1) + m → (w c : ℕ) (p : Layout) → m ≡ w → n ≡ c → p.width ≡ m → p.height ≡ h → Laid w c p
  grown_laid l w c p em en ew eh = subst₂ (λ (x y : ℕ). Laid x y p) em en (record {
    wide = ew;
    above = subst (λ x. p.base ≡ starts x p.height * x) ew p.above;
    many = subst (λ x. p.leaves ≡ leaves x p.height) ew p.many;
    fits = subst (λ x. tree_slots m x ≤ n) (sym eh) g.fits;
    tallest = λ j u. omega (arith, grown_next, tree_up m (suc h) j (omega arith));
  })
