-- Where the index slots stand: one slot for each leaf above 0, before the slots of the leaves.
use Rattle.std.proofs.Common.{◌≡◌, ℕ, zero, suc, ◌+◌, ◌-◌, ◌*◌, ◌/◌, ◌%◌, ◌^◌, ◌<◌, ◌≤◌, ◌≢◌, sym, refl, ap, ◌∙◌, subst, ⊎_elim, mul-le-mul_right, lt_of_mul-lt-mul_right, mul-le-mul_left, pow-suc, div-add-mod', zero-mul, mul-div_cancel, arith, pow-add}
use native.Mathlib.Nat.{one-le-pow, pow-zero, eq_of_mul-eq-mul_left}
use Rattle.std.proofs.lemmas.Bool.{cases_lt}
use Rattle.std.proofs.lemmas.Nat.{div-mul-add, mod-mul-add, mod_below, div_below}
use Rattle.tree_layout.specs.declared.layout.Layout.{Layout}
use Rattle.tree_layout.specs.Levels.{starts, leaves, tree_slots}
use Rattle.tree_layout.proofs.Levels.{starts_next, starts_up}
use Rattle.tree_index.specs.Index.{place, IndexAt}

-- node n of level j stands within the slots of the tree
pub node_below : (m h j n d : ℕ) → j + d ≡ h → n < (m + 1) ^ j → (starts m j + n) * m + m ≤ tree_slots m h
node_below m h j n d e l = omega (arith, mul-le-mul_right m a, mul-le-mul_right m b)
  where
    a : starts m j + n + 1 ≤ starts m (suc j)
    a = omega (arith, starts_next m j)

    b : starts m (suc j) ≤ starts m (suc h)
    b = starts_up m (suc j) d (suc h) (omega arith)

-- a child's place in the next level
pub child_below : (m j n c : ℕ) → n < (m + 1) ^ j → c ≤ m → n * (m + 1) + c < (m + 1) ^ suc j
child_below m j n c l h = rw pow-suc (omega (arith, mul-le-mul_right (m + 1) l))

-- a number below the width tells the place and the node apart
pub row_inj : (a b w i j : ℕ) → i < w → j < w → a * w + i ≡ b * w + j → (a ≡ b) × (i ≡ j)
row_inj a b w i j li lj e = (
  sym (div-mul-add a w i li) ∙ ap (λ x. x / w) e ∙ div-mul-add b w j lj,
  sym (mod-mul-add a w i li) ∙ ap (λ x. x % w) e ∙ mod-mul-add b w j lj,
)

-- a node stands in one level
level_le : (m j j' n n' : ℕ) → n < (m + 1) ^ j → starts m j + n ≡ starts m j' + n' → j' ≤ j
level_le m j j' n n' l e = ⊎_elim (λ lt. absurd (omega (arith, starts_next m j, starts_up m (suc j) (j' - suc j) j' (omega arith)))) (λ ge. ge) (cases_lt j j')

place_inj : (m j j' n n' i i' : ℕ) → n < (m + 1) ^ j → n' < (m + 1) ^ j' → i < m → i' < m → place m j n i ≡ place m j' n' i' → (j ≡ j') × (n ≡ n') × (i ≡ i')
place_inj m j j' n n' i i' l l' li li' e =
    let r = row_inj _ _ m i i' li li' e in
    let ej : j ≡ j' = omega (arith, level_le m j j' n n' l r.0, level_le m j' j n' n l' (sym r.0)) in
    let en : n ≡ n' = omega (arith, r.0, ap (starts m) ej) in
    (ej, en, r.1)

odd : (m q i k : ℕ) → i < m → q * (m + 1) + suc i ≡ k * (m + 1) → ⊥
odd m q i k l e = let r = row_inj q k (m + 1) (suc i) 0 (omega arith) (omega arith) (omega (arith, e)) in omega (arith, r.1)

leaf_inj : (m w w' q q' i i' : ℕ) → i < m → i' < m → (q * (m + 1) + suc i) * (m + 1) ^ w ≡ (q' * (m + 1) + suc i') * (m + 1) ^ w' → (w ≡ w') × (q ≡ q') × (i ≡ i')
leaf_inj m zero zero q q' i i' l l' e =
    let e0 : q * (m + 1) + suc i ≡ q' * (m + 1) + suc i' = omega (arith, rw (pow-zero (m + 1)) at e) in
    let r = row_inj q q' (m + 1) (suc i) (suc i') (omega arith) (omega arith) e0 in
    (refl, r.0, omega (arith, r.1))
leaf_inj m (suc w) (suc w') q q' i i' l l' e =
    let M = m + 1 in
    let e1 : M * ((q * M + suc i) * M ^ w) ≡ M * ((q' * M + suc i') * M ^ w') = omega (arith, rw (pow-suc M w, pow-suc M w') at e) in
    let r = leaf_inj m w w' q q' i i' l l' (eq_of_mul-eq-mul_left M (omega arith) _ _ e1) in
    (ap suc r.0, r.1, r.2)
leaf_inj m zero (suc w') q q' i i' l l' e = absurd (odd m q i ((q' * (m + 1) + suc i') * (m + 1) ^ w') l (omega (arith, rw (pow-zero (m + 1), pow-suc (m + 1) w') at e)))
leaf_inj m (suc w) zero q q' i i' l l' e = absurd (odd m q' i' ((q * (m + 1) + suc i) * (m + 1) ^ w) l' (omega (arith, rw (pow-zero (m + 1), pow-suc (m + 1) w) at e)))

module _ (m h p p' s s' : ℕ) (a : IndexAt m h p s) (b : IndexAt m h p' s') where
  -- one slot is the index slot of one leaf
  pub one_leaf : s ≡ s' → p ≡ p'
  one_leaf e =
      let r = place_inj m a.j b.j a.n b.n a.i b.i a.node b.node a.within b.within (sym a.at ∙ e ∙ b.at) in
      let ew : a.w ≡ b.w = omega (arith, r.0, a.level, b.level) in
      sym a.leaf ∙ rw (ew, r.1, r.2) b.leaf

  -- one leaf has one index slot
  pub one_slot : p ≡ p' → s ≡ s'
  one_slot e =
      let r = leaf_inj m a.w b.w a.n b.n a.i b.i a.within b.within (a.leaf ∙ e ∙ sym b.leaf) in
      let ej : a.j ≡ b.j = omega (arith, r.0, a.level, b.level) in
      a.at ∙ rw (ej, r.1, r.2) (sym b.at)

module _ (m h p s : ℕ) (a : IndexAt m h p s) where
  -- an index slot stands before the leaves
  pub slot_low : s < starts m h * m
  slot_low = omega (arith, a.at, a.within, mul-le-mul_right m up, mul-le-mul_right m nx)
    where
      nx : starts m a.j + a.n + 1 ≤ starts m (suc a.j)
      nx = omega (arith, starts_next m a.j, a.node)

      up : starts m (suc a.j) ≤ starts m h
      up = starts_up m (suc a.j) a.w h (omega (arith, a.level))

  -- leaf 0 has none
  pub index_pos : 0 < p
  index_pos = subst (λ x. 0 < x) a.leaf (omega (arith, mul-le-mul_left (a.n * (m + 1) + suc a.i) pw))
    where
      pw : 1 ≤ (m + 1) ^ a.w
      pw = one-le-pow a.w (m + 1) (omega arith)

  -- nor has one past the last leaf
  pub index_below : p < leaves m h
  index_below =
      subst (λ x. x < leaves m h) a.leaf
      (subst (λ x. (a.n * (m + 1) + suc a.i) * (m + 1) ^ a.w < x) all
      (omega (arith, mul-le-mul_right ((m + 1) ^ a.w) (child_below m a.j a.n (suc a.i) a.node a.within), one-le-pow a.w (m + 1) (omega arith))))
    where
      all : (m + 1) ^ suc a.j * (m + 1) ^ a.w ≡ leaves m h
      all = let e : suc a.j + a.w ≡ h = omega (arith, a.level) in sym (pow-add (m + 1) (suc a.j) a.w) ∙ ap (λ x. (m + 1) ^ x) e

-- The way up so far from leaf p: node q of the level below level j, whose first node is `from`.
pub record Climb (m h p q from : ℕ) : Type 0 where
  pub j : ℕ
  pub w : ℕ
  pub level : j + suc w ≡ h
  pub start : from ≡ starts m j
  pub part : q * (m + 1) ^ w ≡ p
  pub pos : 0 < q
  pub below : q < (m + 1) ^ suc j

pub pos_of_mul : (n k : ℕ) → 0 < n * k → 0 < n
pos_of_mul zero k l = absurd (omega (arith, zero-mul k))
pos_of_mul (suc n) k l = omega arith

step_up : (m j : ℕ) → (starts m (suc j) - 1) / (m + 1) ≡ starts m j
step_up m j = ap (λ x. x / (m + 1)) (omega arith) ∙ div-mul-add (starts m j) (m + 1) 0 (omega arith)

start_at : (m base p h : ℕ) → 2 ≤ m → 0 < p → base ≡ starts m h * m → p < (m + 1) ^ h → (1 ≤ base / m) × Climb m h p p ((base / m - 1) / (m + 1))
start_at m base p zero pm l e u = absurd (omega (arith, rw (pow-zero (m + 1)) at u))
start_at m base p (suc j) pm l e u =
    let q : starts m (suc j) * m / m ≡ starts m (suc j) = mul-div_cancel (starts m (suc j)) (omega arith) in (
      rw (e, q) (omega arith),
      record {
        j = j;
        w = 0;
        level = omega arith;
        start = rw (e, q) (step_up m j);
        part = rw (pow-zero (m + 1)) (omega arith);
        pos = l;
        below = u;
      },
    )

pub climb_start : (y : Layout) (p : ℕ) → 0 < p → p < y.leaves → (1 ≤ y.base / y.width) × Climb y.width y.height p p ((y.base / y.width - 1) / (y.width + 1))
climb_start y p l u = start_at y.width y.base p y.height y.narrowest l y.above (subst (λ n. p < n) y.many u)

module _ {m h p q from : ℕ} (c : Climb m h p q from) (pm : 2 ≤ m) (z : q % (m + 1) ≡ 0) where
  whole : q / (m + 1) * (m + 1) ≡ q
  whole = omega (arith, div-add-mod' q (m + 1), z)

  more : 0 < q / (m + 1)
  more = pos_of_mul (q / (m + 1)) (m + 1) (rw whole c.pos)

  pub climb_from : 1 ≤ from
  climb_from = go c.j c.start c.below
    where
      go : (j : ℕ) → from ≡ starts m j → q < (m + 1) ^ suc j → 1 ≤ from
      go zero st be = absurd (omega (arith, more, whole, mul-le-mul_right (m + 1) more, rw (pow-suc (m + 1) 0, pow-zero (m + 1)) at be))
      go (suc j) st be = rw st (omega arith)

  pub climb_more : Climb m h p (q / (m + 1)) ((from - 1) / (m + 1))
  climb_more = go c.j c.level c.start c.below
    where
      go : (j : ℕ) → j + suc c.w ≡ h → from ≡ starts m j → q < (m + 1) ^ suc j → Climb m h p (q / (m + 1)) ((from - 1) / (m + 1))
      go zero lv st be = absurd (omega (arith, more, whole, mul-le-mul_right (m + 1) more, rw (pow-suc (m + 1) 0, pow-zero (m + 1)) at be))
      go (suc j) lv st be = record {
        j = j;
        w = suc c.w;
        level = omega (arith, lv);
        start = rw st (step_up m j);
        part = rw (pow-suc (m + 1) c.w) (omega (arith, ap (λ x. x * (m + 1) ^ c.w) whole, c.part));
        pos = more;
        below = lt_of_mul-lt-mul_right (m + 1) (rw (whole, ← (pow-suc (m + 1) (suc j))) be);
      }

module _ {m h p q from : ℕ} (c : Climb m h p q from) (pm : 2 ≤ m) (ne : q % (m + 1) ≢ 0) where
  rest : q % (m + 1) < m + 1
  rest = mod_below q (m + 1) (omega arith)

  again : q / (m + 1) * (m + 1) + suc (q % (m + 1) - 1) ≡ q
  again = omega (arith, div-add-mod' q (m + 1), ne)

  node : q / (m + 1) < (m + 1) ^ c.j
  node = div_below q (m + 1) ((m + 1) ^ c.j) (omega arith) (rw (pow-suc (m + 1) c.j) at c.below)

  pub climb_end : IndexAt m h p ((from + q / (m + 1)) * m + q % (m + 1) - 1)
  climb_end = record {
    j = c.j;
    w = c.w;
    n = q / (m + 1);
    i = q % (m + 1) - 1;
    level = c.level;
    node = node;
    within = omega (arith, rest, ne);
    leaf = ap (λ x. x * (m + 1) ^ c.w) again ∙ c.part;
    at = rw c.start (omega (arith, ne));
  }

  pub climb_small : (from + q / (m + 1)) * m + q % (m + 1) ≤ tree_slots m h
  climb_small = rw c.start (omega (arith, rest, node_below m h c.j (q / (m + 1)) (suc c.w) c.level node))

  pub climb_few : from + q / (m + 1) ≤ tree_slots m h
  climb_few = omega (arith, climb_small, mul-le-mul_left (from + q / (m + 1)) one)
    where
      one : 1 ≤ m
      one = omega arith
