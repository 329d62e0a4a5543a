-- The layout that a row of slots has is of the height of its tree.
use Rattle.std.proofs.Common.{◌≡◌, ℕ, zero, suc, ◌<◌, ◌≤◌, leb, List, Some, None, Option, sym, refl, ap, ◌∙◌, ⊎_elim, arith}
use Rattle.std.proofs.lemmas.Bool.{cond-true, cond-false, le-leb, lt-leb, cases_lt}
use Rattle.tree_layout.specs.declared.layout.Layout.{Layout}
use Rattle.tree_layout.specs.Levels.{leaf_slots, tree_slots, area}
use Rattle.tree_layout.specs.Rows.{Laid, LayoutOf}
use Rattle.tree_layout.proofs.Levels.{tree_up, height_below}
use Rattle.array_tree.specs.Filling.{capacity_of, leaf_area}
use Rattle.array_tree.specs.Standing.{tallest, height_in, leaves_in, room_for}

abbrev pub height_at : Option Layout → Option ℕ
height_at None = None
height_at (Some p) = Some p.height

root_slots : (m : ℕ) → tree_slots m zero ≡ m
root_slots m = omega arith

too_short : (m n k : ℕ) → n < m → tallest m n k ≡ None
unfolding tallest
too_short m n zero l = cond-false (leb (tree_slots m zero) n) (Some zero) None (lt-leb (tree_slots m zero) n (omega (arith, root_slots m, l)))
too_short m n (suc k) l =
    cond-false (leb (tree_slots m (suc k)) n) (Some (suc k)) (tallest m n k) (lt-leb (tree_slots m (suc k)) n (omega (arith, root_slots m, tree_up m zero (suc k) (omega arith), l)))
    ∙ too_short m n k l

found : (m n k : ℕ) (p : Layout) → Laid m n p → p.height ≤ k → tallest m n k ≡ Some p.height
unfolding tallest
found m n zero p x l =
    let e : zero ≡ p.height = omega arith in
    let f : tree_slots m zero ≤ n = omega (arith, ap (tree_slots m) e, x.fits) in
    cond-true (leb (tree_slots m zero) n) (Some zero) None (le-leb (tree_slots m zero) n f) ∙ ap Some e
found m n (suc k) p x l = ⊎_elim
    (λ (a : p.height < suc k). cond-false (leb (tree_slots m (suc k)) n) (Some (suc k)) (tallest m n k) (lt-leb (tree_slots m (suc k)) n (x.tallest (suc k) a)) ∙ found m n k p x (omega (arith, a)))
    (λ (a : suc k ≤ p.height).
    let e : suc k ≡ p.height = omega (arith, a, l) in
    let f : tree_slots m (suc k) ≤ n = omega (arith, ap (tree_slots m) e, x.fits) in
    cond-true (leb (tree_slots m (suc k)) n) (Some (suc k)) (tallest m n k) (le-leb (tree_slots m (suc k)) n f) ∙ ap Some e)
    (cases_lt p.height (suc k))

pub height_is : (m n : ℕ) (o : Option Layout) → LayoutOf m n o → height_in m n ≡ height_at o
height_is m n None x = too_short m n n x
height_is m n (Some p) x = found m n n p x (omega (arith, height_below m p.height (omega (arith, x.wide, p.narrowest)), x.fits))

-- so its leaves and its room are those of the layout
pub leaves_at : {X : Type 0} (m n : ℕ) (o : Option Layout) (xs : List X) → LayoutOf m n o → leaves_in m (height_at o) xs ≡ leaf_area o xs
leaves_at m n None xs x = refl
leaves_at m n (Some p) xs x = ap (λ w. area w p.height xs) (sym x.wide)

pub room_at : (m n : ℕ) (o : Option Layout) → LayoutOf m n o → room_for m (height_at o) ≡ capacity_of o
room_at m n None x = refl
room_at m n (Some p) x = ap (λ w. leaf_slots w p.height) (sym x.wide)
