-- The sums of a tree's levels.
use Rattle.std.proofs.Common.{◌≡◌, ℕ, zero, suc, ◌+◌, ◌-◌, ◌*◌, ◌/◌, ◌%◌, ◌^◌, ◌<◌, ◌≤◌, List, get_or, ap, ◌∙◌, subst, le_trans, le_refl, mul-le-mul_right, mul-le-mul_left, pow-suc, arith}
use native.Mathlib.Nat.{pow-zero}
use Rattle.std.proofs.lemmas.List.{get_or-take, get_or-drop}
use Rattle.std.proofs.lemmas.Nat.{div-add-mod'}
use Rattle.tree_layout.specs.Levels.{starts, leaves, leaf_slots, tree_slots, area}

pub starts_pow : (m j : ℕ) → starts m j * m + 1 ≡ (m + 1) ^ j
starts_pow m zero = rw pow-zero (omega arith)
starts_pow m (suc j) = rw pow-suc (omega (arith, ap (λ x. x * (m + 1)) (starts_pow m j)))

pub starts_next : (m j : ℕ) → starts m (suc j) ≡ starts m j + (m + 1) ^ j
starts_next m j = omega (arith, starts_pow m j)

pub tree_parts : (m h : ℕ) → tree_slots m h ≡ starts m h * m + leaf_slots m h
tree_parts m h = omega (arith, ap (λ x. x * m) (starts_next m h))

pub starts_up : (m j d k : ℕ) → j + d ≡ k → starts m j ≤ starts m k
starts_up m j zero k e = let e' : j ≡ k = omega arith in subst (λ x. starts m j ≤ starts m x) e' (le_refl _)
starts_up m j (suc d) k e = le_trans (omega (arith, starts_next m j)) (starts_up m (suc j) d k (omega arith))

-- a tree that is no lower has no fewer slots
pub tree_up : (m h k : ℕ) → h ≤ k → tree_slots m h ≤ tree_slots m k
tree_up m h k l = mul-le-mul_right m (starts_up m (suc h) (k - h) (suc k) (omega arith))

pub height_below : (m h : ℕ) → 0 < m → h < tree_slots m h
height_below m h pos = omega (arith, high (suc h), mul-le-mul_left (starts m (suc h)) pos)
  where
    high : (j : ℕ) → j ≤ starts m j
    high zero = omega arith
    high (suc j) = omega (arith, high j)

pub leaf_place : (m h j : ℕ) → starts m h * m + j ≡ (starts m h + j / m) * m + j % m
leaf_place m h j = omega (arith, div-add-mod' j m)

pub leaf_slot : {X : Type 0} (m h p i : ℕ) (xs : List X) (d : X) → p < leaves m h → i < m → get_or (area m h xs) (p * m + i) d ≡ get_or xs ((starts m h + p) * m + i) d
leaf_slot m h p i xs d lp li =
    let l : p * m + i < leaf_slots m h = omega (arith, mul-le-mul_right m lp) in
    let e : starts m h * m + (p * m + i) ≡ (starts m h + p) * m + i = omega arith in
    get_or-take _ _ _ d l ∙ get_or-drop _ xs _ d ∙ ap (λ k. get_or xs k d) e
