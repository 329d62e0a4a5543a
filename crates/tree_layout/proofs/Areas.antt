-- The slots of a layout, and those of its leaves.
use Rattle.std.proofs.Common.{◌≡◌, ℕ, ◌+◌, ◌*◌, ◌<◌, List, take, drop, set, sym, ap, ◌∙◌}
use lib.Seq.{take-set-lt}
use Rattle.std.proofs.lemmas.List.{drop-set-add}
use Rattle.tree_layout.specs.declared.layout.Layout.{Layout}
use Rattle.tree_layout.specs.Levels.{leaf_slots, tree_slots, area}
use Rattle.tree_layout.proofs.Levels.{tree_parts}

pub layout_room : (p : Layout) → p.leaves * p.width ≡ leaf_slots p.width p.height
layout_room p = ap (λ x. x * p.width) p.many

-- those above the leaves, then theirs
pub layout_slots : (p : Layout) → tree_slots p.width p.height ≡ p.base + leaf_slots p.width p.height
layout_slots p = tree_parts p.width p.height ∙ ap (λ x. x + leaf_slots p.width p.height) (sym p.above)

pub area_is : {X : Type 0} (p : Layout) (xs : List X) → area p.width p.height xs ≡ take (leaf_slots p.width p.height) (drop p.base xs)
area_is p xs = ap (λ x. take (leaf_slots p.width p.height) (drop x xs)) (sym p.above)

-- a write to a leaf slot is a write to the area
pub area_set : {X : Type 0} (p : Layout) (xs : List X) (n : ℕ) (s : X) → n < leaf_slots p.width p.height → area p.width p.height (set xs (p.base + n) s) ≡ set (area p.width p.height xs) n s
area_set p xs n s l =
    area_is p (set xs (p.base + n) s)
    ∙ ap (take (leaf_slots p.width p.height)) (drop-set-add p.base xs n s)
    ∙ take-set-lt _ (drop p.base xs) n s l
    ∙ ap (λ (ys : List _). set ys n s) (sym (area_is p xs))
