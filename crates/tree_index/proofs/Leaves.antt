-- The leaves of a tree: parts of its area, and packed where the area is.
use Rattle.std.proofs.Common.{◌≡◌, ℕ, ◌+◌, ◌-◌, ◌*◌, ◌<◌, ◌≤◌, List, [], take, drop, sym, ap, ◌∙◌, mul-le-mul_right, arith, length-take}
use Rattle.std.proofs.Math.Seq.{take-nil}
use Rattle.std.proofs.lemmas.List.{drop-drop, drop-take, drop_all, take-take}
use Rattle.ordered.specs.declared.slot.Slot.{Slot}
use Rattle.ordered.specs.Slots.{Holds, Packed}
use Rattle.slot_rows.proofs.Packs.{part_packed}
use Rattle.tree_layout.specs.declared.layout.Layout.{Layout}
use Rattle.tree_layout.specs.Levels.{leaves, leaf_slots, area, leaf_of}
use Rattle.tree_layout.proofs.Areas.{layout_room, area_is}

-- every leaf of an area that holds a row is packed
pub packed_leaf : {K R : Type 0} (m h p : ℕ) (xs : List (Slot K R)) (row : List (K × R)) → Holds row (area m h xs) → Packed (leaf_of m h xs p)
packed_leaf m h p xs row f = part_packed row (area m h xs) f (p * m) m

-- a leaf as a part of the row, and none past the last
module _ {X : Type 0} where
  part_of : (xs : List X) (base n cap m : ℕ) → n + m ≤ cap → take ((base + n + m) - (base + n)) (drop (base + n) xs) ≡ take m (drop n (take cap (drop base xs)))
  part_of xs base n cap m l =
      let a : (base + n + m) - (base + n) ≡ m = omega arith in
      let c : cap ≡ n + (cap - n) = omega arith in
      let lm : m ≤ cap - n = omega arith in
      ap (λ k. take k (drop (base + n) xs)) a
      ∙ sym (ap (λ k. take m (drop n (take k (drop base xs)))) c ∙ ap (take m) (drop-take n (cap - n) (drop base xs)) ∙ take-take m (cap - n) _ lm ∙ ap (take m) (drop-drop n base xs))

  pub leaf_part : (y : Layout) (xs : List X) (p : ℕ) → p < y.leaves → take ((y.base + p * y.width + y.width) - (y.base + p * y.width)) (drop (y.base + p * y.width) xs) ≡ leaf_of y.width y.height xs p
  leaf_part y xs p l =
      part_of xs y.base (p * y.width) (leaf_slots y.width y.height) y.width (omega (arith, layout_room y, mul-le-mul_right y.width l))
      ∙ ap (λ (ys : List X). take y.width (drop (p * y.width) ys)) (sym (area_is y xs))

  pub leaf_past : (m h p : ℕ) (xs : List X) → leaves m h ≤ p → leaf_of m h xs p ≡ []
  leaf_past m h p xs l = ap (take m) (drop_all (p * m) (area m h xs) (simp length-take (omega (arith, mul-le-mul_right m l)))) ∙ take-nil m
