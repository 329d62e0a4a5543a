-- A row that a block of leaves holds without a gap, dealt out to its leaves.
use Rattle.std.proofs.Common.{◌≡◌, ℕ, ◌+◌, ◌-◌, ◌*◌, ◌<◌, ◌≤◌, min, List, length, drop, ap, ◌∙◌, mul-le-mul_right, arith}
use Rattle.std.proofs.lemmas.List.{length-take, length-drop}
use Rattle.std.proofs.Math.Nat.{suc-mul}
use Rattle.ordered.specs.declared.slot.Slot.{Slot}
use Rattle.ordered.specs.Slots.{Holds}
use Rattle.slot_rows.proofs.Packs.{part_pairs}
use Rattle.leaf_rows.specs.Leaves.{count_at}

module _ {K R : Type 0} (m : ℕ) (row : List (K × R)) (ss : List (Slot K R)) (h : Holds row ss) (i : ℕ) where
  pub dealt_count : count_at m ss i ≡ min m (length row - i * m)
  dealt_count = ap length (part_pairs row ss h (i * m) m) ∙ length-take m (drop (i * m) row) ∙ ap (min m) (length-drop (i * m) row)

  -- a leaf before the last one is full, and the last has what is left
  pub dealt_full : (j c : ℕ) → length row ≡ j * m + c → i < j → count_at m ss i ≡ m
  dealt_full j c e l = omega (arith, dealt_count, e, suc-mul i m, mul-le-mul_right m l)

  pub dealt_last : (c : ℕ) → length row ≡ i * m + c → c ≤ m → count_at m ss i ≡ c
  dealt_last c e l = omega (arith, dealt_count, e)
