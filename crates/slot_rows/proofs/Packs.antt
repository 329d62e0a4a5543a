-- Slots that hold a row are packed, and so is each part of them.
use Rattle.std.proofs.Common.{◌≡◌, ℕ, List, take, drop, sym, subst}
use Rattle.ordered.specs.declared.slot.Slot.{Slot}
use Rattle.ordered.specs.Slots.{pairs, Holds, Packed}
use Rattle.ordered.proofs.Slots.{holds_take, holds_drop}
use Rattle.slot_rows.proofs.Held.{pairs_held}

module _ {K R : Type 0} (row : List (K × R)) (ss : List (Slot K R)) (h : Holds row ss) where
  pub packed_held : Packed ss
  packed_held = subst (λ r. Holds r ss) (sym (pairs_held row ss h)) h

  part : (n m : ℕ) → Holds (take m (drop n row)) (take m (drop n ss))
  part n m = holds_take m (drop n row) (drop n ss) (holds_drop n row ss h)

  pub part_pairs : (n m : ℕ) → pairs (take m (drop n ss)) ≡ take m (drop n row)
  part_pairs n m = pairs_held (take m (drop n row)) (take m (drop n ss)) (part n m)

  pub part_packed : (n m : ℕ) → Packed (take m (drop n ss))
  part_packed n m = subst (λ r. Holds r (take m (drop n ss))) (sym (part_pairs n m)) (part n m)
