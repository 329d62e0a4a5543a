-- What a change of packed slots answers and leaves.
use Rattle.std.specs.Prelude.{ℕ, Bool, List, Option, Result}
use Rattle.ordered.specs.declared.fault.Fault.{Fault}
use Rattle.ordered.specs.declared.slot.Slot.{Slot}
use Rattle.ordered.specs.Changes.{settled, Unmoved}
use Rattle.ordered.specs.Faults.{Outcome}
use Rattle.ordered.specs.Slots.{pairs, Holds}
use Rattle.slot_rows.specs.Ranks.{lead}

-- how many keys of an ordered row are before k
abbrev pub before : {K R : Type 0} → (K → K → Bool) → K → List (K × R) → ℕ
before b k row = lead (λ p. b p.0 k) row

-- It is refused as is due, and then no slot changes; accepted, the slots hold exactly the row.
pub record Edited {K R X : Type 0} (ss : List (Slot K R)) (due : Option ℕ) (row : List (K × R)) (r : Result X Fault) (ts : List (Slot K R)) : Type 0 where
  pub outcome : Outcome due r
  pub unmoved : Unmoved r ss ts
  pub laid : Holds (settled r row (pairs ss)) ts
