-- The meaning of a straight row as an ordered index.
use Rattle.std.specs.Prelude.{ℕ, Bool, List, length}
use Rattle.ordered.specs.Slots.{countable}
use Rattle.straight_row.specs.declared.row.StraightRow.{StraightRow}
use Rattle.straight_row.specs.Straight.{row_of, Straight}

abbrev pub row_in : {K R : Type 0} → StraightRow K R → List (K × R)
row_in s = row_of s.slots.now

abbrev pub room_in : {K R : Type 0} → StraightRow K R → ℕ
room_in s = countable (length s.slots.now)

abbrev pub Keeps : {K R : Type 0} → (K → K → Bool) → StraightRow K R → Type 0
Keeps b s = Straight b s.slots.now s.count
