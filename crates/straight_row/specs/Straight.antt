-- What a straight row keeps, and what its slots hold after a change.
use Rattle.std.specs.Prelude.{◌≡◌, ℕ, Bool, List, length, take, drop}
use Rattle.ordered.specs.declared.slot.Slot.{Slot}
use Rattle.ordered.specs.Meaning.{Ascending}
use Rattle.ordered.specs.Slots.{countable, pairs, Holds}

-- the slots that count
abbrev pub counted : {K R : Type 0} → List (Slot K R) → List (Slot K R)
counted ss = take (countable (length ss)) ss

-- the pairs of the row
abbrev pub row_of : {K R : Type 0} → List (Slot K R) → List (K × R)
row_of ss = pairs (counted ss)

-- the pairs stand in the first slots, in key order, and the other slots within the capacity are blank
pub record Straight {K R : Type 0} (b : K → K → Bool) (ss : List (Slot K R)) (count : ℕ) : Type 0 where
  pub ascending : Ascending b (row_of ss)
  pub laid : Holds (row_of ss) (counted ss)
  pub counts : length (row_of ss) ≡ count

-- There are as many slots as before; those within the capacity hold exactly the row, and those past it are as they were.
pub record Leaves {K R : Type 0} (row : List (K × R)) (old new : List (Slot K R)) : Type 0 where
  pub long : length new ≡ length old
  pub laid : Holds row (counted new)
  pub beyond : drop (countable (length old)) new ≡ drop (countable (length old)) old
