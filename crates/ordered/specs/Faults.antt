-- The numbers of an index's refusals.
use Rattle.std.specs.Prelude.{◌≡◌, ℕ, Some, None, Ok, Err, Option, Result}
use Rattle.ordered.specs.declared.fault.Fault.{Fault}
use Rattle.ordered.specs.declared.fault.Fault.TheVariants.{NotAfter, Full, Present, Absent}

-- 31 key not after the last accepted, 32 full, 33 key there, 34 key not there
abbrev pub fault_number : Fault → ℕ
fault_number NotAfter = 31
fault_number Full = 32
fault_number Present = 33
fault_number Absent = 34

-- A change is accepted exactly where no refusal is due, and else refused under the number that is due.
abbrev pub Outcome : {X : Type 0} → Option ℕ → Result X Fault → Type 0
Outcome None (Ok x) = Unit {0}
Outcome None (Err f) = ⊥
Outcome (Some n) (Ok x) = ⊥
Outcome (Some n) (Err f) = fault_number f ≡ n
