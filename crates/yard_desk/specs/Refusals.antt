-- The number of a refusal and the field that it is about.
use Rattle.std.specs.Prelude.{ℕ}
use Rattle.ordered.specs.Faults.{fault_number}
use Rattle.line_reader.specs.Reasons.{reason_number}
use Rattle.log_yard.specs.Refusals.{refusal_number as yard_number}
use Rattle.yard_desk.specs.declared.refusal.Refusal.{Refusal}
use Rattle.yard_desk.specs.declared.refusal.Refusal.TheVariants.{Line, NotOpen, AlreadyOpen, Load, Yard}

-- 20 yard not open, 27 already open; a refusal of the reader, the loader or the yard has its own number
abbrev pub refusal_number : Refusal → ℕ
refusal_number (Line e) = reason_number e.reason
refusal_number NotOpen = 20
refusal_number AlreadyOpen = 27
refusal_number (Load f) = fault_number f
refusal_number (Yard e) = yard_number e

abbrev pub refusal_position : Refusal → ℕ
refusal_position (Line e) = e.field
refusal_position NotOpen = 0
refusal_position AlreadyOpen = 0
refusal_position (Load f) = 0
refusal_position (Yard e) = 0
