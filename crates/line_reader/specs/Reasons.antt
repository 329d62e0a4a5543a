-- A line's refusals and their numbers.
use Rattle.std.specs.Prelude.{ℕ}
use Rattle.line_reader.specs.declared.request.Reason.{Reason}
use Rattle.line_reader.specs.declared.request.Refused.{Refused}
use Rattle.line_reader.specs.declared.request.Reason.TheVariants.{LongLine, UnknownWord, FieldCount, Unread, Outside, Reversed}

abbrev pub reason_number : Reason → ℕ
reason_number LongLine = 10
reason_number UnknownWord = 11
reason_number FieldCount = 12
reason_number Unread = 13
reason_number Outside = 14
reason_number Reversed = 15

abbrev pub refusal : Reason → ℕ → Refused
refusal why k = record { reason = why; field = k }
