use Rattle.std.proofs.Common.{take}
use Rattle.ordered.specs.Slots.{Blank}
use Rattle.slot_rows.proofs.shift.blank.Given as goal

abbrev pub invariant-loop-slot : goal.invariant-loop-slot
invariant-loop-slot g l = Blank (take l.slot-index l.part)
