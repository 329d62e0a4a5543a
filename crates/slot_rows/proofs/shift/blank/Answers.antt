use Rattle.std.proofs.Common.{refl, arith}
use Rattle.slot_rows.proofs.Shifts.{blank_more}
use Rattle.slot_rows.proofs.shift.blank.Goals as goal

pub loop-slot-preserved : goal.loop-slot-preserved
loop-slot-preserved g c = blank_more c.loop-slot.part c.loop-slot.slot-index _ (omega (arith, c.loop-slot-test.true, c.loop-slot.auto.part)) refl c.loop-slot.invariant
