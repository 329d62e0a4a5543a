use Rattle.std.proofs.Common.{rules}
use Rattle.slot_rows.proofs.Shifts.{turned_up}
use Rattle.slot_rows.proofs.shift.push_up.Goals as goal

pub returns : goal.returns
returns g c = turned_up c.args.slot c.args.part.now c.rotate_right.new.self (search rules) c.rotate_right.ensures.after
