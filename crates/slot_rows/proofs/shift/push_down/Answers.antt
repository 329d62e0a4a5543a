use Rattle.std.proofs.Common.{rules}
use Rattle.slot_rows.proofs.Shifts.{turned_down}
use Rattle.slot_rows.proofs.shift.push_down.Goals as goal

pub returns : goal.returns
returns g c = turned_down c.args.slot c.args.part.now c.rotate_left.new.self (search rules) c.rotate_left.ensures.after
