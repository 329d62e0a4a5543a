use Rattle.straight_row.proofs.Moves.{made_empty}
use Rattle.straight_row.proofs.row.StraightRow.over.Goals as goal

pub returns-clause-rules : goal.returns-clause-rules
returns-clause-rules g c = made_empty c.args.slots.now c.min-room.result c.blank.new.part c.min-room.ensures c.blank.ensures c.blank.auto.part
