use Rattle.line_writer.proofs.Writes.{◌and◌}
use Rattle.line_writer.proofs.row.Row.field.Goals as goal

pub returns-clause-adds : goal.returns-clause-adds
returns-clause-adds c = c.text.ensures and c.byte.ensures
