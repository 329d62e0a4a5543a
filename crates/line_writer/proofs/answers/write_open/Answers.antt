use Rattle.std.proofs.Common.{arith, rules}
use Rattle.line_writer.proofs.Writes.{◌and◌}
use Rattle.line_writer.proofs.answers.write_open.Goals as goal

pub returns : goal.returns
returns c = let all = c.field.ensures.adds and c.number.ensures.adds in (omega arith, search rules)
