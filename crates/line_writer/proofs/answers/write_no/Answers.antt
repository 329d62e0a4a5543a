use Rattle.std.proofs.Common.{arith, rules}
use Rattle.line_writer.proofs.Writes.{◌and◌}
use Rattle.line_writer.proofs.answers.write_no.Goals as goal

pub returns : goal.returns
returns c = let all = c.field.ensures.adds and c.number.ensures.adds and c.number-2.ensures.adds in (omega arith, search rules)
