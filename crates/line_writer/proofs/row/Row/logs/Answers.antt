use Rattle.std.proofs.Common.{arith}
use Rattle.line_writer.proofs.Writes.{one_more}
use Rattle.line_writer.proofs.row.Row.logs.Goals as goal

pub loop-log-preserved : goal.loop-log-preserved
loop-log-preserved c =
    (one_more c.args.logs.now c.loop-log.log-index _ c.loop-log-test.true c.loop-log.invariant.0 c.log.ensures.adds, omega arith, omega arith)
