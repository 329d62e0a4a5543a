use Rattle.line_laws.proofs.Returns.{ends, reread, reads_back}
use Rattle.line_laws.proofs.back.reread.Goals as goal

pub overflow_sub-n : goal.overflow_sub-n
overflow_sub-n c = let w = rw c.unwrap-n.ensures at c.write_log.ensures in ends c.args.log _ _ _ w.1

pub returns : goal.returns
returns c =
    let w = rw c.unwrap-n.ensures at c.write_log.ensures in
    record { gives = reread c.args.log _ _ _ w.1 c.read_request.result c.read_request.ensures; law = reads_back }
