use Rattle.std.proofs.Common.{List, subst, rules}
use Rattle.logs.specs.declared.log.Log.{Log}
use Rattle.line_writer.specs.Shows.{Answered, list_lines}
use Rattle.yard_desk.proofs.Replies.{listed}
use Rattle.yard_desk.proofs.reply.write_reply.Goals as goal

pub returns-in-Ok-Listed : goal.returns-in-Ok-Listed
returns-in-Ok-Listed c =
    let w = subst (λ (xs : List Log). Answered (list_lines xs c.in-Ok-Listed.more) c.args.out.now c.write_list.result c.write_list.new.out)
    (listed c.args.page.now c.in-Ok-Listed.n c.min.result c.requires c.min.ensures) c.write_list.ensures in
    search rules
