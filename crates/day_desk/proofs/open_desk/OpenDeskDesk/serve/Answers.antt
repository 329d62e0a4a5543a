use Rattle.std.proofs.Common.{Ok, Err, sym, ap, ◌∙◌}
use Rattle.std.proofs.lemmas.Result.{err_from_is_err_and}
use Rattle.day_desk.proofs.Serves.{refused}
use Rattle.day_desk.proofs.open_desk.OpenDeskDesk.serve.Goals as goal

pub returns-in_err-answer-in-Call : goal.returns-in_err-answer-in-Call
returns-in_err-answer-in-Call g c =
    let e = err_from_is_err_and c.from_residual-in_err-answer-in-Call.result c.from_residual-in_err-answer-in-Call.ensures.1 in
    let b = c.in_err-answer-in-Call.ensures in
    refused g.T.OrderedIndex g.S.OrderedIndex c.args.self.now c.perform.new.self c.perform.new.page c.args.line.now c.in-Call.call c.in_err-answer-in-Call.field-0.0 c.from_residual-in_err-answer-in-Call.result
    (sym c.read_request.ensures ∙ c.in_ok-read_request.was ∙ ap Ok c.in-Call.is) (e.1 ∙ ap Err e.2) b.still b.page b.law
