use Rattle.std.proofs.Common.{Err, refl, ap, ◌∙◌}
use Rattle.std.proofs.lemmas.Result.{err_from_is_err_and}
use Rattle.yard_desk.proofs.Loads.{loads, declines}
use Rattle.yard_desk.proofs.loading_desk.LoadingDesk.load.Goals as goal

pub returns-in_err-feed-in-Log : goal.returns-in_err-feed-in-Log
returns-in_err-feed-in-Log c =
    let e = err_from_is_err_and c.from_residual.result c.from_residual.ensures.1 in
    declines c.args.self.now c.in-Log.log _ c.args.request c.in-Log.is c.in_err-feed-in-Log.field-0.0 c.from_residual.result (e.1 ∙ ap Err e.2) c.in_err-feed-in-Log.ensures

pub returns-in_ok-feed-in-Log : goal.returns-in_ok-feed-in-Log
returns-in_ok-feed-in-Log c = loads c.args.self.now c.in-Log.log _ c.args.request c.in-Log.is c.in_ok-feed-in-Log.field-0 _ refl c.in_ok-feed-in-Log.ensures
