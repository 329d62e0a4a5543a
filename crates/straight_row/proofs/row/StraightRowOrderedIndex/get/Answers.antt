use Rattle.std.proofs.Common.{get_or, ap, ◌∙◌}
use Rattle.ordered.proofs.Rows.{order}
use Rattle.slot_rows.proofs.Looks.{value_found, value_missing}
use Rattle.straight_row.proofs.Moves.{answers, some_inside, none_inside}
use Rattle.straight_row.proofs.row.StraightRowOrderedIndex.get.Goals as goal

pub returns-in_err-at : goal.returns-in_err-at
returns-in_err-at g c =
    let o = g.met.K.Key.ordered in
    let s = c.args.self.now in
    let part = c.held-held.result.now in
    let r = none_inside c.search.result c.in_err-at.ensures.value in
    record { meaning = answers s _ _ (λ k. c.from_residual.ensures ∙ value_missing o c.args.key _ part k.ascending (c.held-held.ensures.row k) r.0 (λ f. r.1 ∙ c.search.ensures.gives f)) }

pub returns : goal.returns
returns g c =
    let o = g.met.K.Key.ordered in
    let s = c.args.self.now in
    let part = c.held-held.result.now in
    let n = c.in_ok-at.at in
    let is = some_inside c.search.result n c.in_ok-at.ensures.value in
    record { meaning = answers s _ _ (λ k. value_found o c.args.key _ part k.ascending (c.held-held.ensures.row k) n (get_or part n c.index-held-at.result) (λ f. is ∙ c.search.ensures.gives f) (ap (get_or part n) c.index-held-at.is)) }
