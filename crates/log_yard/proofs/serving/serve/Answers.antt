use Rattle.std.proofs.Common.{min, []}
use Rattle.std.proofs.lemmas.Result.{err_from_is_err_and}
use Rattle.log_yard.proofs.serving.serve.Goals as goal

pub returns-in_err-yard-clause-law : goal.returns-in_err-yard-clause-law
returns-in_err-yard-clause-law g c =
    let p = err_from_is_err_and c.from_residual.result c.from_residual.ensures.1 in
    rw (p.1, p.2) c.in_err-yard.ensures.law

pub returns-clause-law : goal.returns-clause-law
returns-clause-law g c = λ kt ks.
    let opens = c.in_ok-yard.ensures.law kt ks in
    let all = c.run-done.ensures.law (min (g.T.OrderedIndex.room c.args.tags) (g.S.OrderedIndex.room c.args.sizes)) (g.T.OrderedIndex.row c.args.tags) [] opens.1 in
    (opens.0, (c.run-done.ensures.count, c.run-done.ensures.rest, (all.0, all.1)))
