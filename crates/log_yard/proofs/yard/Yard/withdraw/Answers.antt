use Rattle.std.proofs.Common.{refl}
use Rattle.std.proofs.lemmas.Result.{err_from_is_err_and}
use Rattle.log_yard.proofs.Steps as step
use Rattle.log_yard.proofs.yard.Yard.withdraw.Goals as goal

pub returns-in_err-body : goal.returns-in_err-body
returns-in_err-body g c =
    let p = err_from_is_err_and c.from_residual.result c.from_residual.ensures.1 in
    rw (p.1, p.2) (λ page. record { law = λ cap ls h told. step.withdraw_no g.T.OrderedIndex g.S.OrderedIndex cap ls h c.args.self.now told page c.args.tag c.in_err-body.field-0.0 (c.in_err-body.ensures told.sound.tags_kept); still = refl; page = refl })

pub returns : goal.returns
returns g c = λ page. record {
  law = λ cap ls h told. step.withdraw_ok g.T.OrderedIndex g.S.OrderedIndex cap ls h c.args.self.now told page c.args.tag (record { tags = c.take-2.new.self; sizes = c.take.new.self }) c.in_ok-body.body c.size_of.result c.take-2.result c.take.result
      (c.in_ok-body.ensures told.sound.tags_kept) c.size_of.ensures c.take-2.ensures.meaning c.take.ensures.meaning;
  still = tt;
  page = tt;
}
