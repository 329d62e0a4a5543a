use Rattle.std.proofs.Common.{refl}
use Rattle.std.proofs.lemmas.Result.{err_from_is_err_and}
use Rattle.log_yard.proofs.Steps as step
use Rattle.log_yard.proofs.yard.Yard.back.Goals as goal

pub returns-in_err-body : goal.returns-in_err-body
returns-in_err-body g c =
    let p = err_from_is_err_and c.from_residual.result c.from_residual.ensures.1 in
    rw (p.1, p.2) (λ page. record { law = λ cap ls h told. step.back_no g.T.OrderedIndex g.S.OrderedIndex cap ls h c.args.self.now told page c.args.tag c.in_err-body.field-0.0 (c.in_err-body.ensures told.sound.tags_kept); still = refl; page = refl })

pub returns : goal.returns
returns g c = λ page. record {
  law = λ cap ls h told. step.back_ok g.T.OrderedIndex g.S.OrderedIndex cap ls h c.args.self.now told page c.args.tag (record { tags = c.set.new.self; sizes = c.put.new.self }) c.in_ok-body.body c.size_of.result c.set.result c.put.result
      (c.in_ok-body.ensures told.sound.tags_kept) c.size_of.ensures c.set.ensures.meaning c.put.ensures.meaning;
  still = tt;
  page = tt;
}
