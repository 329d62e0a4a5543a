use Rattle.std.proofs.Common.{refl}
use Rattle.std.proofs.lemmas.Result.{err_from_is_err_and}
use Rattle.log_yard.proofs.Steps as step
use Rattle.log_yard.proofs.yard.Yard.saw.Goals as goal

pub returns-in_err-body_at : goal.returns-in_err-body_at
returns-in_err-body_at g c =
    let p = err_from_is_err_and c.from_residual.result c.from_residual.ensures.1 in
    rw (p.1, p.2) (λ page. record { law = λ cap ls h told. step.saw_no g.T.OrderedIndex g.S.OrderedIndex cap ls h c.args.self.now told page c.args.tag c.in_err-body_at.field-0.0 (c.in_err-body_at.ensures told.sound.tags_kept); still = refl; page = refl })

pub returns : goal.returns
returns g c = λ page. record {
  law = λ cap ls h told. step.saw_ok g.T.OrderedIndex g.S.OrderedIndex cap ls h c.args.self.now told page c.args.tag (record { tags = c.take.new.self; sizes = c.args.self.now.sizes }) c.in_ok-body_at.field-0 c.take.result
      (c.in_ok-body_at.ensures told.sound.tags_kept) refl c.take.ensures.meaning;
  still = tt;
  page = tt;
}
