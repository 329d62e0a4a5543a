use Rattle.std.proofs.Common.{◌≡◌, refl, rules}
use Rattle.std.proofs.lemmas.Result.{err_from_is_err_and}
use Rattle.log_yard.specs.declared.refusal.Refusal.TheVariants as refusal
use Rattle.log_yard.proofs.Steps as step
use Rattle.log_yard.proofs.yard.Yard.call.Goals as goal

pub returns-in_err-key : goal.returns-in_err-key
returns-in_err-key g c =
    let p = err_from_is_err_and c.from_residual.result c.from_residual.ensures.1 in
    let none = c.in_err-key.ensures.ok_part in
    let e : c.in_err-key.field-0.0 ≡ refusal.NoneFits = step.ok_or_none c.first_fit.result _ _ none c.in_err-key.ensures.value in
    rw (p.1, p.2, e) (λ page. record { law = λ cap ls h told. step.call_none g.T.OrderedIndex g.S.OrderedIndex cap ls h c.args.self.now told page c.args.species c.args.diameter c.args.length (search rules) c.first_fit.result c.first_fit.ensures none; still = refl; page = refl })

pub returns-in_err-was : goal.returns-in_err-was
returns-in_err-was g c =
    let p = err_from_is_err_and c.from_residual-in_err-was.result c.from_residual-in_err-was.ensures.1 in
    rw (p.1, p.2) (λ page. record {
      law = λ cap ls h told.
          absurd (step.not_lost g.T.OrderedIndex g.S.OrderedIndex cap ls h c.args.self.now told page c.args.species c.args.diameter c.args.length (search rules) c.first_fit.result c.first_fit.ensures
          c.in_ok-key.key c.in_ok-key.ensures.ok_part c.get.result c.get.ensures.meaning.gives c.in_err-was.ensures.ok_part);
      still = refl;
      page = refl;
    })

pub returns : goal.returns
returns g c = λ page. record {
  law = λ cap ls h told.
      step.call_ok g.T.OrderedIndex g.S.OrderedIndex cap ls h c.args.self.now told page c.args.species c.args.diameter c.args.length (search rules) c.first_fit.result c.first_fit.ensures
      c.in_ok-key.key c.in_ok-key.ensures.ok_part c.get.result c.get.ensures.meaning.gives
      (record { tags = c.set.new.self; sizes = c.take.new.self }) c.in_ok-was.was' c.set.result c.take.result c.in_ok-was.ensures.ok_part c.set.ensures.meaning c.take.ensures.meaning;
  still = tt;
  page = tt;
}
