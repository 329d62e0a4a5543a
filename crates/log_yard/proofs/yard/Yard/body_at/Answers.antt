use Rattle.std.proofs.Common.{sym, ap}
use Rattle.log_yard.specs.declared.refusal.Refusal.TheVariants as refusal
use Rattle.log_yard.specs.Tells.{place_number}
use Rattle.log_yard.proofs.Steps.{not_there}
use Rattle.log_yard.proofs.yard.Yard.body_at.Goals as goal

pub returns-in-Standing : goal.returns-in-Standing
returns-in-Standing g c = λ kt. not_there _ c.args.tag c.in_ok-rest.rest c.args.place refusal.Standing (c.in_ok-rest.ensures kt) c.if-eq.ensures (ap place_number (sym c.in-Standing.is))

pub returns-in-AtSaw : goal.returns-in-AtSaw
returns-in-AtSaw g c = λ kt. not_there _ c.args.tag c.in_ok-rest.rest c.args.place refusal.AtSaw (c.in_ok-rest.ensures kt) c.if-eq.ensures (ap place_number (sym c.in-AtSaw.is))
