use Rattle.std.proofs.Common.{◌∙◌, rules}
use Rattle.ordered.specs.Slots.{pairs}
use Rattle.slot_rows.proofs.Looks.{first_past}
use Rattle.tree_search.proofs.Splits.{first_slot}
use Rattle.tree_search.proofs.leaf.first_in.Goals as goal

pub returns-in_err-slot : goal.returns-in_err-slot
returns-in_err-slot g c = λ packed asc.
    c.from_residual.ensures ∙ first_past g.met.K.Key.ordered c.args.key (pairs c.args.leaf.now) c.args.leaf.now asc packed c.args.bound c.rank.result c.rank.ensures.gives (search rules)

pub returns : goal.returns
returns g c = λ packed asc.
    c.then_some.ensures ∙ first_slot g.met.K.Key.ordered c.args.key (pairs c.args.leaf.now) c.args.leaf.now asc packed c.args.bound c.rank.result c.rank.ensures.gives c.in_ok-slot.slot.now (search rules) c.in_ok-slot.ensures.lookup.1
