use Rattle.std.proofs.Common.{List, ◌∙◌}
use Rattle.ordered.specs.Meaning.{above}
use Rattle.array_tree.proofs.Answered.{above_is, answers_some}
use Rattle.array_tree.proofs.index.ArrayTreeOrderedIndex.above.Goals as goal

pub returns : goal.returns
returns g c = record { meaning = answers_some g.K.Key.before g.K.Key.WIDTH c.args.self.now (λ (row : List _). above g.K.Key.before row c.args.key) _ c.in_ok-layout.field-0 c.in_ok-layout.ensures (λ st. c.first_from.ensures st ∙ above_is g.K.Key.before _ c.args.key) }
