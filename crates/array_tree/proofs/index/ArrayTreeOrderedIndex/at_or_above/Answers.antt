use Rattle.std.proofs.Common.{List}
use Rattle.ordered.specs.Meaning.{at_or_above}
use Rattle.array_tree.proofs.Answered.{answers_some}
use Rattle.array_tree.proofs.index.ArrayTreeOrderedIndex.at_or_above.Goals as goal

pub returns : goal.returns
returns g c = record { meaning = answers_some g.K.Key.before g.K.Key.WIDTH c.args.self.now (λ (row : List _). at_or_above g.K.Key.before row c.args.key) _ c.in_ok-layout.field-0 c.in_ok-layout.ensures c.first_from.ensures }
