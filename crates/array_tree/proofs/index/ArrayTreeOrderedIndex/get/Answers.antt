use Rattle.std.proofs.Common.{List}
use Rattle.ordered.specs.Meaning.{lookup}
use Rattle.array_tree.proofs.Answered.{answers_some}
use Rattle.array_tree.proofs.index.ArrayTreeOrderedIndex.get.Goals as goal

pub returns : goal.returns
returns g c = record { meaning = answers_some g.K.Key.before g.K.Key.WIDTH c.args.self.now (λ (row : List _). lookup g.K.Key.before row c.args.key) _ c.in_ok-layout.field-0 c.in_ok-layout.ensures c.find.ensures }
