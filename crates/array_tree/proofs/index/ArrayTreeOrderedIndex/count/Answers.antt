use Rattle.std.proofs.Common.{length}
use Rattle.array_tree.proofs.Answered.{answers}
use Rattle.array_tree.proofs.index.ArrayTreeOrderedIndex.count.Goals as goal

pub returns : goal.returns
returns g c = record { meaning = answers g.K.Key.before g.K.Key.WIDTH c.args.self.now length _ (λ k. k.counted) }
