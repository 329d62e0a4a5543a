use Rattle.array_tree.proofs.Answered.{capacity_is}
use Rattle.array_tree.proofs.index.ArrayTreeOrderedIndex.capacity.Goals as goal

pub returns : goal.returns
returns g c = record { meaning = capacity_is g.K.Key.before g.K.Key.WIDTH c.args.self.now }
