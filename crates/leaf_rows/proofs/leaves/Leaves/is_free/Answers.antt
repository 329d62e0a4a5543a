use Rattle.std.proofs.Common.{arith}
use Rattle.leaf_rows.proofs.Last.{last_tells}
use Rattle.leaf_rows.proofs.leaves.Leaves.is_free.Goals as goal

pub returns : goal.returns
returns g c = last_tells c.WIDTH.result g.K.Key.WIDTH c.leaf.result.now _ c.index-leaf-WIDTH.result c.leaf.ensures.gives c.leaf.ensures.long c.WIDTH.ensures (omega (arith, g.met.K.Key.narrowest))
