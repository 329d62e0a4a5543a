use Rattle.std.proofs.Common.{arith}
use Rattle.tree_index.proofs.Keys.{leaf_within}
use Rattle.tree_index.proofs.Leaves.{leaf_part}
use Rattle.tree_search.proofs.leaf.leaf_slots.Goals as goal

pub slice_bounds-result-end-2 : goal.slice_bounds-result-end-2
slice_bounds-result-end-2 g c = omega (arith, leaf_within c.args.layout c.args.leaf c.if-leaf-layout.false)

pub returns-clause-gives : goal.returns-clause-gives
returns-clause-gives g c = λ fit. leaf_part c.args.layout c.args.slots.now c.args.leaf c.if-leaf-layout.false
