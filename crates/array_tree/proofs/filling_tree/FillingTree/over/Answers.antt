use Rattle.array_tree.proofs.Nexts.{made_empty}
use Rattle.array_tree.proofs.filling_tree.FillingTree.over.Goals as goal

pub invariant_of-result : goal.invariant_of-result
invariant_of-result g c = record { fills = (made_empty g.K.Key.before g.K.Key.WIDTH c.args.slots.now c.blank_tree.new.slots c.of_row-layout.result c.of_row-layout.ensures.laid c.blank_tree.ensures).0 }
