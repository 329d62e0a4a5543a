use Rattle.tree_index.proofs.Stand.{Climb}
use Rattle.tree_index.proofs.spots.index_slot.Given as goal

abbrev pub invariant-loop-q : goal.invariant-loop-q
invariant-loop-q l = Climb l.layout.width l.layout.height l.leaf l.q l.first

abbrev pub decreases-loop-q : goal.decreases-loop-q
decreases-loop-q l = l.q
