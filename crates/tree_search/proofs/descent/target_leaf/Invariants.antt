use Rattle.tree_search.proofs.Walks.{Walked}
use Rattle.tree_search.proofs.descent.target_leaf.Given as goal

abbrev pub invariant-loop : goal.invariant-loop
invariant-loop g l = Walked g.K.Key.before l.fn.layout.width l.fn.layout.height l.slots l.key l.counter l.first l.at
