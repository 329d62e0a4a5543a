use Rattle.tree_index.proofs.Keys.{Renewed}
use Rattle.tree_index.proofs.naming.refresh.Given as goal

abbrev pub invariant-loop-before : goal.invariant-loop-before
invariant-loop-before g l = Renewed l.layout.width l.layout.height l.initial.slots l.slots l.low l.high l.initial.next l.before l.next
