use Rattle.std.proofs.Common.{◌-◌}
use Rattle.tree_layout.proofs.Rows.{Grown}
use Rattle.tree_layout.proofs.layout.Layout.of_row.Given as goal

abbrev pub invariant-loop-base : goal.invariant-loop-base
invariant-loop-base g l = Grown l.width l.counted l.height l.base l.leaves

abbrev pub decreases-loop-base : goal.decreases-loop-base
decreases-loop-base g l = l.counted - l.base
