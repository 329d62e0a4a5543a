use Rattle.std.proofs.Common.{refl, arith}
use Rattle.tree_layout.proofs.Rows.{grown_root, grown_small, grown_more, grown_laid}
use Rattle.tree_layout.proofs.layout.Layout.of_row.Goals as goal

pub loop-base-init : goal.loop-base-init
loop-base-init g c = grown_root _ _ _ c.WIDTH-width.ensures g.met.K.Key.narrowest g.met.K.Key.widest (omega (arith, c.min-counted.ensures)) (omega arith)

pub overflow_add-height : goal.overflow_add-height
overflow_add-height g c = omega (arith, grown_small c.loop-base.invariant)

pub loop-base-preserved : goal.loop-base-preserved
loop-base-preserved g c = grown_more c.loop-base.invariant (omega arith)

pub returns-clause-laid : goal.returns-clause-laid
returns-clause-laid g c = grown_laid c.loop-base.invariant (omega arith) _ _ _ c.WIDTH-width.ensures c.min-counted.ensures refl refl
