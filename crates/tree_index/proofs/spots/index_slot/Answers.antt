use Rattle.std.proofs.Common.{arith}
use Rattle.tree_index.proofs.Stand.{climb_start, climb_from, climb_more, climb_few, climb_small, climb_end}
use Rattle.tree_index.proofs.spots.index_slot.Goals as goal

pub overflow_sub-first : goal.overflow_sub-first
overflow_sub-first c = (climb_start c.args.layout c.args.leaf c.requires.some c.requires.within).0

pub loop-q-init : goal.loop-q-init
loop-q-init c = (climb_start c.args.layout c.args.leaf c.requires.some c.requires.within).1

pub overflow_sub-first-in-loop-q : goal.overflow_sub-first-in-loop-q
overflow_sub-first-in-loop-q c = climb_from c.loop-q.invariant c.args.layout.narrowest c.loop-q-test.true

pub loop-q-preserved : goal.loop-q-preserved
loop-q-preserved c = climb_more c.loop-q.invariant c.args.layout.narrowest c.loop-q-test.true

pub overflow_add-result : goal.overflow_add-result
overflow_add-result c = omega (arith, climb_few c.loop-q.invariant c.args.layout.narrowest c.loop-q-test.false, c.args.layout.small)

pub overflow_mul-result : goal.overflow_mul-result
overflow_mul-result c = omega (arith, climb_small c.loop-q.invariant c.args.layout.narrowest c.loop-q-test.false, c.args.layout.small)

pub overflow_add-result-2 : goal.overflow_add-result-2
overflow_add-result-2 c = omega (arith, climb_small c.loop-q.invariant c.args.layout.narrowest c.loop-q-test.false, c.args.layout.small)

pub returns : goal.returns
returns c = climb_end c.loop-q.invariant c.args.layout.narrowest c.loop-q-test.false
