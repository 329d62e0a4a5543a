use Rattle.std.proofs.Common.{refl, arith}
use Rattle.tree_index.proofs.Keys.{some_leaf}
use Rattle.tree_search.proofs.Splits.{only_in}
use Rattle.tree_search.proofs.Walks.{walked_root, walked_child, walked_leaf, walked_small}
use Rattle.tree_search.proofs.descent.target_leaf.Goals as goal

pub returns-then-slots-clause-within : goal.returns-then-slots-clause-within
returns-then-slots-clause-within g c = omega (arith, some_leaf c.args.layout)

pub returns-then-slots-clause-one : goal.returns-then-slots-clause-one
returns-then-slots-clause-one g c = λ m h xs key t st target. only_in g.met.K.Key.ordered key m h xs t st target

pub loop-init : goal.loop-init
loop-init g c = walked_root g.K.Key.before g.met.K.Key.ordered.transitive c.args.layout.width c.args.layout.height c.args.layout.narrowest c.args.slots.now c.args.key

pub overflow_add-from : goal.overflow_add-from
overflow_add-from g c = omega (arith, walked_small c.loop.invariant c.args.layout.narrowest c.loop-test.true, c.args.layout.small)

pub overflow_mul-from : goal.overflow_mul-from
overflow_mul-from g c = omega (arith, walked_small c.loop.invariant c.args.layout.narrowest c.loop-test.true, c.args.layout.small)

pub overflow_add-from-in-loop : goal.overflow_add-from-in-loop
overflow_add-from-in-loop g c = omega (arith, walked_small c.loop.invariant c.args.layout.narrowest c.loop-test.true, c.args.layout.small)

pub offset_bounds-slots-from : goal.offset_bounds-slots-from
offset_bounds-slots-from g c = omega (arith, walked_small c.loop.invariant c.args.layout.narrowest c.loop-test.true)

pub slice_bounds-rank-end : goal.slice_bounds-rank-end
slice_bounds-rank-end g c = omega (arith, walked_small c.loop.invariant c.args.layout.narrowest c.loop-test.true)

pub loop-preserved : goal.loop-preserved
loop-preserved g c =
    walked_child g.K.Key.before g.met.K.Key.ordered.transitive c.args.layout.width c.args.layout.height c.args.layout.narrowest c.args.slots.now c.args.key c.loop.counter c.loop.first c.loop.at c.rank-child.result _ refl
    c.loop-test.true c.rank-child.ensures.within c.rank-child.ensures.gives c.loop.invariant

pub returns-clause-target : goal.returns-clause-target
returns-clause-target g c = walked_leaf c.loop.invariant c.loop-test.false

pub returns-clause-one : goal.returns-clause-one
returns-clause-one g c = λ m h xs key t st target. only_in g.met.K.Key.ordered key m h xs t st target
