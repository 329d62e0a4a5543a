use Rattle.std.proofs.Common.{◌+◌, ◌-◌, ◌<◌, length, ◌∙◌, arith, rules}
use Rattle.array_tree.proofs.Nexts.{next_within, next_small, follows_last}
use Rattle.array_tree.proofs.filling_tree.FillingTree.is_after_last.Goals as goal

pub overflow_add-last : goal.overflow_add-last
overflow_add-last g c = omega (arith, next_small c.args.self.now c.in-Some.layout c.in-Some.is)

pub offset_bounds-self-layout : goal.offset_bounds-self-layout
offset_bounds-self-layout g c =
    let i : (c.in-Some.layout.base + c.args.self.now.count) - 1 < length c.args.self.now.slots.now = omega (arith, next_within c.args.self.now c.in-Some.layout c.in-Some.is) in
    search rules

pub bounds-self-layout : goal.bounds-self-layout
bounds-self-layout g c = omega (arith, next_within c.args.self.now c.in-Some.layout c.in-Some.is)

pub returns-in-Some : goal.returns-in-Some
returns-in-Some g c = c.is_before.ensures ∙ follows_last c.args.self.now c.in-Some.layout c.in-Some.is c.args.key c.index-self-layout.result (omega arith)
