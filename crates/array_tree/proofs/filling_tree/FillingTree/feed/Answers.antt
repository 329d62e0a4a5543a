use Rattle.std.proofs.Common.{◌+◌, ◌<◌, length, sym, ◌∙◌, arith, rules}
use Rattle.array_tree.proofs.Nexts.{next_small, next_free, still_filling, fed}
use Rattle.array_tree.proofs.filling_tree.FillingTree.feed.Goals as goal

pub overflow_add-layout : goal.overflow_add-layout
overflow_add-layout g c = omega (arith, next_small c.args.self.now c.in_ok-layout.layout c.in_ok-layout.ensures.ok_part)

pub offset_bounds-self-layout : goal.offset_bounds-self-layout
offset_bounds-self-layout g c =
    let i : c.in_ok-layout.layout.base + c.args.self.now.count < length c.args.self.now.slots.now = next_free c.args.self.now c.in_ok-layout.layout c.in_ok-layout.ensures.ok_part (λ e. omega arith) in
    search rules

pub bounds-self-layout : goal.bounds-self-layout
bounds-self-layout g c = next_free c.args.self.now c.in_ok-layout.layout c.in_ok-layout.ensures.ok_part (λ e. omega arith)

pub overflow_add-self : goal.overflow_add-self
overflow_add-self g c = omega (arith, next_small c.args.self.now c.in_ok-layout.layout c.in_ok-layout.ensures.ok_part)

pub invariant_of-self : goal.invariant_of-self
invariant_of-self g c = record {
  fills = still_filling c.args.self.now c.in_ok-layout.layout c.in_ok-layout.ensures.ok_part g.met.K.Key.ordered.transitive c.args.key c.args.value (sym c.is_after_last.ensures ∙ c.if-not-is_after_last.false) (λ e. omega arith);
}

pub returns : goal.returns
returns g c = fed c.args.self.now c.in_ok-layout.layout c.in_ok-layout.ensures.ok_part g.met.K.Key.ordered.transitive c.args.key c.args.value (sym c.is_after_last.ensures ∙ c.if-not-is_after_last.false) (λ e. omega arith) _
