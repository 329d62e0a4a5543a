use Rattle.std.proofs.Common.{◌≡◌, ◌+◌, ◌-◌, ◌≤◌, ap, ◌∙◌, subst, arith}
use Rattle.std.specs.Option.{option_or}
use Rattle.tree_index.proofs.Keys.{Renewed, slot_within, carried, renewed_more, renewed_all}
use Rattle.tree_index.proofs.naming.refresh.Goals as goal

pub name_key-requires : goal.name_key-requires
name_key-requires g c = slot_within _ _ _ _ c.loop-before.slots c.index_slot.ensures (omega (arith, c.loop-before.auto.slots))

pub loop-before-preserved : goal.loop-before-preserved
loop-before-preserved g c =
    let y = c.args.layout in
    let q = c.loop-before.before - 1 in
    let e : c.loop-before.before ≡ q + 1 = omega (arith, c.loop-before-test.true) in
    let r = subst (λ p. Renewed y.width y.height c.args.slots.now c.loop-before.slots c.args.low c.args.high c.args.found p c.loop-before.next) e c.loop-before.invariant in
    let lq : c.args.low ≤ q = omega (arith, c.loop-before-test.true) in
    renewed_more _ _ _ _ _ _ c.loop-before.slots q _ r lq _ _ c.name_key.ensures.0 _ c.index_slot.ensures (slot_within _ _ _ _ c.loop-before.slots c.index_slot.ensures (omega (arith, c.loop-before.auto.slots))) c.name_key.ensures.1 c.name_key.ensures.2
    (λ ready. c.or-next.ensures ∙ ap (λ o. option_or o c.loop-before.next) c.then_some.ensures ∙ carried _ _ _ _ _ _ c.loop-before.slots q _ r lq c.index-slots-layout.result y.base (omega (arith, y.narrowest)) y.above c.index-slots-layout.is ready)

pub returns : goal.returns
returns g c = renewed_all _ _ _ _ _ _ _ _ _ c.loop-before.invariant c.loop-before-test.false
