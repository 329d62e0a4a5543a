use Rattle.std.proofs.Common.{sym, ◌∙◌, ⊎_elim, arith}
use Rattle.tree_index.proofs.Keys.{index_past, slot_within, told}
use Rattle.tree_index.proofs.naming.index_key.Goals as goal

pub returns-then-slots-clause-gives : goal.returns-then-slots-clause-gives
returns-then-slots-clause-gives g c = λ l fit r.
    sym (index_past c.args.layout.width c.args.layout.height c.args.leaf c.args.slots.now
    (⊎_elim (λ a. absurd (omega arith)) (λ b. ⊎_elim (λ z. absurd (omega arith)) (λ past. omega (arith, c.args.layout.many)) b) c.then-slots.either))

pub offset_bounds-slots-index_slot : goal.offset_bounds-slots-index_slot
offset_bounds-slots-index_slot g c = omega (arith, slot_within _ _ _ _ c.args.slots.now c.index_slot.ensures (omega arith))

pub bounds-slots-index_slot : goal.bounds-slots-index_slot
bounds-slots-index_slot g c = omega (arith, slot_within _ _ _ _ c.args.slots.now c.index_slot.ensures (omega arith))

pub returns-clause-gives : goal.returns-clause-gives
returns-clause-gives g c = λ l fit r. c.then_some.ensures ∙ told _ _ _ _ c.args.slots.now c.index_slot.ensures c.index-slots-index_slot.result c.index-slots-index_slot.is r
