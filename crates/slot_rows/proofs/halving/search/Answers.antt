use Rattle.std.proofs.Common.{sym, rules}
use Rattle.slot_rows.proofs.Held.{located_at, located_past}
use Rattle.slot_rows.proofs.halving.search.Goals as goal

pub returns-in-Some-clause-gives : goal.returns-in-Some-clause-gives
returns-in-Some-clause-gives g c = λ f.
    let e = located_at g.K.Key.before c.args.key c.args.slots.now _ (c.rank-at.ensures.gives f) c.in-Some.slot.now (search rules) c.in-Some.ensures.lookup.1 in
    sym (rw (sym c.if-is_below.ensures) at e)

pub returns-in_default-clause-gives : goal.returns-in_default-clause-gives
returns-in_default-clause-gives g c = λ f.
    let e = located_at g.K.Key.before c.args.key c.args.slots.now _ (c.rank-at.ensures.gives f) c.in-Some.slot.now (search rules) c.in-Some.ensures.lookup.1 in
    sym (rw (sym c.if-is_below.ensures) at e)

pub returns-in_default-2-clause-gives : goal.returns-in_default-2-clause-gives
returns-in_default-2-clause-gives g c = λ f. sym (located_past g.K.Key.before c.args.key c.args.slots.now _ (c.rank-at.ensures.gives f) (search rules))
