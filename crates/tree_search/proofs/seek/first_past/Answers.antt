use Rattle.std.proofs.Common.{Some, sym, ap, ◌∙◌, arith}
use Rattle.std.proofs.lemmas.Option.{none-some, same_Some}
use Rattle.tree_search.proofs.Splits.{past_none, past_some}
use Rattle.tree_search.proofs.seek.first_past.Goals as goal

pub returns-in_err-key : goal.returns-in_err-key
returns-in_err-key g c = λ st.
    c.from_residual.ensures
    ∙ past_none g.met.K.Key.ordered c.args.layout.width c.args.layout.height c.args.slots.now c.args.leaf st (c.in_err-key.ensures.gives (omega arith) st.fits (st.indexed _))

pub returns-in_err-value : goal.returns-in_err-value
returns-in_err-value g c = λ st.
    let p = past_some g.met.K.Key.ordered c.args.layout.width c.args.layout.height c.args.slots.now c.args.leaf st c.in_ok-key.key (c.in_ok-key.ensures.gives (omega arith) st.fits (st.indexed _)) in
    absurd (none-some p.0 (c.in_err-value.ensures st ∙ p.2))

pub returns : goal.returns
returns g c = λ st.
    let p = past_some g.met.K.Key.ordered c.args.layout.width c.args.layout.height c.args.slots.now c.args.leaf st c.in_ok-key.key (c.in_ok-key.ensures.gives (omega arith) st.fits (st.indexed _)) in
    ap (λ v. Some (c.in_ok-key.key, v)) (same_Some c.in_ok-value.value p.0 (c.in_ok-value.ensures st ∙ p.2)) ∙ sym p.1
