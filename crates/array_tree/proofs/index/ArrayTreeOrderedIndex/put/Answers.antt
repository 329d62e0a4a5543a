use Rattle.std.proofs.Common.{ℕ, sym, arith, subst}
use Rattle.std.proofs.lemmas.Result.{err_from_is_err_and}
use Rattle.ordered.specs.Changes.{put_refusal}
use Rattle.ordered.specs.Meaning.{inserted}
use Rattle.tree_changes.specs.Changed.{Landed}
use Rattle.tree_layout.specs.Rows.{LayoutOf}
use Rattle.array_tree.proofs.Wholes.{whole_ok, whole_err, one_more}
use Rattle.array_tree.proofs.index.ArrayTreeOrderedIndex.put.Goals as goal

pub returns-in_err-put_pair : goal.returns-in_err-put_pair
returns-in_err-put_pair g c =
    let b = g.K.Key.before in
    let q = err_from_is_err_and c.from_residual-in_err-put_pair.result c.from_residual-in_err-put_pair.ensures.1 in
    let laid = subst (LayoutOf _ _) c.in_ok-layout.ensures.ok_part c.layout.ensures in
    let w = whole_err b g.K.Key.WIDTH c.args.self.now c.in_ok-layout.layout laid c.put_pair.new.slots c.put_pair.auto.slots
    (λ room row. put_refusal b room row c.args.key) (λ row. inserted b row c.args.key c.args.value) (λ (w h : ℕ) ys. Landed b w h c.args.self.now.slots.now c.args.key c.args.value ys)
    c.in_err-put_pair.field-0.0 (c.in_err-put_pair.ensures.changes (sym laid.wide)) in
    rw (q.1, q.2) (record { meaning = w.0; slots = w.1 })

pub returns : goal.returns
returns g c =
    let b = g.K.Key.before in
    let o = g.met.K.Key.ordered in
    let laid = subst (LayoutOf _ _) c.in_ok-layout.ensures.ok_part c.layout.ensures in
    let w = whole_ok b g.K.Key.WIDTH c.args.self.now c.in_ok-layout.layout laid c.put_pair.new.slots c.put_pair.auto.slots
    (λ room row. put_refusal b room row c.args.key) (λ row. inserted b row c.args.key c.args.value) (λ (w h : ℕ) ys. Landed b w h c.args.self.now.slots.now c.args.key c.args.value ys)
    c.saturating_add-self.result (c.in_ok-put_pair.ensures.changes (sym laid.wide)) (λ d. d.tree)
    (λ s _. one_more o g.K.Key.WIDTH c.in_ok-layout.layout.height c.args.self.now.slots.now c.args.self.now.room c.args.self.now.count s c.args.key (omega (arith, laid.fits)) c.args.value c.saturating_add-self.result c.saturating_add-self.ensures) in
    record { meaning = w.0; slots = w.1 }
