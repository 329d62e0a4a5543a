use Rattle.std.proofs.Common.{ℕ, subst}
use Rattle.std.proofs.lemmas.Result.{err_from_is_err_and}
use Rattle.ordered.specs.Changes.{absent_refusal}
use Rattle.ordered.specs.Meaning.{removed}
use Rattle.tree_changes.specs.Changed.{Removed}
use Rattle.tree_layout.specs.Rows.{LayoutOf}
use Rattle.array_tree.proofs.Wholes.{whole_ok, whole_err, one_less}
use Rattle.array_tree.proofs.index.ArrayTreeOrderedIndex.take.Goals as goal

pub returns-in_err-take_pair : goal.returns-in_err-take_pair
returns-in_err-take_pair g c =
    let b = g.K.Key.before in
    let q = err_from_is_err_and c.from_residual-in_err-take_pair.result c.from_residual-in_err-take_pair.ensures.1 in
    let w = whole_err b g.K.Key.WIDTH c.args.self.now c.in_ok-layout.layout (subst (LayoutOf _ _) c.in_ok-layout.ensures.ok_part c.layout.ensures) c.take_pair.new.slots c.take_pair.auto.slots
    (λ room row. absent_refusal b row c.args.key) (λ row. removed b row c.args.key) (λ (w h : ℕ) ys. Removed b w h c.args.self.now.slots.now c.args.key ys)
    c.in_err-take_pair.field-0.0 c.in_err-take_pair.ensures.changes in
    rw (q.1, q.2) (record { meaning = w.0; slots = w.1 })

pub returns : goal.returns
returns g c =
    let b = g.K.Key.before in
    let o = g.met.K.Key.ordered in
    let w = whole_ok b g.K.Key.WIDTH c.args.self.now c.in_ok-layout.layout (subst (LayoutOf _ _) c.in_ok-layout.ensures.ok_part c.layout.ensures) c.take_pair.new.slots c.take_pair.auto.slots
    (λ room row. absent_refusal b row c.args.key) (λ row. removed b row c.args.key) (λ (w h : ℕ) ys. Removed b w h c.args.self.now.slots.now c.args.key ys)
    c.saturating_sub-self.result c.in_ok-take_pair.ensures.changes (λ d. d.tree) (λ s d. one_less o g.K.Key.WIDTH c.in_ok-layout.layout.height c.args.self.now.slots.now c.args.self.now.room c.args.self.now.count s c.args.key c.saturating_sub-self.result c.saturating_sub-self.ensures d) in
    record { meaning = w.0; slots = w.1 }
