use Rattle.std.proofs.Common.{ℕ, subst}
use Rattle.ordered.specs.Changes.{absent_refusal}
use Rattle.ordered.specs.Meaning.{updated}
use Rattle.ordered.proofs.Rows.{length_updated}
use Rattle.tree_changes.specs.Changed.{Replaced}
use Rattle.tree_layout.specs.Rows.{LayoutOf}
use Rattle.array_tree.proofs.Wholes.{whole_same}
use Rattle.array_tree.proofs.index.ArrayTreeOrderedIndex.set.Goals as goal

pub returns : goal.returns
returns g c =
    let b = g.K.Key.before in
    let w = whole_same b g.K.Key.WIDTH c.args.self.now c.in_ok-laid.laid (subst (LayoutOf _ _) c.in_ok-laid.ensures.ok_part c.layout.ensures) c.set_pair.new.slots c.set_pair.auto.slots
    (λ room row. absent_refusal b row c.args.key) (λ row. updated b row c.args.key c.args.value) (λ (w h : ℕ) ys. Replaced b w h c.args.self.now.slots.now c.args.key c.args.value ys)
    c.set_pair.result c.set_pair.ensures.changes (λ d. d.tree) (length_updated b _ c.args.key c.args.value) in
    record { meaning = w.0; slots = w.1 }
