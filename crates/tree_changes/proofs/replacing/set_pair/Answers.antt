use Rattle.tree_changes.proofs.Edits.{leaf_packed, leaf_ascends, leaf_changed}
use Rattle.tree_changes.proofs.replacing.set_pair.Goals as goal

pub returns-clause-changes : goal.returns-clause-changes
returns-clause-changes g c = λ st.
    let o = g.met.K.Key.ordered in
    let y = c.args.layout in
    let xs = c.args.slots.now in
    let t = c.target_leaf-target.result in
    let target = c.target_leaf-target.ensures.target st in
    let T = c.replace.new.part in
    leaf_changed o y xs st c.args.key t target T c.replace.auto.part c.args.value c.replace.result (c.replace.ensures (leaf_packed o y xs st c.args.key t target T) (leaf_ascends o y xs st c.args.key t target T))
