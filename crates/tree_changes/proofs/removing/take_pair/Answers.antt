use Rattle.std.proofs.lemmas.Result.{err_from_is_err_and}
use Rattle.tree_changes.proofs.Edits.{leaf_packed, leaf_ascends, leaf_refused, taken_inside, taken_first}
use Rattle.tree_changes.proofs.removing.take_pair.Goals as goal

pub returns-in_err-at-clause-changes : goal.returns-in_err-at-clause-changes
returns-in_err-at-clause-changes g c = λ st.
    let o = g.met.K.Key.ordered in
    let y = c.args.layout in
    let xs = c.args.slots.now in
    let t = c.target_leaf-target.result in
    let target = c.target_leaf-target.ensures.target st in
    let T = c.remove.new.part in
    let q = err_from_is_err_and c.from_residual.result c.from_residual.ensures.1 in
    rw (q.1, q.2) (leaf_refused o y xs st c.args.key t target T _ _ _ (c.in_err-at.ensures.edits (leaf_packed o y xs st c.args.key t target T) (leaf_ascends o y xs st c.args.key t target T)))

pub returns-then-at-gt0-clause-changes : goal.returns-then-at-gt0-clause-changes
returns-then-at-gt0-clause-changes g c = λ st.
    let o = g.met.K.Key.ordered in
    let y = c.args.layout in
    let xs = c.args.slots.now in
    let t = c.target_leaf-target.result in
    let target = c.target_leaf-target.ensures.target st in
    let T = c.remove.new.part in
    let packed = leaf_packed o y xs st c.args.key t target T in
    let ascends = leaf_ascends o y xs st c.args.key t target T in
    taken_inside o y xs st c.args.key t target T c.remove.auto.part c.in_ok-at.at (c.in_ok-at.ensures.edits packed ascends) (c.in_ok-at.ensures.place packed ascends) c.if-at-gt0.true

pub returns-clause-changes : goal.returns-clause-changes
returns-clause-changes g c = λ st.
    let o = g.met.K.Key.ordered in
    let y = c.args.layout in
    let xs = c.args.slots.now in
    let t = c.target_leaf-target.result in
    let target = c.target_leaf-target.ensures.target st in
    let T = c.remove.new.part in
    let packed = leaf_packed o y xs st c.args.key t target T in
    let ascends = leaf_ascends o y xs st c.args.key t target T in
    taken_first o y xs st c.args.key t target T c.remove.auto.part c.in_ok-at.at (c.in_ok-at.ensures.edits packed ascends) (c.in_ok-at.ensures.place packed ascends)
    c.filled_before-low.result c.index_key-found.result c.refresh.new.slots c.filled_before-low.ensures.filled c.index_key-found.ensures.gives c.refresh.ensures
