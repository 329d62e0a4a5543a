use Rattle.std.proofs.Common.{refl}
use Rattle.std.proofs.lemmas.Result.{err_from_is_err_and}
use Rattle.tree_changes.proofs.Landings.{puts_in, placed_ok, placed_err}
use Rattle.tree_changes.proofs.placing.put_pair.Goals as goal

pub returns-in_err-span-clause-changes : goal.returns-in_err-span-clause-changes
returns-in_err-span-clause-changes g c = λ ew st.
    let o = g.met.K.Key.ordered in
    let y = c.args.layout in
    let xs = c.args.slots.now in
    let t = c.target_leaf-target.result in
    let target = c.target_leaf-target.ensures.target st in
    let q = err_from_is_err_and c.from_residual.result c.from_residual.ensures.1 in
    let p = puts_in o y xs st c.args.key c.args.value t target c.slots-end.result c.slots-end.ensures _ ew _ c.put.new.area c.in_err-span.ensures.puts in
    rw (q.1, q.2) (placed_err o y xs st c.args.key c.args.value t target c.slots-end.result c.slots-end.ensures _ c.put.new.area _ p refl)

pub returns-clause-changes : goal.returns-clause-changes
returns-clause-changes g c = λ ew st.
    let o = g.met.K.Key.ordered in
    let y = c.args.layout in
    let xs = c.args.slots.now in
    let t = c.target_leaf-target.result in
    let target = c.target_leaf-target.ensures.target st in
    let p = puts_in o y xs st c.args.key c.args.value t target c.slots-end.result c.slots-end.ensures _ ew _ c.put.new.area c.in_ok-span.ensures.puts in
    placed_ok o y xs st c.args.key c.args.value t target c.slots-end.result c.slots-end.ensures _ c.put.new.area c.refresh.new.slots c.index_key-found.result p c.index_key-found.ensures.gives c.refresh.ensures
