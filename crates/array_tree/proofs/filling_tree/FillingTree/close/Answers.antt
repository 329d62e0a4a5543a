use Rattle.std.proofs.Common.{◌-◌, List, None, sym, subst}
use Rattle.tree_index.specs.Refreshing.{Refreshed}
use Rattle.tree_index.proofs.Keys.{some_leaf}
use Rattle.array_tree.proofs.Closes.{closed_some, closed_none}
use Rattle.array_tree.proofs.filling_tree.FillingTree.close.Goals.{in-Some, in_default}
use Rattle.array_tree.proofs.filling_tree.FillingTree.close.Goals as goal

pub overflow_sub-of : goal.overflow_sub-of
overflow_sub-of g c = some_leaf c.in-Some.of

pub returns : goal.returns
returns g c =
    let old = c.args.self in
    let ys = c.match-layout.slots in
    rw c.capacity-room.ensures (elim c.match-layout.branch [
      | in-Some w ↦
          let p = w.in-Some.of in
          closed_some old ys c.match-layout.auto.slots p w.in-Some.is
          (subst (λ (zs : List _). Refreshed p.width p.height old.slots.now zs 0 (p.leaves - 1) None) (sym w.slots-is) w.refresh.ensures)
      | in_default w ↦ closed_none old ys c.match-layout.auto.slots w.in_default.is w.slots-is
    ])
