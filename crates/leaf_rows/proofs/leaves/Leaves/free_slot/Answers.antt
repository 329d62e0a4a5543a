use Rattle.std.proofs.Common.{◌*◌, ap, arith, rules}
use Rattle.std.proofs.lemmas.List.Sorted.{answers_always}
use Rattle.ordered.specs.declared.slot.Slot.{Slot}
use Rattle.leaf_rows.proofs.Last.{filled_end}
use Rattle.leaf_rows.proofs.leaves.Leaves.free_slot.Goals as goal

pub returns-clause-gives : goal.returns-clause-gives
returns-clause-gives g c = λ packed few.
    let split = c.partition_point-filled.ensures.partitioned (λ (s : Slot _ _). s.filled) (answers_always _ _ _ (λ f a r g h. search rules)) in
    omega (arith, few, c.WIDTH-width.ensures, ap (λ w. c.args.r * w) c.WIDTH-width.ensures, c.min.ensures, filled_end _ c.leaf.result.now c.partition_point-filled.result c.leaf.ensures.gives packed c.partition_point-filled.ensures.bound split)
