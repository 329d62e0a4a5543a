use Rattle.std.proofs.Common.{rules}
use Rattle.std.proofs.lemmas.List.Sorted.{IsPartitionPoint-from_clause}
use Rattle.slot_rows.specs.Ranks.{below}
use Rattle.slot_rows.proofs.Leads.{partitioned, lead_point, lead_position}
use Rattle.slot_rows.proofs.halving.rank.Goals as goal

pub returns-clause-gives : goal.returns-clause-gives
returns-clause-gives g c = λ falling.
    let f = below c.args.bound g.K.Key.before c.args.key in
    let ss = c.args.slots.now in
    lead_point f ss _ c.partition_point.ensures.bound (IsPartitionPoint-from_clause f ss _ c.partition_point.ensures.partitioned (partitioned f ss falling) (λ a r q k. search rules))

pub returns-then-slots-le-FEW-clause-gives : goal.returns-then-slots-le-FEW-clause-gives
returns-then-slots-le-FEW-clause-gives g c = λ _. lead_position (below c.args.bound g.K.Key.before c.args.key) c.args.slots.now c.first_not_below.result c.unwrap_or.result c.first_not_below.ensures c.unwrap_or.ensures
