use Rattle.std.proofs.Common.{subst}
use Rattle.log_yard.specs.Refusals.{open_number}
use Rattle.array_tree.specs.Standing.{Closed}
use Rattle.day_desk.proofs.Opens.{never_refused, opens}
use Rattle.day_desk.proofs.opening_desk.OpeningDesk.open.Goals as goal

pub unreachable-requires : goal.unreachable-requires
unreachable-requires c =
    let tags = subst (λ t. Closed t c.close.result) c.into_tree-tags.ensures c.close.ensures in
    never_refused c.args.self c.close.result c.close-2.result tags c.close-2.ensures (open_number c.in-Err.field-0.refusal) (c.in-Err.ensures.law tags.keeps c.close-2.ensures.keeps)

pub returns : goal.returns
returns c =
    let tags = subst (λ t. Closed t c.close.result) c.into_tree-tags.ensures c.close.ensures in
    opens c.args.self c.close.result c.close-2.result tags c.close-2.ensures c.in-Ok.yard c.over.result c.over.ensures.yard c.over.ensures.page (c.in-Ok.ensures.law tags.keeps c.close-2.ensures.keeps).1
