use Rattle.std.proofs.Common.{ap, ◌∙◌, length, arith}
use Rattle.ordered.specs.Slots.{countable}
use Rattle.day_desk.proofs.Loads.{none_fit, room_at, tag_room}
use Rattle.day_desk.proofs.opening_desk.OpeningDesk.over.Goals as goal

pub invariant_of-result : goal.invariant_of-result
invariant_of-result c =
    let sizes = c.over-sizes.result in
    let long = c.over-sizes.ensures.blanked.long in
    record {
      fit = none_fit _ c.over-loader.ensures.row;
      empty = sizes.fills.counted ∙ ap length c.over-sizes.ensures.row;
      roomy = omega (
        arith,
        tag_room c.over-loader.result (omega (arith, c.over-loader.ensures.blanked.long)),
        room_at 7 (countable (length sizes.slots.now)) 2 sizes.layout (omega (arith, long)) (omega (arith, long)) (omega (arith, long)) sizes.fills.laid,
      );
    }

pub returns-clause-room : goal.returns-clause-room
returns-clause-room c = tag_room c.over-loader.result (omega (arith, c.over-loader.ensures.blanked.long))
