use Rattle.std.proofs.Common.{◌≡◌}
use Rattle.line_reader.proofs.fields.Fields.split.Given as goal

abbrev pub invariant-loop-field : goal.invariant-loop-field
invariant-loop-field l =
    (goal.iterator-loop-field).can_next l.field-iterator
    × (goal.iterator-loop-field).is_finite l.field-iterator
    × (l.first.items ≡ l.yielded)
