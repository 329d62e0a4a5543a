use Rattle.std.proofs.Common.{◌≡◌, ◌≤◌, drop}
use Rattle.line_reader.specs.Fields.{at_most, read_on}
use Rattle.line_reader.proofs.forms.read_number.Given as goal

abbrev pub invariant-loop-d : goal.invariant-loop-d
invariant-loop-d l =
    (at_most 4294967295 (read_on l.n (drop l.d-index l.digits)) ≡ at_most 4294967295 (read_on 0 l.digits)) × (l.n ≤ 4294967295)
