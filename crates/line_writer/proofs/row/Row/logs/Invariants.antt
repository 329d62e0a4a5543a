use Rattle.std.proofs.Common.{◌≡◌, ◌+◌, ◌*◌, ◌≤◌, length, take}
use Rattle.std.specs.List.{flat_map}
use Rattle.line_writer.specs.Shows.{Added, log_line}
use Rattle.line_writer.proofs.row.Row.logs.Given as goal

abbrev pub invariant-loop-log : goal.invariant-loop-log
invariant-loop-log l =
    Added (flat_map log_line (take l.log-index l.logs)) l.initial.self l.self
    × (l.self.at ≤ l.initial.self.at + 38 * l.log-index)
    × (length l.self.out.now ≡ length l.initial.self.out.now)
