use Rattle.std.proofs.Common.{◌≡◌, take, drop}
use Rattle.log_yard.specs.Tells.{ObeysAll}
use Rattle.log_yard.proofs.yard.Yard.run.Given as goal

abbrev pub invariant-loop-i : goal.invariant-loop-i
invariant-loop-i g l =
    ObeysAll g.T.OrderedIndex g.S.OrderedIndex l.initial.self (take l.i l.call-items) (take l.i l.answers) l.initial.page l.page l.self
    × (drop l.i l.answers ≡ drop l.i l.initial.answers)
