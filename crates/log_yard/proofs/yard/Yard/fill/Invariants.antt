use Rattle.std.proofs.Common.{◌≡◌, ◌++◌, take, drop}
use Rattle.logs.specs.Orders.{size_before}
use Rattle.log_yard.specs.Pages.{runs, range}
use Rattle.log_yard.specs.Walk.{pairs_left}
use Rattle.log_yard.proofs.yard.Yard.fill.Given as goal

abbrev pub invariant-loop-n : goal.invariant-loop-n
invariant-loop-n g l = let row = g.S.OrderedIndex.row in
    g.S.OrderedIndex.kept l.self.sizes →
    (l.pairs.index.now ≡ l.self.sizes)
    × (range (row l.self.sizes) l.species l.low l.high ≡ take l.n l.shown ++ runs l.species l.high (pairs_left size_before row l.pairs))
    × (drop l.n l.shown ≡ drop l.n l.initial.shown)
