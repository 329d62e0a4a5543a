use Rattle.std.proofs.Common.{◌≡◌, ◌≤◌, [], length}
use Rattle.log_yard.specs.Opens.{Fills}
use Rattle.log_yard.proofs.opening.stand_all.Given as goal

abbrev pub invariant-loop-tag : goal.invariant-loop-tag
invariant-loop-tag g l = g.T.OrderedIndex.kept l.tags → g.S.OrderedIndex.kept l.initial.sizes → g.S.OrderedIndex.row l.initial.sizes ≡ [] → length (g.T.OrderedIndex.row l.tags) ≤ g.S.OrderedIndex.room l.initial.sizes →
    Fills g.S.OrderedIndex l.yielded l.initial.sizes l.sizes
