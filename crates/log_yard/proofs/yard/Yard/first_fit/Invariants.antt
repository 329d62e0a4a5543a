use Rattle.std.proofs.Common.{◌≡◌, ℕ, ◌+◌, ◌-◌, ◌≤◌, Some}
use Rattle.ordered.specs.Meaning.{lookup}
use Rattle.logs.specs.declared.keys.Size.{Size}
use Rattle.logs.specs.Orders.{size_before}
use Rattle.log_yard.specs.Fitting.{KeyFits}
use Rattle.log_yard.proofs.yard.Yard.first_fit.Given as goal

abbrev pub invariant-loop-d : goal.invariant-loop-d
invariant-loop-d g l = (l.diameter ≤ l.d) × (g.S.OrderedIndex.kept l.self.sizes → (k : Size) (v : ℕ) → lookup size_before (g.S.OrderedIndex.row l.self.sizes) k ≡ Some v → KeyFits l.species l.diameter l.length k → l.d ≤ k.diameter)

abbrev pub decreases-loop-d : goal.decreases-loop-d
decreases-loop-d g l = 1200 + 1 - l.d
