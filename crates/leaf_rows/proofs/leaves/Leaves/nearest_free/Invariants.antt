use Rattle.std.proofs.Common.{ℕ, ◌-◌, ◌<◌, ◌≤◌}
use Rattle.ordered.specs.Slots.{Packed}
use Rattle.tree_layout.specs.Levels.{leaf_at}
use Rattle.leaf_rows.specs.Leaves.{count_at, distance}
use Rattle.leaf_rows.proofs.leaves.Leaves.nearest_free.Given as goal

abbrev pub invariant-loop-far : goal.invariant-loop-far
invariant-loop-far g l = record {
  within : l.far ≤ l.self.count;
  none : ((p : ℕ) → p < l.self.count → Packed (leaf_at g.K.Key.WIDTH l.self.area.now p)) → (p : ℕ) → p < l.self.count → distance l.t p < l.far → count_at g.K.Key.WIDTH l.self.area.now p < g.K.Key.WIDTH → ⊥;
}

abbrev pub decreases-loop-far : goal.decreases-loop-far
decreases-loop-far g l = l.self.count - l.far
