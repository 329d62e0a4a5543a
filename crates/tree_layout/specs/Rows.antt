-- The layout of a row of slots.
use Rattle.std.specs.Prelude.{◌≡◌, ℕ, ◌*◌, ◌<◌, ◌≤◌, Some, None, Option}
use Rattle.tree_layout.specs.declared.layout.Layout.{Layout}
use Rattle.tree_layout.specs.Levels.{starts, leaves, tree_slots}

-- the layout of the tree of greatest height that fits in n slots
pub record Laid (m n : ℕ) (p : Layout) : Type 0 where
  pub wide : p.width ≡ m
  pub above : p.base ≡ starts m p.height * m
  pub many : p.leaves ≡ leaves m p.height
  pub fits : tree_slots m p.height ≤ n
  pub tallest : (h : ℕ) → p.height < h → n < tree_slots m h

-- a row has a layout unless it is shorter than a node
abbrev pub LayoutOf : ℕ → ℕ → Option Layout → Type 0
LayoutOf m n None = n < m
LayoutOf m n (Some p) = Laid m n p
