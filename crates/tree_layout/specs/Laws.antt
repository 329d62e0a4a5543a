-- What the numbers of a tree obey.
use Rattle.std.specs.Prelude.{◌≡◌, ℕ, suc, ◌+◌, ◌*◌, ◌/◌, ◌%◌, ◌^◌, ◌<◌, List, Option, slice_index_or}
use Rattle.tree_layout.specs.declared.layout.Layout.{Layout}
use Rattle.tree_layout.specs.Levels.{starts, child, leaves, leaf_slots, tree_slots, area}
use Rattle.tree_layout.specs.Rows.{LayoutOf}

pub record Sums : Type 0 where
  -- level j starts at node ((m + 1) ^ j - 1) / m
  pub level : (m j : ℕ) → starts m j * m + 1 ≡ (m + 1) ^ j
  -- the children of the nodes of a level are the nodes of the next, in order
  pub next : (m j n i : ℕ) → child m (starts m j + n) i ≡ starts m (suc j) + (n * (m + 1) + i)
  -- a tree of height h has (m + 1) ^ (h + 1) - 1 slots
  pub whole : (m h : ℕ) → tree_slots m h + 1 ≡ (m + 1) ^ suc h
  -- the slots above the leaves come first, then those of the leaves
  pub parts : (m h : ℕ) → tree_slots m h ≡ starts m h * m + leaf_slots m h
  -- number j of the leaf slots is place j % m of leaf j / m
  pub place : (m h j : ℕ) → starts m h * m + j ≡ (starts m h + j / m) * m + j % m
  -- and so the area lists them, as of a row of numbers
  pub slot : (m h p i : ℕ) (xs : List ℕ) (d : ℕ) → p < leaves m h → i < m
      → slice_index_or (area m h xs) (p * m + i) d ≡ slice_index_or xs ((starts m h + p) * m + i) d
  -- a row has one layout
  pub unique : (m n : ℕ) (a b : Option Layout) → 0 < m → LayoutOf m n a → LayoutOf m n b → a ≡ b
