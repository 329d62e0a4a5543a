-- Index slots set by their rule.
use Rattle.std.specs.Prelude.{◌≡◌, ℕ, suc, ◌<◌, ◌≤◌, List, length, Option, slice_index_or}
use Rattle.ordered.specs.declared.slot.Slot.{Slot}
use Rattle.ordered.specs.Slots.{Packed}
use Rattle.tree_layout.specs.Levels.{leaves, tree_slots, leaf_of}
use Rattle.tree_index.specs.Index.{index_key, IndexAt, RuleAt}

-- the leaves after `low` up to `high` are packed, and `found` is the first key past them
pub record Ready {K R : Type 0} (m h : ℕ) (xs : List (Slot K R)) (low high : ℕ) (found : Option K) : Type 0 where
  pub fits : tree_slots m h ≤ length xs
  pub within : high < leaves m h
  pub packed : (p : ℕ) → low < p → p ≤ high → Packed (leaf_of m h xs p)
  pub past : found ≡ index_key m h xs (suc high)

-- ys is xs but for the index slots of the leaves after `low` up to `high`, and these follow their rule
pub record Refreshed {K R : Type 0} (m h : ℕ) (xs ys : List (Slot K R)) (low high : ℕ) (found : Option K) : Type 0 where
  pub long : length ys ≡ length xs
  pub others : (k : ℕ) (d : Slot K R) → ((p : ℕ) → low < p → p ≤ high → IndexAt m h p k → ⊥) → slice_index_or ys k d ≡ slice_index_or xs k d
  pub done : Ready m h xs low high found → (p : ℕ) → low < p → p ≤ high → RuleAt m h ys p
