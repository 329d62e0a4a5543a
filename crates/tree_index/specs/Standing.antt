-- A standing tree with m keys to a node and h levels above its leaves, and the leaf where a key belongs.
use Rattle.std.specs.Prelude.{◌≡◌, ℕ, ◌<◌, ◌≤◌, Bool, true, false, not, List, length, Some, None, Option}
use Rattle.ordered.specs.declared.slot.Slot.{Slot}
use Rattle.ordered.specs.Meaning.{Ascending}
use Rattle.ordered.specs.Slots.{pairs, Packed}
use Rattle.tree_layout.specs.Levels.{leaves, tree_slots, area, leaf_of}
use Rattle.tree_index.specs.Index.{index_key, RuleAt}

-- the ordered row of a tree: the pairs of its leaves
abbrev pub tree_row : {K R : Type 0} → ℕ → ℕ → List (Slot K R) → List (K × R)
tree_row m h xs = pairs (area m h xs)

-- what the slots of a standing tree keep
pub record Stands {K R : Type 0} (b : K → K → Bool) (m h : ℕ) (xs : List (Slot K R)) : Type 0 where
  pub fits : tree_slots m h ≤ length xs
  pub ascending : Ascending b (tree_row m h xs)
  pub packed : (p : ℕ) → p < leaves m h → Packed (leaf_of m h xs p)
  pub indexed : (p : ℕ) → RuleAt m h xs p

-- there is an index key, and it is not after the key
abbrev pub not_after : {K : Type 0} → (K → K → Bool) → K → Option K → Bool
not_after b key None = false
not_after b key (Some k) = not (b key k)

-- The target leaf of a key: the last leaf whose index key is not after the key, or leaf 0 where there is none.
pub record Target {K R : Type 0} (b : K → K → Bool) (m h : ℕ) (xs : List (Slot K R)) (key : K) (t : ℕ) : Type 0 where
  pub within : t < leaves m h
  pub low : 0 < t → not_after b key (index_key m h xs t) ≡ true
  pub high : (q : ℕ) → t < q → not_after b key (index_key m h xs q) ≡ false
