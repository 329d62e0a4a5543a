-- The index slots of a tree with m keys to a node and h levels above its leaves: which leaf each speaks of, and what it says.
use Rattle.std.specs.Prelude.{◌≡◌, ℕ, suc, ◌+◌, ◌*◌, ◌^◌, ◌<◌, true, false, List, drop, Some, None, Option, slice_index_or}
use Rattle.ordered.specs.declared.slot.Slot.{Slot}
use Rattle.ordered.specs.Slots.{first_key}
use Rattle.tree_layout.specs.Levels.{starts, area}

-- the index key of leaf p: the first key found in leaf p or any later leaf
abbrev pub index_key : {K R : Type 0} → ℕ → ℕ → List (Slot K R) → ℕ → Option K
index_key m h xs p = first_key (drop (p * m) (area m h xs))

-- the slot of place i of node n of level j
abbrev pub place : ℕ → ℕ → ℕ → ℕ → ℕ
place m j n i = (starts m j + n) * m + i

-- Slot s is the index slot of leaf p: with p = (m + 1) ^ w * q, and q no multiple of m + 1, it is in level j = h - 1 - w,
-- node n = q / (m + 1) of that level, place i = q % (m + 1) - 1.
pub record IndexAt (m h p s : ℕ) : Type 0 where
  pub j : ℕ
  pub w : ℕ
  pub n : ℕ
  pub i : ℕ
  pub level : j + suc w ≡ h
  pub node : n < (m + 1) ^ j
  pub within : i < m
  pub leaf : (n * (m + 1) + suc i) * (m + 1) ^ w ≡ p
  pub at : s ≡ place m j n i

-- the slot names the key, or is blank where there is none; its value is free
abbrev pub Names : {K R : Type 0} → Slot K R → Option K → Type 0
Names s None = s.filled ≡ false
Names s (Some k) = (s.filled ≡ true) × (s.key ≡ k)

-- the rule of the index slot of leaf p: it names the index key of the leaf
abbrev pub RuleAt : {K R : Type 0} → ℕ → ℕ → List (Slot K R) → ℕ → Type 0
RuleAt {K} {R} m h xs p = (s : ℕ) (d : Slot K R) → IndexAt m h p s → Names (slice_index_or xs s d) (index_key m h xs p)
