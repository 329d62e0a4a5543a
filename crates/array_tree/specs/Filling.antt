-- A tree that is being filled: its pairs stand in the leaf slots from the first on, and the slots above are blank.
use Rattle.std.specs.Prelude.{◌≡◌, ℕ, ◌+◌, Bool, true, cond, List, [], ◌∷◌, length, take, drop, Some, None, Option, ◌==◌}
use Rattle.ordered.specs.declared.slot.Slot.{Slot}
use Rattle.ordered.specs.Meaning.{Ascending}
use Rattle.ordered.specs.Slots.{countable, pairs, Blank, Holds}
use Rattle.tree_layout.specs.declared.layout.Layout.{Layout}
use Rattle.tree_layout.specs.Levels.{leaf_slots, tree_slots, area}
use Rattle.tree_layout.specs.Rows.{LayoutOf}

-- A row too short for a tree has no layout: no slots, and room for no pair.
abbrev pub slot_count : Option Layout → ℕ
slot_count None = 0
slot_count (Some p) = tree_slots p.width p.height

abbrev pub capacity_of : Option Layout → ℕ
capacity_of None = 0
capacity_of (Some p) = leaf_slots p.width p.height

-- the slots of the levels above the leaves
abbrev pub index_slots : {X : Type 0} → Option Layout → List X → List X
index_slots None xs = []
index_slots (Some p) xs = take p.base xs

-- the slots of the leaves
abbrev pub leaf_area : {X : Type 0} → Option Layout → List X → List X
leaf_area None xs = []
leaf_area (Some p) xs = area p.width p.height xs

-- the pairs fed so far
abbrev pub fed_row : {K R : Type 0} → Option Layout → List (Slot K R) → List (K × R)
fed_row layout xs = pairs (leaf_area layout xs)

-- what a filling tree with m keys to a node keeps
pub record Filling {K R : Type 0} (b : K → K → Bool) (m : ℕ) (xs : List (Slot K R)) (layout : Option Layout) (count : ℕ) : Type 0 where
  pub laid : LayoutOf m (countable (length xs)) layout
  pub above : Blank (index_slots layout xs)
  pub packed : Holds (fed_row layout xs) (leaf_area layout xs)
  pub ascending : Ascending b (fed_row layout xs)
  pub counted : count ≡ length (fed_row layout xs)

-- the first n slots are blanked, and no other is touched
pub record Blanked {K R : Type 0} (n : ℕ) (old new : List (Slot K R)) : Type 0 where
  pub blank : Blank (take n new)
  pub rest : drop n new ≡ drop n old
  pub long : length new ≡ length old

-- whether k may follow the last key of a row
abbrev pub follows : {K R : Type 0} → (K → K → Bool) → List (K × R) → K → Bool
follows b [] k = true
follows b (p ∷ []) k = b p.0 k
follows b (p ∷ (q ∷ ps)) k = follows b (q ∷ ps) k

-- 31 if the key is not after the last, else 32 if the leaves are full
abbrev pub feed_refusal : {K R : Type 0} → (K → K → Bool) → ℕ → List (K × R) → K → Option ℕ
feed_refusal b room row k = cond (follows b row k) (cond (length row == room) (Some 32) None) (Some 31)

abbrev pub filled_with : {K R : Type 0} → K → R → Slot K R
filled_with k v = record { filled = true; key = k; value = v }

-- where pair number n goes
abbrev pub place_of : Option Layout → ℕ → ℕ
place_of None n = n
place_of (Some p) n = p.base + n
