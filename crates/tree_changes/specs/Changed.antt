-- What a change of a standing tree with m keys to a node and h levels above its leaves answers and does.
use Rattle.std.specs.Prelude.{◌≡◌, ℕ, ◌+◌, ◌<◌, Bool, cond, List, drop, Option, Result, MatchResult, ◌==◌}
use Rattle.ordered.specs.declared.fault.Fault.{Fault}
use Rattle.ordered.specs.declared.slot.Slot.{Slot}
use Rattle.ordered.specs.Faults.{Outcome}
use Rattle.ordered.specs.Meaning.{inserted, updated, removed}
use Rattle.tree_layout.specs.Levels.{leaves, tree_slots, area}
use Rattle.tree_index.specs.Standing.{tree_row, Stands, Target}
use Rattle.leaf_rows.specs.Leaves.{Nearest, count_at}

-- how many pairs leaf p has
abbrev pub pairs_in : {K R : Type 0} → ℕ → ℕ → List (Slot K R) → ℕ → ℕ
pairs_in m h xs p = count_at m (area m h xs) p

-- The tree stands with this row, and the slots past it are as they were. With the number of pairs of each leaf this says what
-- every slot holds: a leaf has its share of the row in its first slots, and every index slot follows its rule.
pub record StandsWith {K R : Type 0} (b : K → K → Bool) (m h : ℕ) (xs : List (Slot K R)) (row : List (K × R)) (ys : List (Slot K R)) : Type 0 where
  pub row_is : tree_row m h ys ≡ row
  pub stands : Stands b m h ys
  pub beyond : drop (tree_slots m h) ys ≡ drop (tree_slots m h) xs

-- The pair is put in its place. Leaf r, the nearest to the target leaf t with a free slot, has one pair more, every other leaf as
-- many as before.
pub record Landed {K R : Type 0} (b : K → K → Bool) (m h : ℕ) (xs : List (Slot K R)) (k : K) (v : R) (ys : List (Slot K R)) : Type 0 where
  pub t : ℕ
  pub r : ℕ
  pub target : Target b m h xs k t
  pub nearest : Nearest m (leaves m h) (area m h xs) t r
  pub counts : (p : ℕ) → p < leaves m h → pairs_in m h ys p ≡ pairs_in m h xs p + cond (p == r) 1 0
  pub tree : StandsWith b m h xs (inserted b (tree_row m h xs) k v) ys

-- The value of the key is replaced, and every leaf has as many pairs as before.
pub record Replaced {K R : Type 0} (b : K → K → Bool) (m h : ℕ) (xs : List (Slot K R)) (k : K) (v : R) (ys : List (Slot K R)) : Type 0 where
  pub counts : (p : ℕ) → p < leaves m h → pairs_in m h ys p ≡ pairs_in m h xs p
  pub tree : StandsWith b m h xs (updated b (tree_row m h xs) k v) ys

-- The pair is taken out of its leaf, the target leaf t; every other leaf has as many pairs as before.
pub record Removed {K R : Type 0} (b : K → K → Bool) (m h : ℕ) (xs : List (Slot K R)) (k : K) (ys : List (Slot K R)) : Type 0 where
  pub t : ℕ
  pub target : Target b m h xs k t
  pub counts : (p : ℕ) → p < leaves m h → pairs_in m h xs p ≡ pairs_in m h ys p + cond (p == t) 1 0
  pub tree : StandsWith b m h xs (removed b (tree_row m h xs) k) ys

-- A change is refused as is due, and then no slot changes; accepted, it does this to the slots.
pub record Changed {K R X : Type 0} (due : Option ℕ) (does : List (Slot K R) → Type 0) (xs : List (Slot K R)) (r : Result X Fault) (ys : List (Slot K R)) : Type 0 where
  pub outcome : Outcome due r
  pub after : MatchResult r (λ _. does ys) (λ _. ys ≡ xs)
