-- A tree that is searched, as an ordered index.
use Rattle.std.specs.Prelude.{◌≡◌, ℕ, zero, suc, Bool, cond, List, [], length, drop, Some, None, Option, Result, nat_le, MatchResult}
use Rattle.ordered.specs.declared.fault.Fault.{Fault}
use Rattle.ordered.specs.declared.key.Key.{Ghosts}
use Rattle.ordered.specs.declared.slot.Slot.{Slot}
use Rattle.ordered.specs.Slots.{countable, pairs}
use Rattle.tree_layout.specs.declared.layout.Layout.{Layout}
use Rattle.tree_layout.specs.Levels.{leaf_slots, tree_slots, area}
use Rattle.tree_index.specs.Standing.{Stands}
use Rattle.array_tree.specs.Filling.{capacity_of}
use Rattle.array_tree.specs.Trees.{row_of}
use Rattle.array_tree.specs.declared.filling_tree.FillingTree.{FillingTree}
use Rattle.array_tree.specs.declared.standing_tree.ArrayTree.{ArrayTree}

-- the greatest height up to k of a tree with m keys to a node that fits in n slots
unfoldable pub tallest : ℕ → ℕ → ℕ → Option ℕ
tallest m n zero = cond (nat_le (tree_slots m zero) n) (Some zero) None
tallest m n (suc k) = cond (nat_le (tree_slots m (suc k)) n) (Some (suc k)) (tallest m n k)

-- The height of a tree: the greatest that its slots allow. No tree has as many levels as slots.
abbrev pub height_in : ℕ → ℕ → Option ℕ
height_in m n = tallest m n n

abbrev pub height_of : {K R : Type 0} → ℕ → ArrayTree K R → Option ℕ
height_of m t = height_in m (countable (length t.slots.now))

-- a row too short for a tree has no leaf, no room and no rule
abbrev pub leaves_in : {X : Type 0} → ℕ → Option ℕ → List X → List X
leaves_in m None xs = []
leaves_in m (Some h) xs = area m h xs

abbrev pub room_for : ℕ → Option ℕ → ℕ
room_for m None = 0
room_for m (Some h) = leaf_slots m h

abbrev pub StandsIn : {K R : Type 0} → (K → K → Bool) → ℕ → Option ℕ → List (Slot K R) → Type 0
StandsIn b m None xs = Unit {0}
StandsIn b m (Some h) xs = Stands b m h xs

-- what a standing tree with m keys to a node keeps
pub record Standing {K R : Type 0} (b : K → K → Bool) (m : ℕ) (height : Option ℕ) (xs : List (Slot K R)) (room count : ℕ) : Type 0 where
  pub roomy : room ≡ room_for m height
  pub stands : StandsIn b m height xs
  pub counted : count ≡ length (pairs (leaves_in m height xs))

abbrev pub Keeps : {K R : Type 0} → (K → K → Bool) → ℕ → ArrayTree K R → Type 0
Keeps b m t = Standing b m (height_of m t) t.slots.now t.room t.count

abbrev pub row_in : {K R : Type 0} → ℕ → ArrayTree K R → List (K × R)
row_in m t = pairs (leaves_in m (height_of m t) t.slots.now)

abbrev pub room_in : {K R : Type 0} → ℕ → ArrayTree K R → ℕ
room_in m t = room_for m (height_of m t)

-- An accepted change does this to the slots of a tree of the height; a refused one leaves them. A row too short for a tree stays.
abbrev pub Does : {K R X : Type 0} → Option ℕ → (ℕ → List (Slot K R) → Type 0) → List (Slot K R) → Result X Fault → List (Slot K R) → Type 0
Does None does xs r ys = ys ≡ xs
Does (Some h) does xs r ys = MatchResult r (λ _. does h ys) (λ _. ys ≡ xs)

-- the slots of the levels above the leaves
abbrev pub base_of : Option Layout → ℕ
base_of None = 0
base_of (Some p) = p.base

-- closing fills the index slots, and touches no other
pub record Closed {K R : Type 0} {g : Ghosts K} (old : FillingTree K R g) (new : ArrayTree K R) : Type 0 where
  pub keeps : Keeps g.before g.WIDTH new
  pub row : row_in g.WIDTH new ≡ row_of old
  pub room : room_in g.WIDTH new ≡ capacity_of old.layout
  pub count : new.count ≡ old.count
  pub long : length new.slots.now ≡ length old.slots.now
  pub rest : drop (base_of old.layout) new.slots.now ≡ drop (base_of old.layout) old.slots.now
