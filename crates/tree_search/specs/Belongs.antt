-- The target leaf of a key is the one leaf where the key can be.
use Rattle.std.specs.Prelude.{◌≡◌, ℕ, Bool, List}
use Rattle.ordered.specs.declared.slot.Slot.{Slot}
use Rattle.ordered.specs.Meaning.{lookup}
use Rattle.ordered.specs.Slots.{pairs}
use Rattle.tree_layout.specs.Belongs.{Belongs}
use Rattle.tree_layout.specs.Levels.{leaves, area, leaf_of}
use Rattle.tree_index.specs.Standing.{tree_row, Stands, Target}

-- the key belongs in leaf t, and so it is in the row exactly where it is in that leaf
pub record OnlyIn {K R : Type 0} (b : K → K → Bool) (m h : ℕ) (xs : List (Slot K R)) (key : K) (t : ℕ) : Type 0 where
  pub belongs : Belongs b m (leaves m h) (area m h xs) key t
  pub here : lookup b (tree_row m h xs) key ≡ lookup b (pairs (leaf_of m h xs t)) key

abbrev pub OneLeaf : (K R : Type 0) → (K → K → Bool) → Type 0
OneLeaf K R b = (m h : ℕ) (xs : List (Slot K R)) (key : K) (t : ℕ) → Stands b m h xs → Target b m h xs key t → OnlyIn b m h xs key t
