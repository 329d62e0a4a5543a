-- A filling tree as it is made and fed.
use Rattle.std.specs.Prelude.{◌≡◌, ◌+◌, List, [], ◌∷◌, ◌++◌, Result, slice_set}
use Rattle.ordered.specs.declared.fault.Fault.{Fault}
use Rattle.ordered.specs.declared.key.Key.{Ghosts}
use Rattle.ordered.specs.declared.slot.Slot.{Slot}
use Rattle.ordered.specs.Changes.{settled, Unmoved}
use Rattle.ordered.specs.Faults.{Outcome}
use Rattle.array_tree.specs.declared.filling_tree.FillingTree.{FillingTree}
use Rattle.array_tree.specs.Filling.{Blanked, fed_row, slot_count, capacity_of, place_of, feed_refusal, filled_with}

module _ {K R : Type 0} {g : Ghosts K} where
  -- the pairs fed so far
  abbrev pub row_of : FillingTree K R g → List (K × R)
  row_of t = fed_row t.layout t.slots.now

  -- a tree just made in the row xs
  pub record Made (xs : List (Slot K R)) (t : FillingTree K R g) : Type 0 where
    pub row : row_of t ≡ []
    pub blanked : Blanked (slot_count t.layout) xs t.slots.now

  -- what feeding a pair answers, and does to the tree
  pub record Fed (k : K) (v : R) (r : Result (Unit {0}) Fault) (old new : FillingTree K R g) : Type 0 where
    pub outcome : Outcome (feed_refusal g.before (capacity_of old.layout) (row_of old) k) r
    pub row : row_of new ≡ settled r (row_of old ++ ((k, v) ∷ [])) (row_of old)
    pub slots : new.slots.now ≡ settled r (slice_set old.slots.now (place_of old.layout old.count) (filled_with k v)) old.slots.now
    pub layout : new.layout ≡ old.layout
    pub count : new.count ≡ settled r (old.count + 1) old.count
    pub unmoved : Unmoved r old new
