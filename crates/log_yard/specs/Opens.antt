-- What the opening of a yard comes to.
use Rattle.std.specs.Prelude.{◌≡◌, ℕ, ◌<◌, ◌≤◌, min, ◌⊎◌, List, [], length, Some, None, Ok, Err, Option, Result, ◌≢◌}
use Rattle.ordered.specs.declared.index.OrderedIndex.{Ghosts}
use Rattle.ordered.specs.Meaning.{lookup}
use Rattle.logs.specs.declared.keys.Size.{Size}
use Rattle.logs.specs.declared.keys.Tag.{Tag}
use Rattle.logs.specs.declared.log.Rest.{Rest}
use Rattle.logs.specs.Limits.{TagOk, BodyOk}
use Rattle.logs.specs.Orders.{size_before}
use Rattle.log_yard.specs.declared.opening.Unopened.{Unopened}
use Rattle.log_yard.specs.declared.refusal.OpenRefusal.{OpenRefusal}
use Rattle.log_yard.specs.declared.yard.Yard.{Yard}
use Rattle.log_yard.specs.Refusals.{open_number}
use Rattle.log_yard.specs.Sizes.{stands, tally}
use Rattle.log_yard.specs.Tells.{at, bay_at, Tells}

-- each log of the row is within the limits
abbrev pub AllFit : List (Tag × Rest) → Type 0
AllFit row = (t : ℕ) (r : Rest) → at row t ≡ Some r → TagOk t × BodyOk r.body

-- the size index has exactly the standing logs of the row
pub record Stood (tags : List (Tag × Rest)) (sizes : List (Size × ℕ)) : Type 0 where
  pub bays : (k : Size) → lookup size_before sizes k ≡ bay_at (at tags k.tag) k
  pub count : length sizes ≡ tally stands tags

-- the sizes, filled from the row
pub record Fills {S : Type 0} (s : Ghosts S Size ℕ) (tags : List (Tag × Rest)) (old new : S) : Type 0 where
  pub sizes_kept : s.kept new
  pub room : s.room new ≡ s.room old
  pub stood : Stood tags (s.row new)

-- A refused opening gives both indexes back as they were.
abbrev pub GivesBack : {T S Y : Type 0} → T → S → Result Y (Unopened T S) → Type 0
GivesBack x z (Ok y) = Unit {0}
GivesBack x z (Err u) = (u.tags ≡ x) × (u.sizes ≡ z)

module _ {T S : Type 0} (t : Ghosts T Tag Rest) (s : Ghosts S Size ℕ) (x : T) (z : S) where
  -- the sequence of the checks: 28, then 30, then 29
  abbrev pub OpenDue : ℕ → Type 0
  OpenDue n =
      ((n ≡ 28) × (s.row z ≢ []))
      ⊎ (((n ≡ 30) × (s.row z ≡ []) × (s.room z < length (t.row x)))
      ⊎ ((n ≡ 29) × (s.row z ≡ []) × (length (t.row x) ≤ s.room z) × (AllFit (t.row x) → ⊥)))

  -- nothing stands against it: the logs are within the capacity of the yard
  abbrev pub Ready : Type 0
  Ready = (s.row z ≡ []) × (length (t.row x) ≤ min (t.room x) (s.room z)) × AllFit (t.row x)

  abbrev pub Checked : Option OpenRefusal → Type 0
  Checked None = Ready
  Checked (Some e) = OpenDue (open_number e)

  -- An opened yard tells the loaded logs, with no call yet.
  abbrev pub Opens : Result (Yard T S) (Unopened T S) → Type 0
  Opens (Ok y) = Ready × Tells t s (min (t.room x) (s.room z)) (t.row x) [] y
  Opens (Err u) = OpenDue (open_number u.refusal)
