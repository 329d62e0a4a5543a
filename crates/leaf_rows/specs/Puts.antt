-- What putting a pair into the leaves answers and does.
use Rattle.std.specs.Prelude.{◌≡◌, ℕ, ◌*◌, Bool, List, Ok, Err, Result}
use Rattle.ordered.specs.declared.fault.Fault.{Fault}
use Rattle.ordered.specs.declared.slot.Slot.{Slot}
use Rattle.ordered.specs.Changes.{put_refusal}
use Rattle.ordered.specs.Faults.{Outcome}
use Rattle.ordered.specs.Slots.{pairs}
use Rattle.leaf_rows.specs.declared.placing.Span.{Span}
use Rattle.leaf_rows.specs.Leaves.{PutIn}

-- the slots after a put: as they were if it is refused
abbrev pub After : {K R : Type 0} → (K → K → Bool) → ℕ → ℕ → List (Slot K R) → K → R → ℕ → Result Span Fault → List (Slot K R) → Type 0
After b m n ys k v t (Ok span) zs = PutIn b m n ys k v t span.low span.high zs
After b m n ys k v t (Err f) zs = zs ≡ ys

pub record Puts {K R : Type 0} (b : K → K → Bool) (m n : ℕ) (ys : List (Slot K R)) (k : K) (v : R) (t : ℕ) (r : Result Span Fault) (zs : List (Slot K R)) : Type 0 where
  pub outcome : Outcome (put_refusal b (n * m) (pairs ys) k) r
  pub after : After b m n ys k v t r zs
