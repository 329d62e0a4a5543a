-- What an index S promises, by its row, its capacity and the rules that it keeps.
use Rattle.std.specs.Prelude.{◌≡◌, ℕ, Bool, List, Option, Result}
use Rattle.ordered.specs.declared.fault.Fault.{Fault}
use Rattle.ordered.specs.Changes.{put_refusal, absent_refusal, settled, Unmoved}
use Rattle.ordered.specs.Faults.{Outcome}
use Rattle.ordered.specs.Meaning.{Orderly, inserted, updated, removed}

module _ {S K R : Type 0} (row : S → List (K × R)) (room : S → ℕ) (kept : S → Type 0) (b : K → K → Bool) where
  -- The answer to a question is the one that the row gives, and the row is in order and within the capacity.
  pub record Answers {X : Type 0} (s : S) (r given : X) : Type 0 where
    pub gives : kept s → r ≡ given
    pub orderly : kept s → Orderly b (room s) (row s)

  -- A change from s to t is refused exactly as is due. Accepted it makes the row `new`; refused it changes nothing.
  -- The capacity never changes, and the rules stay kept.
  pub record Changes {X : Type 0} (s : S) (due : Option ℕ) (new : List (K × R)) (r : Result X Fault) (t : S) : Type 0 where
    pub outcome : kept s → Outcome due r
    pub after : kept s → row t ≡ settled r new (row s)
    pub unmoved : kept s → Unmoved r s t
    pub capacity : room t ≡ room s
    pub stays : kept s → kept t
    pub orderly : kept s → Orderly b (room s) (row s)

  abbrev pub Puts : {X : Type 0} → S → K → R → Result X Fault → S → Type 0
  Puts s k v r t = Changes s (put_refusal b (room s) (row s) k) (inserted b (row s) k v) r t

  abbrev pub Sets : {X : Type 0} → S → K → R → Result X Fault → S → Type 0
  Sets s k v r t = Changes s (absent_refusal b (row s) k) (updated b (row s) k v) r t

  abbrev pub Takes : {X : Type 0} → S → K → Result X Fault → S → Type 0
  Takes s k r t = Changes s (absent_refusal b (row s) k) (removed b (row s) k) r t
