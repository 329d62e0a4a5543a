-- THE LAW with no word of what an index holds after the opening: a yard that is opened over the loaded logs answers the calls lawfully.
use Rattle.std.specs.Prelude.{◌≡◌, ℕ, min, List, [], length, take, drop, Ok, Err, Result}
use Rattle.ordered.specs.declared.index.OrderedIndex.{Ghosts}
use Rattle.logs.specs.declared.call.Call.{Call}
use Rattle.logs.specs.declared.keys.Size.{Size}
use Rattle.logs.specs.declared.keys.Tag.{Tag}
use Rattle.logs.specs.declared.log.Log.{Log}
use Rattle.logs.specs.declared.log.Rest.{Rest}
use Rattle.log_yard.specs.declared.answer.Answer.{Answer}
use Rattle.log_yard.specs.declared.opening.Unopened.{Unopened}
use Rattle.log_yard.specs.declared.refusal.Refusal.{Refusal}
use Rattle.log_yard.specs.History.{Event}
use Rattle.log_yard.specs.Law.{Runs}
use Rattle.log_yard.specs.Opens.{Ready, OpenDue}
use Rattle.log_yard.specs.Refusals.{open_number}

module _ {T S : Type 0} (t : Ghosts T Tag Rest) (s : Ghosts S Size ℕ) (x : T) (z : S) (calls : List Call) where
  -- The first n calls have lawful answers, and the other places for answers stay.
  abbrev pub Told : List (Result Answer Refusal) → List (Result Answer Refusal) → List Log → List Log → ℕ → Type 0
  Told old new p p' n =
      (n ≡ min (length calls) (length old)) × (drop n new ≡ drop n old)
      × ((es : List Event) × Runs (min (t.room x) (s.room z)) (t.row x) [] (take n calls) (take n new) p p' es)

  abbrev pub Served : {Y : Type 0} → List (Result Answer Refusal) → List (Result Answer Refusal) → List Log → List Log → Result (Y × ℕ) (Unopened T S) → Type 0
  Served old new p p' (Ok y) = Ready t s x z × Told old new p p' y.1
  Served old new p p' (Err u) = OpenDue t s x z (open_number u.refusal)

-- A refused opening leaves the places for answers and the page.
abbrev pub Untouched : {X E : Type 0} → Result X E → List (Result Answer Refusal) → List (Result Answer Refusal) → List Log → List Log → Type 0
Untouched (Ok y) old new p p' = Unit {0}
Untouched (Err u) old new p p' = (new ≡ old) × (p' ≡ p)
