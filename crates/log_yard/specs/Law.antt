-- The yard's law: what the next answer must be, from the loaded logs and the history alone.
use Rattle.std.specs.Prelude.{◌≡◌, ℕ, ◌≤◌, min, true, ◌⊎◌, List, [], ◌∷◌, ◌++◌, length, take, drop, Some, None, Ok, Err, Option, Result, ◌≢◌, nat_lt}
use Rattle.logs.specs.declared.call.Call.{Call}
use Rattle.logs.specs.declared.call.Call.TheVariants.{Arrive, Withdraw, Call as Calls, Saw, Back, Find, List as Lists}
use Rattle.logs.specs.declared.log.Body.{Body}
use Rattle.logs.specs.declared.log.Log.{Log}
use Rattle.logs.specs.declared.log.Place.TheVariants as place
use Rattle.logs.specs.declared.log.Rest.{Rest}
use Rattle.logs.specs.declared.species.Species.{Species}
use Rattle.logs.specs.Limits.{TagOk, DiameterOk, LengthOk, BodyOk}
use Rattle.logs.specs.Orders.{size_before}
use Rattle.log_yard.specs.declared.answer.Answer.{Answer}
use Rattle.log_yard.specs.declared.answer.Answer.TheVariants.{Done, Found, Listed}
use Rattle.log_yard.specs.declared.refusal.Refusal.{Refusal}
use Rattle.log_yard.specs.History.{Event, Loaded, History, log_at, present}
use Rattle.log_yard.specs.Refusals.{refusal_number, Refused}
use Rattle.log_yard.specs.Sizes.{size_of}

-- A standing log.
abbrev pub Stands : Loaded → History → ℕ → Body → Type 0
Stands ls h t b = log_at ls h t ≡ Some (record { body = b; place = place.Standing })

-- A log of the species that is at least as thick and as long.
abbrev pub Fits : Species → ℕ → ℕ → Body → Type 0
Fits s d l b = (b.species ≡ s) × (d ≤ b.diameter) × (l ≤ b.length)

-- A log of the species whose diameter is from d to e.
abbrev pub Between : Species → ℕ → ℕ → Body → Type 0
Between s d e b = (b.species ≡ s) × (d ≤ b.diameter) × (b.diameter ≤ e)

-- The logs are in size order.
abbrev pub Later : ℕ → Body → List Log → Type 0
Later t b [] = Unit {0}
Later t b (x ∷ xs) = (size_before (size_of t b) (size_of x.tag x.rest.body) ≡ true) × Later t b xs

abbrev pub InOrder : List Log → Type 0
InOrder [] = Unit {0}
InOrder (x ∷ xs) = Later x.tag x.rest.body xs × InOrder xs

abbrev pub Among : Log → List Log → Type 0
Among x [] = ⊥
Among x (y ∷ ys) = (x ≡ y) ⊎ Among x ys

-- xs is exactly the standing logs between, in size order.
pub record Listing (ls : Loaded) (h : History) (s : Species) (d e : ℕ) (xs : List Log) : Type 0 where
  pub ordered : InOrder xs
  pub each : (x : Log) → Among x xs → Stands ls h x.tag x.rest.body × (x.rest.place ≡ place.Standing) × Between s d e x.rest.body
  pub every : (t : ℕ) (b : Body) → Stands ls h t b → Between s d e b → Among (record { tag = t; rest = record { body = b; place = place.Standing } }) xs

-- FIND gives the log with its place: 22 absent.
abbrev pub found : ℕ → Option Rest → Result Answer Refusal → Type 0
found t None r = Refused 22 r
found t (Some x) r = r ≡ Ok (Found (record { tag = t; rest = x }))

-- WITHDRAW: 22 absent, 23 at the saw.
abbrev pub withdrawn : Option Rest → Result Answer Refusal → Type 0
withdrawn None r = Refused 22 r
withdrawn (Some x) r = elim x.place [ place.Standing ↦ r ≡ Ok Done | place.AtSaw ↦ Refused 23 r ]

-- SAW and BACK: 22 absent, 24 standing.
abbrev pub at_saw_only : Option Rest → Result Answer Refusal → Type 0
at_saw_only None r = Refused 22 r
at_saw_only (Some x) r = elim x.place [ place.Standing ↦ Refused 24 r | place.AtSaw ↦ r ≡ Ok Done ]

-- ARRIVE: 21 present, then 25 if the present logs equal the capacity.
abbrev pub arrived : ℕ → ℕ → Option Rest → Result Answer Refusal → Type 0
arrived cap n (Some x) r = Refused 21 r
arrived cap n None r = (n ≡ cap → Refused 25 r) × ((n ≢ cap) → r ≡ Ok Done)

-- CALL hands out a standing log that fits, before each other that fits; or 26, and none fits.
abbrev pub called : Loaded → History → Species → ℕ → ℕ → Result Answer Refusal → Type 0
called ls h s d l (Ok (Found x)) = Stands ls h x.tag x.rest.body × (x.rest.place ≡ place.AtSaw) × Fits s d l x.rest.body × ((t : ℕ) (b : Body) → Stands ls h t b → Fits s d l b → (t ≢ x.tag) → size_before (size_of x.tag x.rest.body) (size_of t b) ≡ true)
called ls h s d l (Ok Done) = ⊥
called ls h s d l (Ok (Listed n m)) = ⊥
called ls h s d l (Err e) = (refusal_number e ≡ 26) × ((t : ℕ) (b : Body) → Stands ls h t b → Fits s d l b → ⊥)

-- LIST writes the first of them, until 100 are written or the page is full; other entries of the page stay.
abbrev pub shown : List Log → List Log → ℕ
shown xs page = min (min 100 (length page)) (length xs)

abbrev pub listed : Loaded → History → Species → ℕ → ℕ → List Log → List Log → Result Answer Refusal → Type 0
listed ls h s d e page page' r =
    (xs : List Log) × Listing ls h s d e xs
    × (r ≡ Ok (Listed (shown xs page) (nat_lt (shown xs page) (length xs))))
    × (page' ≡ take (shown xs page) xs ++ drop (shown xs page) page)

-- What must hold does, or the call is refused under the number.
abbrev pub unless : ℕ → Type 0 → Result Answer Refusal → Type 0 → Type 0
unless n P r Q = (P → Q) × ((P → ⊥) → Refused n r)

abbrev pub answers : ℕ → Loaded → History → Call → Result Answer Refusal → List Log → List Log → Type 0
answers cap ls h (Arrive t b) r p p' = unless 14 (TagOk t × BodyOk b) r (arrived cap (present ls h) (log_at ls h t) r)
answers cap ls h (Withdraw t) r p p' = unless 14 (TagOk t) r (withdrawn (log_at ls h t) r)
answers cap ls h (Calls s d l) r p p' = unless 14 (DiameterOk d × LengthOk l) r (called ls h s d l r)
answers cap ls h (Saw t) r p p' = unless 14 (TagOk t) r (at_saw_only (log_at ls h t) r)
answers cap ls h (Back t) r p p' = unless 14 (TagOk t) r (at_saw_only (log_at ls h t) r)
answers cap ls h (Find t) r p p' = unless 14 (TagOk t) r (found t (log_at ls h t) r)
answers cap ls h (Lists s d e) r p p' = unless 14 (DiameterOk d × DiameterOk e) r (unless 15 (d ≤ e) r (listed ls h s d e p p' r))

-- The page stays, but for what an accepted LIST writes.
abbrev pub page_kept : Call → Result Answer Refusal → List Log → List Log → Type 0
page_kept c (Err e) p p' = p' ≡ p
page_kept (Lists s d e) (Ok a) p p' = Unit {0}
page_kept (Arrive t b) (Ok a) p p' = p' ≡ p
page_kept (Withdraw t) (Ok a) p p' = p' ≡ p
page_kept (Calls s d l) (Ok a) p p' = p' ≡ p
page_kept (Saw t) (Ok a) p p' = p' ≡ p
page_kept (Back t) (Ok a) p p' = p' ≡ p
page_kept (Find t) (Ok a) p p' = p' ≡ p

-- THE LAW of one call after a history.
pub record Lawful (cap : ℕ) (ls : Loaded) (h : History) (e : Event) : Type 0 where
  pub answered : answers cap ls h e.call e.answer e.before e.after
  pub page : page_kept e.call e.answer e.before e.after

-- Each event of the list, the oldest first, is lawful after those before it, and finds the page as the one before left it.
abbrev pub LawfulRun : ℕ → Loaded → History → List Log → List Event → List Log → Type 0
LawfulRun cap ls h p [] p' = p' ≡ p
LawfulRun cap ls h p (e ∷ es) p' = (e.before ≡ p) × Lawful cap ls h e × LawfulRun cap ls (e ∷ h) e.after es p'

-- the history after the list
abbrev pub extended : History → List Event → History
extended h [] = h
extended h (e ∷ es) = extended (e ∷ h) es

abbrev pub calls_of : List Event → List Call
calls_of [] = []
calls_of (e ∷ es) = e.call ∷ calls_of es

abbrev pub answers_of : List Event → List (Result Answer Refusal)
answers_of [] = []
answers_of (e ∷ es) = e.answer ∷ answers_of es

-- THE LAW of a whole run: the calls have these answers, each lawful after those before it.
pub record Runs (cap : ℕ) (ls : Loaded) (h : History) (calls : List Call) (answers : List (Result Answer Refusal)) (p p' : List Log) (es : List Event) : Type 0 where
  pub asked : calls_of es ≡ calls
  pub told : answers_of es ≡ answers
  pub lawful : LawfulRun cap ls h p es p'
