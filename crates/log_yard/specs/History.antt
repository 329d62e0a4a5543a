-- Where each log is, from the loaded logs and the calls with their answers alone.
use Rattle.std.specs.Prelude.{ℕ, zero, suc, ◌+◌, Bool, cond, List, [], ◌∷◌, is_some, Some, None, Ok, Err, Option, Result, ◌==◌}
use Rattle.ordered.specs.Meaning.{lookup}
use Rattle.logs.specs.declared.call.Call.{Call}
use Rattle.logs.specs.declared.call.Call.TheVariants.{Arrive, Withdraw, Call as Calls, Saw, Back, Find, List as Lists}
use Rattle.logs.specs.declared.keys.Tag.{Tag}
use Rattle.logs.specs.declared.log.Body.{Body}
use Rattle.logs.specs.declared.log.Log.{Log}
use Rattle.logs.specs.declared.log.Place.TheVariants as place
use Rattle.logs.specs.declared.log.Rest.{Rest}
use Rattle.logs.specs.Orders.{tag_before}
use Rattle.log_yard.specs.declared.answer.Answer.{Answer}
use Rattle.log_yard.specs.declared.answer.Answer.TheVariants.{Done, Found, Listed}
use Rattle.log_yard.specs.declared.refusal.Refusal.{Refusal}

-- A call, its answer, and the page before and after it.
pub record Event : Type 0 where
  pub call : Call
  pub answer : Result Answer Refusal
  pub before : List Log
  pub after : List Log

-- A call that leaves the page as it is.
abbrev pub event : Call → Result Answer Refusal → List Log → Event
event c r p = record { call = c; answer = r; before = p; after = p }

-- The logs that were loaded.
abbrev pub Loaded : Type 0
Loaded = List (Tag × Rest)

-- The calls so far, the newest first.
abbrev pub History : Type 0
History = List Event

pub data Spot : Type 0 where
  standing at_saw gone : Spot

-- Where an accepted call puts the log with the tag t, if it changes that log.
abbrev pub puts_at : Call → Answer → ℕ → Option Spot
puts_at (Arrive tag b) a t = cond (t == tag) (Some standing) None
puts_at (Back tag) a t = cond (t == tag) (Some standing) None
puts_at (Withdraw tag) a t = cond (t == tag) (Some gone) None
puts_at (Saw tag) a t = cond (t == tag) (Some gone) None
puts_at (Calls s d l) (Found x) t = cond (t == x.tag) (Some at_saw) None
puts_at (Calls s d l) Done t = None
puts_at (Calls s d l) (Listed n m) t = None
puts_at (Find tag) a t = None
puts_at (Lists s d e) a t = None

-- What an accepted ARRIVE of the tag t gives of the log.
abbrev pub gives : Call → ℕ → Option Body
gives (Arrive tag b) t = cond (t == tag) (Some b) None
gives (Back tag) t = None
gives (Withdraw tag) t = None
gives (Saw tag) t = None
gives (Calls s d l) t = None
gives (Find tag) t = None
gives (Lists s d e) t = None

abbrev pub or_else : {X : Type 0} → Option X → Option X → Option X
or_else (Some x) o = Some x
or_else None o = o

abbrev pub value_or : {X : Type 0} → Option X → X → X
value_or (Some x) y = x
value_or None y = y

abbrev pub if_ok : {X : Type 0} → Result Answer Refusal → (Answer → Option X) → Option X
if_ok (Ok a) f = f a
if_ok (Err e) f = None

-- The last accepted change of the tag t.
abbrev pub last_change : History → ℕ → Option Spot
last_change [] t = None
last_change (e ∷ h) t = or_else (if_ok e.answer (λ a. puts_at e.call a t)) (last_change h t)

-- What the last accepted ARRIVE of the tag t gave.
abbrev pub last_given : History → ℕ → Option Body
last_given [] t = None
last_given (e ∷ h) t = or_else (if_ok e.answer (λ _. gives e.call t)) (last_given h t)

-- The log with the tag t as it was loaded.
abbrev pub loaded_at : Loaded → ℕ → Option Rest
loaded_at ls t = lookup tag_before ls (record { 0 = t })

abbrev pub body_of : Option Rest → Option Body
body_of None = None
body_of (Some r) = Some r.body

abbrev pub spot_of : Option Rest → Spot
spot_of None = gone
spot_of (Some r) = elim r.place [ place.Standing ↦ standing | place.AtSaw ↦ at_saw ]

-- Where the log with the tag t is: as its last accepted change says, else as it was loaded.
abbrev pub spot : Loaded → History → ℕ → Spot
spot ls h t = value_or (last_change h t) (spot_of (loaded_at ls t))

-- What it is: as its last accepted ARRIVE gave it, else as it was loaded.
abbrev pub body : Loaded → History → ℕ → Option Body
body ls h t = or_else (last_given h t) (body_of (loaded_at ls t))

abbrev pub placed : Option Body → Spot → Option Rest
placed None s = None
placed (Some b) standing = Some (record { body = b; place = place.Standing })
placed (Some b) at_saw = Some (record { body = b; place = place.AtSaw })
placed (Some b) gone = None

-- The log with the tag t, and its place, if it is present.
abbrev pub log_at : Loaded → History → ℕ → Option Rest
log_at ls h t = placed (body ls h t) (spot ls h t)

-- How many numbers below n pass the test.
unfoldable pub count_below : ℕ → (ℕ → Bool) → ℕ
count_below zero f = 0
count_below (suc n) f = cond (f n) 1 0 + count_below n f

-- The number of present logs.
abbrev pub present : Loaded → History → ℕ
present ls h = count_below 4294967296 (λ t. is_some (log_at ls h t))
