-- What an open desk answers to a line: the yard's law, carried to the bytes.
use Rattle.std.specs.Prelude.{◌≡◌, ℕ, ◌≤◌, List, Ok, Err, Result}
use Rattle.ordered.specs.declared.index.OrderedIndex.{Ghosts}
use Rattle.logs.specs.declared.call.Call.{Call}
use Rattle.logs.specs.declared.call.Call.TheVariants as call
use Rattle.logs.specs.declared.keys.Size.{Size}
use Rattle.logs.specs.declared.keys.Tag.{Tag}
use Rattle.logs.specs.declared.log.Log.{Log}
use Rattle.logs.specs.declared.log.Place.TheVariants.{Standing}
use Rattle.logs.specs.declared.log.Rest.{Rest}
use Rattle.logs.specs.declared.species.Species.TheVariants.{Spruce}
use Rattle.log_yard.specs.declared.answer.Answer.{Answer}
use Rattle.log_yard.specs.declared.answer.Answer.TheVariants as answer
use Rattle.log_yard.specs.declared.refusal.Refusal.{Refusal as YardRefusal}
use Rattle.log_yard.specs.History.{Loaded, History}
use Rattle.log_yard.specs.Refusals.{refusal_number}
use Rattle.log_yard.specs.Tells.{Tells, Obeys, Stays}
use Rattle.line_reader.specs.declared.request.Request.{Request}
use Rattle.line_reader.specs.declared.request.Request.TheVariants as request
use Rattle.line_reader.specs.Reads.{Read, reads}
use Rattle.day_desk.specs.declared.open_desk.OpenDesk.{OpenDesk}
use Rattle.yard_desk.specs.declared.refusal.Refusal.{Refusal}
use Rattle.yard_desk.specs.declared.refusal.Refusal.TheVariants.{Line, AlreadyOpen, Yard}
use Rattle.yard_desk.specs.declared.reply.Reply.{Reply}
use Rattle.yard_desk.specs.declared.reply.Reply.TheVariants.{Done, Found, Listed}

-- what stands in a page before the first LIST
abbrev pub no_log : Log
no_log = record { tag = 0; rest = record { body = record { species = Spruce; diameter = 0; length = 0; bay = 0 }; place = Standing } }

-- the tag that a call names; CALL and LIST name none
abbrev pub tag_of : Call → ℕ
tag_of (call.Arrive t b) = t
tag_of (call.Withdraw t) = t
tag_of (call.Call s d l) = 0
tag_of (call.Saw t) = t
tag_of (call.Back t) = t
tag_of (call.Find t) = t
tag_of (call.List s d e) = 0

abbrev pub reply_to : Call → Answer → Reply
reply_to c answer.Done = Done (tag_of c)
reply_to c (answer.Found x) = Found x
reply_to c (answer.Listed n more) = Listed n more

-- what the yard answers to a call, as the desk replies it
abbrev pub replied : Call → Result Answer YardRefusal → Result Reply Refusal
replied c (Ok a) = Ok (reply_to c a)
replied c (Err e) = Err (Yard e)

module _ {T S : Type 0} (t : Ghosts T Tag Rest) (s : Ghosts S Size ℕ) where
  -- The reply is the yard's answer to the call. Whatever was loaded and called before, that answer is lawful, and the yard tells
  -- of it after. A refusal leaves the desk as it was, its page too, and is for the state of the yard: 21 to 26.
  pub record Performs (d : OpenDesk T S) (c : Call) (r : Result Reply Refusal) (d' : OpenDesk T S) : Type 0 where
    pub answer : Result Answer YardRefusal
    pub reply : r ≡ replied c answer
    pub obeys : Obeys t s d.yard (record { call = c; answer = answer; before = d.page; after = d'.page }) d'.yard
    pub still : Stays answer d d'
    pub state : (cap : ℕ) (ls : Loaded) (h : History) → Tells t s cap ls h d.yard → (e : YardRefusal) → answer ≡ Err e → 21 ≤ refusal_number e

  -- by what the line says: the reader's refusal, 27 for LOG and OPEN, else the yard's answer
  abbrev pub Asked : OpenDesk T S → Read Request → Result Reply Refusal → OpenDesk T S → Type 0
  Asked d (Err e) r d' = (r ≡ Err (Line e)) × (d' ≡ d)
  Asked d (Ok (request.Log x)) r d' = (r ≡ Err AlreadyOpen) × (d' ≡ d)
  Asked d (Ok request.Open) r d' = (r ≡ Err AlreadyOpen) × (d' ≡ d)
  Asked d (Ok (request.Call c)) r d' = Performs d c r d'

  abbrev pub Serves : OpenDesk T S → List ℕ → Result Reply Refusal → OpenDesk T S → Type 0
  Serves d line r d' = Asked d (reads line) r d'
