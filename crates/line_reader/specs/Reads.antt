-- What a line asks for, or the first reason why it is refused, and at which field.
use Rattle.std.specs.Prelude.{ℕ, ◌+◌, cond, List, [], length, Some, None, Ok, Err, Option, Result, ◌==◌, nat_le, slice_index_or}
use Rattle.logs.specs.declared.species.Species.{Species}
use Rattle.logs.specs.declared.log.Place.{Place}
use Rattle.logs.specs.declared.log.Body.{Body}
use Rattle.logs.specs.declared.limits.Limits.{Limits}
use Rattle.logs.specs.declared.call.Call.TheVariants as call
use Rattle.logs.specs.Limits.{allows, tags, diameters, lengths, bays}
use Rattle.line_reader.specs.declared.request.Word.{Word}
use Rattle.line_reader.specs.declared.request.Word.TheVariants as word
use Rattle.line_reader.specs.declared.request.Reason.{Reason}
use Rattle.line_reader.specs.declared.request.Reason.TheVariants.{LongLine, UnknownWord, FieldCount, Unread, Outside, Reversed}
use Rattle.line_reader.specs.declared.request.Refused.{Refused}
use Rattle.line_reader.specs.declared.request.Request.{Request}
use Rattle.line_reader.specs.declared.request.Request.TheVariants as request
use Rattle.line_reader.specs.declared.draft.Draft.{Draft}
use Rattle.line_reader.specs.Reasons.{refusal}
use Rattle.line_reader.specs.Fields.{fields, word_of, number_of, letter_of, place_of}

-- what is read, or the first refusal
abbrev pub Read : Type 0 → Type 0
Read X = Result X Refused

infixl 20 ◌then◌
abbrev pub ◌then◌ : {X Y : Type 0} → Read X → (X → Read Y) → Read Y
◌then◌ (Ok x) f = f x
◌then◌ (Err e) f = Err e

abbrev pub refuse : {X : Type 0} → Reason → ℕ → Read X
refuse why k = Err (refusal why k)

abbrev pub known : {X : Type 0} → Option X → ℕ → Read X
known (Some x) k = Ok x
known None k = refuse Unread k

abbrev pub number_at : List (List ℕ) → ℕ → Read ℕ
number_at fs k = known (number_of (slice_index_or fs k [])) k

abbrev pub letter_at : List (List ℕ) → ℕ → Read Species
letter_at fs k = known (letter_of (slice_index_or fs k [])) k

abbrev pub place_at : List (List ℕ) → ℕ → Read Place
place_at fs k = known (place_of (slice_index_or fs k [])) k

abbrev pub within : Limits → ℕ → ℕ → Read ℕ
within limits n k = cond (allows limits n) (Ok n) (refuse Outside k)

-- a tag alone
abbrev pub tagged : List (List ℕ) → Read ℕ
tagged fs = number_at fs 1 then λ t. within tags t 1

-- a log's fields up to its bay, as they stand there
abbrev pub drafted : List (List ℕ) → Read Draft
drafted fs = number_at fs 1 then λ t. letter_at fs 2 then λ s. number_at fs 3 then λ d. number_at fs 4 then λ l. number_at fs 5 then λ b.
    Ok (record { tag = t; species = s; diameter = d; length = l; bay = b })

-- and each within its limits
abbrev pub fitted : Draft → Read (ℕ × Body)
fitted x = within tags x.tag 1 then λ t. within diameters x.diameter 3 then λ d. within lengths x.length 4 then λ l. within bays x.bay 5 then λ b.
    Ok (t, record { species = x.species; diameter = d; length = l; bay = b })

-- a species, a diameter, and a third field with limits of its own
abbrev pub sized : Limits → List (List ℕ) → Read (Species × ℕ × ℕ)
sized third fs = letter_at fs 1 then λ s. number_at fs 2 then λ d. number_at fs 3 then λ e. within diameters d 2 then λ d. within third e 3 then λ e. Ok (s, d, e)

-- how many fields follow the word
abbrev pub arity : Word → ℕ
arity word.Log = 6
arity word.Open = 0
arity word.Arrive = 5
arity word.Withdraw = 1
arity word.Call = 3
arity word.Saw = 1
arity word.Back = 1
arity word.Find = 1
arity word.List = 3

-- what as many fields as follow the word ask for: first their forms, then their limits
abbrev pub asks : Word → List (List ℕ) → Read Request
asks word.Log fs = drafted fs then λ x. place_at fs 6 then λ p. fitted x then λ y. Ok (request.Log (record { tag = y.0; rest = record { body = y.1; place = p } }))
asks word.Open fs = Ok request.Open
asks word.Arrive fs = drafted fs then λ x. fitted x then λ y. Ok (request.Call (call.Arrive y.0 y.1))
asks word.Withdraw fs = tagged fs then λ t. Ok (request.Call (call.Withdraw t))
asks word.Call fs = sized lengths fs then λ x. Ok (request.Call (call.Call x.0 x.1 x.2))
asks word.Saw fs = tagged fs then λ t. Ok (request.Call (call.Saw t))
asks word.Back fs = tagged fs then λ t. Ok (request.Call (call.Back t))
asks word.Find fs = tagged fs then λ t. Ok (request.Call (call.Find t))
asks word.List fs = sized diameters fs then λ x. cond (nat_le x.1 x.2) (Ok (request.Call (call.List x.0 x.1 x.2))) (refuse Reversed 3)

-- a word and its count of fields
abbrev pub worded : Option Word → List (List ℕ) → Read Request
worded None fs = refuse UnknownWord 0
worded (Some w) fs = cond (length fs == 1 + arity w) (asks w fs) (refuse FieldCount 0)

-- a line of at most 200 bytes
abbrev pub reads : List ℕ → Read Request
reads line = cond (nat_le (length line) 200) (worded (word_of (slice_index_or (fields line) 0 [])) (fields line)) (refuse LongLine 0)
