-- What a desk answers while logs are loaded, and what it then has loaded.
use Rattle.std.specs.Prelude.{◌≡◌, ℕ, List, [], ◌∷◌, ◌++◌, Some, None, Ok, Err, Option, Result, slice_set}
use Rattle.logs.specs.declared.keys.Tag.{Tag}
use Rattle.logs.specs.declared.log.Log.{Log}
use Rattle.logs.specs.declared.log.Rest.{Rest}
use Rattle.logs.specs.Orders.{tag_before}
use Rattle.array_tree.specs.Filling.{capacity_of, place_of, feed_refusal, filled_with}
use Rattle.array_tree.specs.Trees.{row_of}
use Rattle.line_reader.specs.declared.request.Request.{Request}
use Rattle.line_reader.specs.declared.request.Request.TheVariants as request
use Rattle.line_reader.specs.Reads.{Read, reads}
use Rattle.yard_desk.specs.declared.loading_desk.LoadingDesk.{LoadingDesk}
use Rattle.yard_desk.specs.declared.refusal.Refusal.{Refusal}
use Rattle.yard_desk.specs.declared.refusal.Refusal.TheVariants.{Line, NotOpen}
use Rattle.yard_desk.specs.declared.reply.Reply.{Reply}
use Rattle.yard_desk.specs.declared.reply.Reply.TheVariants.{Done}
use Rattle.yard_desk.specs.Refusals.{refusal_number, refusal_position}

-- the logs loaded so far, in the order of their tags
abbrev pub loaded : LoadingDesk → List (Tag × Rest)
loaded d = row_of d.tags

-- how many logs it has room for
abbrev pub capacity : LoadingDesk → ℕ
capacity d = capacity_of d.tags.layout

abbrev pub key : Log → Tag
key x = record { 0 = x.tag }

-- the refusal of the loader that is due: 31 if the tag is not after the last, else 32 if the tree is full
abbrev pub due : LoadingDesk → Log → Option ℕ
due d x = feed_refusal tag_before (capacity d) (loaded d) (key x)

-- The log comes last of the loaded logs and fills the next leaf slot of the tag tree; no other slot changes.
pub record Loads (d : LoadingDesk) (x : Log) (d' : LoadingDesk) : Type 0 where
  pub row : loaded d' ≡ loaded d ++ ((key x, x.rest) ∷ [])
  pub slots : d'.tags.slots.now ≡ slice_set d.tags.slots.now (place_of d.tags.layout d.tags.count) (filled_with (key x) x.rest)
  pub layout : d'.tags.layout ≡ d.tags.layout

-- refused under the number, at no field
abbrev pub Refuses : ℕ → Result Reply Refusal → Type 0
Refuses n (Ok r) = ⊥
Refuses n (Err e) = (refusal_number e ≡ n) × (refusal_position e ≡ 0)

abbrev pub Logged : LoadingDesk → Log → Option ℕ → Result Reply Refusal → LoadingDesk → Type 0
Logged d x None r d' = (r ≡ Ok (Done x.tag)) × Loads d x d'
Logged d x (Some n) r d' = Refuses n r × (d' ≡ d)

-- by what the line says: the reader's refusal, a log to load, else 20
abbrev pub Asked : LoadingDesk → Read Request → Result Reply Refusal → LoadingDesk → Type 0
Asked d (Err e) r d' = (r ≡ Err (Line e)) × (d' ≡ d)
Asked d (Ok (request.Log x)) r d' = Logged d x (due d x) r d'
Asked d (Ok request.Open) r d' = (r ≡ Err NotOpen) × (d' ≡ d)
Asked d (Ok (request.Call c)) r d' = (r ≡ Err NotOpen) × (d' ≡ d)

abbrev pub Serves : LoadingDesk → List ℕ → Result Reply Refusal → LoadingDesk → Type 0
Serves d line r d' = Asked d (reads line) r d'
