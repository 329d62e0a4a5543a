-- What a desk that can be opened answers, and what it then has loaded.
use Rattle.std.specs.Prelude.{◌≡◌, ℕ, List, [], Ok, Err, Result, OnErr}
use Rattle.log_yard.specs.History.{present}
use Rattle.line_reader.specs.declared.request.Request.{Request}
use Rattle.line_reader.specs.declared.request.Request.TheVariants as request
use Rattle.line_reader.specs.Reads.{Read, reads}
use Rattle.yard_desk.specs.declared.refusal.Refusal.{Refusal}
use Rattle.yard_desk.specs.declared.refusal.Refusal.TheVariants.{Line, NotOpen}
use Rattle.yard_desk.specs.declared.reply.Reply.{Reply}
use Rattle.yard_desk.specs.declared.reply.Reply.TheVariants.{Opened}
use Rattle.yard_desk.specs.Loading.{loaded, due, Logged}
use Rattle.day_desk.specs.declared.opening_desk.OpeningDesk.{OpeningDesk}

-- by what the line says: the reader's refusal, a log to load, the number of logs present if the yard opens, else 20
abbrev pub Asked : OpeningDesk → Read Request → Result Reply Refusal → OpeningDesk → Type 0
Asked d (Err e) r d' = (r ≡ Err (Line e)) × (d' ≡ d)
Asked d (Ok (request.Log x)) r d' = Logged d.loader x (due d.loader x) r d'.loader × (d'.sizes ≡ d.sizes) × OnErr r (d' ≡ d)
Asked d (Ok request.Open) r d' = (r ≡ Ok (Opened (present (loaded d.loader) []))) × (d' ≡ d)
Asked d (Ok (request.Call c)) r d' = (r ≡ Err NotOpen) × (d' ≡ d)

abbrev pub Serves : OpeningDesk → List ℕ → Result Reply Refusal → OpeningDesk → Type 0
Serves d line r d' = Asked d (reads line) r d'
