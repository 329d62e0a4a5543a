-- A call that the yard refuses.
use Rattle.std.proofs.Common.{◌≡◌, ℕ, ◌≤◌, List, Ok, Err, Result, sym, subst}
use Rattle.ordered.specs.declared.index.OrderedIndex.{Ghosts}
use Rattle.logs.specs.declared.call.Call.{Call}
use Rattle.logs.specs.declared.keys.Size.{Size}
use Rattle.logs.specs.declared.keys.Tag.{Tag}
use Rattle.logs.specs.declared.log.Log.{Log}
use Rattle.logs.specs.declared.log.Rest.{Rest}
use Rattle.log_yard.specs.declared.answer.Answer.{Answer}
use Rattle.log_yard.specs.declared.refusal.Refusal.{Refusal as YardRefusal}
use Rattle.log_yard.specs.declared.yard.Yard.{Yard}
use Rattle.log_yard.specs.Refusals.{refusal_number}
use Rattle.log_yard.specs.Tells.{Obeys}
use Rattle.line_reader.specs.declared.request.Request.TheVariants as request
use Rattle.line_reader.specs.Reads.{reads}
use Rattle.day_desk.specs.declared.open_desk.OpenDesk.{OpenDesk}
use Rattle.yard_desk.specs.declared.refusal.Refusal.{Refusal}
use Rattle.yard_desk.specs.declared.refusal.Refusal.TheVariants as refusal
use Rattle.yard_desk.specs.declared.reply.Reply.{Reply}
use Rattle.day_desk.specs.Open.{Asked, Serves}
use Rattle.day_desk.proofs.Limits.{read_within, state_only}

same_error : (e f : YardRefusal) → ◌≡◌ {A = Result Answer YardRefusal} (Err e) (Err f) → 21 ≤ refusal_number e → 21 ≤ refusal_number f
same_error e f p h = let q : e ≡ f = cc in subst (λ x. 21 ≤ refusal_number x) q h

module _ {T S : Type 0} (t : Ghosts T Tag Rest) (s : Ghosts S Size ℕ) where
  pub refused : (d : OpenDesk T S) (y : Yard T S) (p : List Log) (line : List ℕ) (c : Call) (e : YardRefusal) (r : Result Reply Refusal)
      → reads line ≡ Ok (request.Call c) → r ≡ Err (refusal.Yard e) → y ≡ d.yard → p ≡ d.page
      → Obeys t s d.yard (record { call = c; answer = Err e; before = d.page; after = p }) y
      → Serves t s d line r (record { yard = y; page = p })
  refused d y p line c e r says is ye pe law = subst (λ q. Asked t s d q r (record { yard = y; page = p })) (sym says) (record {
    answer = Err e;
    reply = is;
    obeys = law;
    still = λ i. record { yard = ye i; page = pe i };
    state = λ cap ls h tells f same. same_error e f same (state_only cap ls h c e d.page p (read_within line (request.Call c) says) (law cap ls h tells).0.answered);
  })
