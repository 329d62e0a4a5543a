-- What a line says is within the limits, so that a yard refuses it only for its state.
use Rattle.std.proofs.Common.{◌≡◌, ℕ, ◌+◌, ◌≤◌, eqb, leb, List, [], length, get_or, IfOk, Some, None, Ok, Err, Option, ⊎_elim, arith}
use Rattle.std.proofs.lemmas.Result.{IfOk-at_ok}
use Rattle.std.proofs.lemmas.Bool.{cond_both, leb-true, and_parts, cases_eq}
use Rattle.logs.specs.declared.call.Call.{Call}
use Rattle.logs.specs.declared.call.Call.TheVariants as call
use Rattle.logs.specs.declared.limits.Limits.{Limits}
use Rattle.logs.specs.declared.log.Body.{Body}
use Rattle.logs.specs.declared.log.Log.{Log}
use Rattle.logs.specs.declared.log.Place.{Place}
use Rattle.logs.specs.declared.log.Place.TheVariants as place
use Rattle.logs.specs.declared.log.Rest.{Rest}
use Rattle.logs.specs.declared.species.Species.{Species}
use Rattle.logs.specs.Limits.{allows, tags, diameters, lengths, bays, Within, TagOk, DiameterOk, LengthOk, BayOk, BodyOk}
use Rattle.log_yard.specs.declared.answer.Answer.{Answer}
use Rattle.log_yard.specs.declared.answer.Answer.TheVariants as answer
use Rattle.log_yard.specs.declared.refusal.Refusal.{Refusal}
use Rattle.log_yard.specs.History.{Loaded, History, log_at, present}
use Rattle.log_yard.specs.Law.{answers, arrived, withdrawn, at_saw_only, found}
use Rattle.log_yard.specs.Refusals.{refusal_number}
use Rattle.line_reader.specs.declared.draft.Draft.{Draft}
use Rattle.line_reader.specs.declared.request.Request.{Request}
use Rattle.line_reader.specs.declared.request.Request.TheVariants as request
use Rattle.line_reader.specs.declared.request.Reason.TheVariants.{Outside, Reversed, FieldCount, LongLine}
use Rattle.line_reader.specs.declared.request.Word.{Word}
use Rattle.line_reader.specs.declared.request.Word.TheVariants as word
use Rattle.line_reader.specs.Fields.{fields, word_of}
use Rattle.line_reader.specs.Reads.{Read, ◌then◌, refuse, within, number_at, letter_at, place_at, tagged, drafted, fitted, sized, asks, arity, worded, reads}

-- a call within the limits
abbrev pub CallOk : Call → Type 0
CallOk (call.Arrive t b) = TagOk t × BodyOk b
CallOk (call.Withdraw t) = TagOk t
CallOk (call.Call s d l) = DiameterOk d × LengthOk l
CallOk (call.Saw t) = TagOk t
CallOk (call.Back t) = TagOk t
CallOk (call.Find t) = TagOk t
CallOk (call.List s d e) = DiameterOk d × DiameterOk e × (d ≤ e)

abbrev pub RequestOk : Request → Type 0
RequestOk (request.Log x) = TagOk x.tag × BodyOk x.rest.body
RequestOk request.Open = Unit {0}
RequestOk (request.Call c) = CallOk c

next : {X Y : Type 0} (P : X → Type 0) (Q : Y → Type 0) (r : Read X) (f : X → Read Y) → IfOk r P → ((x : X) → P x → IfOk (f x) Q) → IfOk (r then f) Q
next P Q (Ok x) f h g = g x h
next P Q (Err e) f h g = tt

any : {X Y : Type 0} (Q : Y → Type 0) (r : Read X) (f : X → Read Y) → ((x : X) → IfOk (f x) Q) → IfOk (r then f) Q
any Q (Ok x) f g = g x
any Q (Err e) f g = tt

made_within : (x : Limits) (n k : ℕ) → IfOk (within x n k) (Within x)
made_within x n k = cond_both (allows x n) (Ok n) (refuse Outside k) (λ r. IfOk r (Within x))
    (λ e. let p = and_parts (leb x.low n) (leb n x.high) e in (leb-true x.low n p.0, leb-true n x.high p.1))
    (λ e. tt)

made_tagged : (fs : List (List ℕ)) → IfOk (tagged fs) TagOk
made_tagged fs = any TagOk (number_at fs 1) (λ t. within tags t 1) (λ t. made_within tags t 1)

abbrev Fitted : ℕ × Body → Type 0
Fitted y = TagOk y.0 × BodyOk y.1

made_fitted : (x : Draft) → IfOk (fitted x) Fitted
made_fitted x =
    next TagOk Fitted (within tags x.tag 1) _ (made_within tags x.tag 1) (λ t ht.
    next DiameterOk Fitted (within diameters x.diameter 3) _ (made_within diameters x.diameter 3) (λ d hd.
    next LengthOk Fitted (within lengths x.length 4) _ (made_within lengths x.length 4) (λ l hl.
    next BayOk Fitted (within bays x.bay 5) _ (made_within bays x.bay 5) (λ b hb. (ht, (hd, hl, hb))))))

abbrev Sized : Limits → Species × ℕ × ℕ → Type 0
Sized third y = DiameterOk y.1 × Within third y.2

made_sized : (third : Limits) (fs : List (List ℕ)) → IfOk (sized third fs) (Sized third)
made_sized third fs =
    any (Sized third) (letter_at fs 1) _ (λ s. any (Sized third) (number_at fs 2) _ (λ d. any (Sized third) (number_at fs 3) _ (λ e.
    next DiameterOk (Sized third) (within diameters d 2) _ (made_within diameters d 2) (λ d hd.
    next (Within third) (Sized third) (within third e 3) _ (made_within third e 3) (λ e he. (hd, he))))))

tag_call : (f : ℕ → Call) (fs : List (List ℕ)) → ((t : ℕ) → TagOk t → CallOk (f t)) → IfOk (tagged fs then λ t. Ok (request.Call (f t))) RequestOk
tag_call f fs h = next TagOk RequestOk (tagged fs) _ (made_tagged fs) h

made_asks : (w : Word) (fs : List (List ℕ)) → IfOk (asks w fs) RequestOk
made_asks word.Log fs = any RequestOk (drafted fs) _ (λ x. any RequestOk (place_at fs 6) _ (λ p. next Fitted RequestOk (fitted x) _ (made_fitted x) (λ y h. h)))
made_asks word.Open fs = tt
made_asks word.Arrive fs = any RequestOk (drafted fs) _ (λ x. next Fitted RequestOk (fitted x) _ (made_fitted x) (λ y h. h))
made_asks word.Withdraw fs = tag_call call.Withdraw fs (λ t h. h)
made_asks word.Call fs = next (Sized lengths) RequestOk (sized lengths fs) _ (made_sized lengths fs) (λ y h. h)
made_asks word.Saw fs = tag_call call.Saw fs (λ t h. h)
made_asks word.Back fs = tag_call call.Back fs (λ t h. h)
made_asks word.Find fs = tag_call call.Find fs (λ t h. h)
made_asks word.List fs = next (Sized diameters) RequestOk (sized diameters fs) _ (made_sized diameters fs) (λ y h.
    cond_both (leb y.1 y.2) (Ok (request.Call (call.List y.0 y.1 y.2))) (refuse Reversed 3) (λ r. IfOk r RequestOk) (λ e. (h.0, h.1, leb-true y.1 y.2 e)) (λ e. tt))

made_worded : (o : Option Word) (fs : List (List ℕ)) → IfOk (worded o fs) RequestOk
made_worded None fs = tt
made_worded (Some w) fs = cond_both (eqb (length fs) (1 + arity w)) (asks w fs) (refuse FieldCount 0) (λ r. IfOk r RequestOk) (λ e. made_asks w fs) (λ e. tt)

made_reads : (line : List ℕ) → IfOk (reads line) RequestOk
made_reads line = cond_both (leb (length line) 200) (worded (word_of (get_or (fields line) 0 [])) (fields line)) (refuse LongLine 0) (λ r. IfOk r RequestOk) (λ e. made_worded (word_of (get_or (fields line) 0 [])) (fields line)) (λ e. tt)

-- what a line asks for is within the limits
pub read_within : (line : List ℕ) (q : Request) → reads line ≡ Ok q → RequestOk q
read_within line q e = IfOk-at_ok RequestOk e (made_reads line)

never : {X : Type 0} (e : Refusal) (a : Answer) → Err e ≡ Ok a → X
never e a p = let z : ◌≡◌ {A = ℕ} 0 1 = cc in absurd (omega arith)

at_saw_only_lem : (o : Option Rest) (e : Refusal) → at_saw_only o (Err e) → 21 ≤ refusal_number e
at_saw_only_lem None e h = omega (arith, h)
at_saw_only_lem (Some x) e h = placed x.body x.place h
  where
    placed : (b : Body) (p : Place) → at_saw_only (Some (record { body = b; place = p })) (Err e) → 21 ≤ refusal_number e
    placed b place.Standing h = omega (arith, h)
    placed b place.AtSaw h = never e answer.Done h

withdraw_only : (o : Option Rest) (e : Refusal) → withdrawn o (Err e) → 21 ≤ refusal_number e
withdraw_only None e h = omega (arith, h)
withdraw_only (Some x) e h = placed x.body x.place h
  where
    placed : (b : Body) (p : Place) → withdrawn (Some (record { body = b; place = p })) (Err e) → 21 ≤ refusal_number e
    placed b place.Standing h = never e answer.Done h
    placed b place.AtSaw h = omega (arith, h)

arrive_only : (cap n : ℕ) (o : Option Rest) (e : Refusal) → arrived cap n o (Err e) → 21 ≤ refusal_number e
arrive_only cap n (Some x) e h = omega (arith, h)
arrive_only cap n None e h = ⊎_elim (λ (q : n ≡ cap). omega (arith, h.0 q)) (λ (q : n ≡ cap → ⊥). never e answer.Done (h.1 q)) (cases_eq n cap)

find_only : (t : ℕ) (o : Option Rest) (e : Refusal) → found t o (Err e) → 21 ≤ refusal_number e
find_only t None e h = omega (arith, h)
find_only t (Some x) e h = never e (answer.Found (record { tag = t; rest = x })) h

-- a call within the limits is refused for the state of the yard
pub state_only : (cap : ℕ) (ls : Loaded) (h : History) (c : Call) (e : Refusal) (p p' : List Log) → CallOk c → answers cap ls h c (Err e) p p' → 21 ≤ refusal_number e
state_only cap ls h (call.Arrive t b) e p p' ok a = arrive_only cap (present ls h) (log_at ls h t) e (a.0 ok)
state_only cap ls h (call.Withdraw t) e p p' ok a = withdraw_only (log_at ls h t) e (a.0 ok)
state_only cap ls h (call.Call s d l) e p p' ok a = omega (arith, (a.0 ok).0)
state_only cap ls h (call.Saw t) e p p' ok a = at_saw_only_lem (log_at ls h t) e (a.0 ok)
state_only cap ls h (call.Back t) e p p' ok a = at_saw_only_lem (log_at ls h t) e (a.0 ok)
state_only cap ls h (call.Find t) e p p' ok a = find_only t (log_at ls h t) e (a.0 ok)
state_only cap ls h (call.List s d f) e p p' ok a = never e _ ((a.0 (ok.0, ok.1)).0 ok.2).2
