-- One call more of a run.
use Rattle.std.proofs.Common.{◌≡◌, ℕ, ◌+◌, ◌<◌, ◌≤◌, List, [], ◌∷◌, ◌++◌, length, get_or, take, drop, set, Result, sym, refl, ap, ◌∙◌, subst, arith}
use Rattle.std.proofs.lemmas.List.{take_all, take_more, take_more_set, drop-set-lt, drop-drop}
use Rattle.logs.specs.declared.log.Log.{Log}
use Rattle.ordered.specs.declared.index.OrderedIndex.{Ghosts}
use Rattle.logs.specs.declared.keys.Tag.{Tag}
use Rattle.logs.specs.declared.keys.Size.{Size}
use Rattle.logs.specs.declared.log.Rest.{Rest}
use Rattle.logs.specs.declared.call.Call.{Call}
use Rattle.log_yard.specs.declared.answer.Answer.{Answer}
use Rattle.log_yard.specs.declared.refusal.Refusal.{Refusal}
use Rattle.log_yard.specs.declared.yard.Yard.{Yard}
use Rattle.log_yard.specs.History.{Loaded, History, Event}
use Rattle.log_yard.specs.Law.{Lawful}
use Rattle.log_yard.specs.Tells.{Tells, Obeys, ObeysAll}
use Rattle.log_yard.specs.Law.{LawfulRun, extended, calls_of, answers_of}

calls_push : (es : List Event) (e : Event) → calls_of (es ++ (e ∷ [])) ≡ calls_of es ++ (e.call ∷ [])
calls_push [] e = refl
calls_push (x ∷ es) e = ap (λ z. x.call ∷ z) (calls_push es e)

answers_push : (es : List Event) (e : Event) → answers_of (es ++ (e ∷ [])) ≡ answers_of es ++ (e.answer ∷ [])
answers_push [] e = refl
answers_push (x ∷ es) e = ap (λ z. x.answer ∷ z) (answers_push es e)

extended_push : (h : History) (es : List Event) (e : Event) → extended h (es ++ (e ∷ [])) ≡ e ∷ extended h es
extended_push h [] e = refl
extended_push h (x ∷ es) e = extended_push (x ∷ h) es e

run_push : (cap : ℕ) (ls : Loaded) (h : History) (p p' : List Log) (es : List Event) (e : Event) → LawfulRun cap ls h p es p' → e.before ≡ p' → Lawful cap ls (extended h es) e → LawfulRun cap ls h p (es ++ (e ∷ [])) e.after
run_push cap ls h p p' [] e r b l = (b ∙ r, l, refl)
run_push cap ls h p p' (x ∷ es) e r b l = (r.0, r.1, run_push cap ls (x ∷ h) x.after p' es e r.2 b l)

module _ {T S : Type 0} (t : Ghosts T Tag Rest) (s : Ghosts S Size ℕ) where
  pub obeys_more : (y y' y'' : Yard T S) (cs : List Call) (rs : List (Result Answer Refusal)) (p p' : List Log) (e : Event) → e.before ≡ p' → ObeysAll t s y cs rs p p' y' → Obeys t s y' e y'' → ObeysAll t s y (cs ++ (e.call ∷ [])) (rs ++ (e.answer ∷ [])) p e.after y''
  obeys_more y y' y'' cs rs p p' e eb all one cap ls h told =
      let a = all cap ls h told in
      let b = one cap ls (extended h a.0) a.2 in (
        a.0 ++ (e ∷ []),
        record {
          asked = calls_push a.0 e ∙ ap (λ z. z ++ (e.call ∷ [])) a.1.asked;
          told = answers_push a.0 e ∙ ap (λ z. z ++ (e.answer ∷ [])) a.1.told;
          lawful = run_push cap ls h p p' a.0 e a.1.lawful eb b.0;
        },
        subst (λ z. Tells t s cap ls z y'') (sym (extended_push h a.0 e)) b.1,
      )

  pub obeys_next : (y y' y'' : Yard T S) (cs : List Call) (rs : List (Result Answer Refusal)) (i : ℕ) (d : Call) (r : Result Answer Refusal) (p₀ p p' : List Log) → i < length cs → i < length rs
      → ObeysAll t s y (take i cs) (take i rs) p₀ p y'
      → Obeys t s y' (record { call = get_or cs i d; answer = r; before = p; after = p' }) y''
      → ObeysAll t s y (take (i + 1) cs) (take (i + 1) (set rs i r)) p₀ p' y''
  obeys_next y y' y'' cs rs i d r p₀ p p' lc lr all one =
      subst (λ z. ObeysAll t s y z (take (i + 1) (set rs i r)) p₀ p' y'') (sym (take_more cs i d lc))
      (subst (λ z. ObeysAll t s y (take i cs ++ (get_or cs i d ∷ [])) z p₀ p' y'') (sym (take_more_set rs i r lr))
      (obeys_more y y' y'' (take i cs) (take i rs) p₀ p (record { call = get_or cs i d; answer = r; before = p; after = p' }) refl all one))

  -- every call is done
  pub obeys_whole : (y y' : Yard T S) (cs : List Call) (rs : List (Result Answer Refusal)) (p p' : List Log) (i n : ℕ) → length cs ≤ i → i ≡ n → ObeysAll t s y (take i cs) (take i rs) p p' y' → ObeysAll t s y cs (take n rs) p p' y'
  obeys_whole y y' cs rs p p' i n h e all = subst (λ z. ObeysAll t s y z (take n rs) p p' y') (take_all n cs (omega arith)) (subst (λ m. ObeysAll t s y (take m cs) (take m rs) p p' y') e all)

-- the answers that are not written yet
pub rest_next : (old rs : List (Result Answer Refusal)) (i : ℕ) (r : Result Answer Refusal) → drop i rs ≡ drop i old → drop (i + 1) (set rs i r) ≡ drop (i + 1) old
rest_next old rs i r e = drop-set-lt (i + 1) rs i r (omega arith) ∙ sym (drop-drop 1 i rs) ∙ ap (drop 1) e ∙ drop-drop 1 i old
