-- A change that nothing stands against is done.
use Rattle.std.proofs.Common.{◌≡◌, ℕ, ◌<◌, Bool, cond, eqb, List, length, is_some, Some, None, Ok, Err, Option, Result, refl, ap, ◌∙◌, subst, arith}
use Rattle.std.proofs.lemmas.Bool.{ne_eqb}
use Rattle.ordered.specs.declared.fault.Fault.{Fault}
use Rattle.ordered.specs.Changes.{settled}
use Rattle.ordered.specs.Faults.{Outcome}
use Rattle.ordered.specs.Meaning.{lookup, inserted, updated, removed}
use Rattle.ordered.specs.Promises.{Puts, Sets, Takes}

settled_new : {X Y : Type 0} (due : Option ℕ) (r : Result X Fault) (new old : Y) → due ≡ None → Outcome due r → settled r new old ≡ new
settled_new due (Ok x) new old e o = refl
settled_new {X} due (Err f) new old e o = absurd (subst (λ d. Outcome {X = X} d (Err f)) e o)

module _ {S K R X : Type 0} (row : S → List (K × R)) (room : S → ℕ) (kept : S → Type 0) (b : K → K → Bool) (s t : S) (k : K) (r : Result X Fault) (ks : kept s) where
  pub put_done : (v : R) → Puts row room kept b s k v r t → lookup b (row s) k ≡ None → length (row s) < room s → row t ≡ inserted b (row s) k v
  put_done v puts absent few =
      puts.after ks ∙ settled_new _ r (inserted b (row s) k v) (row s)
      (ap (λ o. cond (is_some o) (Some 33) (cond (eqb (length (row s)) (room s)) (Some 32) None)) absent
      ∙ ap (λ c. cond c (Some 32) None) (ne_eqb (length (row s)) (room s) (λ e. omega (arith, e, few))))
      (puts.outcome ks)

  pub set_done : (v w : R) → Sets row room kept b s k w r t → lookup b (row s) k ≡ Some v → row t ≡ updated b (row s) k w
  set_done v w sets there = sets.after ks ∙ settled_new _ r (updated b (row s) k w) (row s) (ap (λ o. cond (is_some o) None (Some 34)) there) (sets.outcome ks)

  pub take_done : (v : R) → Takes row room kept b s k r t → lookup b (row s) k ≡ Some v → row t ≡ removed b (row s) k
  take_done v takes there = takes.after ks ∙ settled_new _ r (removed b (row s) k) (row s) (ap (λ o. cond (is_some o) None (Some 34)) there) (takes.outcome ks)
