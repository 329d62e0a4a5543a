-- A search that widens from leaf t on.
use Rattle.std.proofs.Common.{◌≡◌, ℕ, ◌+◌, ◌-◌, ◌<◌, ◌≤◌, subst, ⊎_elim, arith}
use Rattle.std.proofs.lemmas.Bool.{cases_lt}
use Rattle.leaf_rows.specs.Leaves.{distance}

module _ (F : ℕ → Type 0) (n t far : ℕ) (inv : (p : ℕ) → p < n → distance t p < far → F p → ⊥) where
  pub near_by : (r : ℕ) → distance t r ≡ far → (p : ℕ) → p < n → F p → distance t r ≤ distance t p
  near_by r e p l f = ⊎_elim (λ lt. absurd (inv p l lt f)) (λ ge. omega arith) (cases_lt (distance t p) far)

  pub tie_low : far ≤ t → (t + far < n → F (t + far) → ⊥) → (p : ℕ) → p < n → F p → distance t p ≡ distance t (t - far) → p ≤ t - far
  tie_low lf high p l f e =
      ⊎_elim (λ lt. let q : p ≡ t + far = omega arith in absurd (high (omega arith) (subst F q f))) (λ ge. ge) (cases_lt (t - far) p)

  pub wider : (t + far < n → F (t + far) → ⊥) → (far ≤ t → F (t - far) → ⊥) → (p : ℕ) → p < n → distance t p < far + 1 → F p → ⊥
  wider high low p l d f =
      ⊎_elim (λ lt. inv p l lt f)
      (λ far_off. ⊎_elim (λ lt. let q : p ≡ t - far = omega arith in low (omega arith) (subst F q f)) (λ ge. let q : p ≡ t + far = omega arith in high (omega arith) (subst F q f)) (cases_lt p t))
      (cases_lt (distance t p) far)
