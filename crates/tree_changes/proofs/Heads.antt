-- The first slots of leaves, gone through from the last leaf down.
use Rattle.std.proofs.Common.{◌≡◌, ℕ, ◌<◌, ◌≤◌, true, false, List, length, get_or, Some, None, Option, MatchOption, subst, sym, arith}
use Rattle.std.specs.Option.{unwrap_or}
use Rattle.ordered.specs.declared.slot.Slot.{Slot}

module _ {K R : Type 0} (xs : List (Slot K R)) (at : ℕ → ℕ) where
  -- the slot `at p` is in the row, and filled or blank
  abbrev pub FilledAt : ℕ → Type 0
  FilledAt p = (d : Slot K R) → at p < length xs → (get_or xs (at p) d).filled ≡ true

  abbrev pub BlankAt : ℕ → Type 0
  BlankAt p = (d : Slot K R) → at p < length xs → (get_or xs (at p) d).filled ≡ false

  -- the last leaf that has a pair, or else leaf 0
  pub last_filled : (n leaf : ℕ) (r : Option ℕ) → n ≡ unwrap_or r 0 → ((p : ℕ) → p < leaf → at p < length xs) → MatchOption r ((p : ℕ) → p < leaf → BlankAt p) (λ i. (i < leaf) × FilledAt i × ((p : ℕ) → i < p → p < leaf → BlankAt p))
      → (n ≤ leaf) × (0 < n → (n < leaf) × ((d : Slot K R) → (get_or xs (at n) d).filled ≡ true)) × ((p : ℕ) (d : Slot K R) → n < p → p < leaf → (get_or xs (at p) d).filled ≡ false)
  last_filled n leaf None e fits h = (omega arith, λ l. absurd (omega (arith, l, e)), λ p d a b. h p b d (fits p b))
  last_filled n leaf (Some i) e fits h = (
    omega (arith, e, h.0),
    λ l. (omega (arith, e, h.0), subst (λ p. (d : Slot K R) → (get_or xs (at p) d).filled ≡ true) (sym e) (λ d. h.1 d (fits i h.0))),
    λ p d a b. h.2 p (omega (arith, a, e)) b d (fits p b),
  )
