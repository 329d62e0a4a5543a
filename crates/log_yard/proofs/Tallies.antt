-- How many values of a row pass a test, before and after a change.
use Rattle.std.proofs.Common.{◌≡◌, ℕ, suc, ◌+◌, ◌≤◌, Bool, true, false, cond, List, [], ◌∷◌, length, Some, refl, ap, subst, arith}
use Rattle.ordered.specs.Meaning.{Order, After, Ascending, same, lookup, inserted, removed, updated}
use Rattle.ordered.proofs.Rows.{same_is, lookup_after, removed_absent, updated_absent}
use Rattle.log_yard.specs.Sizes.{tally}

module _ {K R : Type 0} (f : R → Bool) where
  pub tally_inserted : (b : K → K → Bool) (row : List (K × R)) (k : K) (v : R) → tally f (inserted b row k v) ≡ cond (f v) 1 0 + tally f row
  tally_inserted b [] k v = refl
  tally_inserted b (p ∷ ps) k v =
      let ih = tally_inserted b ps k v in
      elim (b p.0 k) as (λ t. tally f (cond t (p ∷ inserted b ps k v) ((k, v) ∷ p ∷ ps)) ≡ cond (f v) 1 0 + (cond (f p.1) 1 0 + tally f ps)) [ true ↦ omega (arith, ih) | false ↦ refl ]

  pub tally_length : (row : List (K × R)) → tally f row ≤ length row
  tally_length [] = omega arith
  tally_length (p ∷ ps) =
      let ih = tally_length ps in
      elim (f p.1) as (λ t. cond t 1 0 + tally f ps ≤ suc (length ps)) [ true ↦ omega (arith, ih) | false ↦ omega (arith, ih) ]

module _ {K R : Type 0} {b : K → K → Bool} (o : Order b) (f : R → Bool) (k : K) (v : R) where
  pub tally_removed : (row : List (K × R)) → Ascending b row → lookup b row k ≡ Some v → tally f (removed b row k) + cond (f v) 1 0 ≡ tally f row
  tally_removed [] asc h = cc
  tally_removed (p ∷ ps) asc h = step p ps (same b p.0 k) refl asc.0 h (tally_removed ps asc.1)
    where
      step : (p : K × R) (ps : List (K × R)) (t : Bool) → same b p.0 k ≡ t → After b p.0 ps → cond t (Some p.1) (lookup b ps k) ≡ Some v → (lookup b ps k ≡ Some v → tally f (removed b ps k) + cond (f v) 1 0 ≡ tally f ps) → tally f (cond t (removed b ps k) (p ∷ removed b ps k)) + cond (f v) 1 0 ≡ cond (f p.1) 1 0 + tally f ps
      step p ps true s after h ih =
          let gone = lookup_after o k ps (subst (λ y. After b y ps) (same_is o p.0 k s) after) in
          let same_row = ap (tally f) (removed_absent b ps k gone) in
          let e : p.1 ≡ v = cc in
          let g : ◌≡◌ {A = ℕ} (cond (f p.1) 1 0) (cond (f v) 1 0) = ap (λ y. cond (f y) 1 0) e in
          omega (arith, same_row, g)
      step p ps false s after h ih = omega (arith, ih h)

  pub tally_updated : (w : R) (row : List (K × R)) → Ascending b row → lookup b row k ≡ Some v → tally f (updated b row k w) + cond (f v) 1 0 ≡ tally f row + cond (f w) 1 0
  tally_updated w [] asc h = cc
  tally_updated w (p ∷ ps) asc h = step w p ps (same b p.0 k) refl asc.0 h (tally_updated w ps asc.1)
    where
      step : (w : R) (p : K × R) (ps : List (K × R)) (t : Bool) → same b p.0 k ≡ t → After b p.0 ps → cond t (Some p.1) (lookup b ps k) ≡ Some v → (lookup b ps k ≡ Some v → tally f (updated b ps k w) + cond (f v) 1 0 ≡ tally f ps + cond (f w) 1 0) → tally f (cond t ((p.0, w) ∷ updated b ps k w) (p ∷ updated b ps k w)) + cond (f v) 1 0 ≡ cond (f p.1) 1 0 + tally f ps + cond (f w) 1 0
      step w p ps true s after h ih =
          let gone = lookup_after o k ps (subst (λ y. After b y ps) (same_is o p.0 k s) after) in
          let same_row = ap (tally f) (updated_absent b ps k w gone) in
          let e : p.1 ≡ v = cc in
          let g : ◌≡◌ {A = ℕ} (cond (f p.1) 1 0) (cond (f v) 1 0) = ap (λ y. cond (f y) 1 0) e in
          omega (arith, same_row, g)
      step w p ps false s after h ih = omega (arith, ih h)
