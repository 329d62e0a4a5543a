-- A row cut in two at the place of a key.
use Rattle.std.proofs.Common.{◌≡◌, suc, ◌<◌, Bool, true, false, cond, not, ◌&&◌, List, [], ◌∷◌, take, drop, is_some, Some, refl, ap, arith}
use Rattle.std.proofs.lemmas.Bool.{both_ways}
use Rattle.ordered.specs.Meaning.{Order, After, Ascending, lookup, holds, Before}
use Rattle.ordered.proofs.Rows.{after_further}
use Rattle.slot_rows.proofs.Held.{at}
use Rattle.tree_layout.specs.Belongs.{Headed}

module _ {K R : Type 0} {b : K → K → Bool} (o : Order b) (k : K) where
  -- the keys before its place are before it, and those from there on after it where it is absent
  pub before_place : (row : List (K × R)) → Before b k (take (at o k row) row)
  before_place [] = tt
  before_place (p ∷ ps) = step (b p.0 k) refl (before_place ps)
    where
      step : (t : Bool) → b p.0 k ≡ t → Before b k (take (at o k ps) ps) → Before b k (take (cond t (suc (at o k ps)) 0) (p ∷ ps))
      step true e ih = (e, ih)
      step false e ih = tt

  pub after_place : (row : List (K × R)) → Ascending b row → holds b row k ≡ false → After b k (drop (at o k row) row)
  after_place [] a h = tt
  after_place (p ∷ ps) a h = step (b p.0 k) (b k p.0) refl refl h (after_place ps a.1)
    where
      step : (t u : Bool) → b p.0 k ≡ t → b k p.0 ≡ u → is_some (cond (not t && not u) (Some p.1) (lookup b ps k)) ≡ false → (holds b ps k ≡ false → After b k (drop (at o k ps) ps)) → After b k (drop (cond t (suc (at o k ps)) 0) (p ∷ ps))
      step true u e f h ih = ih h
      step false true e f h ih = (f, after_further o k p.0 ps f a.0)
      step false false e f h ih = absurd (both_ways true h refl)

  -- a row that begins with a key not after k, and lacks k, has a pair before its place
  pub place_some : (row : List (K × R)) → Headed b k row → holds b row k ≡ false → 0 < at o k row
  place_some [] h n = absurd h
  place_some (p ∷ ps) h n = step (b p.0 k) refl n
    where
      step : (t : Bool) → b p.0 k ≡ t → is_some (cond (not t && not (b k p.0)) (Some p.1) (lookup b ps k)) ≡ false → 0 < cond t (suc (at o k ps)) 0
      step true e n = omega arith
      step false e n = let z : is_some (cond (not (b k p.0)) (Some p.1) (lookup b ps k)) ≡ true = ap (λ u. is_some (cond (not u) (Some p.1) (lookup b ps k))) h in absurd (both_ways (is_some (cond (not (b k p.0)) (Some p.1) (lookup b ps k))) n z)
