-- A pair of a row replaced or taken out, between the keys before it and those after it.
use Rattle.std.proofs.Common.{◌≡◌, ℕ, zero, suc, ◌<◌, Bool, true, false, cond, List, [], ◌∷◌, ◌++◌, length, get_or, Some, sym, refl, ap, ◌∙◌, arith}
use Rattle.std.proofs.lemmas.Bool.{cond-false}
use Rattle.ordered.specs.declared.slot.Slot.{Slot}
use Rattle.ordered.specs.Meaning.{Order, After, same, removed, updated, Before}
use Rattle.ordered.proofs.Rows.{lookup_after, removed_absent, updated_absent}
use Rattle.ordered.proofs.Lookups.{less_apart}
use Rattle.ordered.specs.Slots.{first_key}
use Rattle.ordered.proofs.Walks.{head_of}
use Rattle.ordered.proofs.Slots.{key_of}

module _ {K R : Type 0} {b : K → K → Bool} (o : Order b) (k : K) where
  pub removed_between : (ps qs rs : List (K × R)) → Before b k ps → After b k rs → removed b (ps ++ (qs ++ rs)) k ≡ ps ++ (removed b qs k ++ rs)
  removed_between [] [] rs h i = removed_absent b rs k (lookup_after o k rs i)
  removed_between [] (q ∷ qs) rs h i =
      elim (same b q.0 k) as (λ t. cond t (removed b (qs ++ rs) k) (q ∷ removed b (qs ++ rs) k) ≡ cond t (removed b qs k) (q ∷ removed b qs k) ++ rs)
      [ true ↦ removed_between [] qs rs h i | false ↦ ap (λ zs. q ∷ zs) (removed_between [] qs rs h i) ]
  removed_between (p ∷ ps) qs rs h i =
      cond-false (same b p.0 k) (removed b (ps ++ (qs ++ rs)) k) (p ∷ removed b (ps ++ (qs ++ rs)) k) (less_apart o p.0 k h.0) ∙ ap (λ zs. p ∷ zs) (removed_between ps qs rs h.1 i)

  pub updated_between : (v : R) (ps qs rs : List (K × R)) → Before b k ps → After b k rs → updated b (ps ++ (qs ++ rs)) k v ≡ ps ++ (updated b qs k v ++ rs)
  updated_between v [] [] rs h i = updated_absent b rs k v (lookup_after o k rs i)
  updated_between v [] (q ∷ qs) rs h i =
      elim (same b q.0 k) as (λ t. cond t ((q.0, v) ∷ updated b (qs ++ rs) k v) (q ∷ updated b (qs ++ rs) k v) ≡ cond t ((q.0, v) ∷ updated b qs k v) (q ∷ updated b qs k v) ++ rs)
      [ true ↦ ap (λ zs. (q.0, v) ∷ zs) (updated_between v [] qs rs h i) | false ↦ ap (λ zs. q ∷ zs) (updated_between v [] qs rs h i) ]
  updated_between v (p ∷ ps) qs rs h i =
      cond-false (same b p.0 k) ((p.0, v) ∷ updated b (ps ++ (qs ++ rs)) k v) (p ∷ updated b (ps ++ (qs ++ rs)) k v) (less_apart o p.0 k h.0) ∙ ap (λ zs. p ∷ zs) (updated_between v ps qs rs h.1 i)

-- replacing a value leaves the first key
pub updated_head : {K R : Type 0} (b : K → K → Bool) (k : K) (v : R) (row rest : List (K × R)) → key_of (head_of (updated b row k v ++ rest)) ≡ key_of (head_of (row ++ rest))
updated_head b k v [] rest = refl
updated_head b k v (p ∷ row) rest = elim (same b p.0 k) as (λ t. key_of (head_of (cond t ((p.0, v) ∷ updated b row k v) (p ∷ updated b row k v) ++ rest)) ≡ Some p.0) [ true ↦ refl | false ↦ refl ]

-- a filled slot hides what follows it
pub first_within : {K R : Type 0} (n : ℕ) (ss ts us : List (Slot K R)) → n < length ss → ((d : Slot K R) → (get_or ss n d).filled ≡ true) → first_key (ss ++ ts) ≡ first_key (ss ++ us)
first_within n [] ts us l f = absurd (omega (arith, l))
first_within zero (s ∷ ss) ts us l f = ap (λ t. cond t (Some s.key) (first_key (ss ++ ts))) (f s) ∙ sym (ap (λ t. cond t (Some s.key) (first_key (ss ++ us))) (f s))
first_within (suc n) (s ∷ ss) ts us l f = ap (cond s.filled (Some s.key)) (first_within n ss ts us (omega (arith, l)) f)
