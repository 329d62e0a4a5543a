-- Looking up, inserting and removing in a row of pairs.
use Rattle.std.proofs.Common.{◌≡◌, suc, Bool, true, false, cond, not, ◌&&◌, List, [], ◌∷◌, length, is_some, Some, None, Option, refl, ap, ◌∙◌, subst, ⊎_elim}
use Rattle.std.proofs.lemmas.Bool.{both_ways, and_parts, not-true, cases_Bool, cond-false}
use Rattle.ordered.specs.Meaning.{Order, After, Ascending, same, lookup, holds, first, inserted, removed, updated}

-- the laws of a key kind, as one
pub order : {K : Type 0} {b : K → K → Bool} → ((x : K) → b x x ≡ false) → ((x y z : K) → b x y ≡ true → b y z ≡ true → b x z ≡ true) → ((x y : K) → b x y ≡ false → b y x ≡ false → x ≡ y) → Order b
order i t c = record { irreflexive = i; transitive = t; total = c }

module _ {K R : Type 0} (b : K → K → Bool) where
  pub length_inserted : (row : List (K × R)) (k : K) (v : R) → length (inserted b row k v) ≡ suc (length row)
  length_inserted [] k v = refl
  length_inserted (p ∷ ps) k v = elim (b p.0 k) as (λ t. length (cond t (p ∷ inserted b ps k v) ((k, v) ∷ p ∷ ps)) ≡ suc (suc (length ps))) [ true ↦ ap suc (length_inserted ps k v) | false ↦ refl ]

  pub length_updated : (row : List (K × R)) (k : K) (v : R) → length (updated b row k v) ≡ length row
  length_updated [] k v = refl
  length_updated (p ∷ ps) k v = elim (same b p.0 k) as (λ t. length (cond t ((p.0, v) ∷ updated b ps k v) (p ∷ updated b ps k v)) ≡ suc (length ps)) [ true ↦ ap suc (length_updated ps k v) | false ↦ ap suc (length_updated ps k v) ]

  pub absent_there : (row : List (K × R)) (k : K) → holds b row k ≡ false → lookup b row k ≡ None
  absent_there row k h = none_in (lookup b row k) h
    where
      none_in : (w : Option R) → is_some w ≡ false → w ≡ None
      none_in (Some v) e = let z : true ≡ false = e in absurd (both_ways true z refl)
      none_in None e = refl

  pub first_same : (f g : K → Bool) (row : List (K × R)) → ((k : K) → f k ≡ g k) → first f row ≡ first g row
  first_same f g [] e = refl
  first_same f g (p ∷ ps) e = ap (λ t. cond t (Some p) (first f ps)) (e p.0) ∙ ap (cond (g p.0) (Some p)) (first_same f g ps e)

  cut_absent : (p : K × R) (rest : List (K × R)) (t : Bool) (w : Option R) → cond t (Some p.1) w ≡ None → cond t rest (p ∷ rest) ≡ p ∷ rest
  cut_absent p rest true w h = cc
  cut_absent p rest false w h = refl

  tail_absent : (v : R) (t : Bool) (w : Option R) → cond t (Some v) w ≡ None → w ≡ None
  tail_absent v true w h = cc
  tail_absent v false w h = h

  pub removed_absent : (row : List (K × R)) (k : K) → lookup b row k ≡ None → removed b row k ≡ row
  removed_absent [] k h = refl
  removed_absent (p ∷ ps) k h =
      cut_absent p (removed b ps k) (same b p.0 k) (lookup b ps k) h ∙ ap (◌∷◌ p) (removed_absent ps k (tail_absent p.1 (same b p.0 k) (lookup b ps k) h))

  set_absent : (p q : K × R) (rest : List (K × R)) (t : Bool) (w : Option R) → cond t (Some p.1) w ≡ None → cond t (q ∷ rest) (p ∷ rest) ≡ p ∷ rest
  set_absent p q rest true w h = cc
  set_absent p q rest false w h = refl

  pub updated_absent : (row : List (K × R)) (k : K) (v : R) → lookup b row k ≡ None → updated b row k v ≡ row
  updated_absent [] k v h = refl
  updated_absent (p ∷ ps) k v h =
      set_absent p (p.0, v) (updated b ps k v) (same b p.0 k) (lookup b ps k) h ∙ ap (◌∷◌ p) (updated_absent ps k v (tail_absent p.1 (same b p.0 k) (lookup b ps k) h))

  after_removed : (x : K) (row : List (K × R)) (k : K) → After b x row → After b x (removed b row k)
  after_removed x [] k a = tt
  after_removed x (p ∷ ps) k a =
      elim (same b p.0 k) as (λ t. After b x (cond t (removed b ps k) (p ∷ removed b ps k))) [ true ↦ after_removed x ps k a.1 | false ↦ (a.0, after_removed x ps k a.1) ]

  pub ascending_removed : (row : List (K × R)) (k : K) → Ascending b row → Ascending b (removed b row k)
  ascending_removed [] k a = tt
  ascending_removed (p ∷ ps) k a =
      elim (same b p.0 k) as (λ t. Ascending b (cond t (removed b ps k) (p ∷ removed b ps k)))
      [ true ↦ ascending_removed ps k a.1 | false ↦ (after_removed p.0 ps k a.0, ascending_removed ps k a.1) ]

  after_updated : (x : K) (row : List (K × R)) (k : K) (v : R) → After b x row → After b x (updated b row k v)
  after_updated x [] k v a = tt
  after_updated x (p ∷ ps) k v a =
      elim (same b p.0 k) as (λ t. After b x (cond t ((p.0, v) ∷ updated b ps k v) (p ∷ updated b ps k v))) [ true ↦ (a.0, after_updated x ps k v a.1) | false ↦ (a.0, after_updated x ps k v a.1) ]

  pub ascending_updated : (row : List (K × R)) (k : K) (v : R) → Ascending b row → Ascending b (updated b row k v)
  ascending_updated [] k v a = tt
  ascending_updated (p ∷ ps) k v a =
      elim (same b p.0 k) as (λ t. Ascending b (cond t ((p.0, v) ∷ updated b ps k v) (p ∷ updated b ps k v)))
      [ true ↦ (after_updated p.0 ps k v a.0, ascending_updated ps k v a.1) | false ↦ (after_updated p.0 ps k v a.0, ascending_updated ps k v a.1) ]

module _ {K : Type 0} {b : K → K → Bool} (o : Order b) where
  pub same_is : (x y : K) → same b x y ≡ true → x ≡ y
  same_is x y h =
      let p = and_parts (not (b x y)) (not (b y x)) h in
      o.total x y (not-true (b x y) p.0) (not-true (b y x) p.1)

  pub not_same : (x y : K) → b y x ≡ true → same b x y ≡ false
  not_same x y h = ⊎_elim (λ t. absurd (both_ways (b y y) (o.irreflexive y) (subst (λ z. b y z ≡ true) (same_is x y t) h))) (λ t. t) (cases_Bool (same b x y))

  module _ {R : Type 0} where
    pub after_further : (x y : K) (row : List (K × R)) → b x y ≡ true → After b y row → After b x row
    after_further x y [] h a = tt
    after_further x y (p ∷ ps) h a = (o.transitive x y p.0 h a.0, after_further x y ps h a.1)

    -- a key before every key of the row is not there
    pub lookup_after : (k : K) (row : List (K × R)) → After b k row → lookup b row k ≡ None
    lookup_after k [] h = refl
    lookup_after k (p ∷ ps) h = cond-false (same b p.0 k) (Some p.1) (lookup b ps k) (not_same p.0 k h.0) ∙ lookup_after k ps h.1

    after_inserted : (x : K) (row : List (K × R)) (k : K) (v : R) → b x k ≡ true → After b x row → After b x (inserted b row k v)
    after_inserted x [] k v h a = (h, tt)
    after_inserted x (p ∷ ps) k v h a =
        elim (b p.0 k) as (λ t. After b x (cond t (p ∷ inserted b ps k v) ((k, v) ∷ p ∷ ps))) [ true ↦ (a.0, after_inserted x ps k v h a.1) | false ↦ (h, a) ]

    pub ascending_inserted : (row : List (K × R)) (k : K) (v : R) → holds b row k ≡ false → Ascending b row → Ascending b (inserted b row k v)
    ascending_inserted [] k v n a = (tt, tt)
    ascending_inserted (p ∷ ps) k v n a = step (b p.0 k) (b k p.0) refl refl n (λ m. ascending_inserted ps k v m a.1)
      where
        step : (t u : Bool) → b p.0 k ≡ t → b k p.0 ≡ u → is_some (cond (not t && not u) (Some p.1) (lookup b ps k)) ≡ false → (holds b ps k ≡ false → Ascending b (inserted b ps k v)) → Ascending b (cond t (p ∷ inserted b ps k v) ((k, v) ∷ p ∷ ps))
        step true u e f n ih = (after_inserted p.0 ps k v e a.0, ih n)
        step false true e f n ih = ((f, after_further k p.0 ps f a.0), a)
        step false false e f n ih = absurd (both_ways true n refl)
