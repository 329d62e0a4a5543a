-- Slots that hold a row: their parts, their ranks, and what the row says of a key.
use Rattle.std.proofs.Common.{◌≡◌, ℕ, zero, suc, ◌<◌, ◌≤◌, Bool, true, false, cond, not, ◌&&◌, List, [], ◌∷◌, ◌++◌, length, get_or, take, drop, is_some, Some, None, Ok, Err, Option, sym, refl, ap, ◌∙◌, subst, ⊎_elim, arith}
use Rattle.std.proofs.lemmas.Bool.{both_ways, cases_Bool, cond-true, cond-false}
use Rattle.ordered.specs.declared.slot.Slot.{Slot}
use Rattle.ordered.specs.Meaning.{Order, After, Ascending, same, lookup, holds, first, inserted, removed, updated}
use Rattle.ordered.specs.Slots.{keep, pairs, Blank, Holds}
use Rattle.ordered.proofs.Rows.{lookup_after, after_further, removed_absent, updated_absent}
use Rattle.slot_rows.specs.declared.halving.Bound.{Bound}
use Rattle.slot_rows.specs.declared.halving.Bound.TheVariants.{Lower, Upper}
use Rattle.slot_rows.specs.Ranks.{key_below, below, lead, Fails, Falling, there, located}

abbrev pub head_of : {X : Type 0} → List X → Option X
head_of [] = None
head_of (x ∷ xs) = Some x

module _ {K : Type 0} {b : K → K → Bool} (o : Order b) (k : K) where
  -- a key after one that is not below k is not below k
  not_below : (bound : Bound) (p q : K) → b p q ≡ true → key_below bound b k p ≡ false → key_below bound b k q ≡ false
  not_below Lower p q h n = ⊎_elim (λ t. absurd (both_ways (b p k) n (o.transitive p q k h t))) (λ t. t) (cases_Bool (b q k))
  not_below Upper p q h n =
      ⊎_elim (λ t. ap not (o.transitive k p q t h)) (λ f. let z : not (b k p) ≡ true = ap not f in absurd (both_ways (not (b k p)) n z)) (cases_Bool (b k p))

module _ {K R : Type 0} where
  pub pairs_blank : (ss : List (Slot K R)) → Blank ss → pairs ss ≡ []
  pairs_blank [] h = refl
  pairs_blank (s ∷ ss) h = ap (λ t. keep t (s.key, s.value) (pairs ss)) h.0 ∙ pairs_blank ss h.1

  pub pairs_held : (row : List (K × R)) (ss : List (Slot K R)) → Holds row ss → pairs ss ≡ row
  pairs_held [] ss h = pairs_blank ss h
  pairs_held (p ∷ ps) [] h = absurd h
  pairs_held (p ∷ ps) (s ∷ ss) h =
      ap (λ t. keep t (s.key, s.value) (pairs ss)) h.0.0 ∙ ap (λ k. (k, s.value) ∷ pairs ss) h.0.1 ∙ ap (λ v. (p.0, v) ∷ pairs ss) h.0.2 ∙ ap (λ qs. p ∷ qs) (pairs_held ps ss h.1)

  pub length_held : (row : List (K × R)) (ss : List (Slot K R)) → Holds row ss → length row ≤ length ss
  length_held [] ss h = omega arith
  length_held (p ∷ ps) [] h = absurd h
  length_held (p ∷ ps) (s ∷ ss) h = omega (arith, length_held ps ss h.1)

  pub blank_drop : (n : ℕ) (ss : List (Slot K R)) → Blank ss → Blank (drop n ss)
  blank_drop zero ss h = h
  blank_drop (suc n) [] h = h
  blank_drop (suc n) (s ∷ ss) h = blank_drop n ss h.1

  pub held_take : (n : ℕ) (row : List (K × R)) (ss : List (Slot K R)) → n ≤ length row → Holds row ss → Holds (take n row) (take n ss)
  held_take zero row ss l h = tt
  held_take (suc n) [] ss l h = absurd (omega (arith, l))
  held_take (suc n) (p ∷ ps) [] l h = absurd h
  held_take (suc n) (p ∷ ps) (s ∷ ss) l h = (h.0, held_take n ps ss (omega (arith, l)) h.1)

  pub held_drop : (n : ℕ) (row : List (K × R)) (ss : List (Slot K R)) → n ≤ length row → Holds row ss → Holds (drop n row) (drop n ss)
  held_drop zero row ss l h = h
  held_drop (suc n) [] ss l h = absurd (omega (arith, l))
  held_drop (suc n) (p ∷ ps) [] l h = absurd h
  held_drop (suc n) (p ∷ ps) (s ∷ ss) l h = held_drop n ps ss (omega (arith, l)) h.1

  -- a front of the slots that has the whole row holds it, and blanks follow
  pub held_front : (n : ℕ) (row : List (K × R)) (ss : List (Slot K R)) → length row ≤ n → Holds row ss → Holds row (take n ss)
  held_front zero [] ss l h = tt
  held_front zero (p ∷ ps) ss l h = absurd (omega (arith, l))
  held_front (suc n) [] [] l h = tt
  held_front (suc n) [] (s ∷ ss) l h = (h.0, held_front n [] ss (omega arith) h.1)
  held_front (suc n) (p ∷ ps) [] l h = absurd h
  held_front (suc n) (p ∷ ps) (s ∷ ss) l h = (h.0, held_front n ps ss (omega (arith, l)) h.1)

  pub blank_past : (n : ℕ) (row : List (K × R)) (ss : List (Slot K R)) → length row ≤ n → Holds row ss → Blank (drop n ss)
  blank_past n [] ss l h = blank_drop n ss h
  blank_past zero (p ∷ ps) ss l h = absurd (omega (arith, l))
  blank_past (suc n) (p ∷ ps) [] l h = absurd h
  blank_past (suc n) (p ∷ ps) (s ∷ ss) l h = blank_past n ps ss (omega (arith, l)) h.1

  -- filled slots, and then slots that hold a row
  pub held_append : (ps qs : List (K × R)) (ss ts : List (Slot K R)) → length ss ≡ length ps → Holds ps ss → Holds qs ts → Holds (ps ++ qs) (ss ++ ts)
  held_append [] qs [] ts e h i = i
  held_append [] qs (s ∷ ss) ts e h i = absurd (omega (arith, e))
  held_append (p ∷ ps) qs [] ts e h i = absurd h
  held_append (p ∷ ps) qs (s ∷ ss) ts e h i = (h.0, held_append ps qs ss ts (omega (arith, e)) h.1 i)

  -- blank slots after those that hold a row hold no more
  pub held_more : (row : List (K × R)) (ss ts : List (Slot K R)) → Holds row ss → Blank ts → Holds row (ss ++ ts)
  held_more [] [] ts h f = f
  held_more [] (s ∷ ss) ts h f = (h.0, held_more [] ss ts h.1 f)
  held_more (p ∷ ps) [] ts h f = absurd h
  held_more (p ∷ ps) (s ∷ ss) ts h f = (h.0, held_more ps ss ts h.1 f)

  -- a slot that is read within the row shows its pair there
  pub held_at : (n : ℕ) (row : List (K × R)) (ss : List (Slot K R)) (x : Slot K R) → n < length row → Holds row ss → x ≡ get_or ss n x → (x.filled ≡ true) × (head_of (drop n row) ≡ Some (x.key, x.value))
  held_at n [] ss x l h e = absurd (omega (arith, l))
  held_at n (p ∷ ps) [] x l h e = absurd h
  held_at zero (p ∷ ps) (s ∷ ss) x l h e =
      (ap (λ y. y.filled) e ∙ h.0.0, ap (λ k. Some (k, p.1)) (sym h.0.1) ∙ ap (λ v. Some (s.key, v)) (sym h.0.2) ∙ ap (λ y. Some (y.key, y.value)) (sym e))
  held_at (suc n) (p ∷ ps) (s ∷ ss) x l h e = held_at n ps ss x (omega (arith, l)) h.1 e

  pub head_past : (n : ℕ) (row : List (K × R)) → length row ≤ n → head_of (drop n row) ≡ None
  head_past zero [] l = refl
  head_past zero (p ∷ ps) l = absurd (omega (arith, l))
  head_past (suc n) [] l = refl
  head_past (suc n) (p ∷ ps) l = head_past n ps (omega (arith, l))

  module _ (bound : Bound) (b : K → K → Bool) (k : K) where
    blank_lead : (ss : List (Slot K R)) → Blank ss → lead (below bound b k) ss ≡ 0
    blank_lead [] h = refl
    blank_lead (s ∷ ss) h = ap (λ t. cond (t && key_below bound b k s.key) (suc (lead (below bound b k) ss)) 0) h.0

    -- the rank in the slots is the rank in the row
    pub lead_held : (row : List (K × R)) (ss : List (Slot K R)) → Holds row ss → lead (below bound b k) ss ≡ lead (λ p. key_below bound b k p.0) row
    lead_held [] ss h = blank_lead ss h
    lead_held (p ∷ ps) [] h = absurd h
    lead_held (p ∷ ps) (s ∷ ss) h =
        ap (λ t. cond (t && key_below bound b k s.key) (suc (lead (below bound b k) ss)) 0) h.0.0
        ∙ ap (λ q. cond (key_below bound b k q) (suc (lead (below bound b k) ss)) 0) h.0.1
        ∙ ap (λ n. cond (key_below bound b k p.0) (suc n) 0) (lead_held ps ss h.1)

    pub lead_within : (row : List (K × R)) → lead (λ p. key_below bound b k p.0) row ≤ length row
    lead_within [] = omega arith
    lead_within (p ∷ ps) = elim (key_below bound b k p.0) as (λ t. cond t (suc (lead (λ p. key_below bound b k p.0) ps)) 0 ≤ suc (length ps)) [ true ↦ omega (arith, lead_within ps) | false ↦ omega arith ]

    -- the first pair that is not below the key stands at its rank
    pub first_lead : (row : List (K × R)) → first (λ q. not (key_below bound b k q)) row ≡ head_of (drop (lead (λ p. key_below bound b k p.0) row) row)
    first_lead [] = refl
    first_lead (p ∷ ps) =
        elim (key_below bound b k p.0) as (λ t. cond (not t) (Some p) (first (λ q. not (key_below bound b k q)) ps) ≡ head_of (drop (cond t (suc (lead (λ p. key_below bound b k p.0) ps)) 0) (p ∷ ps)))
        [ true ↦ first_lead ps | false ↦ refl ]

    blank_falling : (ss : List (Slot K R)) → Blank ss → Fails (below bound b k) ss × Falling (below bound b k) ss
    blank_falling [] h = (tt, tt)
    blank_falling (s ∷ ss) h = let r = blank_falling ss h.1 in ((ap (λ t. t && key_below bound b k s.key) h.0, r.0), (λ _. r.0, r.1))

  module _ {b : K → K → Bool} (o : Order b) (k : K) where
    fails_after : (bound : Bound) (p : K) (row : List (K × R)) (ss : List (Slot K R)) → After b p row → Holds row ss → key_below bound b k p ≡ false → Fails (below bound b k) ss
    fails_after bound p [] ss a h n = (blank_falling bound b k ss h).0
    fails_after bound p (q ∷ qs) [] a h n = absurd h
    fails_after bound p (q ∷ qs) (s ∷ ss) a h n = (
      ap (λ t. t && key_below bound b k s.key) h.0.0 ∙ ap (key_below bound b k) h.0.1 ∙ not_below o k bound p q.0 a.0 n,
      fails_after bound p qs ss a.1 h.1 n,
    )

    -- in slots that hold an ascending row those below a key come first
    pub falling_held : (bound : Bound) (row : List (K × R)) (ss : List (Slot K R)) → Ascending b row → Holds row ss → Falling (below bound b k) ss
    falling_held bound [] ss a h = (blank_falling bound b k ss h).1
    falling_held bound (p ∷ ps) [] a h = absurd h
    falling_held bound (p ∷ ps) (s ∷ ss) a h = (
      (λ n. fails_after bound p.0 ps ss a.0 h.1 (sym (ap (λ t. t && key_below bound b k s.key) h.0.0 ∙ ap (key_below bound b k) h.0.1) ∙ n)),
      falling_held bound ps ss a.1 h.1,
    )

    abbrev pub at : List (K × R) → ℕ
    at row = lead (λ p. key_below Lower b k p.0) row

    -- the slot at the place of k has the key k exactly where k is in the row
    pub there_held : (row : List (K × R)) (ss : List (Slot K R)) → Ascending b row → Holds row ss → there b k ss ≡ holds b row k
    there_held [] ss a h = blank_there ss h
      where
        blank_there : (ss : List (Slot K R)) → Blank ss → there b k ss ≡ false
        blank_there [] h = refl
        blank_there (s ∷ ss) h = ap (λ t. cond (t && b s.key k) (there b k ss) (t && not (b k s.key))) h.0
    there_held (p ∷ ps) [] a h = absurd h
    there_held (p ∷ ps) (s ∷ ss) a h =
        ap (λ t. cond (t && b s.key k) (there b k ss) (t && not (b k s.key))) h.0.0
        ∙ ap (λ q. cond (b q k) (there b k ss) (not (b k q))) h.0.1
        ∙ step (b p.0 k) (b k p.0) refl refl (there_held ps ss a.1 h.1)
      where
        step : (t u : Bool) → b p.0 k ≡ t → b k p.0 ≡ u → there b k ss ≡ holds b ps k → cond t (there b k ss) (not u) ≡ is_some (cond (not (b p.0 k) && not (b k p.0)) (Some p.1) (lookup b ps k))
        step true u e f ih = ih ∙ sym (ap (λ v. is_some (cond (not v && not (b k p.0)) (Some p.1) (lookup b ps k))) e)
        step false true e f ih =
            sym (ap (λ v. is_some (cond (not v && not (b k p.0)) (Some p.1) (lookup b ps k))) e ∙ ap (λ v. is_some (cond (not v) (Some p.1) (lookup b ps k))) f ∙ ap is_some (lookup_after o k ps (after_further o k p.0 ps f a.0)))
        step false false e f ih = sym (ap (λ v. is_some (cond (not v && not (b k p.0)) (Some p.1) (lookup b ps k))) e ∙ ap (λ v. is_some (cond (not v) (Some p.1) (lookup b ps k))) f)

    pub inserted_at : (row : List (K × R)) (v : R) → inserted b row k v ≡ take (at row) row ++ ((k, v) ∷ drop (at row) row)
    inserted_at [] v = refl
    inserted_at (p ∷ ps) v =
        elim (b p.0 k) as (λ t. cond t (p ∷ inserted b ps k v) ((k, v) ∷ p ∷ ps) ≡ take (cond t (suc (at ps)) 0) (p ∷ ps) ++ ((k, v) ∷ drop (cond t (suc (at ps)) 0) (p ∷ ps)))
        [ true ↦ ap (λ qs. p ∷ qs) (inserted_at ps v) | false ↦ refl ]

    -- what stands at the place of a key that is there
    pub record Found (row : List (K × R)) : Type 0 where
      pub value : R
      pub within : at row < length row
      pub found : lookup b row k ≡ Some value
      pub head : head_of (drop (at row) row) ≡ Some (k, value)
      pub taken : removed b row k ≡ take (at row) row ++ drop (suc (at row)) row
      pub put : (v : R) → updated b row k v ≡ take (at row) row ++ ((k, v) ∷ drop (suc (at row)) row)

    pub found_there : (row : List (K × R)) → Ascending b row → holds b row k ≡ true → Found row
    found_there [] a h = let z : false ≡ true = h in absurd (both_ways false refl z)
    found_there (p ∷ ps) a h = ⊎_elim
        (λ e. later e (found_there ps a.1 (sym (ap (λ v. is_some (cond (not v && not (b k p.0)) (Some p.1) (lookup b ps k))) e) ∙ h)))
        (λ e. ⊎_elim (λ f. absurd (both_ways (holds b (p ∷ ps) k) (gone e f) h)) (λ f. here e f) (cases_Bool (b k p.0)))
        (cases_Bool (b p.0 k))
      where
        gone : b p.0 k ≡ false → b k p.0 ≡ true → holds b (p ∷ ps) k ≡ false
        gone e f = ap (λ v. is_some (cond (not v && not (b k p.0)) (Some p.1) (lookup b ps k))) e ∙ ap (λ v. is_some (cond (not v) (Some p.1) (lookup b ps k))) f ∙ ap is_some (lookup_after o k ps (after_further o k p.0 ps f a.0))

        apart : b p.0 k ≡ true → same b p.0 k ≡ false
        apart e = ap (λ v. not v && not (b k p.0)) e

        later : b p.0 k ≡ true → Found ps → Found (p ∷ ps)
        later e w =
            let n : at (p ∷ ps) ≡ suc (at ps) = ap (λ t. cond t (suc (at ps)) 0) e in
            record {
              value = w.value;
              within = omega (arith, n, w.within);
              found = cond-false (same b p.0 k) (Some p.1) (lookup b ps k) (apart e) ∙ w.found;
              head = ap (λ m. head_of (drop m (p ∷ ps))) n ∙ w.head;
              taken = cond-false (same b p.0 k) (removed b ps k) (p ∷ removed b ps k) (apart e) ∙ ap (λ qs. p ∷ qs) w.taken ∙ sym (ap (λ m. take m (p ∷ ps) ++ drop (suc m) (p ∷ ps)) n);
              put = λ v. cond-false (same b p.0 k) ((p.0, v) ∷ updated b ps k v) (p ∷ updated b ps k v) (apart e) ∙ ap (λ qs. p ∷ qs) (w.put v) ∙ sym (ap (λ m. take m (p ∷ ps) ++ ((k, v) ∷ drop (suc m) (p ∷ ps))) n);
            }

        here : b p.0 k ≡ false → b k p.0 ≡ false → Found (p ∷ ps)
        here e f =
            let n : at (p ∷ ps) ≡ 0 = ap (λ t. cond t (suc (at ps)) 0) e in
            let is : p.0 ≡ k = o.total p.0 k e f in
            let eq : same b p.0 k ≡ true = ap (λ v. not v && not (b k p.0)) e ∙ ap not f in
            let none : lookup b ps k ≡ None = lookup_after o k ps (subst (λ q. After b q ps) is a.0) in
            record {
              value = p.1;
              within = omega (arith, n);
              found = cond-true (same b p.0 k) (Some p.1) (lookup b ps k) eq;
              head = ap (λ m. head_of (drop m (p ∷ ps))) n ∙ ap (λ q. Some (q, p.1)) is;
              taken = cond-true (same b p.0 k) (removed b ps k) (p ∷ removed b ps k) eq ∙ removed_absent b ps k none ∙ sym (ap (λ m. take m (p ∷ ps) ++ drop (suc m) (p ∷ ps)) n);
              put = λ v. cond-true (same b p.0 k) ((p.0, v) ∷ updated b ps k v) (p ∷ updated b ps k v) eq ∙ ap (λ qs. (p.0, v) ∷ qs) (updated_absent b ps k v none) ∙ ap (λ q. (q, v) ∷ ps) is ∙ sym (ap (λ m. take m (p ∷ ps) ++ ((k, v) ∷ drop (suc m) (p ∷ ps))) n);
            }

module _ {K R : Type 0} (b : K → K → Bool) (k : K) where
  there_at : (ss : List (Slot K R)) (x : Slot K R) → lead (below Lower b k) ss < length ss → x ≡ get_or ss (lead (below Lower b k) ss) x → there b k ss ≡ below Upper b k x
  there_at [] x l e = absurd (omega (arith, l))
  there_at (s ∷ ss) x l e = step (below Lower b k s) l e (there_at ss x)
    where
      step : (t : Bool) → cond t (suc (lead (below Lower b k) ss)) 0 < suc (length ss) → x ≡ get_or (s ∷ ss) (cond t (suc (lead (below Lower b k) ss)) 0) x → (lead (below Lower b k) ss < length ss → x ≡ get_or ss (lead (below Lower b k) ss) x → there b k ss ≡ below Upper b k x) → cond t (there b k ss) (below Upper b k s) ≡ below Upper b k x
      step true l e ih = ih (omega (arith, l)) e
      step false l e ih = ap (below Upper b k) (sym e)

  there_past : (ss : List (Slot K R)) → length ss ≤ lead (below Lower b k) ss → there b k ss ≡ false
  there_past [] l = refl
  there_past (s ∷ ss) l = step (below Lower b k s) l (there_past ss)
    where
      step : (t : Bool) → suc (length ss) ≤ cond t (suc (lead (below Lower b k) ss)) 0 → (length ss ≤ lead (below Lower b k) ss → there b k ss ≡ false) → cond t (there b k ss) (below Upper b k s) ≡ false
      step true l ih = ih (omega (arith, l))
      step false l ih = absurd (omega (arith, l))

  -- a search from the slot at the rank of k, and from none
  module _ (ss : List (Slot K R)) (n : ℕ) (is : n ≡ lead (below Lower b k) ss) where
    pub located_at : (x : Slot K R) → n < length ss → x ≡ get_or ss n x → located b k ss ≡ cond (below Upper b k x) (Ok n) (Err n)
    located_at x l e = rw is (ap (λ t. cond t (Ok (lead (below Lower b k) ss)) (Err (lead (below Lower b k) ss))) (there_at ss x (rw is at l) (rw is at e)))

    pub located_past : length ss ≤ n → located b k ss ≡ Err n
    located_past l = rw is (ap (λ t. cond t (Ok (lead (below Lower b k) ss)) (Err (lead (below Lower b k) ss))) (there_past ss (rw is at l)))
