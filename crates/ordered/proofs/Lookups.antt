-- What is found in a row after a change, and what the first pair that passes a test is.
use Rattle.std.proofs.Common.{◌≡◌, ℕ, suc, Bool, true, false, cond, ◌&&◌, ◌⊎◌, List, [], ◌∷◌, length, is_some, Some, None, Option, sym, refl, ap, ◌∙◌, subst, inl, inr, ⊎_elim, arith}
use Rattle.std.proofs.lemmas.Bool.{both_ways, cases_Bool, cond-true, cond-false, false≢true}
use Rattle.ordered.specs.Meaning.{Order, After, Ascending, same, lookup, first, First, inserted, removed, updated}
use Rattle.ordered.proofs.Rows.{same_is, lookup_after, removed_absent}

module _ {K : Type 0} {b : K → K → Bool} (o : Order b) where
  pub same_self : (x : K) → same b x x ≡ true
  same_self x = rw (o.irreflexive x)

  pub same_not : (x y : K) → (x ≡ y → ⊥) → same b x y ≡ false
  same_not x y n = ⊎_elim (λ h. absurd (n (same_is o x y h))) (λ h. h) (cases_Bool (same b x y))

  -- a key that is the same as one after x is not the same as x
  apart : (x k q : K) → b x k ≡ true → same b k q ≡ true → same b x q ≡ false
  apart x k q h s =
      let e = same_is o k q s in
      ⊎_elim
      (λ t. let d = same_is o x q t in
      let c : b k k ≡ true = subst (λ y. b y k ≡ true) (d ∙ sym e) h in
      absurd (both_ways (b k k) (o.irreflexive k) c))
      (λ t. t) (cases_Bool (same b x q))

  pub less_apart : (x q : K) → b x q ≡ true → same b x q ≡ false
  less_apart x q h = same_not x q (λ e. both_ways (b q q) (o.irreflexive q) (subst (λ y. b y q ≡ true) e h))

  module _ {R : Type 0} where
    swapped : (s t : Bool) (u v : R) (w : Option R) → (t ≡ true → s ≡ false) → cond s (Some u) (cond t (Some v) w) ≡ cond t (Some v) (cond s (Some u) w)
    swapped true true u v w h = absurd (false≢true (sym (h refl)))
    swapped true false u v w h = refl
    swapped false true u v w h = refl
    swapped false false u v w h = refl

    grown : (p : K × R) (ps : List (K × R)) (k : K) (v : R) (q : K) (t : Bool) → b p.0 k ≡ t → lookup b (inserted b ps k v) q ≡ cond (same b k q) (Some v) (lookup b ps q) → lookup b (cond t (p ∷ inserted b ps k v) ((k, v) ∷ p ∷ ps)) q ≡ cond (same b k q) (Some v) (cond (same b p.0 q) (Some p.1) (lookup b ps q))
    grown p ps k v q true h ih = ap (cond (same b p.0 q) (Some p.1)) ih ∙ swapped (same b p.0 q) (same b k q) p.1 v (lookup b ps q) (apart p.0 k q h)
    grown p ps k v q false h ih = refl

    pub lookup_inserted : (row : List (K × R)) (k : K) (v : R) (q : K) → lookup b (inserted b row k v) q ≡ cond (same b k q) (Some v) (lookup b row q)
    lookup_inserted [] k v q = refl
    lookup_inserted (p ∷ ps) k v q = grown p ps k v q (b p.0 k) refl (lookup_inserted ps k v q)

    shrunk : (p : K × R) (rest : List (K × R)) (k q : K) (w : Option R) (t : Bool) → same b p.0 k ≡ t → lookup b rest q ≡ cond (same b k q) None w → lookup b (cond t rest (p ∷ rest)) q ≡ cond (same b k q) None (cond (same b p.0 q) (Some p.1) w)
    shrunk p rest k q w true h ih =
        let e = same_is o p.0 k h in
        ih ∙ elim (same b k q) as (λ s. same b k q ≡ s → cond s None w ≡ cond s None (cond (same b p.0 q) (Some p.1) w)) [ true ↦ λ _. refl | false ↦ λ n. sym (cond-false (same b p.0 q) (Some p.1) w (subst (λ y. same b y q ≡ false) (sym e) n)) ] refl
    shrunk p rest k q w false h ih =
        ap (cond (same b p.0 q) (Some p.1)) ih ∙
        elim (same b k q) as (λ s. same b k q ≡ s → cond (same b p.0 q) (Some p.1) (cond s None w) ≡ cond s None (cond (same b p.0 q) (Some p.1) w))
        [ true ↦ λ n. cond-false (same b p.0 q) (Some p.1) None (subst (λ y. same b p.0 y ≡ false) (same_is o k q n) h) | false ↦ λ n. refl ] refl

    pub lookup_removed : (row : List (K × R)) (k q : K) → lookup b (removed b row k) q ≡ cond (same b k q) None (lookup b row q)
    lookup_removed [] k q = elim (same b k q) as (λ s. None ≡ cond {A = Option R} s None None) [ true ↦ refl | false ↦ refl ]
    lookup_removed (p ∷ ps) k q = shrunk p (removed b ps k) k q (lookup b ps q) (same b p.0 k) refl (lookup_removed ps k q)

    pub length_removed : (k : K) (v : R) (row : List (K × R)) → Ascending b row → lookup b row k ≡ Some v → suc (length (removed b row k)) ≡ length row
    length_removed k v [] asc h = let z : ◌≡◌ {A = ℕ} 0 1 = cc in omega arith
    length_removed k v (p ∷ ps) asc h = step (same b p.0 k) refl h (length_removed k v ps asc.1)
      where
        step : (t : Bool) → same b p.0 k ≡ t → cond t (Some p.1) (lookup b ps k) ≡ Some v → (lookup b ps k ≡ Some v → suc (length (removed b ps k)) ≡ length ps) → suc (length (cond t (removed b ps k) (p ∷ removed b ps k))) ≡ suc (length ps)
        step true s e ih = ap (λ z. suc (length z)) (removed_absent b ps k (lookup_after o k ps (subst (λ y. After b y ps) (same_is o p.0 k s) asc.0)))
        step false s e ih = ap suc (ih e)

    renewed : (p : K × R) (ps rest : List (K × R)) (k q : K) (v : R) (t : Bool) → same b p.0 k ≡ t → lookup b rest q ≡ cond (same b k q && is_some (lookup b ps k)) (Some v) (lookup b ps q) → lookup b (cond t ((p.0, v) ∷ rest) (p ∷ rest)) q ≡ cond (same b k q && is_some (cond t (Some p.1) (lookup b ps k))) (Some v) (cond (same b p.0 q) (Some p.1) (lookup b ps q))
    renewed p ps rest k q v true h ih =
        let e = same_is o p.0 k h in
        let se : same b p.0 q ≡ same b k q = ap (λ y. same b y q) e in
        grind (arith, ih, se)
    renewed p ps rest k q v false h ih =
        let n : same b k q ≡ true → same b p.0 q ≡ false = λ s. subst (λ y. same b p.0 y ≡ false) (same_is o k q s) h in
        grind (arith, ih, n)

    pub lookup_updated : (row : List (K × R)) (k : K) (v : R) (q : K) → lookup b (updated b row k v) q ≡ cond (same b k q && is_some (lookup b row k)) (Some v) (lookup b row q)
    lookup_updated [] k v q = elim (same b k q) as (λ s. None ≡ cond (s && false) (Some v) None) [ true ↦ refl | false ↦ refl ]
    lookup_updated (p ∷ ps) k v q = renewed p ps (updated b ps k v) k q v (same b p.0 k) refl (lookup_updated ps k v q)

    found_cases : (x q : K) (u v : R) (w : Option R) → cond (same b x q) (Some u) w ≡ Some v → ((same b x q ≡ true) × (x ≡ q)) ⊎ ((same b x q ≡ false) × (w ≡ Some v))
    found_cases x q u v w e = ⊎_elim (λ s. inl (s, same_is o x q s)) (λ s. inr (s, sym (cond-false (same b x q) (Some u) w s) ∙ e)) (cases_Bool (same b x q))

    pub after_all : (k : K) (row : List (K × R)) → After b k row → (q : K) (v : R) → lookup b row q ≡ Some v → b k q ≡ true
    after_all k [] h q v e = cc
    after_all k (p ∷ ps) h q v e = ⊎_elim (λ s. subst (λ y. b k y ≡ true) s.1 h.0) (λ s. after_all k ps h.1 q v s.1) (found_cases p.0 q p.1 v (lookup b ps q) e)

    first_here : (f : K → Bool) (x p : K × R) (xs : List (K × R)) → After b x.0 xs → f x.0 ≡ true → x ≡ p → First b (x ∷ xs) f p
    first_here f x p xs after t e = subst (λ z. First b (x ∷ xs) f z) e (record {
      passes = t;
      there = cond-true (same b x.0 x.0) (Some x.1) (lookup b xs x.0) (same_self x.0);
      least = λ q v l g. ⊎_elim (λ s. inl (sym s.1)) (λ s. inr (after_all x.0 xs after q v s.1)) (found_cases x.0 q x.1 v (lookup b xs q) l);
    })

    first_there : (f : K → Bool) (x p : K × R) (xs : List (K × R)) → After b x.0 xs → f x.0 ≡ false → First b xs f p → First b (x ∷ xs) f p
    first_there f x p xs after t r = record {
      passes = r.passes;
      there = cond-false (same b x.0 p.0) (Some x.1) (lookup b xs p.0) (less_apart x.0 p.0 (after_all x.0 xs after p.0 p.1 r.there)) ∙ r.there;
      least = λ q v l g. ⊎_elim (λ s. absurd (both_ways (f x.0) t (subst (λ y. f y ≡ true) (sym s.1) g))) (λ s. r.least q v s.1 g) (found_cases x.0 q x.1 v (lookup b xs q) l);
    }

    pair_inside : (x y : K × R) → Some x ≡ Some y → x ≡ y
    pair_inside x y e = cc

    pub first_some : (f : K → Bool) (row : List (K × R)) (p : K × R) → Ascending b row → first f row ≡ Some p → First b row f p
    first_some f [] p asc e = let z : ◌≡◌ {A = ℕ} 0 1 = cc in absurd (omega arith)
    first_some f (x ∷ xs) p asc e = ⊎_elim
        (λ t. first_here f x p xs asc.0 t (pair_inside x p (sym (cond-true (f x.0) (Some x) (first f xs) t) ∙ e)))
        (λ t. first_there f x p xs asc.0 t (first_some f xs p asc.1 (sym (cond-false (f x.0) (Some x) (first f xs) t) ∙ e)))
        (cases_Bool (f x.0))

    none_head : (t : Bool) (x : K × R) (w : Option (K × R)) → cond t (Some x) w ≡ None → (t ≡ false) × (w ≡ None)
    none_head true x w e = let z : ◌≡◌ {A = ℕ} 0 1 = cc in absurd (omega arith)
    none_head false x w e = (refl, e)

    pub first_none : (f : K → Bool) (row : List (K × R)) → first f row ≡ None → (q : K) (v : R) → lookup b row q ≡ Some v → f q ≡ false
    first_none f [] e q v l = cc
    first_none f (x ∷ xs) e q v l =
        let n = none_head (f x.0) x (first f xs) e in
        ⊎_elim (λ s. subst (λ y. f y ≡ false) s.1 n.0) (λ s. first_none f xs n.1 q v s.1) (found_cases x.0 q x.1 v (lookup b xs q) l)
