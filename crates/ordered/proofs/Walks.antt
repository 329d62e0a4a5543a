-- A walk over a row from its first pair to its last.
use Rattle.std.proofs.Common.{◌≡◌, Bool, true, false, List, [], ◌∷◌, ◌++◌, Some, None, Option, refl, ap, ◌∙◌, ⊎_elim}
use Rattle.std.proofs.lemmas.Bool.{both_ways, cases_Bool, cond-true, cond-false}
use Rattle.ordered.specs.Meaning.{Order, same, lookup, first, inserted, Ascending, After}
use Rattle.ordered.proofs.Lookups.{same_self, less_apart}

abbrev pub head_of : {X : Type 0} → List X → Option X
head_of [] = None
head_of (x ∷ xs) = Some x

module _ {K : Type 0} {b : K → K → Bool} (o : Order b) where
  pub not_both : (x y : K) → b x y ≡ true → b y x ≡ false
  not_both x y h = ⊎_elim (λ t. absurd (both_ways (b x x) (o.irreflexive x) (o.transitive x y x h t))) (λ t. t) (cases_Bool (b y x))

  module _ {R : Type 0} (p : K × R) (ps : List (K × R)) where
    after_mid : (k : K) (pre : List (K × R)) → After b k (pre ++ (p ∷ ps)) → b k p.0 ≡ true
    after_mid k [] after = after.0
    after_mid k (x ∷ pre) after = after_mid k pre after.1

    pub past_mid : (pre : List (K × R)) → Ascending b (pre ++ (p ∷ ps)) → first (λ q. b p.0 q) (pre ++ (p ∷ ps)) ≡ head_of ps
    past_mid [] asc = cond-false (b p.0 p.0) (Some p) (first (λ q. b p.0 q) ps) (o.irreflexive p.0) ∙ head_after ps asc.0
      where
        head_after : (qs : List (K × R)) → After b p.0 qs → first (λ q. b p.0 q) qs ≡ head_of qs
        head_after [] after = refl
        head_after (q ∷ qs) after = cond-true (b p.0 q.0) (Some q) (first (λ q. b p.0 q) qs) after.0
    past_mid (x ∷ pre) asc = cond-false (b p.0 x.0) (Some x) (first (λ q. b p.0 q) (pre ++ (p ∷ ps))) (not_both x.0 p.0 (after_mid x.0 pre asc.0)) ∙ past_mid pre asc.1

    pub mid_there : (pre : List (K × R)) → Ascending b (pre ++ (p ∷ ps)) → lookup b (pre ++ (p ∷ ps)) p.0 ≡ Some p.1
    mid_there [] asc = cond-true (same b p.0 p.0) (Some p.1) (lookup b ps p.0) (same_self o p.0)
    mid_there (x ∷ pre) asc = cond-false (same b x.0 p.0) (Some x.1) (lookup b (pre ++ (p ∷ ps)) p.0) (less_apart o x.0 p.0 (after_mid x.0 pre asc.0)) ∙ mid_there pre asc.1

    pub front_lacks : (pre : List (K × R)) → Ascending b (pre ++ (p ∷ ps)) → lookup b pre p.0 ≡ None
    front_lacks [] asc = refl
    front_lacks (x ∷ pre) asc = cond-false (same b x.0 p.0) (Some x.1) (lookup b pre p.0) (less_apart o x.0 p.0 (after_mid x.0 pre asc.0)) ∙ front_lacks pre asc.1

    pub inserted_last : (pre : List (K × R)) → Ascending b (pre ++ (p ∷ ps)) → inserted b pre p.0 p.1 ≡ pre ++ (p ∷ [])
    inserted_last [] asc = refl
    inserted_last (x ∷ pre) asc = cond-true (b x.0 p.0) (x ∷ inserted b pre p.0 p.1) ((p.0, p.1) ∷ x ∷ pre) (after_mid x.0 pre asc.0) ∙ ap (λ z. x ∷ z) (inserted_last pre asc.1)
