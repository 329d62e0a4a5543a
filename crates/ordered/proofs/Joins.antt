-- Rows joined end to end, and a key between those before it and those after it.
use Rattle.std.proofs.Common.{◌≡◌, Bool, cond, List, [], ◌∷◌, ◌++◌, Some, refl, ap, ◌∙◌}
use Rattle.std.proofs.lemmas.Bool.{cond-true, cond-false}
use Rattle.ordered.specs.Meaning.{Order, Before, After, Ascending, same, lookup, inserted}
use Rattle.ordered.proofs.Rows.{lookup_after}
use Rattle.ordered.proofs.Lookups.{less_apart}
use Rattle.ordered.proofs.Walks.{not_both}

module _ {K R : Type 0} (b : K → K → Bool) where
  pub before_append : (k : K) (ps qs : List (K × R)) → Before b k ps → Before b k qs → Before b k (ps ++ qs)
  before_append k [] qs h i = i
  before_append k (p ∷ ps) qs h i = (h.0, before_append k ps qs h.1 i)

  pub after_append : (k : K) (ps qs : List (K × R)) → After b k ps → After b k qs → After b k (ps ++ qs)
  after_append k [] qs h i = i
  after_append k (p ∷ ps) qs h i = (h.0, after_append k ps qs h.1 i)

  after_parts : (k : K) (ps qs : List (K × R)) → After b k (ps ++ qs) → After b k ps × After b k qs
  after_parts k [] qs h = (tt, h)
  after_parts k (p ∷ ps) qs h = let r = after_parts k ps qs h.1 in ((h.0, r.0), r.1)

  pub ascending_parts : (ps qs : List (K × R)) → Ascending b (ps ++ qs) → Ascending b ps × Ascending b qs
  ascending_parts [] qs a = (tt, a)
  ascending_parts (p ∷ ps) qs a = let r = ascending_parts ps qs a.1 in (((after_parts p.0 ps qs a.0).0, r.0), r.1)

module _ {K R : Type 0} {b : K → K → Bool} (o : Order b) (k : K) where
  -- a pair is inserted between the keys before it and those after it
  pub inserted_between : (ps qs : List (K × R)) (v : R) → Before b k ps → After b k qs → inserted b (ps ++ qs) k v ≡ ps ++ ((k, v) ∷ qs)
  inserted_between [] [] v h i = refl
  inserted_between [] (q ∷ qs) v h i = cond-false (b q.0 k) (q ∷ inserted b qs k v) ((k, v) ∷ q ∷ qs) (not_both o k q.0 i.0)
  inserted_between (p ∷ ps) qs v h i = cond-true (b p.0 k) (p ∷ inserted b (ps ++ qs) k v) ((k, v) ∷ p ∷ (ps ++ qs)) h.0 ∙ ap (λ rs. p ∷ rs) (inserted_between ps qs v h.1 i)

  -- a key is looked for only between those before it and those after it
  pub lookup_between : (ps qs rs : List (K × R)) → Before b k ps → After b k rs → lookup b (ps ++ (qs ++ rs)) k ≡ lookup b qs k
  lookup_between [] [] rs h i = lookup_after o k rs i
  lookup_between [] (q ∷ qs) rs h i = ap (cond (same b q.0 k) (Some q.1)) (lookup_between [] qs rs h i)
  lookup_between (p ∷ ps) qs rs h i = cond-false (same b p.0 k) (Some p.1) (lookup b (ps ++ (qs ++ rs)) k) (less_apart o p.0 k h.0) ∙ lookup_between ps qs rs h.1 i
