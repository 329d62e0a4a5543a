-- How many elements of a list pass a test, where those that pass come first.
use Rattle.std.proofs.Common.{◌≡◌, ℕ, zero, suc, ◌<◌, ◌≤◌, ◌+◌, Bool, true, false, cond, not, List, [], ◌∷◌, length, get_or, Option, position, sym, refl, ap, ◌∙◌, ⊎_elim, arith}
use Rattle.std.specs.List.{position_or_len}
use Rattle.std.specs.Option.{unwrap_or}
use Rattle.std.proofs.lemmas.Bool.Decides.{nat_tests}
use Rattle.std.proofs.lemmas.List.Sums.{prefix_len-le-length}
use Rattle.std.proofs.lemmas.Bool.{both_ways, cases_Bool}
use Rattle.std.specs.List.Sorted.{IsPartitionPoint, IsPartitionedBy}
use Rattle.slot_rows.specs.Ranks.{lead, Fails, Falling}

module _ {X : Type 0} (f : X → Bool) where
  fails_at : (xs : List X) → Fails f xs → (i : ℕ) (d : X) → i < length xs → f (get_or xs i d) ≡ false
  fails_at [] n i d lt = absurd (omega (arith, lt))
  fails_at (x ∷ xs) n zero d lt = n.0
  fails_at (x ∷ xs) n (suc i) d lt = fails_at xs n.1 i d (omega (arith, lt))

  pub partitioned : (xs : List X) → Falling f xs → IsPartitionedBy f xs
  partitioned [] s i j d le lt h = absurd (omega (arith, lt))
  partitioned (x ∷ xs) s zero zero d le lt h = h
  partitioned (x ∷ xs) s zero (suc j) d le lt h = ⊎_elim (λ t. t) (λ n. absurd (both_ways (f (get_or xs j d)) (fails_at xs (s.0 n) j d (omega (arith, lt))) h)) (cases_Bool (f x))
  partitioned (x ∷ xs) s (suc i) zero d le lt h = absurd (omega (arith, le))
  partitioned (x ∷ xs) s (suc i) (suc j) d le lt h = partitioned xs s.1 i j d (omega (arith, le)) (omega (arith, lt)) h

  pub lead_point : (xs : List X) (n : ℕ) → n ≤ length xs → IsPartitionPoint (λ y. f y ≡ true) (λ y. f y ≡ false) xs n → n ≡ lead f xs
  lead_point [] n le p = omega (arith, le)
  lead_point (x ∷ xs) zero le p = sym (ap (λ t. cond t (suc (lead f xs)) 0) (p.1 0 x (omega arith) (omega arith)))
  lead_point (x ∷ xs) (suc n) le p =
      ap suc (lead_point xs n (omega (arith, le)) (λ i d l m. p.0 (suc i) d (omega arith) (omega (arith, m)), λ i d l m. p.1 (suc i) d (omega (arith, l)) (omega (arith, m))))
      ∙ sym (ap (λ t. cond t (suc (lead f xs)) 0) (p.0 0 x (omega arith) (omega arith)))

  passing : (xs : List X) → position_or_len (λ x. not (f x)) xs ≡ lead f xs
  passing [] = refl
  passing (x ∷ xs) = elim (f x) as (λ t. cond (not (not t)) (1 + position_or_len (λ y. not (f y)) xs) 0 ≡ cond t (suc (lead f xs)) 0) [ true ↦ omega (arith, passing xs) | false ↦ refl ]

  -- the first that does not pass, or the end
  pub lead_position : (xs : List X) (o : Option ℕ) (n : ℕ) → o ≡ position (λ x. not (f x)) xs → n ≡ unwrap_or o (length xs) → n ≡ lead f xs
  lead_position xs o n e u =
      let m : n ≡ position_or_len (λ x. not (f x)) xs = grind (arith, nat_tests, prefix_len-le-length) in
      m ∙ passing xs
