-- In a packed leaf the filled slots come first, and the last slot tells whether one is free.
use Rattle.std.proofs.Common.{◌≡◌, ℕ, zero, suc, ◌-◌, ◌<◌, ◌≤◌, Bool, true, false, not, ltb, List, [], ◌∷◌, length, get_or, sym, ap, ◌∙◌, subst, ⊎_elim, arith}
use Rattle.std.specs.List.Sorted.{IsPartitionedBy, IsPartitionPoint}
use Rattle.std.proofs.lemmas.Bool.{both_ways, cases_lt, ltb-true, lt-ltb, le-ltb}
use Rattle.std.proofs.lemmas.Bool.Decides.{nat_tests}
use Rattle.ordered.specs.declared.slot.Slot.{Slot}
use Rattle.ordered.specs.Slots.{pairs, Blank, Holds, Packed}
use Rattle.slot_rows.proofs.Held.{length_held}

module _ {K R : Type 0} where
  blank_at : (ss : List (Slot K R)) (i : ℕ) (d : Slot K R) → Blank ss → i < length ss → (get_or ss i d).filled ≡ false
  blank_at [] i d h l = absurd (omega (arith, l))
  blank_at (s ∷ ss) zero d h l = h.0
  blank_at (s ∷ ss) (suc i) d h l = blank_at ss i d h.1 (omega (arith, l))

  -- a slot is filled exactly within the row
  filled_at : (row : List (K × R)) (ss : List (Slot K R)) (i : ℕ) (d : Slot K R) → Holds row ss → i < length ss → (get_or ss i d).filled ≡ ltb i (length row)
  filled_at [] ss i d h l = blank_at ss i d h l ∙ sym (le-ltb i 0 (omega arith))
  filled_at (p ∷ row) [] i d h l = absurd h
  filled_at (p ∷ row) (s ∷ ss) zero d h l = h.0.0 ∙ sym (lt-ltb 0 (suc (length row)) (omega arith))
  filled_at (p ∷ row) (s ∷ ss) (suc i) d h l = filled_at row ss i d h.1 (omega (arith, l)) ∙ (let z : ltb i (length row) ≡ ltb (suc i) (suc (length row)) = grind (arith, nat_tests) in z)

  pub last_tells : (w m : ℕ) (us ss : List (Slot K R)) (d : Slot K R) → us ≡ ss → length us ≡ m → w ≡ m → 0 < m → Packed ss → not (get_or us (w - 1) d).filled ≡ ltb (length (pairs ss)) m
  last_tells w m us ss d e l ew p h =
      let f : (get_or us (w - 1) d).filled ≡ ltb (w - 1) (length (pairs ss)) = filled_at (pairs ss) us (w - 1) d (subst (Holds (pairs ss)) (sym e) h) (omega (arith, l, ew, p)) in
      ap not f ∙ (let z : not (ltb (w - 1) (length (pairs ss))) ≡ ltb (length (pairs ss)) m = grind (arith, nat_tests) in z)

  abbrev is_filled : Slot K R → Bool
  is_filled s = s.filled

  -- the filled slots of a packed leaf end where its pairs do
  pub filled_end : (ss us : List (Slot K R)) (n : ℕ) → us ≡ ss → Packed ss → n ≤ length us → (IsPartitionedBy is_filled us → IsPartitionPoint (λ s. is_filled s ≡ true) (λ s. is_filled s ≡ false) us n) → n ≡ length (pairs ss)
  filled_end [] us n e h l split = omega (arith, l, ap length e)
  filled_end (d ∷ ts) us n e h l split = ⊎_elim
      (λ lt. absurd (both_ways _ (point.1 n d (omega arith) (omega (arith, lt, long))) (f n d (omega (arith, lt, long)) ∙ lt-ltb n (length (pairs (d ∷ ts))) lt)))
      (λ ge. ⊎_elim
      (λ lt. absurd (both_ways _ (f (length (pairs (d ∷ ts))) d (omega (arith, lt, l)) ∙ le-ltb _ (length (pairs (d ∷ ts))) (omega arith)) (point.0 (length (pairs (d ∷ ts))) d (omega arith) lt)))
      (λ le. omega (arith, ge, le))
      (cases_lt (length (pairs (d ∷ ts))) n))
      (cases_lt n (length (pairs (d ∷ ts))))
    where
      f : (i : ℕ) (x : Slot K R) → i < length us → is_filled (get_or us i x) ≡ ltb i (length (pairs (d ∷ ts)))
      f i x = filled_at (pairs (d ∷ ts)) us i x (subst (Holds (pairs (d ∷ ts))) (sym e) h)

      long : length (pairs (d ∷ ts)) ≤ length us
      long = omega (arith, length_held (pairs (d ∷ ts)) (d ∷ ts) h, ap length e)

      point : IsPartitionPoint (λ s. is_filled s ≡ true) (λ s. is_filled s ≡ false) us n
      point = split (λ i j x l u t. f i x (omega (arith, l, u)) ∙ lt-ltb i (length (pairs (d ∷ ts))) (omega (arith, l, ltb-true j (length (pairs (d ∷ ts))) (sym (f j x u) ∙ t))))
