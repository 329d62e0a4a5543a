-- Slots one after another: their pairs, the first key found in them, and parts of slots that hold a row.
use Rattle.std.proofs.Common.{◌≡◌, ℕ, zero, suc, true, false, cond, List, [], ◌∷◌, ◌++◌, take, drop, Some, Option, refl, ap}
use Rattle.std.specs.Option.{option_or, option_map}
use Rattle.ordered.specs.declared.slot.Slot.{Slot}
use Rattle.ordered.specs.Slots.{keep, pairs, Blank, Holds, first_key}
use Rattle.ordered.proofs.Walks.{head_of}

module _ {K R : Type 0} where
  pub pairs_append : (ss ts : List (Slot K R)) → pairs (ss ++ ts) ≡ pairs ss ++ pairs ts
  pairs_append [] ts = refl
  pairs_append (s ∷ ss) ts =
      elim s.filled as (λ t. keep t (s.key, s.value) (pairs (ss ++ ts)) ≡ keep t (s.key, s.value) (pairs ss) ++ pairs ts)
      [ true ↦ ap (λ ps. (s.key, s.value) ∷ ps) (pairs_append ss ts) | false ↦ pairs_append ss ts ]

  pub first_append : (ss ts : List (Slot K R)) → first_key (ss ++ ts) ≡ option_or (first_key ss) (first_key ts)
  first_append [] ts = refl
  first_append (s ∷ ss) ts =
      elim s.filled as (λ t. cond t (Some s.key) (first_key (ss ++ ts)) ≡ option_or (cond t (Some s.key) (first_key ss)) (first_key ts)) [ true ↦ refl | false ↦ first_append ss ts ]

  -- the key of a pair, where there is one
  abbrev pub key_of : Option (K × R) → Option K
  key_of p = option_map (λ q. q.0) p

  pub first_key_lem : (ss : List (Slot K R)) → first_key ss ≡ key_of (head_of (pairs ss))
  first_key_lem [] = refl
  first_key_lem (s ∷ ss) =
      elim s.filled as (λ t. cond t (Some s.key) (first_key ss) ≡ key_of (head_of (keep t (s.key, s.value) (pairs ss)))) [ true ↦ refl | false ↦ first_key_lem ss ]

  blank_take : (n : ℕ) (ss : List (Slot K R)) → Blank ss → Blank (take n ss)
  blank_take zero ss h = tt
  blank_take (suc n) [] h = tt
  blank_take (suc n) (s ∷ ss) h = (h.0, blank_take n ss h.1)

  blank_drop : (n : ℕ) (ss : List (Slot K R)) → Blank ss → Blank (drop n ss)
  blank_drop zero ss h = h
  blank_drop (suc n) [] h = h
  blank_drop (suc n) (s ∷ ss) h = blank_drop n ss h.1

  pub holds_take : (n : ℕ) (row : List (K × R)) (ss : List (Slot K R)) → Holds row ss → Holds (take n row) (take n ss)
  holds_take zero row ss h = tt
  holds_take (suc n) [] ss h = blank_take (suc n) ss h
  holds_take (suc n) (p ∷ ps) [] h = absurd h
  holds_take (suc n) (p ∷ ps) (s ∷ ss) h = (h.0, holds_take n ps ss h.1)

  pub holds_drop : (n : ℕ) (row : List (K × R)) (ss : List (Slot K R)) → Holds row ss → Holds (drop n row) (drop n ss)
  holds_drop zero row ss h = h
  holds_drop (suc n) [] ss h = blank_drop (suc n) ss h
  holds_drop (suc n) (p ∷ ps) [] h = absurd h
  holds_drop (suc n) (p ∷ ps) (s ∷ ss) h = holds_drop n ps ss h.1
