-- What a search finds in slots that hold an ascending row.
use Rattle.std.proofs.Common.{◌≡◌, ℕ, zero, suc, ◌<◌, ◌≤◌, Bool, true, false, cond, not, List, [], ◌∷◌, length, get_or, drop, Some, None, Ok, Err, Option, Result, sym, refl, ap, ◌∙◌, ⊎_elim, arith}
use Rattle.std.proofs.lemmas.Bool.{both_ways, cases_lt}
use Rattle.ordered.specs.declared.slot.Slot.{Slot}
use Rattle.ordered.specs.Meaning.{Order, Ascending, lookup, holds, first}
use Rattle.ordered.specs.Slots.{Blank, Shows, Holds}
use Rattle.ordered.proofs.Rows.{absent_there}
use Rattle.slot_rows.specs.declared.halving.Bound.{Bound}
use Rattle.slot_rows.specs.declared.halving.Bound.TheVariants.{Lower}
use Rattle.slot_rows.specs.Ranks.{key_below, below, lead, Falling, located}
use Rattle.slot_rows.proofs.Held.{head_of, length_held, held_at, head_past, lead_held, first_lead, falling_held, there_held, found_there, at}

inside_ok : (t : Bool) (n m : ℕ) → Ok n ≡ cond t (Ok m) (Err m) → (t ≡ true) × (n ≡ m)
inside_ok true n m e = (refl, cc)
inside_ok false n m e = cc

inside_err : (t : Bool) (n m : ℕ) → Err n ≡ cond t (Ok m) (Err m) → (t ≡ false) × (n ≡ m)
inside_err true n m e = cc
inside_err false n m e = (refl, cc)

pair_inside : {K R : Type 0} (x y : K) (u v : R) → ◌≡◌ {A = Option (K × R)} (Some (x, u)) (Some (y, v)) → (x ≡ y) × (u ≡ v)
pair_inside {K} {R} x y u v e = let q : ◌≡◌ {A = K × R} (x, u) (y, v) = cc in (ap (λ p. p.0) q, ap (λ p. p.1) q)

-- a slot past the row is blank
pub held_past : {K R : Type 0} (n : ℕ) (row : List (K × R)) (ss : List (Slot K R)) (x : Slot K R) → length row ≤ n → n < length ss → Holds row ss → x ≡ get_or ss n x → x.filled ≡ false
held_past n [] ss x l u h e = blank_at n ss u h e
  where
    blank_at : (n : ℕ) (ss : List (Slot _ _)) → n < length ss → Blank ss → x ≡ get_or ss n x → x.filled ≡ false
    blank_at n [] u h e = absurd (omega arith)
    blank_at zero (s ∷ ss) u h e = ap (λ y. y.filled) e ∙ h.0
    blank_at (suc n) (s ∷ ss) u h e = blank_at n ss (omega arith) h.1 e
held_past n (p ∷ ps) [] x l u h e = absurd h
held_past zero (p ∷ ps) (s ∷ ss) x l u h e = absurd (omega arith)
held_past (suc n) (p ∷ ps) (s ∷ ss) x l u h e = held_past n ps ss x (omega arith) (omega arith) h.1 e

module _ {K R : Type 0} {b : K → K → Bool} (o : Order b) (k : K) (row : List (K × R)) (part : List (Slot K R)) (asc : Ascending b row) (h : Holds row part) where
  module _ (bound : Bound) (n : ℕ) (is : Falling (below bound b k) part → n ≡ lead (below bound b k) part) where
    from_here : first (λ q. not (key_below bound b k q)) row ≡ head_of (drop n row)
    from_here = first_lead bound b k row ∙ ap (λ m. head_of (drop m row)) (sym (is (falling_held o k bound row part asc h) ∙ lead_held bound b k row part h))

    pub first_past : length part ≤ n → None ≡ first (λ q. not (key_below bound b k q)) row
    first_past l = sym (from_here ∙ head_past n row (omega (arith, l, length_held row part h)))

    pub first_blank : (x : Slot K R) → x ≡ get_or part n x → x.filled ≡ false → None ≡ first (λ q. not (key_below bound b k q)) row
    first_blank x g f = sym (from_here ∙ ⊎_elim (λ l. absurd (both_ways x.filled f (held_at n row part x l h g).0)) (λ l. head_past n row l) (cases_lt n (length row)))

    pub first_read : (x : Slot K R) → n < length part → x ≡ get_or part n x → x.filled ≡ true → Some (x.key, x.value) ≡ first (λ q. not (key_below bound b k q)) row
    first_read x l g f = sym (from_here ∙ ⊎_elim (λ u. (held_at n row part x u h g).1) (λ u. absurd (both_ways x.filled (held_past n row part x u l h g) f)) (cases_lt n (length row)))

  looked : (r : Result ℕ ℕ) → (Falling (below Lower b k) part → r ≡ located b k part) → r ≡ cond (holds b row k) (Ok (at o k row)) (Err (at o k row))
  looked r is =
      is (falling_held o k Lower row part asc h)
      ∙ ap (λ t. cond t (Ok (lead (below Lower b k) part)) (Err (lead (below Lower b k) part))) (there_held o k row part asc h)
      ∙ ap (λ m. cond (holds b row k) (Ok m) (Err m)) (lead_held Lower b k row part h)

  pub found : (n : ℕ) → (Falling (below Lower b k) part → Ok n ≡ located b k part) → (holds b row k ≡ true) × (n ≡ at o k row)
  found n is = inside_ok (holds b row k) n (at o k row) (looked (Ok n) is)

  pub missing : (n : ℕ) → (Falling (below Lower b k) part → Err n ≡ located b k part) → (holds b row k ≡ false) × (n ≡ at o k row)
  missing n is = inside_err (holds b row k) n (at o k row) (looked (Err n) is)

  module _ (n : ℕ) (x : Slot K R) (is : Falling (below Lower b k) part → Ok n ≡ located b k part) (g : x ≡ get_or part n x) where
    read_found : (x.filled ≡ true) × (x.key ≡ k) × (Some x.value ≡ lookup b row k)
    read_found =
        let f = found n is in
        let w = found_there o k row asc f.0 in
        let r = held_at n row part x (omega (arith, f.1, w.within)) h g in
        let i = pair_inside x.key k x.value w.value (sym r.1 ∙ ap (λ m. head_of (drop m row)) f.1 ∙ w.head) in
        (r.0, i.0, ap Some i.1 ∙ sym w.found)

    -- the slot that is found, with another value
    pub shows_found : (v : R) → Shows (record { filled = x.filled; key = x.key; value = v }) (k, v)
    shows_found v = (read_found.0, read_found.1, refl)

    pub value_found : Some x.value ≡ lookup b row k
    value_found = read_found.2

  pub value_missing : (n : ℕ) → (Falling (below Lower b k) part → Err n ≡ located b k part) → None ≡ lookup b row k
  value_missing n is = sym (absent_there b row k (missing n is).0)
