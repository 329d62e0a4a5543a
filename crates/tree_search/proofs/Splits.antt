-- The target leaf splits the row: what is before it, its own pairs, and what is after it.
use Rattle.std.proofs.Common.{◌≡◌, ℕ, zero, suc, ◌+◌, ◌*◌, ◌<◌, Bool, true, false, cond, not, List, [], ◌∷◌, ◌++◌, length, get_or, take, drop, Some, None, Ok, Err, Option, Result, sym, refl, ap, ◌∙◌, subst, ⊎_elim, zero-mul, arith}
use Rattle.std.proofs.lemmas.Bool.{both_ways, cases_Bool, not-true, not-false, false≢true, cond-true, cond-false, false_from_ne_true}
use Rattle.std.proofs.lemmas.List.{take-append-drop}
use Rattle.ordered.specs.declared.slot.Slot.{Slot}
use Rattle.ordered.specs.Meaning.{Order, After, Ascending, lookup, first, Before}
use Rattle.ordered.specs.Slots.{keep, pairs, Holds, first_key, Packed}
use Rattle.std.specs.Bool.{then_some}
use Rattle.std.specs.Option.{option_or, MatchOption}
use Rattle.std.specs.Result.{result_ok}
use Rattle.std.proofs.lemmas.Option.{none-some, same_Some}
use Rattle.ordered.proofs.Slots.{pairs_append, key_of, first_key_lem}
use Rattle.ordered.proofs.Walks.{head_of, not_both, mid_there}
use Rattle.slot_rows.specs.declared.halving.Bound.{Bound}
use Rattle.slot_rows.specs.declared.halving.Bound.TheVariants.{Lower, Upper}
use Rattle.slot_rows.specs.Ranks.{key_below, below, lead, Falling}
use Rattle.slot_rows.proofs.Looks.{first_blank, first_read}
use Rattle.tree_layout.specs.Levels.{leaves, area, leaf_of}
use Rattle.tree_layout.specs.Belongs.{Headed, Belongs}
use Rattle.tree_layout.proofs.Leaves.{leaf_row, leaf_ascends, leaf_lookup}
use Rattle.tree_index.specs.Index.{index_key}
use Rattle.tree_index.specs.Standing.{tree_row, Stands, not_after, Target}
use Rattle.tree_index.proofs.Keys.{index_next}
use Rattle.tree_search.specs.Belongs.{OnlyIn}
use Rattle.tree_search.proofs.Walks.{first_not_after, ascending_drop}

module _ {K R : Type 0} (m h : ℕ) (xs : List (Slot K R)) (t : ℕ) where
  -- the row before and after the end of leaf t
  pub row_halves : tree_row m h xs ≡ pairs (take (suc t * m) (area m h xs)) ++ pairs (drop (suc t * m) (area m h xs))
  row_halves = ap pairs (sym (take-append-drop (suc t * m) (area m h xs))) ∙ pairs_append (take (suc t * m) (area m h xs)) (drop (suc t * m) (area m h xs))

module _ {K : Type 0} {b : K → K → Bool} (o : Order b) (key : K) where
  -- what is before a key that is not after `key` is before `key`
  strict : (k q : K) → b k q ≡ true → b key q ≡ false → b k key ≡ true
  strict k q e n = ⊎_elim (λ t. t) (λ f. absurd (both_ways _ n (subst (λ x. b x q ≡ true) (o.total k key f (false_from_ne_true _ (λ g. both_ways _ n (o.transitive key k q g e)))) e))) (cases_Bool (b k key))

module _ {K R : Type 0} {b : K → K → Bool} (o : Order b) (key : K) where
  first_strict : (k : K) (n : ℕ) (ss : List (Slot K R)) → After b k (pairs ss) → not_after b key (first_key (drop n ss)) ≡ true → b k key ≡ true
  first_strict k zero [] a p = absurd (false≢true p)
  first_strict k (suc n) [] a p = absurd (false≢true p)
  first_strict k zero (s ∷ ss) a p =
      (elim s.filled as (λ t. After b k (keep t (s.key, s.value) (pairs ss)) → not_after b key (cond t (Some s.key) (first_key ss)) ≡ true → b k key ≡ true)
      [ true ↦ λ a p. strict o key k s.key a.0 (not-true _ p) | false ↦ λ a p. first_strict k zero ss a p ])
      a p
  first_strict k (suc n) (s ∷ ss) a p =
      (elim s.filled as (λ t. After b k (keep t (s.key, s.value) (pairs ss)) → b k key ≡ true) [ true ↦ λ a. first_strict k n ss a.1 p | false ↦ λ a. first_strict k n ss a p ]) a

  -- what stands before a first key that is not after `key`
  pub before_take : (n : ℕ) (ss : List (Slot K R)) → Ascending b (pairs ss) → not_after b key (first_key (drop n ss)) ≡ true → Before b key (pairs (take n ss))
  before_take zero ss so p = tt
  before_take (suc n) [] so p = tt
  before_take (suc n) (s ∷ ss) so p =
      (elim s.filled as (λ t. Ascending b (keep t (s.key, s.value) (pairs ss)) → Before b key (keep t (s.key, s.value) (pairs (take n ss))))
      [ true ↦ λ so. (first_strict s.key n ss so.0 p, before_take n ss so.1 p) | false ↦ λ so. before_take n ss so p ])
      so

  -- what stands from a first key on that is after `key`
  pub after_all : (ss : List (Slot K R)) → Ascending b (pairs ss) → not_after b key (first_key ss) ≡ false → After b key (pairs ss)
  after_all [] so p = tt
  after_all (s ∷ ss) so p =
      (elim s.filled as (λ t. Ascending b (keep t (s.key, s.value) (pairs ss)) → not_after b key (cond t (Some s.key) (first_key ss)) ≡ false → After b key (keep t (s.key, s.value) (pairs ss)))
      [ true ↦ λ so p. (not-false _ p, after_all ss so.1 (false_from_ne_true _ (λ q. both_ways _ (first_not_after b o.transitive key s.key zero ss so.0 q) (not-false _ p)))) | false ↦ λ so p. after_all ss so p ])
      so p

  module _ (m h : ℕ) (xs : List (Slot K R)) (t : ℕ) (st : Stands b m h xs) (target : Target b m h xs key t) where
    earlier_keys : (t : ℕ) → (0 < t → not_after b key (index_key m h xs t) ≡ true) → Before b key (pairs (take (t * m) (area m h xs)))
    earlier_keys zero l = rw (zero-mul m) tt
    earlier_keys (suc u) l = before_take (suc u * m) (area m h xs) st.ascending (l (omega arith))

    -- a leaf with an index key that the next leaf does not have begins with it
    headed_by : (ss : List (Slot K R)) (next : Option K) → not_after b key (option_or (first_key ss) next) ≡ true → not_after b key next ≡ false → Headed b key (pairs ss)
    headed_by [] next p n = absurd (both_ways (not_after b key next) n p)
    headed_by (s ∷ ss) next p n =
        (elim s.filled as (λ t. not_after b key (option_or (cond t (Some s.key) (first_key ss)) next) ≡ true → Headed b key (keep t (s.key, s.value) (pairs ss))) [ true ↦ λ p. not-true _ p | false ↦ λ p. headed_by ss next p n ]) p

    pub belongs : Belongs b m (leaves m h) (area m h xs) key t
    belongs =
        let e : t + 1 ≡ suc t = omega arith in
        record {
          within = target.within;
          earlier = earlier_keys t target.low;
          later = after_all (drop (suc t * m) (area m h xs)) (ascending_drop b o.transitive key (suc t * m) (area m h xs) st.ascending) (target.high (suc t) (omega arith));
          headed = λ l. headed_by (leaf_of m h xs t) (index_key m h xs (t + 1)) (subst (λ k. not_after b key k ≡ true) (index_next m h t xs) (target.low l)) (target.high (t + 1) (omega arith));
        }

    pub only_in : OnlyIn b m h xs key t
    only_in = record {
      belongs = belongs;
      here = leaf_lookup m t (area m h xs) o (leaves m h) key belongs;
    }

    module _ (f : K → Bool) (low : (k : K) → b k key ≡ true → f k ≡ false) (high : (k : K) → b key k ≡ true → f k ≡ true) where
      first_skip : (P Q : List (K × R)) → Before b key P → first f (P ++ Q) ≡ first f Q
      first_skip [] Q e = refl
      first_skip (p ∷ P) Q e = cond-false (f p.0) (Some p) (first f (P ++ Q)) (low p.0 e.0) ∙ first_skip P Q e.1

      first_join : (P Q : List (K × R)) → first f (P ++ Q) ≡ option_or (first f P) (first f Q)
      first_join [] Q = refl
      first_join (p ∷ P) Q = elim (f p.0) as (λ t. cond t (Some p) (first f (P ++ Q)) ≡ option_or (cond t (Some p) (first f P)) (first f Q)) [ true ↦ refl | false ↦ first_join P Q ]

      first_any : (Q : List (K × R)) → After b key Q → first f Q ≡ first (λ _. true) Q
      first_any [] a = refl
      first_any (q ∷ Q) a = cond-true (f q.0) (Some q) (first f Q) (high q.0 a.0)

      first_parts : first f (tree_row m h xs) ≡ option_or (first f (pairs (leaf_of m h xs t))) (first (λ _. true) (pairs (drop (suc t * m) (area m h xs))))
      first_parts =
          ap (first f) (leaf_row m t (area m h xs)) ∙ first_skip (pairs (take (t * m) (area m h xs))) _ belongs.earlier ∙ first_join (pairs (leaf_of m h xs t)) _
          ∙ ap (option_or (first f (pairs (leaf_of m h xs t)))) (first_any (pairs (drop (suc t * m) (area m h xs))) belongs.later)

    -- the first pair not below the key is in the target leaf, or else the first past it
    pub first_split : (bound : Bound) → first (λ q. not (key_below bound b key q)) (tree_row m h xs) ≡ option_or (first (λ q. not (key_below bound b key q)) (pairs (leaf_of m h xs t))) (first (λ _. true) (pairs (drop (suc t * m) (area m h xs))))
    first_split Lower = first_parts (λ q. not (b q key)) (λ k e. ap not e) (λ k e. ap not (not_both o key k e))
    first_split Upper = first_parts (λ q. not (not (b key q))) (λ k e. ap (λ t. not (not t)) (not_both o k key e)) (λ k e. ap (λ t. not (not t)) e)

module _ {K R : Type 0} {b : K → K → Bool} (o : Order b) where
  first_head : (row : List (K × R)) → head_of row ≡ first (λ _. true) row
  first_head [] = refl
  first_head (p ∷ row) = refl

  no_key : (p : Option (K × R)) → None ≡ key_of p → None ≡ p
  no_key None e = refl
  no_key (Some p) e = absurd (none-some p.0 e)

  next_pair : (P Q : List (K × R)) → Ascending b (P ++ Q) → (k : K) → Some k ≡ key_of (head_of Q) → (v : R) × (first (λ _. true) Q ≡ Some (k, v)) × (lookup b (P ++ Q) k ≡ Some v)
  next_pair P [] a k e = absurd (none-some k (sym e))
  next_pair P (x ∷ Q) a k e = let q : x.0 ≡ k = cc in (x.1, ap (λ y. Some (y, x.1)) q, ap (lookup b (P ++ (x ∷ Q))) (sym q) ∙ mid_there o x Q P a)

  -- the first pair past leaf t, by the index key of the next leaf
  module _ (m h : ℕ) (xs : List (Slot K R)) (t : ℕ) (st : Stands b m h xs) where
    abbrev rest : List (K × R)
    rest = pairs (drop (suc t * m) (area m h xs))

    next_key : index_key m h xs (t + 1) ≡ key_of (head_of rest)
    next_key = let e : t + 1 ≡ suc t = omega arith in ap (index_key m h xs) e ∙ first_key_lem (drop (suc t * m) (area m h xs))

    pub past_none : None ≡ index_key m h xs (t + 1) → None ≡ first (λ _. true) rest
    past_none e = no_key _ (e ∙ next_key) ∙ first_head rest

    pub past_some : (k : K) → Some k ≡ index_key m h xs (t + 1) → (v : R) × (first (λ _. true) rest ≡ Some (k, v)) × (lookup b (tree_row m h xs) k ≡ Some v)
    past_some k e =
        let n = next_pair (pairs (take (suc t * m) (area m h xs))) rest (subst (Ascending b) (row_halves m h xs t) st.ascending) k (e ∙ next_key) in
        (n.0, n.1, ap (λ (r : List (K × R)). lookup b r k) (row_halves m h xs t) ∙ n.2)

-- what a search answers, from what it finds in the slots of the target leaf
module _ {K R : Type 0} {b : K → K → Bool} (o : Order b) (key : K) (m h : ℕ) (xs : List (Slot K R)) (t : ℕ) (st : Stands b m h xs) (target : Target b m h xs key t) (part : List (Slot K R)) (is : part ≡ leaf_of m h xs t) where
  leaf_known : Packed part × Ascending b (pairs part)
  leaf_known = subst (λ (ss : List (Slot K R)). Packed ss × Ascending b (pairs ss)) (sym is) (st.packed t target.within, leaf_ascends m t (area m h xs) b st.ascending)

  pub find_in : (r : Option R) → (Packed part → Ascending b (pairs part) → r ≡ lookup b (pairs part) key) → r ≡ lookup b (tree_row m h xs) key
  find_in r f = f leaf_known.0 leaf_known.1 ∙ ap (λ (ss : List (Slot K R)). lookup b (pairs ss) key) is ∙ sym (only_in o key m h xs t st target).here

  abbrev past : Option (K × R)
  past = first (λ _. true) (pairs (drop (suc t * m) (area m h xs)))

  -- a pair is given from the leaf, or else from what is past it
  pub first_in_or_past : (bound : Bound) (here r : Option (K × R)) → (Packed part → Ascending b (pairs part) → here ≡ first (λ q. not (key_below bound b key q)) (pairs part)) → MatchOption here (r ≡ past) (λ p. r ≡ Some p)
      → r ≡ first (λ q. not (key_below bound b key q)) (tree_row m h xs)
  first_in_or_past bound here r f g =
      given here g ∙ ap (λ (p : Option (K × R)). option_or p past) (f leaf_known.0 leaf_known.1 ∙ ap (λ (ss : List (Slot K R)). first (λ q. not (key_below bound b key q)) (pairs ss)) is) ∙ sym (first_split o key m h xs t st target bound)
    where
      given : (here : Option (K × R)) → MatchOption here (r ≡ past) (λ p. r ≡ Some p) → r ≡ option_or here past
      given None g = g
      given (Some p) g = g

-- what a search answered, by what is left of it
pub was_ok : (r : Result ℕ ℕ) (n : ℕ) → Some n ≡ result_ok r → r ≡ Ok n
was_ok (Ok m) n e = ap Ok (sym (same_Some n m e))
was_ok (Err m) n e = absurd (none-some n (sym e))

pub was_err : (r : Result ℕ ℕ) → None ≡ result_ok r → (n : ℕ) × (r ≡ Err n)
was_err (Ok m) e = absurd (none-some m e)
was_err (Err m) e = (m, refl)

-- the slot at the rank of a key is the first that is not below it, if it is filled
module _ {K R : Type 0} {b : K → K → Bool} (o : Order b) (k : K) (row : List (K × R)) (leaf : List (Slot K R)) (asc : Ascending b row) (h : Holds row leaf) (bound : Bound) (n : ℕ) (is : Falling (below bound b k) leaf → n ≡ lead (below bound b k) leaf) (x : Slot K R) (l : n < length leaf) (g : x ≡ get_or leaf n x) where
  pub first_slot : then_some x.filled (x.key, x.value) ≡ first (λ q. not (key_below bound b k q)) row
  first_slot = ⊎_elim (λ t. ap (λ u. then_some u (x.key, x.value)) t ∙ first_read o k row leaf asc h bound n is x l g t) (λ f. ap (λ u. then_some u (x.key, x.value)) f ∙ first_blank o k row leaf asc h bound n is x g f) (cases_Bool x.filled)

pub past_given : {X : Type 0} (o : Option X) (P Q : Type 0) (S : X → Type 0) → (P → Q) → MatchOption o P S → MatchOption o Q S
past_given None P Q S f m = f m
past_given (Some x) P Q S f m = m
