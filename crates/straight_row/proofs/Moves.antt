-- What a straight row answers and does, from what it keeps.
use Rattle.std.proofs.Common.{◌≡◌, ℕ, ◌+◌, ◌-◌, ◌<◌, ◌≤◌, min, Bool, true, false, cond, not, eqb, List, [], ◌∷◌, ◌++◌, length, get_or, take, drop, Some, None, Ok, Err, Option, Result, sym, refl, ap, ◌∙◌, subst, append_assoc, arith}
use borrow.Rule.Slice.Mut.{set_vals}
use borrow.Rule.Slice.PartMut.{put_mid}
use Rattle.std.specs.Result.{result_ok}
use Rattle.std.proofs.lemmas.List.{length-append, length-take-le, length-drop, take-take, take-append-drop, take_at, drop_at, drop-drop, drop-take, drop-append-le}
use Rattle.std.proofs.lemmas.List.Edits.{length-remove}
use Rattle.std.proofs.lemmas.Bool.{cond-true, cond-false, eq-eqb, ne_eqb}
use Rattle.ordered.specs.declared.fault.Fault.{Fault}
use Rattle.ordered.specs.declared.fault.Fault.TheVariants.{Present, Full}
use Rattle.ordered.specs.declared.slot.Slot.{Slot}
use Rattle.ordered.specs.Changes.{put_refusal, absent_refusal, settled, Unmoved}
use Rattle.ordered.specs.Faults.{Outcome}
use Rattle.ordered.specs.Meaning.{Order, Orderly, Ascending, holds, first, inserted, removed, updated}
use Rattle.ordered.specs.Promises.{Answers, Changes}
use Rattle.ordered.specs.Slots.{countable, pairs, Blank, Shows, Holds, Packed}
use Rattle.ordered.proofs.Rows.{length_inserted, length_updated, ascending_inserted, ascending_removed, ascending_updated}
use Rattle.slot_rows.specs.declared.halving.Bound.{Bound}
use Rattle.slot_rows.specs.declared.halving.Bound.TheVariants.{Lower}
use Rattle.slot_rows.specs.Ranks.{key_below, below, lead, Falling}
use Rattle.slot_rows.proofs.Looks.{first_read}
use Rattle.slot_rows.proofs.Held.{pairs_blank, pairs_held, length_held, held_at, held_front, held_more, blank_past, lead_within, inserted_at, found_there, at}
use Rattle.slot_rows.proofs.Parts.{pushed_in}
use Rattle.slot_edits.specs.Edits as slots
use Rattle.straight_row.specs.declared.row.StraightRow.{StraightRow}
use Rattle.straight_row.specs.Index.{row_in, room_in, Keeps}
use Rattle.straight_row.specs.Straight.{counted, row_of, Straight, Leaves}

-- A change of the slots is refused as is due and then changes nothing, or else leaves the row and the count that are given.
pub record Edited {K R X : Type 0} (b : K → K → Bool) (old : List (Slot K R)) (count : ℕ) (due : Option ℕ) (row : List (K × R)) (grown : ℕ) (r : Result X Fault) (new : List (Slot K R)) : Type 0 where
  pub outcome : Outcome due r
  pub unmoved : Unmoved r old new
  pub straight : Straight b new (settled r grown count)
  pub after : row_of new ≡ settled r row (row_of old)
  pub leaves : Leaves (settled r row (row_of old)) old new

-- the same answer with another value
abbrev pub valued : {X Y : Type 0} → Y → Result X Fault → Result Y Fault
valued y (Ok x) = Ok y
valued y (Err f) = Err f

outcome_valued : {X Y : Type 0} (y : Y) (due : Option ℕ) (r : Result X Fault) → Outcome due r → Outcome due (valued y r)
outcome_valued y None (Ok x) o = tt
outcome_valued y None (Err f) o = absurd o
outcome_valued y (Some n) (Ok x) o = absurd o
outcome_valued y (Some n) (Err f) o = o

edited_valued : {K R X Y : Type 0} {b : K → K → Bool} {old new : List (Slot K R)} {count grown : ℕ} (due : Option ℕ) {row : List (K × R)} (y : Y) (r : Result X Fault) → Edited b old count due row grown r new → Edited b old count due row grown (valued y r) new
edited_valued due y (Ok x) e = record { outcome = outcome_valued y due (Ok x) e.outcome; unmoved = tt; straight = e.straight; after = e.after; leaves = e.leaves }
edited_valued due y (Err f) e = record { outcome = outcome_valued y due (Err f) e.outcome; unmoved = e.unmoved; straight = e.straight; after = e.after; leaves = e.leaves }

module _ {K R : Type 0} {b : K → K → Bool} (ss : List (Slot K R)) (count : ℕ) (st : Straight b ss count) where
  abbrev row : List (K × R)
  row = row_of ss

  abbrev cap : ℕ
  cap = countable (length ss)

  abbrev xs : List (Slot K R)
  xs = counted ss

  long : length xs ≡ cap
  long = length-take-le cap ss (omega arith)

  pub within : length row ≤ cap
  within = omega (arith, length_held row xs st.laid, long)

  -- the first slots, as many as the pairs or more, hold the row
  front_held : (m : ℕ) → count ≤ m → m ≤ cap → Holds row (take m ss)
  front_held m l u = subst (Holds row) (take-take m cap ss u) (held_front m row xs (omega (arith, l, st.counts)) st.laid)

  -- those up to the end of the pairs
  pub end_held : (m : ℕ) → m ≡ min count (length ss) → Holds row (take m ss)
  end_held m e = front_held m (omega (arith, e, within, st.counts)) (omega (arith, e, within, st.counts))

  -- a slot that is read among those that hold the pairs
  pub read_held : (o : Order b) (k : K) (bound : Bound) (n : ℕ) (part : List (Slot K R)) (x : Slot K R) → part ≡ take count ss → Holds row part → (Falling (below bound b k) part → n ≡ lead (below bound b k) part) → n < length part → x ≡ get_or part n x
      → Some (x.key, x.value) ≡ first (λ q. not (key_below bound b k q)) row
  read_held o k bound n part x e h is l g =
      let pl : length part ≡ length row = ap length e ∙ length-take-le count ss (omega (arith, within, st.counts)) ∙ sym st.counts in
      first_read o k row part st.ascending h bound n is x l g (held_at n row part x (omega (arith, l, pl)) h g).0

  pub refused : {X : Type 0} (f : Fault) (due : Option ℕ) (new : List (K × R)) (grown : ℕ) → Outcome {X = X} due (Err f) → Edited {X = X} b ss count due new grown (Err f) ss
  refused f due new grown o = record { outcome = o; unmoved = refl; straight = st; after = refl; leaves = record { long = refl; laid = st.laid; beyond = refl } }

  -- the first slots changed so that they hold a new row
  accepted : {X : Type 0} (x : X) (due : Option ℕ) (new : List (K × R)) (grown m : ℕ) (ys : List (Slot K R)) → Outcome due (Ok x) → count ≤ m → m ≤ cap → length ys ≡ m → Holds new ys → Ascending b new → length new ≡ grown
      → Edited b ss count due new grown (Ok x) (ys ++ drop m ss)
  accepted x due new grown m ys o l u e h a c =
      let zs = ys ++ drop m ss in
      let front = ys ++ drop m xs in
      let split : zs ≡ front ++ drop cap ss =
      ap (λ l. ys ++ drop m l) (sym (take-append-drop cap ss)) ∙ ap (λ l. ys ++ l) (drop-append-le m xs (drop cap ss) (omega (arith, u, long))) ∙ sym (append_assoc ys (drop m xs) (drop cap ss)) in
      let fl : length front ≡ cap = omega (arith, length-append ys (drop m xs), length-drop m xs, e, u, long) in
      let zl : length zs ≡ length ss = omega (arith, length-append ys (drop m ss), length-drop m ss, e, u) in
      let same : counted zs ≡ front = ap (λ n. take (countable n) zs) zl ∙ ap (take cap) split ∙ take_at front (drop cap ss) cap fl in
      let held : Holds new (counted zs) = subst (Holds new) (sym same) (held_more new ys (drop m xs) h (blank_past m row xs (omega (arith, l, st.counts)) st.laid)) in
      let is : row_of zs ≡ new = pairs_held new (counted zs) held in
      record {
        outcome = o;
        unmoved = tt;
        straight = record { ascending = subst (Ascending b) (sym is) a; laid = subst (λ r. Holds r (counted zs)) (sym is) held; counts = ap length is ∙ c };
        after = is;
        leaves = record { long = zl; laid = held; beyond = ap (drop cap) split ∙ drop_at front (drop cap ss) cap fl };
      }

  -- packed slots edited as a whole
  edited : {X : Type 0} (due : List (K × R) → Option ℕ) (new : List (K × R) → List (K × R)) (grown m : ℕ) (r : Result X Fault) (ys : List (Slot K R)) → m ≡ min count (length ss)
      → (Packed (take m ss) → Ascending b (pairs (take m ss)) → slots.Edited (take m ss) (due (pairs (take m ss))) (new (pairs (take m ss))) r ys)
      → length ys ≡ length (take m ss) → Ascending b (new row) → ((x : X) → Outcome (due row) (Ok x) → length (new row) ≡ grown) → Edited b ss count (due row) (new row) grown r (ys ++ drop m ss)
  edited {X} due new grown m r ys e c l a g = by_answer r (subst (λ p. slots.Edited (take m ss) (due p) (new p) r ys) same (c (subst (λ p. Holds p (take m ss)) (sym same) held) (subst (Ascending b) (sym same) st.ascending)))
    where
      at_end : m ≡ count
      at_end = omega (arith, e, within, st.counts)

      held : Holds row (take m ss)
      held = end_held m e

      same : pairs (take m ss) ≡ row
      same = pairs_held row (take m ss) held

      by_answer : (r : Result X Fault) → slots.Edited (take m ss) (due row) (new row) r ys → Edited {X = X} b ss count (due row) (new row) grown r (ys ++ drop m ss)
      by_answer (Ok x) w = accepted x (due row) (new row) grown m ys w.outcome (omega (arith, at_end)) (omega (arith, at_end, within, st.counts)) (l ∙ length-take-le m ss (omega (arith, e))) w.laid a (g x w.outcome)
      by_answer (Err f) w =
          subst (λ zs. Edited {X = X} b ss count (due row) (new row) grown (Err f) zs) (sym (ap (λ p. p ++ drop m ss) w.unmoved ∙ take-append-drop m ss)) (refused f (due row) (new row) grown w.outcome)

  module _ (o : Order b) (k : K) where
    absent_put : holds b row k ≡ false → put_refusal b cap row k ≡ cond (eqb (length row) cap) (Some 32) None
    absent_put h = cond-false (holds b row k) (Some 33) (cond (eqb (length row) cap) (Some 32) None) h

    put_free : holds b row k ≡ false → count < cap → put_refusal b cap row k ≡ None
    put_free h l = absent_put h ∙ cond-false (eqb (length row) cap) (Some 32) None (ne_eqb (length row) cap (λ q. omega (arith, q, l, st.counts)))

    pub put_present : (new : List (K × R)) (grown : ℕ) → holds b row k ≡ true → Edited {X = Unit {0}} b ss count (put_refusal b cap row k) new grown (Err Present) ss
    put_present new grown h =
        refused Present (put_refusal b cap row k) new grown (subst (λ d. Outcome {X = Unit {0}} d (Err Present)) (sym (cond-true (holds b row k) (Some 33) (cond (eqb (length row) cap) (Some 32) None) h)) refl)

    pub put_full : (new : List (K × R)) (grown : ℕ) → holds b row k ≡ false → cap ≤ count → Edited {X = Unit {0}} b ss count (put_refusal b cap row k) new grown (Err Full) ss
    put_full new grown h l =
        let full : eqb (length row) cap ≡ true = eq-eqb (length row) cap (omega (arith, l, within, st.counts)) in
        refused Full (put_refusal b cap row k) new grown (subst (λ d. Outcome {X = Unit {0}} d (Err Full)) (sym (absent_put h ∙ cond-true (eqb (length row) cap) (Some 32) None full)) refl)

    pub put_done : (v : R) (x : Slot K R) (n : ℕ) (ys : List (Slot K R)) → Shows x (k, v) → holds b row k ≡ false → n ≡ at o k row → count < cap
        → ys ≡ take (length (take (count + 1 - n) (drop n ss))) (x ∷ take (count + 1 - n) (drop n ss))
        → Edited b ss count (put_refusal b cap row k) (inserted b row k v) (count + 1) (Ok (tt {0})) (put_mid n (count + 1 - n) ss ys)
    put_done v x n ys s h is l e =
        let ln : n ≤ length row = omega (arith, is, lead_within Lower b k row) in
        let m = count + 1 in
        let part = take m ss in
        let q : n + (m - n) ≡ m = omega (arith, ln, st.counts) in
        let rest : take (m - n) (drop n ss) ≡ drop n part = sym (ap (λ i. drop n (take i ss)) (sym q) ∙ drop-take n (m - n) ss) in
        let front = take n part ++ take (length (drop n part)) (x ∷ drop n part) in
        let slots : put_mid n (m - n) ss ys ≡ front ++ drop m ss =
        ap (λ zs. take n ss ++ (ys ++ zs)) (drop-drop (m - n) n ss ∙ ap (λ i. drop i ss) q)
        ∙ ap (λ zs. take n ss ++ (zs ++ drop m ss)) (e ∙ ap (λ zs. take (length zs) (x ∷ zs)) rest)
        ∙ ap (λ zs. zs ++ (take (length (drop n part)) (x ∷ drop n part) ++ drop m ss)) (sym (take-take n m ss (omega (arith, ln, st.counts))))
        ∙ sym (append_assoc (take n part) (take (length (drop n part)) (x ∷ drop n part)) (drop m ss)) in
        let pl : length part ≡ m = length-take-le m ss (omega (arith, l)) in
        let fl : length front ≡ m =
        omega (arith, length-append (take n part) (take (length (drop n part)) (x ∷ drop n part)), length-take-le n part (omega (arith, ln, st.counts, pl)), length-take-le (length (drop n part)) (x ∷ drop n part) (omega arith), length-drop n part, pl, ln, st.counts) in
        let new : take n row ++ ((k, v) ∷ drop n row) ≡ inserted b row k v = ap (λ i. take i row ++ ((k, v) ∷ drop i row)) is ∙ sym (inserted_at o k row v) in
        let held : Holds (inserted b row k v) front = subst (λ r. Holds r front) new (pushed_in row part n (k, v) x (omega (arith, pl, st.counts)) ln (front_held m (omega arith) (omega (arith, l))) s) in
        subst (λ zs. Edited b ss count (put_refusal b cap row k) (inserted b row k v) m (Ok (tt {0})) zs) (sym slots)
        (accepted (tt {0}) (put_refusal b cap row k) (inserted b row k v) m m front (subst (λ d. Outcome {X = Unit {0}} d (Ok (tt {0}))) (sym (put_free h l)) tt) (omega arith) (omega (arith, l)) fl held
        (ascending_inserted o row k v h st.ascending) (omega (arith, length_inserted b row k v, st.counts)))

    module _ (m : ℕ) (ys : List (Slot K R)) (e : m ≡ min count (length ss)) (l : length ys ≡ length (take m ss)) where
      pub set_done : (v : R) (r : Result (Unit {0}) Fault) → (Packed (take m ss) → Ascending b (pairs (take m ss)) → slots.Edited (take m ss) (absent_refusal b (pairs (take m ss)) k) (updated b (pairs (take m ss)) k v) r ys)
          → Edited b ss count (absent_refusal b row k) (updated b row k v) count r (ys ++ drop m ss)
      set_done v r c = edited (λ p. absent_refusal b p k) (λ p. updated b p k v) count m r ys e c l (ascending_updated b row k v st.ascending) (λ x d. length_updated b row k v ∙ st.counts)

      pub take_done : (r : Result ℕ Fault) → (Packed (take m ss) → Ascending b (pairs (take m ss)) → slots.Edited (take m ss) (absent_refusal b (pairs (take m ss)) k) (removed b (pairs (take m ss)) k) r ys)
          → Edited b ss count (absent_refusal b row k) (removed b row k) (count - 1) (valued (tt {0}) r) (ys ++ drop m ss)
      take_done r c = edited_valued (absent_refusal b row k) (tt {0}) r (edited (λ p. absent_refusal b p k) (λ p. removed b p k) (count - 1) m r ys e c l (ascending_removed b row k st.ascending) one_less)
        where
          was_there : (t : Bool) (x : ℕ) → Outcome (cond t None (Some 34)) (Ok x) → t ≡ true
          was_there true x d = refl
          was_there false x d = absurd d

          one_less : (x : ℕ) → Outcome (absent_refusal b row k) (Ok x) → length (removed b row k) ≡ count - 1
          one_less x d =
              let w = found_there o k row st.ascending (was_there (holds b row k) x d) in
              ap length w.taken ∙ omega (arith, length-remove row (at o k row) w.within, st.counts)

-- a new row of slots is empty
pub made_empty : {K R : Type 0} {b : K → K → Bool} (ss : List (Slot K R)) (room : ℕ) (zs : List (Slot K R)) → room ≡ countable (length ss) → Blank zs → length zs ≡ length (take room ss) → Straight b (zs ++ drop room ss) 0
made_empty {b = b} ss room zs e h l =
    let ys = zs ++ drop room ss in
    let n : length zs ≡ room = l ∙ length-take-le room ss (omega (arith, e)) in
    let long : length ys ≡ length ss = omega (arith, length-append zs (drop room ss), length-drop room ss, n, e) in
    let front : counted ys ≡ zs = take_at zs (drop room ss) (countable (length ys)) (n ∙ e ∙ sym (ap countable long)) in
    let blank : Blank (counted ys) = subst Blank (sym front) h in
    let none : row_of ys ≡ [] = pairs_blank (counted ys) blank in
    record { ascending = subst (Ascending b) (sym none) tt; laid = subst (λ rs. Holds rs (counted ys)) (sym none) blank; counts = ap length none }

module _ {K R : Type 0} {b : K → K → Bool} (s : StraightRow K R) where
  orderly : Keeps b s → Orderly b (room_in s) (row_in s)
  orderly k = record { ascending = k.ascending; within = within s.slots.now s.count k }

  pub answers : {X : Type 0} (r given : X) → (Keeps b s → r ≡ given) → Answers row_in room_in (Keeps b) b s r given
  answers r given e = record { gives = e; orderly = orderly }

  -- a change of the slots as a change of the index
  module _ {X : Type 0} (t : StraightRow K R) (due : Option ℕ) (new : List (K × R)) (grown : ℕ) (r : Result X Fault) where
    pub changes : (Keeps b s → Edited b s.slots.now s.count due new grown r t.slots.now) → length t.slots.now ≡ length s.slots.now → t.count ≡ settled r grown s.count
        → (Unmoved r s.slots.now t.slots.now → Unmoved r s t) → Changes row_in room_in (Keeps b) b s due new r t
    changes e l n u = record {
      outcome = λ k. (e k).outcome;
      after = λ k. (e k).after;
      unmoved = λ k. u (e k).unmoved;
      capacity = ap countable l;
      stays = λ k. subst (Straight b t.slots.now) (sym n) (e k).straight;
      orderly = orderly;
    }

pub some_inside : (r : Result ℕ ℕ) (n : ℕ) → Some n ≡ result_ok r → Ok n ≡ r
some_inside (Ok m) n e = cc
some_inside (Err m) n e = cc

pub none_inside : (r : Result ℕ ℕ) → None ≡ result_ok r → (n : ℕ) × (Err n ≡ r)
none_inside (Ok m) e = cc
none_inside (Err m) e = (m, refl)

pub same_count : {X : Type 0} (r : Result X Fault) (n : ℕ) → n ≡ settled r n n
same_count (Ok x) n = refl
same_count (Err f) n = refl

-- slots as they were make the index as it was
pub unmoved_slots : {K R X : Type 0} (r : Result X Fault) (s : StraightRow K R) (zs : List (Slot K R)) → Unmoved r s.slots.now zs → Unmoved r s (record { slots = set_vals zs s.slots; count = s.count })
unmoved_slots (Ok x) s zs e = tt
unmoved_slots (Err f) s zs e = ap (λ ws. record { slots = set_vals ws s.slots; count = s.count }) e
