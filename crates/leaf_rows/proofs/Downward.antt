-- A pair put in with the pairs below it moved down, to the free slot of an earlier leaf.
use Rattle.std.proofs.Common.{◌≡◌, ℕ, zero, suc, ◌+◌, ◌-◌, ◌*◌, ◌<◌, ◌≤◌, Bool, false, cond, eqb, List, [], ◌∷◌, ◌++◌, length, get_or, take, drop, set, sym, refl, ap, ◌∙◌, subst, append_assoc, mul-le-mul_right, add-mul, arith, length-set, take-add}
use lib.Seq.{take-append-add, drop-append-add}
use borrow.Rule.Slice.PartMut.{put_mid}
use Rattle.std.proofs.lemmas.List.{length-append, length-take-le, length-drop, length_push, take_all, take_at, take-append-drop, take-append-le, drop_at, drop-append-le, drop-drop, get_or-drop, get_or_append_left, set-append_left, set-append_right}
use Rattle.std.proofs.lemmas.Bool.{eq-eqb, ne_eqb}
use Rattle.std.proofs.Math.Nat.{suc-mul}
use Rattle.ordered.specs.declared.slot.Slot.{Slot}
use Rattle.ordered.specs.Meaning.{Order, After, holds, Before}
use Rattle.ordered.specs.Slots.{pairs, Shows, Holds, Packed}
use Rattle.ordered.proofs.Walks.{head_of}
use Rattle.ordered.proofs.Slots.{pairs_append, key_of}
use Rattle.ordered.proofs.Joins.{before_append, after_append}
use Rattle.slot_rows.proofs.Held.{pairs_held, held_take, held_drop, held_append, at}
use Rattle.slot_rows.proofs.Packs.{part_packed}
use Rattle.tree_layout.specs.Levels.{leaf_at}
use Rattle.tree_layout.specs.Belongs.{Belongs}
use Rattle.tree_layout.proofs.Leaves.{leaf_long}
use Rattle.leaf_rows.specs.Leaves.{count_at, Leafed, Nearest, PutIn}
use Rattle.leaf_rows.proofs.Blocks.{leaf_within, leaf_behind, full_block}
use Rattle.leaf_rows.proofs.Dealt.{dealt_full}
use Rattle.leaf_rows.proofs.Landing.{stretches, put_block}
use Rattle.leaf_rows.proofs.Upward.{place_within, earlier_keys, later_keys, some_earlier, absent_whole}

module _ {K R : Type 0} where
  -- one more pair in the next slot
  pub held_push : (x : Slot K R) (p : K × R) (row : List (K × R)) (ss : List (Slot K R)) (n : ℕ) → Holds row ss → n ≡ length row → n < length ss → Shows x p → Holds (row ++ (p ∷ [])) (set ss n x)
  held_push x p [] [] n h e l s = absurd (omega (arith, l))
  held_push x p [] (y ∷ ss) zero h e l s = (s, h.1)
  held_push x p [] (y ∷ ss) (suc n) h e l s = absurd (omega (arith, e))
  held_push x p (q ∷ row) [] n h e l s = absurd h
  held_push x p (q ∷ row) (y ∷ ss) zero h e l s = absurd (omega (arith, e))
  held_push x p (q ∷ row) (y ∷ ss) (suc n) h e l s = (h.0, held_push x p row ss n h.1 (omega (arith, e)) (omega (arith, l)) s)

  -- full slots whose first pair has left, with a new pair in its place among them
  pub record Sunk (k : K) (v : R) (x s : Slot K R) (row : List (K × R)) (ss : List (Slot K R)) (i : ℕ) : Type 0 where
    pub first : K × R
    pub shown : Shows s first
    pub begins : take i row ≡ first ∷ drop 1 (take i row)
    pub held : Holds (drop 1 (take i row) ++ ((k, v) ∷ drop i row)) (drop 1 (take i ss ++ (x ∷ [])) ++ drop i ss)

  pub sink : (k : K) (v : R) (x s : Slot K R) → Shows x (k, v) → (row : List (K × R)) (ss : List (Slot K R)) (i : ℕ) → Holds row ss → length row ≡ length ss → 0 < i → i ≤ length row → s ≡ get_or ss 0 s → Sunk k v x s row ss i
  sink k v x s sh row ss zero h e p l g = absurd (omega (arith, p))
  sink k v x s sh [] ss (suc i) h e p l g = absurd (omega (arith, l))
  sink k v x s sh (q ∷ row) [] (suc i) h e p l g = absurd h
  sink k v x s sh (q ∷ row) (y ∷ ss) (suc i) h e p l g = record {
    first = q;
    shown = subst (λ z. Shows z q) (sym g) h.0;
    begins = refl;
    held = subst (Holds (take i row ++ ((k, v) ∷ drop i row))) (sym (append_assoc (take i ss) (x ∷ []) (drop i ss)))
        (held_append (take i row) ((k, v) ∷ drop i row) (take i ss) (x ∷ drop i ss) (length-take-le i ss (omega (arith, l, e)) ∙ sym (length-take-le i row (omega (arith, l))))
        (held_take i row ss (omega (arith, l)) h.1) (sh, held_drop i row ss (omega (arith, l)) h.1));
  }

module _ {K R : Type 0} {b : K → K → Bool} (o : Order b) (m n : ℕ) (ys : List (Slot K R)) (lf : Leafed b m n ys) (k : K) (v : R) (x : Slot K R) (sh : Shows x (k, v)) (r j : ℕ) (bl : Belongs b m n ys k (r + suc j))
    (absent : holds b (pairs (leaf_at m ys (r + suc j))) k ≡ false) (near : Nearest m n ys (r + suc j) r) (full : (p : ℕ) → r < p → p ≤ r + suc j → count_at m ys p ≡ m)
    (moved : Slot K R) (read : moved ≡ get_or ys (suc r * m) moved) where
  abbrev t : ℕ
  t = r + suc j

  abbrev lrow : List (K × R)
  lrow = pairs (leaf_at m ys t)

  abbrev a : ℕ
  a = at o k lrow

  abbrev A : List (Slot K R)
  A = take (r * m) ys

  abbrev L : List (Slot K R)
  L = leaf_at m ys r

  abbrev Q : List (Slot K R)
  Q = take (suc j * m) (drop (suc r * m) ys)

  abbrev F : List (Slot K R)
  F = take (j * m) (drop (suc r * m) ys)

  abbrev C : List (Slot K R)
  C = drop (suc t * m) ys

  abbrev S : List (Slot K R)
  S = take (suc (suc j) * m) (drop (r * m) ys)

  abbrev i : ℕ
  i = j * m + a

  abbrev L' : List (Slot K R)
  L' = set L (length (pairs L)) moved

  abbrev Q' : List (Slot K R)
  Q' = drop 1 (take i Q ++ (x ∷ [])) ++ drop i Q

  fits : suc t * m ≤ n * m
  fits = mul-le-mul_right m bl.within

  t_times : t * m ≡ suc r * m + j * m
  t_times = omega (arith, add-mul r (suc j) m, suc-mul j m, suc-mul r m)

  long_l : length L ≡ m
  long_l = leaf_long m n r ys lf.long (omega (arith, near.within))

  long_a : length A ≡ r * m
  long_a = length-take-le (r * m) ys (omega (arith, lf.long, fits, suc-mul t m, t_times, suc-mul r m))

  long_q : length Q ≡ suc j * m
  long_q = length-take-le (suc j * m) (drop (suc r * m) ys) (omega (arith, length-drop (suc r * m) ys, lf.long, fits, suc-mul t m, t_times, suc-mul j m))

  block : Packed Q × (length (pairs Q) ≡ j * m + count_at m ys (suc r + j))
  block = full_block m ys n lf.long j (suc r) (omega (arith, bl.within)) (λ p l u. lf.packed p (omega (arith, u, bl.within))) (λ p l u. full p l (omega (arith, u)))

  long_row : length (pairs Q) ≡ suc j * m
  long_row = let e : suc r + j ≡ t = omega arith in omega (arith, block.1, ap (λ u. count_at m ys u) e, full t (omega arith) (omega arith), suc-mul j m)

  q_split : Q ≡ F ++ leaf_at m ys t
  q_split =
      let q : suc j * m ≡ j * m + m = suc-mul j m in
      ap (λ u. take u (drop (suc r * m) ys)) q ∙ take-add (j * m) m (drop (suc r * m) ys) ∙ ap (λ zs. F ++ take m zs) (drop-drop (j * m) (suc r * m) ys ∙ ap (λ u. drop u ys) (sym t_times))

  pairs_q : pairs Q ≡ pairs F ++ lrow
  pairs_q = ap pairs q_split ∙ pairs_append F (leaf_at m ys t)

  long_f : length (pairs F) ≡ j * m
  long_f = omega (arith, ap length pairs_q, length-append (pairs F) lrow, long_row, full t (omega arith) (omega arith), suc-mul j m)

  front : take i (pairs Q) ≡ pairs F ++ take a lrow
  front = let e : i ≡ length (pairs F) + a = omega (arith, long_f) in ap (take i) pairs_q ∙ ap (λ u. take u (pairs F ++ lrow)) e ∙ take-append-add (pairs F) lrow a

  back : drop i (pairs Q) ≡ drop a lrow
  back = let e : i ≡ length (pairs F) + a = omega (arith, long_f) in ap (drop i) pairs_q ∙ ap (λ u. drop u (pairs F ++ lrow)) e ∙ drop-append-add (pairs F) lrow a

  i_some : 0 < i
  i_some = omega (arith, some_earlier o m n ys lf k t bl absent (omega arith))

  i_in : i ≤ length (pairs Q)
  i_in = omega (arith, place_within o m n ys lf k t bl absent, long_row, full t (omega arith) (omega arith), suc-mul j m)

  after_l : drop (suc r * m) ys ≡ Q ++ C
  after_l =
      let q : suc r * m + suc j * m ≡ suc t * m = omega (arith, suc-mul t m, t_times, suc-mul j m) in
      sym (take-append-drop (suc j * m) (drop (suc r * m) ys)) ∙ ap (λ zs. Q ++ zs) (drop-drop (suc j * m) (suc r * m) ys ∙ ap (λ u. drop u ys) q)

  s_split : S ≡ L ++ Q
  s_split =
      let q : suc (suc j) * m ≡ m + suc j * m = omega (arith, suc-mul (suc j) m) in
      ap (λ u. take u (drop (r * m) ys)) q ∙ take-add m (suc j * m) (drop (r * m) ys) ∙ ap (λ zs. L ++ take (suc j * m) zs) (drop-drop m (r * m) ys ∙ ap (λ u. drop u ys) (sym (suc-mul r m)))

  before_t : take (t * m) ys ≡ A ++ (L ++ F)
  before_t =
      let q : t * m ≡ r * m + (m + j * m) = omega (arith, t_times, suc-mul r m) in
      ap (λ u. take u ys) q ∙ take-add (r * m) (m + j * m) ys
      ∙ ap (λ zs. A ++ zs) (take-add m (j * m) (drop (r * m) ys) ∙ ap (λ zs. L ++ take (j * m) zs) (drop-drop m (r * m) ys ∙ ap (λ u. drop u ys) (sym (suc-mul r m))))

  some_q : 0 < length Q
  some_q = omega (arith, long_q, i_in, i_some, long_row)

  sunk : Sunk k v x moved (pairs Q) Q i
  sunk =
      let z : suc r * m + 0 ≡ suc r * m = omega arith in
      let g : moved ≡ get_or Q 0 moved =
      read ∙ ap (λ u. get_or ys u moved) (sym z) ∙ sym (get_or-drop (suc r * m) ys 0 moved) ∙ ap (λ zs. get_or zs 0 moved) after_l ∙ get_or_append_left Q C moved 0 some_q in
      sink k v x moved sh (pairs Q) Q i block.0 (long_row ∙ sym long_q) i_some i_in g

  l_held : Holds (pairs L ++ (sunk.first ∷ [])) L'
  l_held = held_push moved sunk.first (pairs L) L (length (pairs L)) (lf.packed r near.within) refl (omega (arith, near.free, long_l)) sunk.shown

  pairs_l : pairs L' ≡ pairs L ++ (sunk.first ∷ [])
  pairs_l = pairs_held (pairs L ++ (sunk.first ∷ [])) L' l_held

  abbrev qrow : List (K × R)
  qrow = drop 1 (take i (pairs Q)) ++ ((k, v) ∷ drop i (pairs Q))

  pairs_q' : pairs Q' ≡ qrow
  pairs_q' = pairs_held qrow Q' sunk.held

  long_q' : length Q' ≡ suc j * m
  long_q' =
      omega (arith, length-append (drop 1 (take i Q ++ (x ∷ []))) (drop i Q), length-drop 1 (take i Q ++ (x ∷ [])), length_push (take i Q) x, length-take-le i Q (omega (arith, i_in, long_row, long_q)), length-drop i Q, long_q, i_in, long_row, i_some)

  long_qrow : length qrow ≡ suc j * m + 0
  long_qrow =
      omega (arith, length-append (drop 1 (take i (pairs Q))) ((k, v) ∷ drop i (pairs Q)), length-drop 1 (take i (pairs Q)), length-take-le i (pairs Q) i_in, length-drop i (pairs Q), i_in, long_row, i_some)

  long_l' : length L' ≡ 1 * m
  long_l' = omega (arith, length-set L (length (pairs L)) moved, long_l)

  pairs_t : pairs (L' ++ Q') ≡ (pairs L ++ take i (pairs Q)) ++ ((k, v) ∷ drop i (pairs Q))
  pairs_t =
      pairs_append L' Q' ∙ ap (λ ps. ps ++ pairs Q') pairs_l ∙ ap (λ ps. (pairs L ++ (sunk.first ∷ [])) ++ ps) pairs_q'
      ∙ append_assoc (pairs L) (sunk.first ∷ []) qrow
      ∙ sym (append_assoc (pairs L) (take i (pairs Q)) ((k, v) ∷ drop i (pairs Q)) ∙ ap (λ ps. pairs L ++ (ps ++ ((k, v) ∷ drop i (pairs Q)))) sunk.begins)

  first_leaf : leaf_at m (L' ++ Q') 0 ≡ L'
  first_leaf =
      let z : 0 * m ≡ 0 = omega arith in
      leaf_within m 0 L' Q' (omega (arith, long_l')) ∙ ap (λ u. take m (drop u L')) z ∙ take_all m L' (omega (arith, long_l'))

  later_leaf : (u : ℕ) → leaf_at m (L' ++ Q') (suc u) ≡ leaf_at m Q' u
  later_leaf u = let e : suc u ≡ 1 + u = omega arith in ap (leaf_at m (L' ++ Q')) e ∙ leaf_behind m 1 u L' Q' long_l'

  packed_at : (u : ℕ) → u ≤ suc j → Packed (leaf_at m (L' ++ Q') u)
  packed_at zero l = subst Packed (sym first_leaf) (subst (λ ps. Holds ps L') (sym pairs_l) l_held)
  packed_at (suc u) l = subst Packed (sym (later_leaf u)) (part_packed qrow Q' sunk.held (u * m) m)

  count_at_lem : (u : ℕ) → u ≤ suc j → count_at m (L' ++ Q') u ≡ count_at m ys (r + u) + cond (eqb (r + u) r) 1 0
  count_at_lem zero l =
      let e : r + zero ≡ r = omega arith in
      let z : cond {A = ℕ} (eqb (r + zero) r) 1 0 ≡ 1 = ap (λ w. cond {A = ℕ} w 1 0) (eq-eqb (r + zero) r e) in
      omega (arith, z, ap (λ w. count_at m ys w) e, ap (λ ss. length (pairs ss)) first_leaf, ap length pairs_l, length_push (pairs L) sunk.first)
  count_at_lem (suc u) l =
      let z : cond {A = ℕ} (eqb (r + suc u) r) 1 0 ≡ 0 = ap (λ w. cond {A = ℕ} w 1 0) (ne_eqb (r + suc u) r (λ e. omega (arith, e))) in
      omega (arith, z, full (r + suc u) (omega arith) (omega (arith, l)), ap (λ ss. length (pairs ss)) (later_leaf u), dealt_full m qrow Q' sunk.held u (suc j) 0 long_qrow (omega (arith, l)))

  parts : ys ≡ A ++ ((L ++ Q) ++ C)
  parts = stretches m r (suc j) ys ∙ ap (λ zs. A ++ (zs ++ C)) s_split

  bf : Before b k (pairs A ++ (pairs L ++ take i (pairs Q)))
  bf =
      let e : pairs A ++ (pairs L ++ take i (pairs Q)) ≡ pairs (take (t * m) ys) ++ take a lrow =
      ap (λ ps. pairs A ++ (pairs L ++ ps)) front ∙ ap (λ ps. pairs A ++ ps) (sym (append_assoc (pairs L) (pairs F) (take a lrow))) ∙ sym (append_assoc (pairs A) (pairs L ++ pairs F) (take a lrow))
      ∙ ap (λ ps. ps ++ take a lrow) (sym (ap pairs before_t ∙ pairs_append A (L ++ F) ∙ ap (λ ps. pairs A ++ ps) (pairs_append L F))) in
      subst (Before b k) (sym e) (before_append b k (pairs (take (t * m) ys)) (take a lrow) bl.earlier (earlier_keys o m n ys lf k t bl absent))

  af : After b k (drop i (pairs Q) ++ pairs C)
  af = subst (λ ps. After b k (ps ++ pairs C)) (sym back) (after_append b k (drop a lrow) (pairs C) (later_keys o m n ys lf k t bl absent) bl.later)

  same_head : (ps us vs ws : List (K × R)) (q : K × R) → vs ≡ q ∷ drop 1 vs → key_of (head_of ((ps ++ vs) ++ us)) ≡ key_of (head_of ((ps ++ vs) ++ ws))
  same_head [] us vs ws q e = ap (λ zs. key_of (head_of (zs ++ us))) e ∙ sym (ap (λ zs. key_of (head_of (zs ++ ws))) e)
  same_head (p ∷ ps) us vs ws q e = refl

  heads : key_of (head_of (pairs (L' ++ Q') ++ pairs C)) ≡ key_of (head_of (pairs (L ++ Q) ++ pairs C))
  heads =
      ap (λ ps. key_of (head_of (ps ++ pairs C))) pairs_t ∙ ap (λ ps. key_of (head_of ps)) (append_assoc (pairs L ++ take i (pairs Q)) ((k, v) ∷ drop i (pairs Q)) (pairs C))
      ∙ same_head (pairs L) (((k, v) ∷ drop i (pairs Q)) ++ pairs C) (take i (pairs Q)) (drop i (pairs Q) ++ pairs C) sunk.first sunk.begins
      ∙ sym (ap (λ ps. key_of (head_of (ps ++ pairs C))) pairs_s ∙ ap (λ ps. key_of (head_of ps)) (append_assoc (pairs L ++ take i (pairs Q)) (drop i (pairs Q)) (pairs C)))
    where
      pairs_s : pairs (L ++ Q) ≡ (pairs L ++ take i (pairs Q)) ++ drop i (pairs Q)
      pairs_s = pairs_append L Q ∙ ap (λ ps. pairs L ++ ps) (sym (take-append-drop i (pairs Q))) ∙ sym (append_assoc (pairs L) (take i (pairs Q)) (drop i (pairs Q)))

  down_put : PutIn b m n ys k v t r (r + suc j) (A ++ ((L' ++ Q') ++ C))
  down_put =
      put_block o m n ys lf k v t (absent_whole o m n ys lf k t bl absent) r r (suc j) near (omega arith) (omega arith) A (L ++ Q) (L' ++ Q') C parts long_a
      (omega (arith, length-append L Q, long_l, long_q, suc-mul (suc j) m)) (omega (arith, length-append L' Q', long_l', long_q', suc-mul (suc j) m))
      (pairs L ++ take i (pairs Q)) (drop i (pairs Q))
      (pairs_append L Q ∙ ap (λ ps. pairs L ++ ps) (sym (take-append-drop i (pairs Q))) ∙ sym (append_assoc (pairs L) (take i (pairs Q)) (drop i (pairs Q)))) pairs_t bf af packed_at count_at_lem (λ _. heads)

  -- the slots once the first pair above has gone to the free slot and those up to the place of the key have moved down
  pub down_slots : (e s last : ℕ) (part : List (Slot K R)) → e ≡ r * m + count_at m ys r → s ≡ suc r * m → last ≡ t * m + a → part ≡ drop 1 (take (last - s) (drop s (set ys e moved)) ++ (x ∷ []))
      → PutIn b m n ys k v t r t (put_mid s (last - s) (set ys e moved) part)
  down_slots e s last part ee es el ep =
      let whole : ys ≡ (A ++ L) ++ (Q ++ C) = parts ∙ ap (λ zs. A ++ zs) (append_assoc L Q C) ∙ sym (append_assoc A L (Q ++ C)) in
      let la : length (A ++ L) ≡ suc r * m = omega (arith, length-append A L, long_a, long_l, suc-mul r m) in
      let eq : e - length A ≡ length (pairs L) = omega (arith, ee, long_a) in
      let stored : set ys e moved ≡ (A ++ L') ++ (Q ++ C) =
      ap (λ zs. set zs e moved) whole ∙ set-append_left (A ++ L) (Q ++ C) e moved (omega (arith, la, ee, near.free, suc-mul r m))
      ∙ ap (λ zs. zs ++ (Q ++ C)) (set-append_right A L (length A) e moved refl (omega (arith, long_a, ee)) ∙ ap (λ u. A ++ set L u moved) eq) in
      let lm : length (A ++ L') ≡ s = omega (arith, length-append A L', long_a, long_l', es, suc-mul r m) in
      let head : take s (set ys e moved) ≡ A ++ L' = ap (take s) stored ∙ take_at (A ++ L') (Q ++ C) s lm in
      let tail : drop s (set ys e moved) ≡ Q ++ C = ap (drop s) stored ∙ drop_at (A ++ L') (Q ++ C) s lm in
      let d : last - s ≡ i = omega (arith, el, es, t_times) in
      let iq : i ≤ length Q = omega (arith, i_in, long_row, long_q) in
      let shape : part ≡ drop 1 (take i Q ++ (x ∷ [])) = ep ∙ ap (λ u. drop 1 (take u (drop s (set ys e moved)) ++ (x ∷ []))) d ∙ ap (λ zs. drop 1 (take i zs ++ (x ∷ []))) tail ∙ ap (λ zs. drop 1 (zs ++ (x ∷ []))) (take-append-le i Q C iq) in
      let rest : drop (last - s) (drop s (set ys e moved)) ≡ drop i Q ++ C = ap (λ u. drop u (drop s (set ys e moved))) d ∙ ap (drop i) tail ∙ drop-append-le i Q C iq in
      let all : put_mid s (last - s) (set ys e moved) part ≡ A ++ ((L' ++ Q') ++ C) =
      ap (λ zs. zs ++ (part ++ drop (last - s) (drop s (set ys e moved)))) head
      ∙ ap (λ zs. (A ++ L') ++ (zs ++ drop (last - s) (drop s (set ys e moved)))) shape
      ∙ ap (λ zs. (A ++ L') ++ (drop 1 (take i Q ++ (x ∷ [])) ++ zs)) rest
      ∙ ap (λ zs. (A ++ L') ++ zs) (sym (append_assoc (drop 1 (take i Q ++ (x ∷ []))) (drop i Q) C))
      ∙ append_assoc A L' (Q' ++ C) ∙ ap (λ zs. A ++ zs) (sym (append_assoc L' Q' C)) in
      subst (PutIn b m n ys k v t r t) (sym all) down_put
