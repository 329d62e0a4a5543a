-- A pair put in with the pairs above it moved up, to the free slot of the same leaf or of a later one.
use Rattle.std.proofs.Common.{◌≡◌, ℕ, suc, ◌+◌, ◌-◌, ◌*◌, ◌<◌, ◌≤◌, Bool, false, cond, eqb, List, ◌∷◌, ◌++◌, length, take, drop, is_some, sym, ap, ◌∙◌, subst, ⊎_elim, append_assoc, mul-le-mul_right, add-mul, arith, take-add}
use borrow.Rule.Slice.PartMut.{put_mid}
use Rattle.std.proofs.lemmas.List.{length-append, length-take-le, length-drop, take-take, take-append-drop, take-append-le, drop-append-le, drop-drop}
use Rattle.std.proofs.lemmas.Bool.{cases_lt, eq-eqb, ne_eqb}
use Rattle.std.proofs.Math.Nat.{suc-mul}
use Rattle.ordered.specs.declared.slot.Slot.{Slot}
use Rattle.ordered.specs.Meaning.{Order, After, holds, Before}
use Rattle.ordered.specs.Slots.{pairs, Shows, Holds, Packed}
use Rattle.ordered.proofs.Walks.{head_of}
use Rattle.ordered.proofs.Slots.{pairs_append, key_of}
use Rattle.ordered.proofs.Joins.{before_append, after_append}
use Rattle.slot_rows.specs.declared.halving.Bound.TheVariants.{Lower}
use Rattle.slot_rows.proofs.Held.{pairs_held, lead_within, at}
use Rattle.slot_rows.proofs.Parts.{put_in}
use Rattle.slot_rows.proofs.Splices.{spliced, spliced_long, part_front, pushed_up}
use Rattle.slot_rows.proofs.Packs.{part_packed}
use Rattle.tree_layout.specs.Levels.{leaf_at}
use Rattle.tree_layout.specs.Belongs.{Belongs}
use Rattle.tree_layout.proofs.Leaves.{leaf_ascends, leaf_lookup}
use Rattle.leaf_rows.specs.Leaves.{count_at, Leafed, Nearest, PutIn}
use Rattle.leaf_rows.proofs.Blocks.{full_block}
use Rattle.leaf_rows.proofs.Cuts.{before_place, after_place, place_some}
use Rattle.leaf_rows.proofs.Dealt.{dealt_full, dealt_last}
use Rattle.leaf_rows.proofs.Landing.{stretches, head_front, put_block}

module _ {K R : Type 0} {b : K → K → Bool} (o : Order b) (m n : ℕ) (ys : List (Slot K R)) (lf : Leafed b m n ys) (k : K) (t : ℕ) (bl : Belongs b m n ys k t) (absent : holds b (pairs (leaf_at m ys t)) k ≡ false) where
  abbrev row : List (K × R)
  row = pairs (leaf_at m ys t)

  abbrev a : ℕ
  a = at o k row

  pub place_within : a ≤ length row
  place_within = lead_within Lower b k row

  pub earlier_keys : Before b k (take a row)
  earlier_keys = before_place o k row

  pub later_keys : After b k (drop a row)
  later_keys = after_place o k row (leaf_ascends m t ys b lf.ascending) absent

  pub some_earlier : 0 < t → 0 < a
  some_earlier p = place_some o k row (bl.headed p) absent

  pub absent_whole : holds b (pairs ys) k ≡ false
  absent_whole = ap is_some (leaf_lookup m t ys o n k bl) ∙ absent

module _ {K R : Type 0} {b : K → K → Bool} (o : Order b) (m n : ℕ) (ys : List (Slot K R)) (lf : Leafed b m n ys) (k : K) (v : R) (x : Slot K R) (sh : Shows x (k, v)) (t j : ℕ) (bl : Belongs b m n ys k t)
    (absent : holds b (pairs (leaf_at m ys t)) k ≡ false) (near : Nearest m n ys t (t + j)) (full : (p : ℕ) → t ≤ p → p < t + j → count_at m ys p ≡ m) where
  abbrev lrow : List (K × R)
  lrow = pairs (leaf_at m ys t)

  abbrev i : ℕ
  i = at o k lrow

  abbrev c : ℕ
  c = count_at m ys (t + j)

  abbrev A : List (Slot K R)
  A = take (t * m) ys

  abbrev S : List (Slot K R)
  S = take (suc j * m) (drop (t * m) ys)

  abbrev C : List (Slot K R)
  C = drop (suc (t + j) * m) ys

  abbrev E : List (Slot K R)
  E = take (j * m) (drop (suc t * m) ys)

  abbrev len : ℕ
  len = j * m + c

  abbrev T : List (Slot K R)
  T = spliced i (length (pairs S) + 1) (x ∷ take (length (pairs S) - i) (drop i S)) S

  fits : suc (t + j) * m ≤ n * m
  fits = mul-le-mul_right m near.within

  block : Packed S × (length (pairs S) ≡ len)
  block = full_block m ys n lf.long j t near.within (λ p l u. lf.packed p (omega (arith, u, near.within))) full

  long_s : length S ≡ suc j * m
  long_s = length-take-le (suc j * m) (drop (t * m) ys) (omega (arith, length-drop (t * m) ys, lf.long, fits, suc-mul (t + j) m, add-mul t j m, suc-mul j m))

  long_a : length A ≡ t * m
  long_a = length-take-le (t * m) ys (omega (arith, lf.long, fits, suc-mul (t + j) m, add-mul t j m))

  room : length (pairs S) + 1 ≤ suc j * m
  room = omega (arith, block.1, near.free, suc-mul j m)

  -- the first leaf of the block and the others
  block_split : S ≡ leaf_at m ys t ++ E
  block_split =
      let q : suc j * m ≡ m + j * m = omega (arith, suc-mul j m) in
      ap (λ u. take u (drop (t * m) ys)) q ∙ take-add m (j * m) (drop (t * m) ys) ∙ ap (λ zs. leaf_at m ys t ++ take (j * m) zs) (drop-drop m (t * m) ys ∙ ap (λ u. drop u ys) (sym (suc-mul t m)))

  rest_split : drop (suc t * m) ys ≡ E ++ C
  rest_split =
      let q : suc t * m + j * m ≡ suc (t + j) * m = omega (arith, suc-mul t m, suc-mul (t + j) m, add-mul t j m) in
      sym (take-append-drop (j * m) (drop (suc t * m) ys)) ∙ ap (λ zs. E ++ zs) (drop-drop (j * m) (suc t * m) ys ∙ ap (λ u. drop u ys) q)

  pairs_s : pairs S ≡ lrow ++ pairs E
  pairs_s = ap pairs block_split ∙ pairs_append (leaf_at m ys t) E

  i_in : i ≤ length lrow
  i_in = place_within o m n ys lf k t bl absent

  i_len : i ≤ length (pairs S)
  i_len = omega (arith, i_in, ap length pairs_s, length-append lrow (pairs E))

  front : take i (pairs S) ≡ take i lrow
  front = ap (take i) pairs_s ∙ take-append-le i lrow (pairs E) i_in

  back : drop i (pairs S) ++ pairs C ≡ drop i lrow ++ pairs (drop (suc t * m) ys)
  back =
      ap (λ ps. drop i ps ++ pairs C) pairs_s ∙ ap (λ ps. ps ++ pairs C) (drop-append-le i lrow (pairs E) i_in) ∙ append_assoc (drop i lrow) (pairs E) (pairs C)
      ∙ ap (λ ps. drop i lrow ++ ps) (sym (ap pairs rest_split ∙ pairs_append E C))

  held : Holds (take i (pairs S) ++ ((k, v) ∷ drop i (pairs S))) T
  held = put_in (pairs S) S block.0 i (k, v) x (length (pairs S) - i) (omega (arith, i_len)) (omega (arith, room, long_s)) sh

  pairs_t : pairs T ≡ take i (pairs S) ++ ((k, v) ∷ drop i (pairs S))
  pairs_t = pairs_held (take i (pairs S) ++ ((k, v) ∷ drop i (pairs S))) T held

  new_length : length (take i (pairs S) ++ ((k, v) ∷ drop i (pairs S))) ≡ j * m + (c + 1)
  new_length = omega (arith, length-append (take i (pairs S)) ((k, v) ∷ drop i (pairs S)), length-take-le i (pairs S) i_len, length-drop i (pairs S), i_len, block.1)

  mid_long : length (x ∷ take (length (pairs S) - i) (drop i S)) ≡ length (pairs S) + 1 - i
  mid_long = omega (arith, length-take-le (length (pairs S) - i) (drop i S) (omega (arith, length-drop i S, long_s, room)), i_len)

  long_t : length T ≡ suc j * m
  long_t = spliced_long i (length (pairs S) + 1) (length S) (x ∷ take (length (pairs S) - i) (drop i S)) S (omega (arith, i_len)) (omega (arith, room, long_s)) (omega arith) mid_long ∙ long_s

  count_at_lem : (u : ℕ) → u ≤ j → count_at m T u ≡ count_at m ys (t + u) + cond (eqb (t + u) (t + j)) 1 0
  count_at_lem u l = ⊎_elim
      (λ lt. let z : cond {A = ℕ} (eqb (t + u) (t + j)) 1 0 ≡ 0 = ap (λ w. cond {A = ℕ} w 1 0) (ne_eqb (t + u) (t + j) (λ e. omega (arith, e, lt))) in
      omega (arith, z, dealt_full m (take i (pairs S) ++ ((k, v) ∷ drop i (pairs S))) T held u j (c + 1) new_length lt, full (t + u) (omega arith) (omega (arith, lt))))
      (λ ge. let e : u ≡ j = omega (arith, ge, l) in
      let z : cond {A = ℕ} (eqb (t + u) (t + j)) 1 0 ≡ 1 = ap (λ w. cond {A = ℕ} w 1 0) (eq-eqb (t + u) (t + j) (ap (λ w. t + w) e)) in
      let nl : length (take i (pairs S) ++ ((k, v) ∷ drop i (pairs S))) ≡ u * m + (c + 1) = new_length ∙ ap (λ w. w * m + (c + 1)) (sym e) in
      let old : count_at m ys (t + u) ≡ c = ap (λ w. count_at m ys (t + w)) e in
      omega (arith, z, old, dealt_last m (take i (pairs S) ++ ((k, v) ∷ drop i (pairs S))) T held u (c + 1) nl (omega (arith, near.free))))
      (cases_lt u j)

  up_put : PutIn b m n ys k v t t (t + j) (A ++ (T ++ C))
  up_put =
      put_block o m n ys lf k v t (absent_whole o m n ys lf k t bl absent) (t + j) t j near (omega arith) (omega arith) A S T C (stretches m t j ys) long_a long_s long_t
      (take i (pairs S)) (drop i (pairs S)) (sym (take-append-drop i (pairs S))) pairs_t
      (subst (λ ps. Before b k (pairs A ++ ps)) (sym front) (before_append b k (pairs A) (take i lrow) bl.earlier (earlier_keys o m n ys lf k t bl absent)))
      (subst (After b k) (sym back) (after_append b k (drop i lrow) (pairs (drop (suc t * m) ys)) (later_keys o m n ys lf k t bl absent) bl.later))
      (λ u l. part_packed (take i (pairs S) ++ ((k, v) ∷ drop i (pairs S))) T held (u * m) m) count_at_lem
      (λ p. ap (λ ps. key_of (head_of (ps ++ pairs C))) pairs_t ∙ ap (λ ps. key_of (head_of ps)) (append_assoc (take i (pairs S)) ((k, v) ∷ drop i (pairs S)) (pairs C))
      ∙ head_front i (pairs S) (((k, v) ∷ drop i (pairs S)) ++ pairs C) (pairs C) (some_earlier o m n ys lf k t bl absent p) i_len)

  -- the slots that a push up from the place of the key to the free slot leaves
  pub up_slots : (from end : ℕ) (part : List (Slot K R)) → from ≡ t * m + i → end ≡ (t + j) * m + c + 1 → part ≡ take (length (take (end - from) (drop from ys))) (x ∷ take (end - from) (drop from ys))
      → PutIn b m n ys k v t t (t + j) (put_mid from (end - from) ys part)
  up_slots from end part ef ee ep =
      let d = length (pairs S) - i in
      let sd : end - from ≡ suc d = omega (arith, ef, ee, block.1, i_len, add-mul t j m) in
      let lo : length ys ≡ n * m = lf.long in
      let bound : from + suc d ≤ length ys = omega (arith, lo, fits, suc-mul (t + j) m, add-mul t j m, ef, block.1, i_len, near.free) in
      let shape : part ≡ x ∷ take d (drop i S) =
      ep ∙ ap (λ u. take (length (take u (drop from ys))) (x ∷ take u (drop from ys))) sd ∙ pushed_up from d x ys bound
      ∙ ap (λ zs. x ∷ take d zs) (ap (λ u. drop u ys) ef ∙ sym (drop-drop i (t * m) ys))
      ∙ ap (λ zs. x ∷ zs) (inner d (omega (arith, room))) in
      let head : take from ys ≡ A ++ take i S = ap (λ u. take u ys) ef ∙ take-add (t * m) i ys ∙ ap (λ zs. A ++ zs) (sym (take-take i (suc j * m) (drop (t * m) ys) (omega (arith, i_len, room)))) in
      let te : from + (end - from) ≡ t * m + (length (pairs S) + 1) = omega (arith, sd, ef, i_len) in
      let tail : drop (end - from) (drop from ys) ≡ drop (length (pairs S) + 1) S ++ C =
      drop-drop (end - from) from ys ∙ ap (λ u. drop u ys) te ∙ sym (drop-drop (length (pairs S) + 1) (t * m) ys)
      ∙ ap (drop (length (pairs S) + 1)) after_a ∙ drop-append-le (length (pairs S) + 1) S C (omega (arith, room, long_s)) in
      let all : put_mid from (end - from) ys part ≡ A ++ (T ++ C) =
      ap (λ zs. zs ++ (part ++ drop (end - from) (drop from ys))) head
      ∙ ap (λ zs. (A ++ take i S) ++ (zs ++ drop (end - from) (drop from ys))) shape
      ∙ ap (λ zs. (A ++ take i S) ++ ((x ∷ take d (drop i S)) ++ zs)) tail
      ∙ append_assoc A (take i S) ((x ∷ take d (drop i S)) ++ (drop (length (pairs S) + 1) S ++ C))
      ∙ ap (λ zs. A ++ zs) (ap (λ zs. take i S ++ zs) (sym (append_assoc (x ∷ take d (drop i S)) (drop (length (pairs S) + 1) S) C)) ∙ sym (append_assoc (take i S) ((x ∷ take d (drop i S)) ++ drop (length (pairs S) + 1) S) C)) in
      subst (PutIn b m n ys k v t t (t + j)) (sym all) up_put
    where
      after_a : drop (t * m) ys ≡ S ++ C
      after_a =
          let q : t * m + suc j * m ≡ suc (t + j) * m = omega (arith, suc-mul j m, suc-mul (t + j) m, add-mul t j m) in
          sym (take-append-drop (suc j * m) (drop (t * m) ys)) ∙ ap (λ zs. S ++ zs) (drop-drop (suc j * m) (t * m) ys ∙ ap (λ u. drop u ys) q)

      inner : (d : ℕ) → i + d ≤ suc j * m → take d (drop i (drop (t * m) ys)) ≡ take d (drop i S)
      inner d l =
          let q : i + d - i ≡ d = omega arith in
          ap (λ u. take u (drop i (drop (t * m) ys))) (sym q) ∙ part_front i (i + d) (suc j * m) (drop (t * m) ys) (omega arith) l ∙ ap (λ u. take u (drop i S)) q
