-- What a put answers, from where its key belongs.
use Rattle.std.proofs.Common.{◌≡◌, ℕ, suc, ◌+◌, ◌-◌, ◌*◌, ◌/◌, ◌<◌, ◌≤◌, min, Bool, true, false, cond, eqb, List, [], ◌∷◌, ◌++◌, length, get_or, take, drop, set, is_some, Some, None, Ok, Err, sym, refl, ap, ◌∙◌, subst, ⊎_elim, mul-le-mul_right, mul-div_cancel, arith}
use Rattle.std.proofs.lemmas.List.{take_all}
use borrow.Rule.Slice.PartMut.{put_mid}
use Rattle.std.proofs.lemmas.Bool.{cond-true, cond-false, eq-eqb, ne_eqb, cases_lt}
use Rattle.std.proofs.Math.Nat.{suc-mul}
use Rattle.ordered.specs.declared.fault.Fault.TheVariants.{Full, Present}
use Rattle.ordered.specs.declared.key.Key.{Ghosts}
use Rattle.ordered.specs.declared.slot.Slot.{Slot}
use Rattle.ordered.specs.Changes.{put_refusal}
use Rattle.ordered.specs.Faults.{Outcome}
use Rattle.ordered.specs.Meaning.{Order, Ascending, holds}
use Rattle.ordered.specs.Slots.{keep, pairs, Shows, Packed}
use Rattle.ordered.proofs.Rows.{length_inserted}
use Rattle.slot_rows.specs.declared.halving.Bound.TheVariants.{Lower}
use Rattle.slot_rows.specs.Ranks.{below, Falling, located}
use Rattle.slot_rows.proofs.Held.{length_held, at}
use Rattle.slot_rows.proofs.Looks.{found, missing}
use Rattle.tree_layout.specs.Levels.{leaf_at}
use Rattle.tree_layout.specs.Belongs.{Belongs}
use Rattle.tree_layout.proofs.Leaves.{leaf_long, leaf_ascends, leaf_lookup}
use Rattle.leaf_rows.specs.declared.leaves.Leaves.{Leaves}
use Rattle.leaf_rows.specs.declared.placing.Span.{Span}
use Rattle.leaf_rows.specs.Leaves.{count_at, Leafed, distance, Nearest, PutIn}
use Rattle.leaf_rows.specs.Puts.{Puts}
use Rattle.leaf_rows.proofs.Blocks.{full_block}
use Rattle.leaf_rows.proofs.Downward.{down_slots}
use Rattle.leaf_rows.proofs.Upward.{place_within, up_slots}

pairs_short : {K R : Type 0} (ss : List (Slot K R)) → length (pairs ss) ≤ length ss
pairs_short [] = omega arith
pairs_short (s ∷ ss) = elim s.filled as (λ t. length (keep t (s.key, s.value) (pairs ss)) ≤ suc (length ss)) [ true ↦ omega (arith, pairs_short ss) | false ↦ omega (arith, pairs_short ss) ]

-- the leaves that a row of slots has are those that it is known to have
pub leaves_are : {X : Type 0} (m n : ℕ) (ys : List X) → 0 < m → length ys ≡ n * m → length ys / m ≡ n
leaves_are m n ys wide long = ap (λ u. u / m) long ∙ mul-div_cancel n wide

-- what follows for leaves that are read, of which `part` is leaf t
module _ {K R : Type 0} {key : Ghosts K} (o : Order key.before) (wide : 2 ≤ key.WIDTH) (n : ℕ) (ys : List (Slot K R)) (lf : Leafed key.before key.WIDTH n ys) (k : K) (v : R) (t : ℕ) (bl : Belongs key.before key.WIDTH n ys k t)
    (leaves : Leaves K R key) (made : record { area : leaves.area.now ≡ ys; count : leaves.count ≡ length ys / key.WIDTH }) (part : List (Slot K R)) (read : part ≡ leaf_at key.WIDTH leaves.area.now t) where
  abbrev b : K → K → Bool
  b = key.before

  abbrev m : ℕ
  m = key.WIDTH

  abbrev us : List (Slot K R)
  us = leaves.area.now

  at_most : (p : ℕ) → p < n → count_at m ys p ≤ m
  at_most p l = omega (arith, length_held (pairs (leaf_at m ys p)) (leaf_at m ys p) (lf.packed p l), leaf_long m n p ys lf.long l)

  full_near : (r : ℕ) → Nearest m n ys t r → (p : ℕ) → p < n → distance t p < distance t r → count_at m ys p ≡ m
  full_near r near p l d = ⊎_elim (λ f. absurd (omega (arith, near.near p l f, d))) (λ f. omega (arith, f, at_most p l)) (cases_lt (count_at m ys p) m)

  part_is : part ≡ leaf_at m ys t
  part_is = read ∙ ap (λ vs. leaf_at m vs t) made.area

  ascends : Ascending b (pairs part)
  ascends = subst (λ ss. Ascending b (pairs ss)) (sym part_is) (leaf_ascends m t ys b lf.ascending)

  held : Packed part
  held = subst Packed (sym part_is) (lf.packed t bl.within)

  pub put_there : (i : ℕ) → (Falling (below Lower b k) part → Ok i ≡ located b k part) → Puts b m n ys k v t (Err Present) ys
  put_there i is =
      let f : holds b (pairs (leaf_at m ys t)) k ≡ true = subst (λ ss. holds b (pairs ss) k ≡ true) part_is (found o k (pairs part) part ascends held i is).0 in
      let due : put_refusal b (n * m) (pairs ys) k ≡ Some 33 = cond-true (holds b (pairs ys) k) (Some 33) (cond (eqb (length (pairs ys)) (n * m)) (Some 32) None) (ap is_some (leaf_lookup m t ys o n k bl) ∙ f) in
      record { outcome = subst (λ d. Outcome {X = Span} d (Err Present)) (sym due) refl; after = refl }

  module _ (i : ℕ) (is : Falling (below Lower b k) part → Err i ≡ located b k part) where
    lacks : (holds b (pairs (leaf_at m ys t)) k ≡ false) × (i ≡ at o k (pairs (leaf_at m ys t)))
    lacks = subst (λ ss. (holds b (pairs ss) k ≡ false) × (i ≡ at o k (pairs ss))) part_is (missing o k (pairs part) part ascends held i is)

    not_there : holds b (pairs ys) k ≡ false
    not_there = ap is_some (leaf_lookup m t ys o n k bl) ∙ lacks.0

    number : leaves.count ≡ n
    number = made.count ∙ leaves_are m n ys (omega (arith, wide)) lf.long

    packed : (p : ℕ) → p < leaves.count → Packed (leaf_at m us p)
    packed p l = subst (λ vs. Packed (leaf_at m vs p)) (sym made.area) (lf.packed p (omega (arith, l, number)))

    pub put_full : (((p : ℕ) → p < leaves.count → Packed (leaf_at m us p)) → (p : ℕ) → p < leaves.count → count_at m us p < m → ⊥) → Puts b m n ys k v t (Err Full) ys
    put_full gives =
        let due : put_refusal b (n * m) (pairs ys) k ≡ Some 32 =
        cond-false (holds b (pairs ys) k) (Some 33) (cond (eqb (length (pairs ys)) (n * m)) (Some 32) None) not_there ∙ cond-true (eqb (length (pairs ys)) (n * m)) (Some 32) None (eq-eqb (length (pairs ys)) (n * m) (all (n - 1) (omega (arith, bl.within)))) in
        record { outcome = subst (λ d. Outcome {X = Span} d (Err Full)) (sym due) refl; after = refl }
      where
        full : (p : ℕ) → p < n → count_at m ys p ≡ m
        full p l = ⊎_elim (λ f. absurd (gives packed p (omega (arith, l, number)) (subst (λ vs. count_at m vs p < m) (sym made.area) f))) (λ f. omega (arith, f, at_most p l)) (cases_lt (count_at m ys p) m)

        all : (j : ℕ) → suc j ≡ n → length (pairs ys) ≡ n * m
        all j sj =
            let z : 0 * m ≡ 0 = omega arith in
            let whole : take (suc j * m) (drop (0 * m) ys) ≡ ys = ap (λ u. take (suc j * m) (drop u ys)) z ∙ take_all (suc j * m) ys (omega (arith, lf.long, ap (λ u. u * m) sj)) in
            let blk = full_block m ys n lf.long j 0 (omega (arith, sj)) (λ p l u. lf.packed p (omega (arith, u, sj))) (λ p l u. full p (omega (arith, u, sj))) in
            omega (arith, ap (λ ss. length (pairs ss)) whole, blk.1, full (0 + j) (omega (arith, sj)), suc-mul j m, ap (λ u. u * m) sj)

    done : (low high : ℕ) (zs : List (Slot K R)) → PutIn b m n ys k v t low high zs → Puts b m n ys k v t (Ok (record { low = low; high = high })) zs
    done low high zs p =
        let less : length (pairs ys) < n * m = omega (arith, ap length p.row, length_inserted b (pairs ys) k v, pairs_short zs, p.leafed.long) in
        let due : put_refusal b (n * m) (pairs ys) k ≡ None =
        cond-false (holds b (pairs ys) k) (Some 33) (cond (eqb (length (pairs ys)) (n * m)) (Some 32) None) not_there ∙ cond-false (eqb (length (pairs ys)) (n * m)) (Some 32) None (ne_eqb (length (pairs ys)) (n * m) (λ e. omega (arith, e, less))) in
        record { outcome = subst (λ d. Outcome {X = Span} d (Ok (record { low = low; high = high }))) (sym due) tt; after = p }

    -- leaf r was found the nearest, and its first free slot
    module _ (r : ℕ) (nearest : ((p : ℕ) → p < leaves.count → Packed (leaf_at m us p)) → Nearest m leaves.count us t r) (x : Slot K R) (sh : Shows x (k, v))
        (free : ℕ) (is_free : Packed (leaf_at m us r) → count_at m us r < m → free ≡ r * m + count_at m us r) (w : ℕ) (ew : w ≡ m) (place : ℕ) (el : place ≡ t * w + i) where
      near : Nearest m n ys t r
      near = subst (λ vs. Nearest m n vs t r) made.area (subst (λ c. Nearest m c us t r) number (nearest packed))

      ef : free ≡ r * m + count_at m ys r
      ef = subst (λ vs. Packed (leaf_at m vs r) → count_at m vs r < m → free ≡ r * m + count_at m vs r) made.area is_free (lf.packed r near.within) near.free

      place_is : place ≡ t * m + at o k (pairs (leaf_at m ys t))
      place_is = omega (arith, el, lacks.1, ap (λ u. t * u) ew)

      pub put_up : (from end : ℕ) (part : List (Slot K R)) → t ≤ r → from ≡ min place free → end ≡ free + 1 → part ≡ take (length (take (end - from) (drop from ys))) (x ∷ take (end - from) (drop from ys))
          → Puts b m n ys k v t (Ok (record { low = t; high = r })) (put_mid from (end - from) ys part)
      put_up from end part l eq ee is =
          let j = r - t in
          let tj : t + j ≡ r = omega (arith, l) in
          let near' : Nearest m n ys t (t + j) = subst (Nearest m n ys t) (sym tj) near in
          let inside = place_within o m n ys lf k t bl lacks.0 in
          let below : place ≤ free = ⊎_elim (λ lt. omega (arith, place_is, inside, at_most t bl.within, ef, suc-mul t m, mul-le-mul_right m lt))
          (λ ge. let q : r ≡ t = omega (arith, l, ge) in omega (arith, place_is, inside, ef, ap (λ u. u * m) q, ap (λ u. count_at m ys u) q)) (cases_lt t r) in
          let end_is : end ≡ (t + j) * m + count_at m ys (t + j) + 1 = omega (arith, ee, ef, ap (λ u. u * m) tj, ap (λ u. count_at m ys u) tj) in
          let full : (q : ℕ) → t ≤ q → q < t + j → count_at m ys q ≡ m = λ q a c. full_near (t + j) near' q (omega (arith, c, near'.within)) (omega (arith, a, c)) in
          done t r _ (subst (λ u. PutIn b m n ys k v t t u (put_mid from (end - from) ys part)) tj (up_slots o m n ys lf k v x sh t j bl lacks.0 near' full from end part (omega (arith, eq, below, place_is)) end_is is))

      pub put_down : (moved : Slot K R) (next : ℕ) (part : List (Slot K R)) → r < t → next ≡ (r + 1) * w → moved ≡ get_or ys next moved → part ≡ drop 1 (take (place - next) (drop next (set ys free moved)) ++ (x ∷ []))
          → Puts b m n ys k v t (Ok (record { low = r; high = t })) (put_mid next (place - next) (set ys free moved) part)
      put_down moved next part l en read is =
          let j = t - suc r in
          let tj : r + suc j ≡ t = omega (arith, l) in
          let next_is : next ≡ suc r * m = omega (arith, en, ap (λ u. r * u) ew, ew, suc-mul r m) in
          done r t _ (moved_down j tj lacks.0 near next_is (subst (λ u. moved ≡ get_or ys u moved) next_is read) place_is)
        where
          moved_down : (j : ℕ) → r + suc j ≡ t → holds b (pairs (leaf_at m ys t)) k ≡ false → Nearest m n ys t r → next ≡ suc r * m → moved ≡ get_or ys (suc r * m) moved → place ≡ t * m + at o k (pairs (leaf_at m ys t)) → PutIn b m n ys k v t r t (put_mid next (place - next) (set ys free moved) part)
          moved_down j tj la ne nx rd ed =
              subst (λ u. PutIn b m n ys k v u r u (put_mid next (place - next) (set ys free moved) part)) tj
              (down_slots o m n ys lf k v x sh r j (subst (Belongs b m n ys k) (sym tj) bl) (subst (λ u. holds b (pairs (leaf_at m ys u)) k ≡ false) (sym tj) la) (subst (λ u. Nearest m n ys u r) (sym tj) ne)
              (λ q a c. full_near r ne q (omega (arith, c, tj, bl.within)) (omega (arith, a, c, tj))) moved rd free next place part ef nx (subst (λ u. place ≡ u * m + at o k (pairs (leaf_at m ys u))) (sym tj) ed) is)

-- a leaf lies within the row, and so does the first slot of a leaf before another
module _ {K R : Type 0} {key : Ghosts K} (leaves : Leaves K R key) (ys : List (Slot K R)) (same : leaves.area.now ≡ ys) where
  pub leaf_fits : (p : ℕ) → p < leaves.count → p * key.WIDTH + key.WIDTH ≤ length ys
  leaf_fits p l = omega (arith, leaves.within, ap length same, mul-le-mul_right key.WIDTH l, suc-mul p key.WIDTH)

  pub next_fits : (w r t : ℕ) → w ≡ key.WIDTH → 2 ≤ key.WIDTH → r < t → t < leaves.count → (r + 1) * w < length ys
  next_fits w r t ew wide l lt = omega (arith, leaf_fits t lt, mul-le-mul_right key.WIDTH l, suc-mul r key.WIDTH, ap (λ u. r * u) ew)
