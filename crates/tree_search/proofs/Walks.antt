-- The way down from the root to the target leaf.
use Rattle.std.proofs.Common.{◌≡◌, ℕ, zero, suc, ◌+◌, ◌-◌, ◌*◌, ◌^◌, ◌<◌, ◌≤◌, Bool, true, false, cond, not, ◌&&◌, List, [], ◌∷◌, length, get_or, take, drop, Some, None, Option, sym, refl, ap, ◌∙◌, subst, ⊎_elim, mul-le-mul_right, mul-le-mul_left, pow-suc, add-one, arith, length-drop, length-take}
use native.Mathlib.Nat.{pow-zero}
use Rattle.std.proofs.lemmas.Bool.{both_ways, not-true, false≢true, cases_lt, false_from_ne_true}
use Rattle.std.proofs.lemmas.List.{drop-drop, take-append-drop, get_or-take, get_or-drop}
use Rattle.ordered.specs.declared.slot.Slot.{Slot}
use Rattle.ordered.specs.Meaning.{After, Ascending}
use Rattle.ordered.specs.Slots.{keep, pairs, first_key}
use Rattle.ordered.proofs.Joins.{ascending_parts}
use Rattle.ordered.proofs.Slots.{pairs_append}
use Rattle.slot_rows.specs.declared.halving.Bound.TheVariants.{Upper}
use Rattle.slot_rows.specs.Ranks.{below, lead, Fails, Falling}
use Rattle.tree_layout.specs.Levels.{starts, tree_slots, area}
use Rattle.tree_layout.proofs.Levels.{starts_pow, starts_up}
use Rattle.tree_index.specs.Index.{index_key, place, Names}
use Rattle.tree_index.specs.Standing.{Stands, not_after, Target}
use Rattle.tree_index.proofs.Stand.{node_below, child_below, pos_of_mul}
use Rattle.tree_index.proofs.Keys.{index_past}

-- the elements before the rank pass the test, and the one at the rank does not
module _ {X : Type 0} (f : X → Bool) where
  lead_passes : (xs : List X) (i : ℕ) (d : X) → i < lead f xs → f (get_or xs i d) ≡ true
  lead_passes [] i d l = absurd (omega arith)
  lead_passes (x ∷ xs) i d l = step (f x) refl i l (λ k. lead_passes xs k d)
    where
      step : (t : Bool) → f x ≡ t → (i : ℕ) → i < cond t (suc (lead f xs)) 0 → ((k : ℕ) → k < lead f xs → f (get_or xs k d) ≡ true) → f (get_or (x ∷ xs) i d) ≡ true
      step true e zero l ih = e
      step true e (suc i) l ih = ih i (omega (arith, l))
      step false e i l ih = absurd (omega (arith, l))

  lead_stops : (xs : List X) (d : X) → lead f xs < length xs → f (get_or xs (lead f xs) d) ≡ false
  lead_stops [] d l = absurd (omega arith)
  lead_stops (x ∷ xs) d l = step (f x) refl l (lead_stops xs d)
    where
      step : (t : Bool) → f x ≡ t → cond t (suc (lead f xs)) 0 < suc (length xs) → (lead f xs < length xs → f (get_or xs (lead f xs) d) ≡ false) → f (get_or (x ∷ xs) (cond t (suc (lead f xs)) 0) d) ≡ false
      step true e l ih = ih (omega (arith, l))
      step false e l ih = e

  fails_each : (xs : List X) → ((j : ℕ) (d : X) → j < length xs → f (get_or xs j d) ≡ false) → Fails f xs
  fails_each [] n = tt
  fails_each (x ∷ xs) n = (n 0 x (omega arith), fails_each xs (λ j d l. n (suc j) d (omega arith)))

  falling_each : (xs : List X) → ((i j : ℕ) (d : X) → i ≤ j → j < length xs → f (get_or xs j d) ≡ true → f (get_or xs i d) ≡ true) → Falling f xs
  falling_each [] n = tt
  falling_each (x ∷ xs) n = (
    (λ e. fails_each xs (λ j d l. false_from_ne_true _ (λ t. both_ways (f x) e (n 0 (suc j) d (omega arith) (omega arith) t)))),
    falling_each xs (λ i j d le l t. n (suc i) (suc j) d (omega arith) (omega arith) t),
  )

names_below : {K R : Type 0} (b : K → K → Bool) (key : K) (s : Slot K R) (o : Option K) → Names s o → below Upper b key s ≡ not_after b key o
names_below b key s None e = ap (λ t. t && not (b key s.key)) e
names_below b key s (Some k) e = ap (λ t. t && not (b key s.key)) e.0 ∙ ap (λ x. not (b key x)) e.1

module _ {K R : Type 0} (b : K → K → Bool) (transitive : (x y z : K) → b x y ≡ true → b y z ≡ true → b x z ≡ true) (key : K) where
  -- a key with a later one that is not after `key` is not after it either
  pub first_not_after : (k : K) (n : ℕ) (ss : List (Slot K R)) → After b k (pairs ss) → not_after b key (first_key (drop n ss)) ≡ true → b key k ≡ false
  first_not_after k zero [] a p = absurd (false≢true p)
  first_not_after k (suc n) [] a p = absurd (false≢true p)
  first_not_after k zero (s ∷ ss) a p =
      (elim s.filled as (λ t. After b k (keep t (s.key, s.value) (pairs ss)) → not_after b key (cond t (Some s.key) (first_key ss)) ≡ true → b key k ≡ false)
      [ true ↦ λ a p. false_from_ne_true _ (λ e. both_ways _ (not-true _ p) (transitive key k s.key e a.0)) | false ↦ λ a p. first_not_after k zero ss a p ])
      a p
  first_not_after k (suc n) (s ∷ ss) a p =
      (elim s.filled as (λ t. After b k (keep t (s.key, s.value) (pairs ss)) → b key k ≡ false) [ true ↦ λ a. first_not_after k n ss a.1 p | false ↦ λ a. first_not_after k n ss a p ]) a

  not_after_down : (n : ℕ) (ss : List (Slot K R)) → Ascending b (pairs ss) → not_after b key (first_key (drop n ss)) ≡ true → not_after b key (first_key ss) ≡ true
  not_after_down zero ss so p = p
  not_after_down (suc n) [] so p = p
  not_after_down (suc n) (s ∷ ss) so p =
      (elim s.filled as (λ t. Ascending b (keep t (s.key, s.value) (pairs ss)) → not_after b key (cond t (Some s.key) (first_key ss)) ≡ true)
      [ true ↦ λ so. ap not (first_not_after s.key n ss so.0 p) | false ↦ λ so. not_after_down n ss so p ])
      so

  pub ascending_drop : (n : ℕ) (ss : List (Slot K R)) → Ascending b (pairs ss) → Ascending b (pairs (drop n ss))
  ascending_drop n ss so = (ascending_parts b (pairs (take n ss)) (pairs (drop n ss)) (subst (Ascending b) (ap pairs (sym (take-append-drop n ss)) ∙ pairs_append (take n ss) (drop n ss)) so)).1

  -- if the index key of a leaf is not after the key, neither is that of an earlier leaf
  pub not_after_mono : (m h : ℕ) (xs : List (Slot K R)) (p q : ℕ) → p ≤ q → Ascending b (pairs (area m h xs)) → not_after b key (index_key m h xs q) ≡ true → not_after b key (index_key m h xs p) ≡ true
  not_after_mono m h xs p q l so f =
      let d : p + (q - p) ≡ q = omega arith in
      let e : p * m + (q - p) * m ≡ q * m = omega (arith, ap (λ x. x * m) d) in
      not_after_down ((q - p) * m) (drop (p * m) (area m h xs)) (ascending_drop (p * m) (area m h xs) so) (rw (drop-drop ((q - p) * m) (p * m) (area m h xs), e) f)

-- an element of a list that is not empty
some_of : {X : Type 0} (xs : List X) → 0 < length xs → X
some_of [] l = absurd (omega arith)
some_of (x ∷ xs) l = x

-- The target leaf is below node n, whose leaves are (m + 1) ^ w.
pub record Reach {K R : Type 0} (b : K → K → Bool) (m h : ℕ) (xs : List (Slot K R)) (key : K) (w n : ℕ) : Type 0 where
  pub low : 0 < n → not_after b key (index_key m h xs (n * (m + 1) ^ w)) ≡ true
  pub high : (q : ℕ) → (n + 1) * (m + 1) ^ w ≤ q → not_after b key (index_key m h xs q) ≡ false

module _ {K R : Type 0} (b : K → K → Bool) (transitive : (x y z : K) → b x y ≡ true → b y z ≡ true → b x z ≡ true) (m h : ℕ) (pm : 2 ≤ m) (xs : List (Slot K R)) (key : K) where
  reach_root : Reach b m h xs key h 0
  reach_root = record {
    low = λ l. absurd (omega arith);
    high = λ q l. ap (not_after b key) (index_past m h q xs (omega arith));
  }

  module _ (j w n : ℕ) (st : Stands b m h xs) (e : j + suc w ≡ h) (ln : n < (m + 1) ^ j) where
    -- place i of the node speaks of the first leaf below its child i + 1
    tells : (i : ℕ) (d : Slot K R) → i < m → below Upper b key (get_or (take m (drop ((starts m j + n) * m) xs)) i d) ≡ not_after b key (index_key m h xs ((n * (m + 1) + suc i) * (m + 1) ^ w))
    tells i d l =
        ap (below Upper b key) (get_or-take m _ i d l ∙ get_or-drop ((starts m j + n) * m) xs i d)
        ∙ names_below b key (get_or xs (place m j n i) d) _ (st.indexed _ (place m j n i) d (record { j = j; w = w; n = n; i = i; level = e; node = ln; within = l; leaf = refl; at = refl }))

    node_long : length (take m (drop ((starts m j + n) * m) xs)) ≡ m
    node_long = simp (length-take, length-drop) (omega (arith, st.fits, node_below m h j n (suc w) e ln))

    falls : Falling (below Upper b key) (take m (drop ((starts m j + n) * m) xs))
    falls = falling_each (below Upper b key) _ (λ i k d le l t.
        let lk : k < m = omega (arith, node_long) in
        tells i d (omega arith) ∙ not_after_mono b transitive key m h xs _ _ (mul-le-mul_right ((m + 1) ^ w) (omega arith)) st.ascending (sym (tells k d lk) ∙ t))

    reach_child : (c : ℕ) → c ≤ m → c ≡ lead (below Upper b key) (take m (drop ((starts m j + n) * m) xs)) → Reach b m h xs key (suc w) n → Reach b m h xs key w (n * (m + 1) + c)
    reach_child c lc is r = record {
      low = lows c lc (omega (arith, is));
      high = λ q l. ⊎_elim (λ lt. up q lt l) (λ ge. r.high q (last q ge l)) (cases_lt c m);
    }
      where
        d : Slot K R
        d = some_of xs (omega (arith, st.fits, node_below m h j n (suc w) e ln))

        lows : (c : ℕ) → c ≤ m → c ≤ lead (below Upper b key) (take m (drop ((starts m j + n) * m) xs)) → 0 < n * (m + 1) + c → not_after b key (index_key m h xs ((n * (m + 1) + c) * (m + 1) ^ w)) ≡ true
        lows zero lc u l = subst (λ p. not_after b key (index_key m h xs p) ≡ true) (rw pow-suc (omega arith)) (r.low (pos_of_mul n (m + 1) (omega (arith, l))))
        lows (suc i) lc u l = sym (tells i d lc) ∙ lead_passes (below Upper b key) _ i d u

        up : (q : ℕ) → c < m → (n * (m + 1) + c + 1) * (m + 1) ^ w ≤ q → not_after b key (index_key m h xs q) ≡ false
        up q lt l = false_from_ne_true _ (λ p. both_ways _ stop (not_after_mono b transitive key m h xs ((n * (m + 1) + suc c) * (m + 1) ^ w) q (omega arith) st.ascending p))
          where
            stop : not_after b key (index_key m h xs ((n * (m + 1) + suc c) * (m + 1) ^ w)) ≡ false
            stop = sym (tells c d lt) ∙ ap (λ i. below Upper b key (get_or (take m (drop ((starts m j + n) * m) xs)) i d)) is ∙ lead_stops (below Upper b key) (take m (drop ((starts m j + n) * m) xs)) d (omega (arith, is, node_long))

        last : (q : ℕ) → m ≤ c → (n * (m + 1) + c + 1) * (m + 1) ^ w ≤ q → (n + 1) * (m + 1) ^ suc w ≤ q
        last q ge l = rw pow-suc (omega (arith, mul-le-mul_right ((m + 1) ^ w) ge))

-- The way down so far: node n of level j, whose first node is `from`.
pub record Walked {K R : Type 0} (b : K → K → Bool) (m h : ℕ) (xs : List (Slot K R)) (key : K) (j from n : ℕ) : Type 0 where
  pub deep : j ≤ h
  pub start : from ≡ starts m j
  pub within : n < (m + 1) ^ j
  pub reach : (w : ℕ) → j + w ≡ h → Stands b m h xs → Reach b m h xs key w n

module _ {K R : Type 0} (b : K → K → Bool) (transitive : (x y z : K) → b x y ≡ true → b y z ≡ true → b x z ≡ true) (m h : ℕ) (pm : 2 ≤ m) (xs : List (Slot K R)) (key : K) where
  pub walked_root : Walked b m h xs key 0 0 0
  walked_root = record {
    deep = omega arith;
    start = refl;
    within = rw pow-zero (omega arith);
    reach = λ w e st. let q : h ≡ w = omega arith in subst (λ x. Reach b m h xs key x 0) q (reach_root b transitive m h pm xs key);
  }

  pub walked_child : (j from n c : ℕ) (part : List (Slot K R)) → part ≡ take (((from + n) * m + m) - (from + n) * m) (drop ((from + n) * m) xs) → j < h → c ≤ length part → (Falling (below Upper b key) part → c ≡ lead (below Upper b key) part) → Walked b m h xs key j from n
      → Walked b m h xs key (j + 1) (from * (m + 1) + 1) (n * (m + 1) + c)
  walked_child j from n c part ep lj lc is w = record {
    deep = omega arith;
    start = rw (w.start, add-one j);
    within = rw (add-one j) (child_below m j n c w.within few);
    reach = λ v e st. reach_child b transitive m h pm xs key j v n st (omega arith) w.within c few (subst (λ (zs : List (Slot K R)). Falling (below Upper b key) zs → c ≡ lead (below Upper b key) zs) there is (falls b transitive m h pm xs key j v n st (omega arith) w.within)) (w.reach (suc v) (omega arith) st);
  }
    where
      wide : ((from + n) * m + m) - (from + n) * m ≡ m
      wide = omega arith

      there : part ≡ take m (drop ((starts m j + n) * m) xs)
      there = ep ∙ ap (λ k. take k (drop ((from + n) * m) xs)) wide ∙ ap (λ k. take m (drop ((k + n) * m) xs)) w.start

      few : c ≤ m
      few = omega (arith, lc, ap length there, length-take m (drop ((starts m j + n) * m) xs))

-- at the leaves it has reached the target leaf
pub walked_leaf : {K R : Type 0} {b : K → K → Bool} {m h : ℕ} {xs : List (Slot K R)} {key : K} {j from n : ℕ} → Walked b m h xs key j from n → h ≤ j → Stands b m h xs → Target b m h xs key n
walked_leaf {K} {R} {b} {m} {h} {xs} {key} {j} {from} {n} w l st =
    let e : j ≡ h = omega (arith, w.deep) in
    let r = w.reach zero (omega arith) st in
    record {
      within = subst (λ x. n < (m + 1) ^ x) e w.within;
      low = λ l. subst (λ p. not_after b key (index_key m h xs p) ≡ true) (rw pow-zero (omega arith)) (r.low l);
      high = λ q l. r.high q (rw pow-zero (omega arith));
    }

-- the slots of a node on the way, and the numbers of the next
module _ {K R : Type 0} {b : K → K → Bool} {m h : ℕ} {xs : List (Slot K R)} {key : K} {j from n : ℕ} (w : Walked b m h xs key j from n) (pm : 2 ≤ m) (lh : j < h) where
  one : 1 ≤ m
  one = omega arith

  node_fits : (from + n) * m + m ≤ tree_slots m h
  node_fits = rw w.start (node_below m h j n (h - j) (omega arith) w.within)

  up : starts m (suc j) ≤ starts m (suc h)
  up = starts_up m (suc j) (h - j) (suc h) (omega arith)

  next_fits : from * (m + 1) + 1 ≤ tree_slots m h
  next_fits = rw w.start (omega (arith, mul-le-mul_left (starts m (suc j)) one, mul-le-mul_right m up))

  child_fits : n * (m + 1) + m ≤ tree_slots m h
  child_fits = omega (arith, child_below m j n m w.within (omega arith), starts_pow m (suc j), mul-le-mul_right m up)

  pub walked_small : ((from + n) * m + m ≤ tree_slots m h) × (from + n ≤ tree_slots m h) × (from * (m + 1) + 1 ≤ tree_slots m h) × (n * (m + 1) + m ≤ tree_slots m h)
  walked_small = (node_fits, omega (arith, node_fits, mul-le-mul_left (from + n) one), next_fits, child_fits)
