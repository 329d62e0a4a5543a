-- A standing tree with one leaf changed stands again.
use Rattle.std.proofs.Common.{◌≡◌, ℕ, zero, suc, ◌+◌, ◌-◌, ◌*◌, ◌<◌, ◌≤◌, Bool, true, false, cond, eqb, List, ◌++◌, length, get_or, take, drop, is_some, Some, None, Ok, Err, Option, Result, sym, refl, ap, ◌∙◌, subst, append_assoc, mul-le-mul_right, arith, take-add}
use borrow.Rule.Slice.PartMut.{put_mid}
use Rattle.std.proofs.lemmas.List.{length-take-le, length-drop, take-take, take_all, take-append-drop, drop-drop, drop-append-le, get_or_append_left, get_or-take, get_or-drop}
use Rattle.std.proofs.lemmas.Bool.{eq-eqb, ne_eqb}
use Rattle.ordered.specs.declared.fault.Fault.{Fault}
use Rattle.ordered.specs.declared.slot.Slot.{Slot}
use Rattle.ordered.specs.Changes.{absent_refusal}
use Rattle.ordered.specs.Faults.{Outcome}
use Rattle.ordered.specs.Meaning.{Order, Ascending, holds, removed, updated}
use Rattle.ordered.specs.Slots.{pairs, Holds, Packed, first_key}
use Rattle.ordered.proofs.Rows.{ascending_removed, ascending_updated, length_updated}
use Rattle.ordered.proofs.Lookups.{length_removed}
use Rattle.ordered.proofs.Walks.{head_of}
use Rattle.ordered.proofs.Slots.{pairs_append, key_of}
use Rattle.ordered.proofs.Joins.{ascending_parts}
use Rattle.slot_rows.proofs.Held.{pairs_held, found_there, at}
use Rattle.slot_edits.specs.Edits.{Edited}
use Rattle.tree_layout.specs.declared.layout.Layout.{Layout}
use Rattle.tree_layout.specs.Levels.{leaves, leaf_slots, tree_slots, area, leaf_at}
use Rattle.tree_layout.proofs.Areas.{area_is}
use Rattle.tree_layout.proofs.Leaves.{leaf_long}
use Rattle.tree_index.specs.Index.{index_key, RuleAt}
use Rattle.tree_index.specs.Refreshing.{Refreshed}
use Rattle.tree_index.specs.Standing.{tree_row, Stands, Target}
use Rattle.tree_index.proofs.Keys.{area_long}
use Rattle.tree_index.proofs.Leaves.{leaf_part}
use Rattle.tree_search.proofs.Splits.{belongs, only_in}
use Rattle.leaf_rows.specs.Leaves.{count_at, Leafed}
use Rattle.leaf_rows.proofs.Blocks.{leaf_inside, drop_before}
use Rattle.std.proofs.Math.Nat.{suc-mul}
use Rattle.leaf_rows.proofs.Landing.{stretches, head_front, pick}
use Rattle.tree_changes.proofs.Relaying.{Relaid, leafed_again, leaf_stays_before, leaf_stays_after, keys_before, keys_after}
use Rattle.tree_changes.specs.Changed.{StandsWith, Replaced, Removed, Changed}
use Rattle.tree_changes.proofs.Betweens.{removed_between, updated_between, updated_head, first_within}
use Rattle.tree_changes.proofs.Lands.{leafed, area_mid, area_renewed, renewed, still, outcome_ok, outcome_err}

pub ok_there : {X : Type 0} (t : Bool) (x : X) → Outcome (cond t None (Some 34)) (Ok x) → t ≡ true
ok_there true x h = refl
ok_there false x h = absurd h

module _ {K R : Type 0} {b : K → K → Bool} (o : Order b) (y : Layout) (xs : List (Slot K R)) (st : Stands b y.width y.height xs) (k : K) (t : ℕ) (target : Target b y.width y.height xs k t) (T : List (Slot K R)) where
  abbrev m : ℕ
  m = y.width

  abbrev h : ℕ
  h = y.height

  abbrev n : ℕ
  n = leaves m h

  abbrev ys : List (Slot K R)
  ys = area m h xs

  abbrev A : List (Slot K R)
  A = take (t * m) ys

  abbrev S : List (Slot K R)
  S = leaf_at m ys t

  abbrev C : List (Slot K R)
  C = drop (suc t * m) ys

  abbrev zs : List (Slot K R)
  zs = A ++ (T ++ C)

  abbrev from : ℕ
  from = y.base + t * m

  -- the slots with the leaf changed
  abbrev mid : List (Slot K R)
  mid = put_mid from ((from + m) - from) xs T

  abbrev due : Option ℕ
  due = absent_refusal b (tree_row m h xs) k

  lf : Leafed b m n ys
  lf = leafed m h xs st

  long : length ys ≡ leaf_slots m h
  long = area_long m h xs st.fits

  fits : suc t * m ≤ leaf_slots m h
  fits = mul-le-mul_right m target.within

  with_leaf : mid ≡ put_mid y.base (leaf_slots m h) xs zs
  with_leaf =
      let D : List (Slot K R) = drop y.base xs in
      let size : ℕ = leaf_slots m h in
      let ai : ys ≡ take size D = area_is y xs in
      let s = suc-mul t m in
      let w : (from + m) - from ≡ m = omega arith in
      let q : t * m + m ≡ suc t * m = omega (arith, s) in
      let front : take from xs ≡ take y.base xs ++ A =
      take-add y.base (t * m) xs ∙ ap (λ us. take y.base xs ++ us) (sym (ap (take (t * m)) ai ∙ take-take (t * m) size D (omega (arith, s, fits)))) in
      let rest : C ++ drop size D ≡ drop (suc t * m) D =
      ap (λ us. drop (suc t * m) us ++ drop size D) ai ∙ sym (drop-append-le (suc t * m) (take size D) (drop size D) (omega (arith, fits, ap length ai, long))) ∙ ap (drop (suc t * m)) (take-append-drop size D) in
      let back : drop ((from + m) - from) (drop from xs) ≡ drop (suc t * m) D =
      ap (λ u. drop u (drop from xs)) w ∙ ap (drop m) (sym (drop-drop (t * m) y.base xs)) ∙ drop-drop m (t * m) D ∙ ap (λ u. drop u D) q in
      ap (λ us. us ++ (T ++ drop ((from + m) - from) (drop from xs))) front ∙ append_assoc (take y.base xs) A (T ++ drop ((from + m) - from) (drop from xs))
      ∙ ap (λ us. take y.base xs ++ (A ++ (T ++ us))) (back ∙ sym rest)
      ∙ ap (λ us. take y.base xs ++ us) (sym (append_assoc A (T ++ C) (drop size D) ∙ ap (λ us. A ++ us) (append_assoc T C (drop size D))))

  -- the leaf as it was lent
  abbrev part : List (Slot K R)
  part = take ((from + m) - from) (drop from xs)

  part_is : part ≡ S
  part_is = leaf_part y xs t (subst (λ u. t < u) (sym y.many) target.within)

  la : length A ≡ t * m
  la = length-take-le (t * m) ys (omega (arith, long, fits, suc-mul t m))

  parts : ys ≡ A ++ (S ++ C)
  parts =
      let q : suc zero * m ≡ m = omega arith in
      let z : t + zero ≡ t = omega arith in
      stretches m t 0 ys ∙ ap (λ i. A ++ (take i (drop (t * m) ys) ++ drop (suc (t + zero) * m) ys)) q ∙ ap (λ i. A ++ (S ++ drop (suc i * m) ys)) z

  ls : length S ≡ suc 0 * m
  ls = leaf_long m n t ys lf.long target.within ∙ omega arith

  rows : tree_row m h xs ≡ pairs A ++ (pairs S ++ pairs C)
  rows = ap pairs parts ∙ pairs_append A (S ++ C) ∙ ap (λ ps. pairs A ++ ps) (pairs_append S C)

  pub leaf_packed : Packed part
  leaf_packed = subst Packed (sym part_is) (st.packed t target.within)

  pub leaf_ascends : Ascending b (pairs part)
  leaf_ascends = subst (λ us. Ascending b (pairs us)) (sym part_is) (ascending_parts b (pairs S) (pairs C) (ascending_parts b (pairs A) (pairs S ++ pairs C) (subst (Ascending b) rows st.ascending)).1).0

  due_is : absent_refusal b (pairs S) k ≡ due
  due_is = ap (λ (w : Option R). cond (is_some w) None (Some 34)) (sym (only_in o k m h xs t st target).here)

  -- a refused change leaves every slot
  pub leaf_refused : {X Y : Type 0} (f : Fault) (does : List (Slot K R) → Type 0) (new : List (K × R)) → Edited {X = X} part (absent_refusal b (pairs part) k) new (Err f) T → Changed {X = Y} due does xs (Err f) mid
  leaf_refused {X} {Y} f does new e = record {
    outcome = outcome_err X Y due f (subst (λ (d : Option ℕ). Outcome {X = X} d (Err f)) (ap (λ us. absent_refusal b (pairs us) k) part_is ∙ due_is) e.outcome);
    after = ap (λ us. put_mid from ((from + m) - from) xs us) e.unmoved ∙ ap (λ us. take from xs ++ us) (take-append-drop ((from + m) - from) (drop from xs)) ∙ take-append-drop from xs;
  }

  module _ (lt : length T ≡ length part) where
    lt' : length T ≡ suc 0 * m
    lt' = lt ∙ ap length part_is ∙ ls

    packed : (row : List (K × R)) → Holds row T → (i : ℕ) → i ≤ 0 → Packed (leaf_at m T i)
    packed row held i l =
        let z : i * m ≡ 0 = omega (arith, mul-le-mul_right m l) in
        let e : leaf_at m T i ≡ T = ap (λ u. take m (drop u T)) z ∙ take_all m T (omega (arith, lt')) in
        subst Packed (sym e) (subst (λ r. Holds r T) (sym (pairs_held row T held)) held)

    pairs_zs : (row : List (K × R)) → Holds row T → pairs zs ≡ pairs A ++ (row ++ pairs C)
    pairs_zs row held = pairs_append A (T ++ C) ∙ ap (λ ps. pairs A ++ ps) (pairs_append T C ∙ ap (λ ps. ps ++ pairs C) (pairs_held row T held))

    relaid : (row : List (K × R)) → Holds row T → Ascending b (pairs zs) → (low : ℕ) → ((p : ℕ) → 0 < p → p ≤ low → first_key (drop (p * m) zs) ≡ first_key (drop (p * m) ys)) → Relaid b m n ys low t zs
    relaid row held asc low keys = record {
      leafed = leafed_again m n ys lf t 0 A S T C parts la ls lt' (packed row held) asc;
      keys_low = keys;
      keys_high = λ p l. keys_after m n ys lf t 0 A S T C parts la ls lt' p (omega (arith, l));
    }

    -- what is counted changes in leaf t alone
    counted : (F : ℕ → ℕ → ℕ → Type 0) → ((p c : ℕ) → (p ≡ t → ⊥) → F p c c) → F t (length (pairs S)) (length (pairs T)) → (p : ℕ) → p < n → F p (count_at m ys p) (count_at m zs p)
    counted F others here p l = pick (λ q. F q (count_at m ys q) (count_at m zs q)) t 0 n p l
        (λ q u q<n. subst (λ us. F q (count_at m ys q) (length (pairs us))) (sym (leaf_stays_before m n ys lf t 0 A S T C parts la ls lt' q u)) (others q (count_at m ys q) (λ e. omega (arith, e, u))))
        (λ i u.
        let z : i ≡ 0 = omega (arith, u) in
        let e : t + i ≡ t = omega (arith, z) in
        let zm : 0 * m ≡ 0 = omega arith in
        let w : leaf_at m zs (t + i) ≡ T = leaf_inside m n t 0 A S T C la ls lt' i u ∙ ap (λ v. take m (drop (v * m) T)) z ∙ ap (λ v. take m (drop v T)) zm ∙ take_all m T (omega (arith, lt')) in
        subst (λ q. F q (count_at m ys q) (count_at m zs (t + i))) (sym e) (subst (λ us. F t (length (pairs S)) (length (pairs us))) (sym w) here))
        (λ q u q<n. subst (λ us. F q (count_at m ys q) (length (pairs us))) (sym (leaf_stays_after m n ys lf t 0 A S T C parts la ls lt' q u)) (others q (count_at m ys q) (λ e. omega (arith, e, u))))

    module _ (row : List (K × R)) (held : Holds row T) (low : ℕ) (rl : Relaid b m n ys low t zs) where
      area_is_zs : area m h mid ≡ zs
      area_is_zs = ap (area m h) with_leaf ∙ area_mid m h xs st low t zs rl target.within y.base (leaf_slots m h) y.above refl

    -- a value replaced
    pub leaf_replaced : {X : Type 0} (x : X) (v : R) → Edited {X = X} part (absent_refusal b (pairs part) k) (updated b (pairs part) k v) (Ok x) T → Changed due (Replaced b m h xs k v) xs (Ok (tt {0})) mid
    leaf_replaced {X} x v e =
        let due_here : Outcome due (Ok x) = subst (λ (d : Option ℕ). Outcome {X = X} d (Ok x)) (ap (λ us. absent_refusal b (pairs us) k) part_is ∙ due_is) e.outcome in
        let held : Holds (updated b (pairs S) k v) T = subst (λ us. Holds (updated b (pairs us) k v) T) part_is e.laid in
        let bl = belongs o k m h xs t st target in
        let row_is : pairs zs ≡ updated b (tree_row m h xs) k v = pairs_zs (updated b (pairs S) k v) held ∙ sym (ap (λ ps. updated b ps k v) rows ∙ updated_between o k v (pairs A) (pairs S) (pairs C) bl.earlier bl.later) in
        let asc : Ascending b (pairs zs) = subst (Ascending b) (sym row_is) (ascending_updated b (tree_row m h xs) k v st.ascending) in
        let heads : key_of (head_of (pairs T ++ pairs C)) ≡ key_of (head_of (pairs S ++ pairs C)) = ap (λ ps. key_of (head_of (ps ++ pairs C))) (pairs_held (updated b (pairs S) k v) T held) ∙ updated_head b k v (pairs S) (pairs C) in
        let rl = relaid (updated b (pairs S) k v) held asc t (λ p _ l. keys_before m n ys lf t 0 A S T C parts la ls lt' heads p l) in
        let same : area m h mid ≡ zs = area_is_zs (updated b (pairs S) k v) held t rl in
        record {
          outcome = outcome_ok due x (tt {0}) due_here;
          after = record {
            counts = λ p l. ap (λ us. count_at m us p) same ∙ counted (λ q c d. d ≡ c) (λ q c ne. refl) (ap length (pairs_held (updated b (pairs S) k v) T held) ∙ length_updated b (pairs S) k v) p l;
            tree = subst (λ r. StandsWith b m h xs r mid) row_is (subst (StandsWith b m h xs (pairs zs)) (sym with_leaf) (still m h xs st t t zs rl target.within y.base (leaf_slots m h) y.above refl refl));
          };
        }

    pub leaf_changed : (v : R) (r : Result (Unit {0}) Fault) → Edited part (absent_refusal b (pairs part) k) (updated b (pairs part) k v) r T → Changed due (Replaced b m h xs k v) xs r mid
    leaf_changed v (Ok x) e = leaf_replaced x v e
    leaf_changed v (Err f) e = leaf_refused f (Replaced b m h xs k v) (updated b (pairs part) k v) e

    -- a pair taken out
    module _ (a : ℕ) (e : Edited part (absent_refusal b (pairs part) k) (removed b (pairs part) k) (Ok a) T) (place : a ≡ at o k (pairs part)) where
      due_taken : Outcome due (Ok a)
      due_taken = subst (λ (d : Option ℕ). Outcome {X = ℕ} d (Ok a)) (ap (λ us. absent_refusal b (pairs us) k) part_is ∙ due_is) e.outcome

      there : holds b (pairs S) k ≡ true
      there = ok_there (holds b (pairs S) k) a (subst (λ us. Outcome (absent_refusal b (pairs us) k) (Ok a)) part_is e.outcome)

      held_taken : Holds (removed b (pairs S) k) T
      held_taken = subst (λ us. Holds (removed b (pairs us) k) T) part_is e.laid

      ascends : Ascending b (pairs S)
      ascends = subst (λ us. Ascending b (pairs us)) part_is leaf_ascends

      row_taken : pairs zs ≡ removed b (tree_row m h xs) k
      row_taken =
          let bl = belongs o k m h xs t st target in
          pairs_zs (removed b (pairs S) k) held_taken ∙ sym (ap (λ ps. removed b ps k) rows ∙ removed_between o k (pairs A) (pairs S) (pairs C) bl.earlier bl.later)

      relaid_taken : (low : ℕ) → ((p : ℕ) → 0 < p → p ≤ low → first_key (drop (p * m) zs) ≡ first_key (drop (p * m) ys)) → Relaid b m n ys low t zs
      relaid_taken low keys = relaid (removed b (pairs S) k) held_taken (subst (Ascending b) (sym row_taken) (ascending_removed b (tree_row m h xs) k st.ascending)) low keys

      less : (p : ℕ) → p < n → count_at m ys p ≡ count_at m zs p + cond (eqb p t) 1 0
      less = counted (λ q c d. c ≡ d + cond (eqb q t) 1 0)
          (λ q c ne. let z : cond {A = ℕ} (eqb q t) 1 0 ≡ 0 = ap (λ u. cond {A = ℕ} u 1 0) (ne_eqb q t ne) in omega (arith, z))
          (let z : cond {A = ℕ} (eqb t t) 1 0 ≡ 1 = ap (λ u. cond {A = ℕ} u 1 0) (eq-eqb t t refl) in
          let w = found_there o k (pairs S) ascends there in
          omega (arith, z, length_removed o k w.value (pairs S) ascends w.found, ap length (pairs_held (removed b (pairs S) k) T held_taken)))

      taken : (low : ℕ) (us : List (Slot K R)) → area m h us ≡ zs → StandsWith b m h xs (pairs zs) us → Changed due (Removed b m h xs k) xs (Ok (tt {0})) us
      taken low us same s = record {
        outcome = outcome_ok due a (tt {0}) due_taken;
        after = record {
          t = t;
          target = target;
          counts = λ p l. less p l ∙ ap (λ vs. count_at m vs p + cond (eqb p t) 1 0) (sym same);
          tree = subst (λ r. StandsWith b m h xs r us) row_taken s;
        };
      }

      -- a pair that was not the first of its leaf
      pub taken_inside : 0 < a → Changed due (Removed b m h xs k) xs (Ok (tt {0})) mid
      taken_inside pos =
          let w = found_there o k (pairs S) ascends there in
          let ea : a ≡ at o k (pairs S) = place ∙ ap (λ us. at o k (pairs us)) part_is in
          let new : pairs T ≡ take a (pairs S) ++ drop (suc a) (pairs S) = pairs_held (removed b (pairs S) k) T held_taken ∙ w.taken ∙ ap (λ i. take i (pairs S) ++ drop (suc i) (pairs S)) (sym ea) in
          let heads : key_of (head_of (pairs T ++ pairs C)) ≡ key_of (head_of (pairs S ++ pairs C)) =
          ap (λ ps. key_of (head_of (ps ++ pairs C))) new ∙ ap (λ ps. key_of (head_of ps)) (append_assoc (take a (pairs S)) (drop (suc a) (pairs S)) (pairs C))
          ∙ head_front a (pairs S) (drop (suc a) (pairs S) ++ pairs C) (pairs C) pos (omega (arith, ea, w.within)) in
          let rl = relaid_taken t (λ p _ l. keys_before m n ys lf t 0 A S T C parts la ls lt' heads p l) in
          taken t mid (area_is_zs (removed b (pairs S) k) held_taken t rl) (subst (StandsWith b m h xs (pairs zs)) (sym with_leaf) (still m h xs st t t zs rl target.within y.base (leaf_slots m h) y.above refl refl))

      -- the first pair of its leaf: a filled slot of leaf `low` keeps the first keys of the leaves up to it
      pub taken_first : (low : ℕ) (found : Option K) (us : List (Slot K R)) → (0 < low → (low < t) × ((d : Slot K R) → (get_or mid (y.base + low * m) d).filled ≡ true))
          → (0 < t + 1 → tree_slots m h ≤ length mid → RuleAt m h mid (t + 1) → found ≡ index_key m h mid (t + 1)) → Refreshed m h mid us low t found
          → Changed due (Removed b m h xs k) xs (Ok (tt {0})) us
      taken_first low found us filled is r =
          let rl = relaid_taken low keys in
          let is' = subst (λ vs. 0 < t + 1 → tree_slots m h ≤ length vs → RuleAt m h vs (t + 1) → found ≡ index_key m h vs (t + 1)) with_leaf is in
          let r' = subst (λ vs. Refreshed m h vs us low t found) with_leaf r in
          taken low us (area_renewed m h xs st low t zs rl target.within y.base (leaf_slots m h) y.above refl found us is' r') (renewed m h xs st low t zs rl target.within y.base (leaf_slots m h) y.above refl found us is' r')
        where
          rl₀ : Relaid b m n ys 0 t zs
          rl₀ = relaid_taken 0 (λ p p0 l. absurd (omega (arith, p0, l)))

          wide : 0 < m
          wide = omega (arith, y.narrowest)

          -- the first slot of leaf `low`, read among the leaves
          seen : (low < t) → (d : Slot K R) → get_or A (low * m) d ≡ get_or mid (y.base + low * m) d
          seen l d =
              let lm : low * m + m ≤ t * m = omega (arith, mul-le-mul_right m l, suc-mul low m) in
              sym (get_or_append_left A (T ++ C) d (low * m) (omega (arith, la, lm, wide)))
              ∙ ap (λ vs. get_or vs (low * m) d) (sym (area_is_zs (removed b (pairs S) k) held_taken 0 rl₀))
              ∙ ap (λ vs. get_or vs (low * m) d) (area_is y mid) ∙ get_or-take (leaf_slots m h) (drop y.base mid) (low * m) d (omega (arith, lm, wide, fits, suc-mul t m)) ∙ get_or-drop y.base mid (low * m) d

          keys : (p : ℕ) → 0 < p → p ≤ low → first_key (drop (p * m) zs) ≡ first_key (drop (p * m) ys)
          keys p p0 l =
              let f = filled (omega (arith, p0, l)) in
              let pl : p * m ≤ low * m = mul-le-mul_right m l in
              let lm : low * m + m ≤ t * m = omega (arith, mul-le-mul_right m f.0, suc-mul low m) in
              let i : p * m + (low * m - p * m) ≡ low * m = omega (arith, pl) in
              let pt : p ≤ t = omega (arith, l, f.0) in
              ap first_key (drop_before m n t 0 A S T C la ls lt' (T ++ C) p pt)
              ∙ first_within (low * m - p * m) (drop (p * m) A) (T ++ C) (S ++ C) (omega (arith, length-drop (p * m) A, la, lm, wide, pl)) (λ d. ap (λ (x : Slot K R). x.filled) (get_or-drop (p * m) A (low * m - p * m) d ∙ ap (λ u. get_or A u d) i ∙ seen f.0 d) ∙ f.1 d)
              ∙ sym (ap (λ us. first_key (drop (p * m) us)) parts ∙ ap first_key (drop_before m n t 0 A S T C la ls lt' (S ++ C) p pt))
