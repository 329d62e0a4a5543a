-- A standing tree with its leaves relaid stands again.
use Rattle.std.proofs.Common.{◌≡◌, ℕ, suc, ◌+◌, ◌*◌, ◌<◌, ◌≤◌, Bool, List, ◌++◌, length, get_or, take, drop, Some, None, Ok, Err, Option, sym, refl, ap, ◌∙◌, subst, ⊎_elim, arith}
use borrow.Rule.Slice.PartMut.{put_mid}
use Rattle.std.proofs.lemmas.List.{length-append, length-take-le, length-drop, take_at, drop_at, drop-drop, get_or_append_left, get_or-take}
use Rattle.std.proofs.lemmas.Bool.{cases_lt}
use Rattle.ordered.specs.declared.fault.Fault.{Fault}
use Rattle.ordered.specs.Faults.{Outcome}
use Rattle.ordered.specs.declared.slot.Slot.{Slot}
use Rattle.ordered.specs.Meaning.{Ascending}
use Rattle.ordered.specs.Slots.{pairs, Packed, first_key}
use Rattle.tree_layout.specs.Levels.{starts, leaves, leaf_slots, tree_slots, area, leaf_of}
use Rattle.tree_layout.proofs.Levels.{tree_parts}
use Rattle.tree_index.specs.Index.{index_key, Names, RuleAt}
use Rattle.tree_index.specs.Refreshing.{Ready, Refreshed}
use Rattle.tree_index.specs.Standing.{Stands}
use Rattle.tree_index.proofs.Keys.{area_long, rest_same}
use Rattle.tree_index.proofs.Renews.{stands_again}
use Rattle.tree_index.proofs.Stand.{slot_low, index_pos}
use Rattle.leaf_rows.specs.Leaves.{Leafed}
use Rattle.tree_changes.specs.Changed.{StandsWith}
use Rattle.tree_changes.proofs.Relaying.{Relaid}

module _ {K R : Type 0} where
  -- the slots of the leaves are packed and in order
  pub leafed : {b : K → K → Bool} (m h : ℕ) (xs : List (Slot K R)) → Stands b m h xs → Leafed b m (leaves m h) (area m h xs)
  leafed m h xs st = record { long = area_long m h xs st.fits; packed = st.packed; ascending = st.ascending }

  -- the leaves replaced in the slots of a tree
  module _ (m h : ℕ) (xs zs : List (Slot K R)) (fit : tree_slots m h ≤ length xs) (lz : length zs ≡ leaf_slots m h) (base size : ℕ) (eb : base ≡ starts m h * m) (es : size ≡ leaf_slots m h) where
    abbrev new : List (Slot K R)
    new = put_mid base size xs zs

    front : length (take base xs) ≡ base
    front = length-take-le base xs (omega (arith, eb, fit, tree_parts m h))

    pub area_new : area m h new ≡ zs
    area_new =
        ap (λ u. take (leaf_slots m h) (drop u new)) (sym eb) ∙ ap (take (leaf_slots m h)) (drop_at (take base xs) (zs ++ drop size (drop base xs)) base front) ∙ take_at zs (drop size (drop base xs)) (leaf_slots m h) lz

    pub long_new : length new ≡ length xs
    long_new = omega (arith, length-append (take base xs) (zs ++ drop size (drop base xs)), length-append zs (drop size (drop base xs)), front, lz, es, length-drop size (drop base xs), length-drop base xs, eb, fit, tree_parts m h)

    pub index_new : (s : ℕ) (d : Slot K R) → s < starts m h * m → get_or new s d ≡ get_or xs s d
    index_new s d l = get_or_append_left (take base xs) (zs ++ drop size (drop base xs)) d s (omega (arith, front, eb, l)) ∙ get_or-take base xs s d (omega (arith, eb, l))

    pub beyond_new : drop (tree_slots m h) new ≡ drop (tree_slots m h) xs
    beyond_new =
        let q : tree_slots m h ≡ base + size = omega (arith, eb, es, tree_parts m h) in
        ap (λ u. drop u new) q ∙ sym (drop-drop size base new) ∙ ap (drop size) (drop_at (take base xs) (zs ++ drop size (drop base xs)) base front)
        ∙ drop_at zs (drop size (drop base xs)) size (lz ∙ sym es) ∙ drop-drop size base xs ∙ ap (λ u. drop u xs) (sym q)

  -- the tree with its leaves relaid, once the index slots that this concerns are renewed
  module _ {b : K → K → Bool} (m h : ℕ) (xs : List (Slot K R)) (st : Stands b m h xs) (low high : ℕ) (zs : List (Slot K R)) (p : Relaid b m (leaves m h) (area m h xs) low high zs) (within : high < leaves m h)
      (base size : ℕ) (eb : base ≡ starts m h * m) (es : size ≡ leaf_slots m h) where
    abbrev mid : List (Slot K R)
    mid = put_mid base size xs zs

    lz : length zs ≡ leaf_slots m h
    lz = p.leafed.long

    pub area_mid : area m h mid ≡ zs
    area_mid = area_new m h xs zs st.fits lz base size eb es

    key_mid : (q : ℕ) → first_key (drop (q * m) zs) ≡ first_key (drop (q * m) (area m h xs)) → index_key m h mid q ≡ index_key m h xs q
    key_mid q e = ap (λ (us : List (Slot K R)). first_key (drop (q * m) us)) area_mid ∙ e

    -- an index slot of a leaf outside the span still follows its rule
    rule_mid : (q : ℕ) → (low < q → q ≤ high → ⊥) → RuleAt m h mid q
    rule_mid q out s d a =
        let e : index_key m h mid q ≡ index_key m h xs q =
        ⊎_elim (λ l. key_mid q (⊎_elim (λ u. p.keys_high q u) (λ u. absurd (out l u)) (cases_lt high q))) (λ l. key_mid q (p.keys_low q (index_pos m h q s a) l)) (cases_lt low q) in
        subst (Names (get_or mid s d)) (sym e) (subst (λ (x : Slot K R). Names x (index_key m h xs q)) (sym (index_new m h xs zs st.fits lz base size eb es s d (slot_low m h q s a))) (st.indexed q s d a))

    module _ (found : Option K) (ys : List (Slot K R)) (is : 0 < high + 1 → tree_slots m h ≤ length mid → RuleAt m h mid (high + 1) → found ≡ index_key m h mid (high + 1)) (r : Refreshed m h mid ys low high found) where
      pub area_renewed : area m h ys ≡ zs
      area_renewed = ap (take (leaf_slots m h)) (rest_same m h mid ys low high r.long r.others) ∙ area_mid

      tail : drop (tree_slots m h) ys ≡ drop (tree_slots m h) mid
      tail =
          let q : tree_slots m h ≡ starts m h * m + leaf_slots m h = tree_parts m h in
          ap (λ u. drop u ys) q ∙ sym (drop-drop (leaf_slots m h) (starts m h * m) ys) ∙ ap (drop (leaf_slots m h)) (rest_same m h mid ys low high r.long r.others) ∙ drop-drop (leaf_slots m h) (starts m h * m) mid ∙ ap (λ u. drop u mid) (sym q)

      pub renewed : StandsWith b m h xs (pairs zs) ys
      renewed =
          let fits : tree_slots m h ≤ length mid = omega (arith, st.fits, long_new m h xs zs st.fits lz base size eb es) in
          let e : high + 1 ≡ suc high = omega arith in
          let packed : (q : ℕ) → q < leaves m h → Packed (leaf_of m h mid q) = λ q l. subst (λ (us : List (Slot K R)). Packed (take m (drop (q * m) us))) (sym area_mid) (p.leafed.packed q l) in
          let ready : Ready m h mid low high found = record {
            fits = fits;
            within = within;
            packed = λ q l u. packed q (omega (arith, u, within));
            past = is (omega arith) fits (rule_mid (high + 1) (λ l u. omega (arith, u))) ∙ ap (index_key m h mid) e;
          } in
          record {
            row_is = ap pairs area_renewed;
            stands = stands_again b m h mid ys low high found r ready (subst (λ (us : List (Slot K R)). Ascending b (pairs us)) (sym area_mid) p.leafed.ascending) packed rule_mid;
            beyond = tail ∙ beyond_new m h xs zs st.fits lz base size eb es;
          }

    -- nothing is to be renewed where no first key is another
    pub still : low ≡ high → StandsWith b m h xs (pairs zs) mid
    still e = renewed (index_key m h mid (high + 1)) mid (λ _ _ _. refl) (record { long = refl; others = λ k d n. refl; done = λ _ q l u. absurd (omega (arith, l, u, e)) })

pub outcome_ok : {X Y : Type 0} (due : Option ℕ) (x : X) (y : Y) → Outcome due (Ok x) → Outcome due (Ok y)
outcome_ok None x y h = tt
outcome_ok (Some n) x y h = absurd h

pub outcome_err : (X Y : Type 0) (due : Option ℕ) (f : Fault) → Outcome {X = X} due (Err f) → Outcome {X = Y} due (Err f)
outcome_err X Y None f h = absurd h
outcome_err X Y (Some n) f h = h
