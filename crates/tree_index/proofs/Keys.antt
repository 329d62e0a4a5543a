-- The index keys of a tree, and slots that name them.
use Rattle.std.proofs.Common.{◌≡◌, ℕ, suc, ◌+◌, ◌-◌, ◌*◌, ◌<◌, ◌≤◌, ◌≢◌, List, [], ◌∷◌, length, get_or, take, drop, set, Some, None, Option, sym, refl, ap, ◌∙◌, subst, ⊎_elim, mul-le-mul_right, arith, length-drop, length-set, length-take}
use native.Mathlib.Nat.{one-le-pow}
use Rattle.std.proofs.lemmas.Bool.{cases_eq}
use Rattle.std.proofs.lemmas.List.{drop-drop, drop_all, take-append-drop, get_or-take, get_or-drop, get_or-set_same, get_or-set_other, drop-set-lt, same_lists}
use Rattle.ordered.specs.declared.slot.Slot.{Slot}
use Rattle.ordered.specs.Slots.{pairs, Holds, first_key, Packed}
use Rattle.tree_layout.specs.Levels.{starts, leaves, leaf_slots, tree_slots, area, leaf_at, leaf_of}
use Rattle.tree_layout.specs.declared.layout.Layout.{Layout}
use Rattle.tree_layout.proofs.Areas.{layout_room, layout_slots}
use Rattle.tree_layout.proofs.Levels.{tree_parts}
use Rattle.tree_layout.proofs.Leaves.{leaf_long}
use Rattle.tree_index.specs.Index.{index_key, IndexAt, Names, RuleAt}
use Rattle.std.specs.Bool.{then_some}
use Rattle.std.specs.Option.{option_or}
use Rattle.ordered.proofs.Walks.{head_of}
use Rattle.ordered.proofs.Slots.{first_append, first_key_lem, key_of}
use Rattle.slot_rows.proofs.Held.{held_at}
use Rattle.slot_rows.proofs.Looks.{held_past}
use Rattle.tree_index.specs.Refreshing.{Ready, Refreshed}
use Rattle.tree_index.proofs.Stand.{one_leaf, one_slot, slot_low}

module _ {K R : Type 0} where
  -- the first slot of packed slots tells their first key
  packed_head : (ss : List (Slot K R)) (x : Slot K R) → Packed ss → 0 < length ss → x ≡ get_or ss 0 x → first_key ss ≡ then_some x.filled x.key
  packed_head ss x h l e = first_key_lem ss ∙ head (pairs ss) h
    where
      head : (row : List (K × R)) → Holds row ss → key_of (head_of row) ≡ then_some x.filled x.key
      head [] h = ap (λ t. then_some t x.key) (sym (held_past 0 [] ss x (omega arith) l h e))
      head (p ∷ row) h = let r = held_at 0 (p ∷ row) ss x (omega arith) h e in ap key_of r.1 ∙ ap (λ t. then_some t x.key) (sym r.0)

  -- the index key of a leaf is its own first key, or else that of the next leaf
  pub index_next : (m h p : ℕ) (xs : List (Slot K R)) → index_key m h xs p ≡ option_or (first_key (leaf_of m h xs p)) (index_key m h xs (p + 1))
  index_next m h p xs =
      let ys = drop (p * m) (area m h xs) in
      let e : p * m + m ≡ (p + 1) * m = omega arith in
      ap first_key (sym (take-append-drop m ys)) ∙ first_append (take m ys) (drop m ys)
      ∙ ap (λ (zs : List (Slot K R)). option_or (first_key (take m ys)) (first_key zs)) (drop-drop m (p * m) (area m h xs) ∙ ap (λ k. drop k (area m h xs)) e)

  -- past the last leaf there is none
  pub index_past : (m h p : ℕ) (xs : List (Slot K R)) → leaves m h ≤ p → index_key m h xs p ≡ None
  index_past m h p xs l = ap first_key (drop_all (p * m) (area m h xs) (simp length-take (omega (arith, mul-le-mul_right m l))))

module _ {X : Type 0} (m h : ℕ) (xs : List X) (fit : tree_slots m h ≤ length xs) where
  pub area_long : length (area m h xs) ≡ leaf_slots m h
  area_long = simp (length-take, length-drop) (omega (arith, fit, tree_parts m h))

  module _ (p : ℕ) (l : p < leaves m h) where
    pub leaf_full : length (leaf_of m h xs p) ≡ m
    leaf_full = leaf_long m (leaves m h) p (area m h xs) area_long l

    -- slot i of leaf p
    pub leaf_at_lem : (i : ℕ) (d : X) → i < m → get_or (leaf_of m h xs p) i d ≡ get_or xs (starts m h * m + (p * m + i)) d
    leaf_at_lem i d li = get_or-take m _ i d li ∙ get_or-drop (p * m) (area m h xs) i d ∙ get_or-take (leaf_slots m h) _ (p * m + i) d (omega (arith, mul-le-mul_right m l)) ∙ get_or-drop (starts m h * m) xs (p * m + i) d

pub some_leaf : (y : Layout) → 1 ≤ y.leaves
some_leaf y = subst (λ n. 1 ≤ n) (sym y.many) (one-le-pow y.height (y.width + 1) (omega arith))

pub leaf_within : (y : Layout) (p : ℕ) → p < y.leaves → y.base + (p * y.width + y.width) ≤ tree_slots y.width y.height
leaf_within y p l = omega (arith, layout_slots y, layout_room y, mul-le-mul_right y.width l)

-- the first slot of a leaf
pub head_within : (y : Layout) (p : ℕ) → p < y.leaves → y.base + p * y.width < tree_slots y.width y.height
head_within y p l = omega (arith, leaf_within y p l, y.narrowest)

-- a slot that names a key, read back
pub names_read : {K R : Type 0} (s : Slot K R) (o : Option K) → Names s o → then_some s.filled s.key ≡ o
names_read s None e = ap (λ t. then_some t s.key) e
names_read s (Some k) e = ap (λ t. then_some t s.key) e.0 ∙ ap Some e.1

module _ {K R : Type 0} (m h p s : ℕ) (xs : List (Slot K R)) (a : IndexAt m h p s) where
  pub slot_within : tree_slots m h ≤ length xs → s < length xs
  slot_within fit = omega (arith, slot_low m h p s a, tree_parts m h)

  -- what the index slot of a leaf tells
  pub told : (x : Slot K R) → x ≡ get_or xs s x → RuleAt m h xs p → then_some x.filled x.key ≡ index_key m h xs p
  told x is r = names_read x _ (subst (λ (y : Slot K R). Names y (index_key m h xs p)) (sym is) (r s x a))

-- slots with the same leaves have the same index keys, and a slot that stays keeps its rule
module _ {K R : Type 0} (m h : ℕ) (xs ys : List (Slot K R)) (same : area m h ys ≡ area m h xs) where
  pub index_same : (p : ℕ) → index_key m h ys p ≡ index_key m h xs p
  index_same p = ap (λ (zs : List (Slot K R)). first_key (drop (p * m) zs)) same

  pub rule_same : (p : ℕ) → ((s : ℕ) (d : Slot K R) → IndexAt m h p s → get_or ys s d ≡ get_or xs s d) → RuleAt m h xs p → RuleAt m h ys p
  rule_same p stays r s d a = subst (λ (x : Slot K R). Names x (index_key m h ys p)) (sym (stays s d a)) (subst (Names (get_or xs s d)) (sym (index_same p)) (r s d a))

-- slots that differ in index slots alone have the same leaves, and the same slots past the tree
module _ {K R : Type 0} (m h : ℕ) (xs ys : List (Slot K R)) (low high : ℕ) (long : length ys ≡ length xs)
    (others : (k : ℕ) (d : Slot K R) → ((p : ℕ) → low < p → p ≤ high → IndexAt m h p k → ⊥) → get_or ys k d ≡ get_or xs k d) where
  pub rest_same : drop (starts m h * m) ys ≡ drop (starts m h * m) xs
  rest_same =
      same_lists _ _ (simp length-drop (ap (λ n. n - starts m h * m) long))
      (λ k d l. get_or-drop (starts m h * m) ys k d ∙ others (starts m h * m + k) d (λ p a b i. omega (arith, slot_low m h p _ i)) ∙ sym (get_or-drop (starts m h * m) xs k d))

  pub area_same : area m h ys ≡ area m h xs
  area_same = ap (take (leaf_slots m h)) rest_same

  -- an index slot outside the range keeps its rule
  pub rule_outside : (p : ℕ) → (low < p → p ≤ high → ⊥) → RuleAt m h xs p → RuleAt m h ys p
  rule_outside p out = rule_same m h xs ys area_same p (λ s d a. others s d (λ q l u i. let e : p ≡ q = one_leaf m h p q s s a i refl in out (subst (λ n. low < n) (sym e) l) (subst (λ n. n ≤ high) (sym e) u)))

-- What refreshing has done when the leaves after p are done.
pub record Renewed {K R : Type 0} (m h : ℕ) (xs ys : List (Slot K R)) (low high : ℕ) (found : Option K) (p : ℕ) (next : Option K) : Type 0 where
  pub within : p ≤ high
  pub long : length ys ≡ length xs
  pub others : (k : ℕ) (d : Slot K R) → ((p : ℕ) → low < p → p ≤ high → IndexAt m h p k → ⊥) → get_or ys k d ≡ get_or xs k d
  pub done : Ready m h xs low high found → (q : ℕ) → p < q → q ≤ high → RuleAt m h ys q
  pub carries : Ready m h xs low high found → next ≡ index_key m h xs (p + 1)

module _ {K R : Type 0} (m h : ℕ) (xs : List (Slot K R)) (low high : ℕ) (found : Option K) where
  pub renewed_none : Renewed m h xs xs low high found high found
  renewed_none = record {
    within = omega arith;
    long = refl;
    others = λ k d n. refl;
    done = λ r q l u. absurd (omega arith);
    carries = λ r. let e : suc high ≡ high + 1 = omega arith in r.past ∙ ap (index_key m h xs) e;
  }

  module _ (ys : List (Slot K R)) (q : ℕ) (next : Option K) (r : Renewed m h xs ys low high found (q + 1) next) (lq : low ≤ q) where
    same_leaves : area m h ys ≡ area m h xs
    same_leaves = area_same m h xs ys low high r.long r.others

    -- the key to carry on, by the first slot of the leaf
    pub carried : (x : Slot K R) (base : ℕ) → 0 < m → base ≡ starts m h * m → x ≡ get_or ys (base + (q + 1) * m) x → Ready m h xs low high found → option_or (then_some x.filled x.key) next ≡ index_key m h xs (q + 1)
    carried x base pm eb is ready =
        let l : q + 1 < leaves m h = omega (arith, r.within, ready.within) in
        let z : starts m h * m + ((q + 1) * m + 0) ≡ base + (q + 1) * m = omega arith in
        let fit : tree_slots m h ≤ length ys = omega (arith, ready.fits, r.long) in
        let own : leaf_of m h ys (q + 1) ≡ leaf_of m h xs (q + 1) = ap (λ (zs : List (Slot K R)). leaf_at m zs (q + 1)) same_leaves in
        let head : x ≡ get_or (leaf_of m h xs (q + 1)) 0 x = is ∙ sym (leaf_at_lem m h ys fit (q + 1) l 0 x pm ∙ ap (λ k. get_or ys k x) z) ∙ ap (λ (zs : List (Slot K R)). get_or zs 0 x) own in
        let key = packed_head (leaf_of m h xs (q + 1)) x (ready.packed (q + 1) (omega (arith, lq)) r.within) (omega (arith, leaf_full m h xs ready.fits (q + 1) l)) head in
        ap (λ o. option_or o next) (sym key) ∙ ap (option_or (first_key (leaf_of m h xs (q + 1)))) (r.carries ready) ∙ sym (index_next m h (q + 1) xs)

    -- one leaf more
    pub renewed_more : (zs : List (Slot K R)) (s : ℕ) (v : Slot K R) (now : Option K) → IndexAt m h (q + 1) s → s < length ys → zs ≡ set ys s v → Names v now → (Ready m h xs low high found → now ≡ index_key m h xs (q + 1)) → Renewed m h xs zs low high found q now
    renewed_more zs s v now a ls ez names is =
        subst (λ (zs : List (Slot K R)). Renewed m h xs zs low high found q now) (sym ez) (record {
          within = omega (arith, r.within);
          long = length-set ys s v ∙ r.long;
          others = λ k d n. get_or-set_other ys s k v d (λ e. n (q + 1) (omega (arith, lq)) r.within (subst (IndexAt m h (q + 1)) (sym e) a)) ∙ r.others k d n;
          done = λ ready p l u. ⊎_elim (λ e. subst (RuleAt m h (set ys s v)) (sym e) (here ready)) (λ ne. there p ne (r.done ready p (omega (arith, l, ne)) u)) (cases_eq p (q + 1));
          carries = is;
        })
      where
        leaves_stay : area m h (set ys s v) ≡ area m h ys
        leaves_stay = ap (take (leaf_slots m h)) (drop-set-lt (starts m h * m) ys s v (slot_low m h (q + 1) s a))

        here : Ready m h xs low high found → RuleAt m h (set ys s v) (q + 1)
        here ready t d b =
            let e : t ≡ s = one_slot m h (q + 1) (q + 1) t s b a refl in
            let k : now ≡ index_key m h (set ys s v) (q + 1) = is ready ∙ sym (index_same m h xs (set ys s v) (leaves_stay ∙ same_leaves) (q + 1)) in
            subst (λ (x : Slot K R). Names x (index_key m h (set ys s v) (q + 1))) (sym (ap (λ n. get_or (set ys s v) n d) e ∙ get_or-set_same ys s v d ls)) (subst (Names v) k names)

        there : (p : ℕ) → p ≢ q + 1 → RuleAt m h ys p → RuleAt m h (set ys s v) p
        there p ne = rule_same m h ys (set ys s v) leaves_stay p (λ t d b. get_or-set_other ys s t v d (λ e. ne (one_leaf m h p (q + 1) t s b a e)))

  pub renewed_all : (ys : List (Slot K R)) (p : ℕ) (next : Option K) → Renewed m h xs ys low high found p next → p ≤ low → Refreshed m h xs ys low high found
  renewed_all ys p next r l = record { long = r.long; others = r.others; done = λ ready q a b. r.done ready q (omega arith) b }
