-- A standing tree with one more pair in its leaves stands again.
use Rattle.std.proofs.Common.{◌≡◌, ℕ, ◌+◌, ◌-◌, ◌<◌, ◌≤◌, Bool, List, ◌++◌, length, take, drop, Ok, Err, Option, Result, sym, ap, ◌∙◌, subst, arith}
use borrow.Rule.Slice.PartMut.{put_mid}
use Rattle.std.proofs.lemmas.List.{take-append-drop}
use Rattle.ordered.specs.declared.fault.Fault.{Fault}
use Rattle.ordered.specs.declared.slot.Slot.{Slot}
use Rattle.ordered.specs.Changes.{put_refusal}
use Rattle.ordered.specs.Meaning.{Order}
use Rattle.tree_layout.specs.declared.layout.Layout.{Layout}
use Rattle.tree_layout.specs.Levels.{leaves, leaf_slots, tree_slots, area}
use Rattle.tree_layout.proofs.Levels.{tree_parts}
use Rattle.tree_layout.specs.Belongs.{Belongs}
use Rattle.tree_index.specs.Index.{index_key, RuleAt}
use Rattle.tree_index.specs.Refreshing.{Refreshed}
use Rattle.tree_index.specs.Standing.{tree_row, Stands, Target}
use Rattle.tree_search.proofs.Splits.{belongs}
use Rattle.leaf_rows.specs.declared.placing.Span.{Span}
use Rattle.leaf_rows.specs.Leaves.{count_at, Leafed}
use Rattle.leaf_rows.specs.Puts.{Puts}
use Rattle.tree_changes.specs.Changed.{StandsWith, Landed, Changed}
use Rattle.tree_changes.proofs.Relaying.{Relaid}
use Rattle.tree_changes.proofs.Lands.{leafed, area_renewed, renewed, outcome_ok, outcome_err}

module _ {K R : Type 0} {b : K → K → Bool} (o : Order b) (y : Layout) (xs : List (Slot K R)) (st : Stands b y.width y.height xs) (k : K) (v : R) (t : ℕ) (target : Target b y.width y.height xs k t) (end : ℕ) (ee : end ≡ tree_slots y.width y.height) where
  abbrev m : ℕ
  m = y.width

  abbrev h : ℕ
  h = y.height

  abbrev due : Option ℕ
  due = put_refusal b (leaf_slots m h) (tree_row m h xs) k

  -- the leaves as they were lent, and the slots with them changed
  abbrev lent : List (Slot K R)
  lent = take (end - y.base) (drop y.base xs)

  abbrev with_leaves : List (Slot K R) → List (Slot K R)
  with_leaves zs = put_mid y.base (end - y.base) xs zs

  abbrev PutsIn : Result Span Fault → List (Slot K R) → Type 0
  PutsIn r zs = Puts b m (leaves m h) (area m h xs) k v t r zs

  size : end - y.base ≡ leaf_slots m h
  size = omega (arith, ee, y.above, tree_parts m h)

  lent_is : lent ≡ area m h xs
  lent_is = ap (λ u. take u (drop y.base xs)) size ∙ ap (λ u. take (leaf_slots m h) (drop u xs)) y.above

  pub puts_in : (w : ℕ) → w ≡ m → (r : Result Span Fault) (zs : List (Slot K R)) → ((n : ℕ) → Leafed b w n lent → Belongs b w n lent k t → Puts b w n lent k v t r zs) → PutsIn r zs
  puts_in w ew r zs puts =
      let here = subst (λ (ys : List (Slot K R)). (n : ℕ) → Leafed b w n ys → Belongs b w n ys k t → Puts b w n ys k v t r zs) lent_is puts in
      let wide = subst (λ u. (n : ℕ) → Leafed b u n (area m h xs) → Belongs b u n (area m h xs) k t → Puts b u n (area m h xs) k v t r zs) ew here in
      wide (leaves m h) (leafed m h xs st) (belongs o k m h xs t st target)

  pub placed_ok : (span : Span) (zs ys : List (Slot K R)) (found : Option K) → PutsIn (Ok span) zs
      → (0 < span.high + 1 → tree_slots m h ≤ length (with_leaves zs) → RuleAt m h (with_leaves zs) (span.high + 1) → found ≡ index_key m h (with_leaves zs) (span.high + 1))
      → Refreshed m h (with_leaves zs) ys span.low span.high found
      → Changed {X = Unit {0}} due (Landed b m h xs k v) xs (Ok tt) ys
  placed_ok span zs ys found p is r =
      let a = p.after in
      let high_in : span.high < leaves m h = omega (arith, a.high_is, a.lands.within, target.within) in
      let relaid : Relaid b m (leaves m h) (area m h xs) span.low span.high zs = record { leafed = a.leafed; keys_low = a.keys_low; keys_high = a.keys_high } in
      let same : area m h ys ≡ zs = area_renewed m h xs st span.low span.high zs relaid high_in y.base (end - y.base) y.above size found ys is r in
      record {
        outcome = outcome_ok due span tt p.outcome;
        after = record {
          t = t;
          r = a.r;
          target = target;
          nearest = a.lands;
          counts = λ q l. ap (λ (us : List (Slot K R)). count_at m us q) same ∙ a.counts q l;
          tree = subst (λ (row : List (K × R)). StandsWith b m h xs row ys) a.row (renewed m h xs st span.low span.high zs relaid high_in y.base (end - y.base) y.above size found ys is r);
        };
      }

  pub placed_err : (f : Fault) (zs ys : List (Slot K R)) → PutsIn (Err f) zs → ys ≡ with_leaves zs → Changed {X = Unit {0}} due (Landed b m h xs k v) xs (Err f) ys
  placed_err f zs ys p e = record {
    outcome = outcome_err Span (Unit {0}) due f p.outcome;
    after =
        e ∙ ap (λ (us : List (Slot K R)). take y.base xs ++ (us ++ drop (end - y.base) (drop y.base xs))) (p.after ∙ sym lent_is)
        ∙ ap (λ (us : List (Slot K R)). take y.base xs ++ us) (take-append-drop (end - y.base) (drop y.base xs)) ∙ take-append-drop y.base xs;
  }
