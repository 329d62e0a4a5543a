-- The next pair of a filling tree.
use Rattle.std.proofs.Common.{◌≡◌, ℕ, ◌+◌, ◌-◌, ◌<◌, ◌≤◌, Bool, true, List, [], ◌∷◌, ◌++◌, length, get_or, take, set, Some, None, Ok, Option, sym, refl, ap, ◌∙◌, subst, subst₂, arith}
use borrow.Rule.Slice.Mut.{set_vals}
use Rattle.std.proofs.lemmas.List.{get_or-take, get_or-drop, length-take, length-drop, length-set, length_push, take-set-le}
use Rattle.std.proofs.lemmas.Bool.{cond-true, cond-false, ne_eqb}
use Rattle.ordered.specs.declared.key.Key.{Ghosts}
use Rattle.ordered.specs.declared.slot.Slot.{Slot}
use Rattle.ordered.specs.Faults.{Outcome}
use Rattle.ordered.specs.Slots.{countable, pairs, Blank, Holds}
use Rattle.ordered.specs.Meaning.{Ascending}
use Rattle.tree_layout.specs.declared.layout.Layout.{Layout}
use Rattle.tree_layout.specs.Levels.{leaf_slots, tree_slots, area}
use Rattle.tree_layout.specs.Rows.{LayoutOf}
use Rattle.tree_layout.proofs.Areas.{layout_slots, area_is, area_set}
use Rattle.array_tree.specs.Filling.{Filling, Blanked, fed_row, slot_count, capacity_of, place_of, follows, feed_refusal, filled_with}
use Rattle.array_tree.specs.declared.filling_tree.FillingTree.{FillingTree}
use Rattle.array_tree.specs.Trees.{row_of, Fed}
use Rattle.slot_rows.proofs.Held.{pairs_held, length_held, pairs_blank}
use Rattle.array_tree.proofs.Blanks.{blank_front, blank_back}
use Rattle.array_tree.proofs.Packed.{holds_last, holds_push, ascending_push}

module _ {K R : Type 0} {b : K → K → Bool} {m n : ℕ} {xs : List (Slot K R)} {p : Layout} (f : Filling b m xs (Some p) n) where
  pub filling_fits : tree_slots p.width p.height ≤ length xs
  filling_fits = subst (λ w. tree_slots w p.height ≤ length xs) (sym f.laid.wide) (omega (arith, f.laid.fits))

  area_long : length (area p.width p.height xs) ≡ leaf_slots p.width p.height
  area_long = ap length (area_is p xs) ∙ simp (length-take, length-drop) (omega (arith, filling_fits, layout_slots p))

  filling_room : n ≤ leaf_slots p.width p.height
  filling_room = omega (arith, f.counted, length_held (fed_row (Some p) xs) (area p.width p.height xs) f.packed, area_long)

  last_follows : (k : K) (d : Slot K R) → 0 < n → b (get_or xs ((p.base + n) - 1) d).key k ≡ follows b (fed_row (Some p) xs) k
  last_follows k d l =
      let i : n - 1 < leaf_slots p.width p.height = omega (arith, filling_room) in
      let at : p.base + (n - 1) ≡ (p.base + n) - 1 = omega arith in
      let read : get_or (area p.width p.height xs) (n - 1) d ≡ get_or xs ((p.base + n) - 1) d = ap (λ (ys : List (Slot K R)). get_or ys (n - 1) d) (area_is p xs) ∙ get_or-take _ _ _ d i ∙ get_or-drop p.base xs (n - 1) d ∙ ap (λ j. get_or xs j d) at in
      ap (λ (y : Slot K R). b y.key k) (sym read) ∙ sym (holds_last b k (fed_row (Some p) xs) (area p.width p.height xs) (n - 1) d f.packed (sym f.counted ∙ omega arith))

module _ {K R : Type 0} (b : K → K → Bool) (transitive : (x y z : K) → b x y ≡ true → b y z ≡ true → b x z ≡ true) (m n : ℕ) (xs : List (Slot K R)) (k : K) (v : R) where
  -- the tree with one more pair
  fed_more : (layout : Option Layout) → Filling b m xs layout n → follows b (fed_row layout xs) k ≡ true → (n ≡ capacity_of layout → ⊥)
      → Filling b m (set xs (place_of layout n) (filled_with k v)) layout (n + 1) × (fed_row layout (set xs (place_of layout n) (filled_with k v)) ≡ fed_row layout xs ++ ((k, v) ∷ []))
  fed_more None f after free = absurd (free f.counted)
  fed_more (Some p) f after free = (
    record {
      laid = subst (λ l. LayoutOf m (countable l) (Some p)) (sym (length-set xs (p.base + n) (filled_with k v))) f.laid;
      above = subst Blank (sym (take-set-le p.base xs (p.base + n) (filled_with k v) (omega arith))) f.above;
      packed = subst₂ Holds (sym row) (sym slots) held;
      ascending = subst (Ascending b) (sym row) (ascending_push b transitive k v (fed_row (Some p) xs) f.ascending after);
      counted = ap (λ c. c + 1) f.counted ∙ sym (ap length row ∙ length_push (fed_row (Some p) xs) (k, v));
    },
    row,
  )
    where
      within : n < leaf_slots p.width p.height
      within = omega (arith, filling_room f, free)

      slots : area p.width p.height (set xs (p.base + n) (filled_with k v)) ≡ set (area p.width p.height xs) n (filled_with k v)
      slots = area_set p xs n (filled_with k v) within

      held : Holds (fed_row (Some p) xs ++ ((k, v) ∷ [])) (set (area p.width p.height xs) n (filled_with k v))
      held = holds_push k v (fed_row (Some p) xs) (area p.width p.height xs) n f.packed f.counted (omega (arith, within, area_long f))

      row : fed_row (Some p) (set xs (p.base + n) (filled_with k v)) ≡ fed_row (Some p) xs ++ ((k, v) ∷ [])
      row = ap pairs slots ∙ pairs_held (fed_row (Some p) xs ++ ((k, v) ∷ [])) _ held

-- a tree just made
pub made_empty : {K R : Type 0} (b : K → K → Bool) (m : ℕ) (xs ys : List (Slot K R)) (layout : Option Layout) → LayoutOf m (countable (length xs)) layout → Blanked (slot_count layout) xs ys
    → Filling b m ys layout 0 × (fed_row layout ys ≡ [])
made_empty b m xs ys None l e = (
  record {
    laid = subst (λ n. countable n < m) (sym e.long) l;
    above = tt;
    packed = tt;
    ascending = tt;
    counted = refl;
  },
  refl,
)
made_empty b m xs ys (Some p) l e = (
  record {
    laid = subst (λ n. LayoutOf m (countable n) (Some p)) (sym e.long) l;
    above = blank_front p.base (leaf_slots p.width p.height) ys blank;
    packed = subst (λ row. Holds row (area p.width p.height ys)) (sym row) leaf;
    ascending = subst (Ascending b) (sym row) tt;
    counted = sym (ap length row);
  },
  row,
)
  where
    blank : Blank (take (p.base + leaf_slots p.width p.height) ys)
    blank = subst (λ n. Blank (take n ys)) (layout_slots p) e.blank

    leaf : Blank (area p.width p.height ys)
    leaf = subst Blank (sym (area_is p ys)) (blank_back p.base (leaf_slots p.width p.height) ys blank)

    row : fed_row (Some p) ys ≡ []
    row = pairs_blank _ leaf

module _ {K R : Type 0} {g : Ghosts K} (t : FillingTree K R g) (p : Layout) (is : t.layout ≡ Some p) where
  abbrev rules : Option Layout → Type 0
  rules layout = Filling g.before g.WIDTH t.slots.now layout t.count

  here : rules (Some p)
  here = subst rules is t.fills

  -- the place of the next pair
  pub next_within : p.base + t.count ≤ length t.slots.now
  next_within = omega (arith, filling_fits here, filling_room here, layout_slots p)

  pub next_small : p.base + t.count ≤ 1048575
  next_small = omega (arith, filling_room here, layout_slots p, p.small)

  pub next_free : (t.count ≡ leaf_slots p.width p.height → ⊥) → p.base + t.count < length t.slots.now
  next_free free = omega (arith, filling_fits here, filling_room here, layout_slots p, free)

  -- the slot of the last pair shows whether a key may follow
  pub follows_last : (k : K) (d : Slot K R) → 0 < t.count → g.before (get_or t.slots.now ((p.base + t.count) - 1) d).key k ≡ follows g.before (row_of t) k
  follows_last k d l = last_follows here k d l ∙ ap (λ (o : Option Layout). follows g.before (fed_row o t.slots.now) k) (sym is)

  module _ (transitive : (x y z : K) → g.before x y ≡ true → g.before y z ≡ true → g.before x z ≡ true) (k : K) (v : R) (after : follows g.before (row_of t) k ≡ true) (free : t.count ≡ leaf_slots p.width p.height → ⊥) where
    abbrev ys : List (Slot K R)
    ys = set t.slots.now (p.base + t.count) (filled_with k v)

    at : ys ≡ set t.slots.now (place_of t.layout t.count) (filled_with k v)
    at = ap (λ (o : Option Layout). set t.slots.now (place_of o t.count) (filled_with k v)) (sym is)

    spare : t.count ≡ capacity_of t.layout → ⊥
    spare e = free (e ∙ ap capacity_of is)

    more : Filling g.before g.WIDTH (set t.slots.now (place_of t.layout t.count) (filled_with k v)) t.layout (t.count + 1) × (fed_row t.layout (set t.slots.now (place_of t.layout t.count) (filled_with k v)) ≡ row_of t ++ ((k, v) ∷ []))
    more = fed_more g.before transitive g.WIDTH t.count t.slots.now k v t.layout t.fills after spare

    pub still_filling : Filling g.before g.WIDTH ys t.layout (t.count + 1)
    still_filling = subst (λ (zs : List (Slot K R)). Filling g.before g.WIDTH zs t.layout (t.count + 1)) (sym at) more.0

    due : Outcome {X = Unit {0}} (feed_refusal g.before (capacity_of t.layout) (row_of t) k) (Ok tt)
    due = subst (λ (d : Option ℕ). Outcome {X = Unit {0}} d (Ok tt)) (sym (cond-true _ _ _ after ∙ cond-false _ _ _ (ne_eqb _ _ (λ e. spare (t.fills.counted ∙ e))))) tt

    pub fed : (f : Filling g.before g.WIDTH ys t.layout (t.count + 1)) → Fed k v (Ok tt) t (record { slots = set_vals ys t.slots; layout = t.layout; count = t.count + 1; fills = f })
    fed f = record {
      outcome = due;
      row = ap (fed_row t.layout) at ∙ more.1;
      slots = at;
      layout = refl;
      count = refl;
      unmoved = tt;
    }
