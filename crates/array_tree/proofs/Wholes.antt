-- A change of the slots of a standing tree as a change of the index.
use Rattle.std.proofs.Common.{◌≡◌, ℕ, ◌+◌, ◌-◌, ◌^◌, ◌≤◌, min, Bool, List, length, Some, Ok, Err, Option, Result, sym, refl, ap, ◌∙◌, subst, arith}
use borrow.Rule.Slice.Mut.{set_vals}
use Rattle.ordered.specs.declared.fault.Fault.{Fault}
use Rattle.ordered.specs.declared.slot.Slot.{Slot}
use Rattle.ordered.specs.Changes.{absent_refusal, settled, Unmoved}
use Rattle.ordered.specs.Faults.{Outcome}
use Rattle.ordered.specs.Meaning.{Order, holds, inserted, removed}
use Rattle.ordered.specs.Promises.{Changes}
use Rattle.ordered.specs.Slots.{countable, pairs}
use Rattle.ordered.proofs.Rows.{length_inserted}
use Rattle.ordered.proofs.Lookups.{length_removed}
use Rattle.slot_rows.proofs.Held.{found_there}
use Rattle.tree_layout.specs.declared.layout.Layout.{Layout}
use Rattle.tree_layout.specs.Levels.{leaf_slots, tree_slots}
use Rattle.tree_layout.specs.Rows.{Laid}
use Rattle.tree_layout.proofs.Levels.{tree_parts}
use Rattle.tree_index.specs.Standing.{tree_row, Stands}
use Rattle.tree_changes.specs.Changed.{StandsWith, Changed}
use Rattle.tree_changes.proofs.Edits.{ok_there}
use Rattle.array_tree.specs.declared.standing_tree.ArrayTree.{ArrayTree}
use Rattle.array_tree.specs.Standing.{Does, height_in, height_of, leaves_in, room_for, Standing, Keeps, row_in, room_in}
use Rattle.array_tree.proofs.Answered.{orderly}
use Rattle.array_tree.proofs.Heights.{height_is}

module _ {K R : Type 0} (b : K → K → Bool) (m : ℕ) (t : ArrayTree K R) (p : Layout) (laid : Laid m (countable (length t.slots.now)) p) (ys : List (Slot K R)) (long : length ys ≡ length t.slots.now)
    (due : ℕ → List (K × R) → Option ℕ) (new : List (K × R) → List (K × R)) (does : ℕ → ℕ → List (Slot K R) → Type 0) where
  abbrev xs : List (Slot K R)
  xs = t.slots.now

  abbrev h : ℕ
  h = p.height

  abbrev row : List (K × R)
  row = tree_row m h xs

  abbrev turned : ℕ → ArrayTree K R
  turned j = record { slots = set_vals ys t.slots; room = t.room; count = j }

  abbrev Whole : {X : Type 0} → Result X Fault → ℕ → Type 0
  Whole r j = Changes (row_in m) (room_in m) (Keeps b m) b t (due (room_in m t) (row_in m t)) (new (row_in m t)) r (turned j) × (Keeps b m t → Does (height_of m t) (does m) xs r ys)

  -- a whole change, told by the height before and after
  record At {X : Type 0} (r : Result X Fault) (j : ℕ) (a a' : Option ℕ) : Type 0 where
    outcome : Standing b m a xs t.room t.count → Outcome (due (room_for m a) (pairs (leaves_in m a xs))) r
    after : Standing b m a xs t.room t.count → pairs (leaves_in m a' ys) ≡ settled r (new (pairs (leaves_in m a xs))) (pairs (leaves_in m a xs))
    unmoved : Standing b m a xs t.room t.count → Unmoved r t (turned j)
    capacity : room_for m a' ≡ room_for m a
    stays : Standing b m a xs t.room t.count → Standing b m a' ys t.room j
    slots : Standing b m a xs t.room t.count → Does a (does m) xs r ys

  old_height : height_of m t ≡ Some h
  old_height = height_is m (countable (length xs)) (Some p) laid

  whole : {X : Type 0} (r : Result X Fault) (j : ℕ) → At r j (Some h) (Some h) → Whole r j
  whole r j w =
      let new_height : height_of m (turned j) ≡ Some h = ap (λ (l : ℕ). height_in m (countable l)) long ∙ old_height in
      let at : At r j (height_of m t) (height_of m (turned j)) = subst (λ a. At r j a (height_of m (turned j))) (sym old_height) (subst (At r j (Some h)) (sym new_height) w) in (
        record {
          outcome = at.outcome;
          after = at.after;
          unmoved = at.unmoved;
          capacity = at.capacity;
          stays = at.stays;
          orderly = orderly b m (height_of m t) xs t.room t.count;
        },
        at.slots,
      )

  abbrev Given : Result (Unit {0}) Fault → ℕ → Type 0
  Given r w = Stands b w h xs → Changed (due (leaf_slots w h) (tree_row w h xs)) (does w h) xs r ys

  pub whole_ok : (j : ℕ) → Given (Ok tt) p.width → (does m h ys → StandsWith b m h xs (new row) ys) → (Standing b m (Some h) xs t.room t.count → Outcome {X = Unit {0}} (due (leaf_slots m h) row) (Ok tt) → j ≡ length (new row)) → Whole {X = Unit {0}} (Ok tt) j
  whole_ok j given tree counts =
      let w = subst (Given (Ok tt)) laid.wide given in
      whole (Ok tt) j (record {
        outcome = λ s. (w s.stands).outcome;
        after = λ s. (tree (w s.stands).after).row_is;
        unmoved = λ s. tt;
        capacity = refl;
        stays = λ s. let c = w s.stands in record { roomy = s.roomy; stands = (tree c.after).stands; counted = counts s c.outcome ∙ ap length (sym (tree c.after).row_is) };
        slots = λ s. (w s.stands).after;
      })

  pub whole_err : (f : Fault) → Given (Err f) p.width → Whole {X = Unit {0}} (Err f) t.count
  whole_err f given =
      let w = subst (Given (Err f)) laid.wide given in
      whole (Err f) t.count (record {
        outcome = λ s. (w s.stands).outcome;
        after = λ s. ap (tree_row m h) (w s.stands).after;
        unmoved = λ s. ap (λ (zs : List (Slot K R)). record { slots = set_vals zs t.slots; room = t.room; count = t.count }) (w s.stands).after;
        capacity = refl;
        stays = λ s. subst (λ (zs : List (Slot K R)). Standing b m (Some h) zs t.room t.count) (sym (w s.stands).after) s;
        slots = λ s. (w s.stands).after;
      })

  pub whole_same : (r : Result (Unit {0}) Fault) → Given r p.width → (does m h ys → StandsWith b m h xs (new row) ys) → length (new row) ≡ length row → Whole r t.count
  whole_same (Ok x) w tree e = whole_ok t.count w tree (λ s o. s.counted ∙ sym e)
  whole_same (Err f) w tree e = whole_err f w

-- how many pairs there are after a change
module _ {K R : Type 0} {b : K → K → Bool} (o : Order b) (m h : ℕ) (xs : List (Slot K R)) (r n : ℕ) (s : Standing b m (Some h) xs r n) (k : K) where
  pub one_more : tree_slots m h ≤ 1048575 → (v : R) (j : ℕ) → j ≡ min (n + 1) (2 ^ 64 - 1) → j ≡ length (inserted b (tree_row m h xs) k v)
  one_more small v j e = omega (arith, e, s.counted, length_inserted b (tree_row m h xs) k v, (orderly b m (Some h) xs r n s).within, tree_parts m h, small)

  pub one_less : (j : ℕ) → j ≡ n - 1 → Outcome {X = Unit {0}} (absent_refusal b (tree_row m h xs) k) (Ok tt) → j ≡ length (removed b (tree_row m h xs) k)
  one_less j e d =
      let w = found_there o k (tree_row m h xs) s.stands.ascending (ok_there (holds b (tree_row m h xs) k) tt d) in
      omega (arith, e, s.counted, length_removed o k w.value (tree_row m h xs) s.stands.ascending w.found)
