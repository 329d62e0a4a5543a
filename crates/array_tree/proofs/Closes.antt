-- A filling tree whose index slots were set stands.
use Rattle.std.proofs.Common.{◌≡◌, ℕ, ◌-◌, Bool, List, length, drop, Some, None, Option, sym, refl, ap, ◌∙◌, subst, arith}
use borrow.Rule.Slice.Mut.{set_vals}
use Rattle.ordered.specs.declared.key.Key.{Ghosts}
use Rattle.ordered.specs.declared.slot.Slot.{Slot}
use Rattle.ordered.specs.Slots.{countable, pairs, Packed}
use Rattle.tree_layout.specs.declared.layout.Layout.{Layout}
use Rattle.tree_layout.specs.Levels.{leaf_of, leaf_slots}
use Rattle.tree_index.specs.Standing.{tree_row, Stands}
use Rattle.tree_index.specs.Refreshing.{Ready, Refreshed}
use Rattle.tree_index.proofs.Stand.{index_pos, index_below}
use Rattle.tree_index.proofs.Keys.{some_leaf, index_past, rest_same}
use Rattle.tree_index.proofs.Leaves.{packed_leaf}
use Rattle.tree_index.proofs.Renews.{row_again, stands_again}
use Rattle.array_tree.specs.declared.filling_tree.FillingTree.{FillingTree}
use Rattle.array_tree.specs.declared.standing_tree.ArrayTree.{ArrayTree}
use Rattle.array_tree.specs.Filling.{Filling, leaf_area, capacity_of}
use Rattle.array_tree.specs.Standing.{height_in, height_of, leaves_in, room_for, Standing, base_of, Closed}
use Rattle.array_tree.proofs.Heights.{height_at, height_is, leaves_at, room_at}
use Rattle.array_tree.proofs.Nexts.{filling_fits}

-- what closing does to the slots
record Filled {K R : Type 0} (b : K → K → Bool) (m n : ℕ) (layout : Option Layout) (xs ys : List (Slot K R)) : Type 0 where
  keeps : Filling b m xs layout n → Standing b m (height_at layout) ys (room_for m (height_at layout)) n
  row : pairs (leaf_area layout ys) ≡ pairs (leaf_area layout xs)
  rest : drop (base_of layout) ys ≡ drop (base_of layout) xs

module _ {K R : Type 0} (b : K → K → Bool) (m n : ℕ) (p : Layout) (xs ys : List (Slot K R)) (r : Refreshed p.width p.height xs ys 0 (p.leaves - 1) None) where
  closed_rest : drop p.base ys ≡ drop p.base xs
  closed_rest = subst (λ k. drop k ys ≡ drop k xs) (sym p.above) (rest_same p.width p.height xs ys 0 (p.leaves - 1) r.long r.others)

  closed_stands : Filling b m xs (Some p) n → Standing b m (Some p.height) ys (leaf_slots m p.height) n
  closed_stands f = record {
    roomy = refl;
    -- leaf 0 and the leaves past the last have no index slot
    stands = subst (λ w. Stands b w p.height ys) f.laid.wide (stands_again b p.width p.height xs ys 0 (p.leaves - 1) None r ready f.ascending (λ q l. packed q) (λ q out s d a. absurd (out (index_pos _ _ _ _ a) (omega (arith, index_below _ _ _ _ a, p.many)))));
    counted = f.counted ∙ ap length (sym (row_again b p.width p.height xs ys 0 (p.leaves - 1) None r)) ∙ ap (λ w. length (tree_row w p.height ys)) f.laid.wide;
  }
    where
      packed : (q : ℕ) → Packed (leaf_of p.width p.height xs q)
      packed q = packed_leaf p.width p.height q xs _ f.packed

      ready : Ready p.width p.height xs 0 (p.leaves - 1) None
      ready = record {
        fits = filling_fits f;
        within = omega (arith, some_leaf p, p.many);
        packed = λ q l u. packed q;
        past = sym (index_past p.width p.height _ xs (omega (arith, some_leaf p, p.many)));
      }

module _ {K R : Type 0} {g : Ghosts K} (old : FillingTree K R g) (ys : List (Slot K R)) (long : length ys ≡ length old.slots.now) where
  abbrev new : ArrayTree K R
  new = record { slots = set_vals ys old.slots; room = capacity_of old.layout; count = old.count }

  new_height : height_of g.WIDTH new ≡ height_at old.layout
  new_height = ap (λ l. height_in g.WIDTH (countable l)) long ∙ height_is g.WIDTH _ old.layout old.fills.laid

  room : room_for g.WIDTH (height_at old.layout) ≡ capacity_of old.layout
  room = room_at g.WIDTH _ old.layout old.fills.laid

  closed : Filled g.before g.WIDTH old.count old.layout old.slots.now ys → Closed old new
  closed f = record {
    keeps = subst (λ (a : Option ℕ). Standing g.before g.WIDTH a ys (capacity_of old.layout) old.count) (sym new_height) (subst (λ r. Standing g.before g.WIDTH (height_at old.layout) ys r old.count) room (f.keeps old.fills));
    row = ap (λ (a : Option ℕ). pairs (leaves_in g.WIDTH a ys)) new_height ∙ ap pairs (leaves_at g.WIDTH _ old.layout ys old.fills.laid) ∙ f.row;
    room = ap (room_for g.WIDTH) new_height ∙ room;
    count = refl;
    long = long;
    rest = f.rest;
  }

  pub closed_some : (p : Layout) → old.layout ≡ Some p → Refreshed p.width p.height old.slots.now ys 0 (p.leaves - 1) None → Closed old new
  closed_some p e r = closed (subst (λ (l : Option Layout). Filled g.before g.WIDTH old.count l old.slots.now ys) (sym e) (record {
    keeps = closed_stands g.before g.WIDTH old.count p old.slots.now ys r;
    row = row_again g.before p.width p.height old.slots.now ys 0 (p.leaves - 1) None r;
    rest = closed_rest g.before g.WIDTH old.count p old.slots.now ys r;
  }))

  pub closed_none : old.layout ≡ None → ys ≡ old.slots.now → Closed old new
  closed_none e q = closed (subst (λ (l : Option Layout). Filled g.before g.WIDTH old.count l old.slots.now ys) (sym e) (record {
    keeps = λ f. record { roomy = refl; stands = tt; counted = f.counted };
    row = refl;
    rest = q;
  }))
