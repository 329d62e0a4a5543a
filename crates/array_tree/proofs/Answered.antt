-- What a standing tree answers, from what its slots say.
use Rattle.std.proofs.Common.{◌≡◌, ℕ, suc, ◌<◌, ◌≤◌, Bool, true, false, not, List, [], ◌∷◌, length, Some, None, Option, sym, subst, arith}
use Rattle.std.proofs.Math.Bool.{not-not}
use Rattle.ordered.specs.declared.slot.Slot.{Slot}
use Rattle.ordered.specs.Meaning.{Orderly, first, above}
use Rattle.ordered.specs.Promises.{Answers}
use Rattle.ordered.specs.Slots.{countable, keep, pairs}
use Rattle.ordered.proofs.Rows.{first_same}
use Rattle.tree_layout.specs.declared.layout.Layout.{Layout}
use Rattle.tree_layout.specs.Levels.{area}
use Rattle.tree_layout.specs.Rows.{Laid}
use Rattle.tree_index.specs.Standing.{tree_row, Stands}
use Rattle.tree_index.proofs.Keys.{area_long}
use Rattle.array_tree.specs.declared.standing_tree.ArrayTree.{ArrayTree}
use Rattle.array_tree.specs.Standing.{height_of, leaves_in, room_for, Standing, Keeps, row_in, room_in}
use Rattle.array_tree.proofs.Heights.{height_is}

pairs_few : {K R : Type 0} (ss : List (Slot K R)) → length (pairs ss) ≤ length ss
pairs_few [] = omega arith
pairs_few (s ∷ ss) = elim s.filled as (λ t. length (keep t (s.key, s.value) (pairs ss)) ≤ suc (length ss)) [ true ↦ omega (arith, pairs_few ss) | false ↦ omega (arith, pairs_few ss) ]

pub orderly : {K R : Type 0} (b : K → K → Bool) (m : ℕ) (height : Option ℕ) (xs : List (Slot K R)) (r n : ℕ) → Standing b m height xs r n → Orderly b (room_for m height) (pairs (leaves_in m height xs))
orderly b m None xs r n s = record { ascending = tt; within = omega arith }
orderly b m (Some h) xs r n s = record { ascending = s.stands.ascending; within = omega (arith, pairs_few (area m h xs), area_long m h xs s.stands.fits) }

module _ {K R : Type 0} (b : K → K → Bool) (m : ℕ) (t : ArrayTree K R) {X : Type 0} (ask : List (K × R) → X) (r : X) where
  abbrev xs : List (Slot K R)
  xs = t.slots.now

  pub answers : (Keeps b m t → r ≡ ask (row_in m t)) → Answers (row_in m) (room_in m) (Keeps b m) b t r (ask (row_in m t))
  answers g = record { gives = g; orderly = orderly b m (height_of m t) xs t.room t.count }

  answers_at : (height : Option ℕ) → height_of m t ≡ height → (Standing b m height xs t.room t.count → r ≡ ask (pairs (leaves_in m height xs))) → Answers (row_in m) (room_in m) (Keeps b m) b t r (ask (row_in m t))
  answers_at height e f = answers (subst (λ (a : Option ℕ). Standing b m a xs t.room t.count → r ≡ ask (pairs (leaves_in m a xs))) (sym e) f)

  pub answers_some : (p : Layout) → Laid m (countable (length xs)) p → (Stands b p.width p.height xs → r ≡ ask (tree_row p.width p.height xs)) → Answers (row_in m) (room_in m) (Keeps b m) b t r (ask (row_in m t))
  answers_some p laid f =
      let g = subst (λ (w : ℕ). Stands b w p.height xs → r ≡ ask (tree_row w p.height xs)) laid.wide f in
      answers_at (Some p.height) (height_is m (countable (length xs)) (Some p) laid) (λ s. g s.stands)

  -- a tree without slots answers as an empty index
  pub answers_none : countable (length xs) < m → r ≡ ask [] → Answers (row_in m) (room_in m) (Keeps b m) b t r (ask (row_in m t))
  answers_none short f = answers_at None (height_is m (countable (length xs)) None short) (λ s. f)

pub above_is : {K R : Type 0} (b : K → K → Bool) (row : List (K × R)) (k : K) → first (λ q. not (not (b k q))) row ≡ above b row k
above_is b row k = first_same b (λ q. not (not (b k q))) (λ q. b k q) row (λ q. not-not (b k q))

pub capacity_is : {K R : Type 0} (b : K → K → Bool) (m : ℕ) (t : ArrayTree K R) → Answers (row_in m) (room_in m) (Keeps b m) b t t.room (room_in m t)
capacity_is b m t = record { gives = λ k. k.roomy; orderly = orderly b m (height_of m t) t.slots.now t.room t.count }
