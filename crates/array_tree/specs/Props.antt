-- The rules of a filling tree hold in one way at most.
use Rattle.std.specs.Prelude.{◌≡◌, ℕ, ◌<◌, ◌≤◌, Bool, List, [], ◌∷◌, length, Some, None, Option, refl}
use Rattle.std.proofs.Props.{props}
use Rattle.ordered.specs.declared.slot.Slot.{Slot}
use Rattle.ordered.specs.Meaning.{After, Ascending}
use Rattle.ordered.specs.Slots.{countable, Blank, Holds}
use Rattle.tree_layout.specs.declared.layout.Layout.{Layout}
use Rattle.tree_layout.specs.Rows.{Laid, LayoutOf}
use Rattle.array_tree.specs.Filling.{Filling, index_slots, leaf_area, fed_row}

less_prop : (m n : ℕ) → IsProp (m < n)
less_prop m n = hlevel props

le_prop : (m n : ℕ) → IsProp (m ≤ n)
le_prop m n = hlevel props

eq_prop : (m n : ℕ) → IsProp (m ≡ n)
eq_prop m n = hlevel props

test_prop : (a b : Bool) → IsProp (a ≡ b)
test_prop a b = hlevel props

laid_prop : (m n : ℕ) (p : Layout) → IsProp (Laid m n p)
laid_prop m n p x y = λ i. record {
  wide = eq_prop _ _ x.wide y.wide i;
  above = eq_prop _ _ x.above y.above i;
  many = eq_prop _ _ x.many y.many i;
  fits = le_prop _ _ x.fits y.fits i;
  tallest = λ h l. less_prop _ _ (x.tallest h l) (y.tallest h l) i;
}

layout_prop : (m n : ℕ) (o : Option Layout) → IsProp (LayoutOf m n o)
layout_prop m n None = less_prop n m
layout_prop m n (Some p) = laid_prop m n p

module _ {K R : Type 0} where
  blank_prop : (ss : List (Slot K R)) → IsProp (Blank ss)
  blank_prop [] x y = refl
  blank_prop (s ∷ ss) x y = λ i. (test_prop _ _ x.0 y.0 i, blank_prop ss x.1 y.1 i)

  after_prop : (b : K → K → Bool) (k : K) (row : List (K × R)) → IsProp (After b k row)
  after_prop b k [] x y = refl
  after_prop b k (p ∷ ps) x y = λ i. (test_prop _ _ x.0 y.0 i, after_prop b k ps x.1 y.1 i)

  ascending_prop : (b : K → K → Bool) (row : List (K × R)) → IsProp (Ascending b row)
  ascending_prop b [] x y = refl
  ascending_prop b (p ∷ ps) x y = λ i. (after_prop b p.0 ps x.0 y.0 i, ascending_prop b ps x.1 y.1 i)

  module _ (ks : IsSet K) (rs : IsSet R) where
    holds_prop : (row : List (K × R)) (ss : List (Slot K R)) → IsProp (Holds row ss)
    holds_prop [] ss x y = blank_prop ss x y
    holds_prop (p ∷ ps) [] x y = absurd x
    holds_prop (p ∷ ps) (s ∷ ss) x y = λ i. (
      (test_prop _ _ x.0.0 y.0.0 i, ks _ _ x.0.1 y.0.1 i, rs _ _ x.0.2 y.0.2 i),
      holds_prop ps ss x.1 y.1 i,
    )

    pub filling_prop : (b : K → K → Bool) (m : ℕ) (xs : List (Slot K R)) (o : Option Layout) (n : ℕ) → IsProp (Filling b m xs o n)
    filling_prop b m xs o n x y = λ i. record {
      laid = layout_prop m (countable (length xs)) o x.laid y.laid i;
      above = blank_prop (index_slots o xs) x.above y.above i;
      packed = holds_prop (fed_row o xs) (leaf_area o xs) x.packed y.packed i;
      ascending = ascending_prop b (fed_row o xs) x.ascending y.ascending i;
      counted = eq_prop _ _ x.counted y.counted i;
    }
