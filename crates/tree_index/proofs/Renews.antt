-- A tree whose leaves were changed stands again once the index slots that this concerns are set.
use Rattle.std.proofs.Common.{◌≡◌, ℕ, ◌*◌, ◌<◌, ◌≤◌, Bool, List, take, drop, Option, sym, ap, subst, ⊎_elim, arith}
use Rattle.std.proofs.lemmas.Bool.{cases_lt}
use Rattle.ordered.specs.declared.slot.Slot.{Slot}
use Rattle.ordered.specs.Meaning.{Ascending}
use Rattle.ordered.specs.Slots.{pairs, Packed}
use Rattle.tree_layout.specs.Levels.{leaves, area, leaf_of}
use Rattle.tree_index.specs.Index.{RuleAt}
use Rattle.tree_index.specs.Standing.{tree_row, Stands}
use Rattle.tree_index.specs.Refreshing.{Ready, Refreshed}
use Rattle.tree_index.proofs.Keys.{area_same, rule_outside}

module _ {K R : Type 0} (b : K → K → Bool) (m h : ℕ) (xs ys : List (Slot K R)) (low high : ℕ) (found : Option K) (r : Refreshed m h xs ys low high found) where
  same_leaves : area m h ys ≡ area m h xs
  same_leaves = area_same m h xs ys low high r.long r.others

  pub row_again : tree_row m h ys ≡ tree_row m h xs
  row_again = ap pairs same_leaves

  -- `rules` is of the index slots that were not set
  pub stands_again : Ready m h xs low high found → Ascending b (tree_row m h xs) → ((p : ℕ) → p < leaves m h → Packed (leaf_of m h xs p)) → ((p : ℕ) → (low < p → p ≤ high → ⊥) → RuleAt m h xs p) → Stands b m h ys
  stands_again ready asc packed rules = record {
    fits = omega (arith, ready.fits, r.long);
    ascending = subst (Ascending b) (sym row_again) asc;
    packed = λ p l. subst (λ (zs : List (Slot K R)). Packed (take m (drop (p * m) zs))) (sym same_leaves) (packed p l);
    indexed = λ p. ⊎_elim (λ l. ⊎_elim (λ past. outside p (λ _ u. omega arith)) (λ u. r.done ready p l u) (cases_lt high p)) (λ u. outside p (λ l _. omega arith)) (cases_lt low p);
  }
    where
      outside : (p : ℕ) → (low < p → p ≤ high → ⊥) → RuleAt m h ys p
      outside p out = rule_outside m h xs ys low high r.long r.others p out (rules p out)
