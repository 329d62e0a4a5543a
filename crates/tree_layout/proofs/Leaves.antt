-- The leaves of slots: how long they are, and the row around one.
use Rattle.std.proofs.Common.{◌≡◌, ℕ, suc, ◌+◌, ◌*◌, ◌<◌, Bool, List, ◌++◌, length, take, drop, sym, ap, ◌∙◌, subst, mul-le-mul_right, arith}
use Rattle.std.proofs.Math.Nat.{suc-mul}
use Rattle.std.proofs.lemmas.List.{length-take-le, length-drop, drop-drop, take-append-drop}
use Rattle.ordered.specs.declared.slot.Slot.{Slot}
use Rattle.ordered.specs.Meaning.{Order, Ascending, lookup}
use Rattle.ordered.specs.Slots.{pairs}
use Rattle.ordered.proofs.Joins.{ascending_parts, lookup_between}
use Rattle.ordered.proofs.Slots.{pairs_append}
use Rattle.tree_layout.specs.Levels.{leaf_at}
use Rattle.tree_layout.specs.Belongs.{Belongs}

pub leaf_long : {X : Type 0} (m n p : ℕ) (ys : List X) → length ys ≡ n * m → p < n → length (leaf_at m ys p) ≡ m
leaf_long m n p ys e l = length-take-le m (drop (p * m) ys) (omega (arith, length-drop (p * m) ys, e, suc-mul p m, mul-le-mul_right m l))

-- the slots around a leaf
pub leaf_split : {X : Type 0} (m p : ℕ) (ys : List X) → ys ≡ take (p * m) ys ++ (leaf_at m ys p ++ drop (suc p * m) ys)
leaf_split m p ys =
    let e : p * m + m ≡ suc p * m = omega arith in
    sym (take-append-drop (p * m) ys)
    ∙ ap (λ zs. take (p * m) ys ++ zs) (sym (take-append-drop m (drop (p * m) ys)) ∙ ap (λ zs. leaf_at m ys p ++ zs) (drop-drop m (p * m) ys ∙ ap (λ i. drop i ys) e))

module _ {K R : Type 0} (m p : ℕ) (ys : List (Slot K R)) where
  pub leaf_row : pairs ys ≡ pairs (take (p * m) ys) ++ (pairs (leaf_at m ys p) ++ pairs (drop (suc p * m) ys))
  leaf_row = ap pairs (leaf_split m p ys) ∙ pairs_append (take (p * m) ys) (leaf_at m ys p ++ drop (suc p * m) ys) ∙ ap (λ ps. pairs (take (p * m) ys) ++ ps) (pairs_append (leaf_at m ys p) (drop (suc p * m) ys))

  pub leaf_ascends : (b : K → K → Bool) → Ascending b (pairs ys) → Ascending b (pairs (leaf_at m ys p))
  leaf_ascends b asc =
      (ascending_parts b (pairs (leaf_at m ys p)) (pairs (drop (suc p * m) ys)) (ascending_parts b (pairs (take (p * m) ys)) (pairs (leaf_at m ys p) ++ pairs (drop (suc p * m) ys)) (subst (Ascending b) leaf_row asc)).1).0

  -- a key is looked for in the leaf where it belongs
  pub leaf_lookup : {b : K → K → Bool} (o : Order b) (n : ℕ) (k : K) → Belongs b m n ys k p → lookup b (pairs ys) k ≡ lookup b (pairs (leaf_at m ys p)) k
  leaf_lookup {b} o n k bl = ap (λ ps. lookup b ps k) leaf_row ∙ lookup_between o k (pairs (take (p * m) ys)) (pairs (leaf_at m ys p)) (pairs (drop (suc p * m) ys)) bl.earlier bl.later
