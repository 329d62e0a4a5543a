-- A block of leaves replaced by another of as many slots.
use Rattle.std.proofs.Common.{◌≡◌, ℕ, zero, suc, ◌+◌, ◌-◌, ◌*◌, ◌<◌, ◌≤◌, List, ◌++◌, length, take, drop, sym, ap, ◌∙◌, subst, append_assoc, mul-le-mul_right, add-mul, arith, take-add}
use lib.Seq.{drop-append-add}
use Rattle.std.proofs.lemmas.List.{length-append, length-drop, drop-drop, drop-append-le, take-append-le}
use Rattle.ordered.specs.declared.slot.Slot.{Slot}
use Rattle.ordered.specs.Slots.{pairs, Holds, Packed}
use Rattle.std.proofs.Math.Nat.{suc-mul}
use Rattle.ordered.proofs.Slots.{pairs_append}
use Rattle.slot_rows.proofs.Held.{held_append}
use Rattle.tree_layout.specs.Levels.{leaf_at}
use Rattle.tree_layout.proofs.Leaves.{leaf_long}
use Rattle.leaf_rows.specs.Leaves.{count_at}

module _ {X : Type 0} where
  -- a leaf of what follows other leaves
  pub leaf_behind : (m lo i : ℕ) (front rest : List X) → length front ≡ lo * m → leaf_at m (front ++ rest) (lo + i) ≡ leaf_at m rest i
  leaf_behind m lo i front rest e =
      let q : (lo + i) * m ≡ length front + i * m = omega (arith, add-mul lo i m, e) in
      ap (take m) (ap (λ k. drop k (front ++ rest)) q ∙ drop-append-add front rest (i * m))

  -- a leaf within the first slots
  pub leaf_within : (m p : ℕ) (front rest : List X) → suc p * m ≤ length front → leaf_at m (front ++ rest) p ≡ leaf_at m front p
  leaf_within m p front rest l =
      let s = suc-mul p m in
      ap (take m) (drop-append-le (p * m) front rest (omega (arith, l, s))) ∙ take-append-le m (drop (p * m) front) rest (omega (arith, length-drop (p * m) front, l, s))

module _ {K R : Type 0} where
  -- leaves that are full but for the last hold their pairs without a gap
  pub full_block : (m : ℕ) (ys : List (Slot K R)) (n : ℕ) → length ys ≡ n * m → (j t : ℕ) → t + j < n → ((p : ℕ) → t ≤ p → p ≤ t + j → Packed (leaf_at m ys p)) → ((p : ℕ) → t ≤ p → p < t + j → count_at m ys p ≡ m)
      → Packed (take (suc j * m) (drop (t * m) ys)) × (length (pairs (take (suc j * m) (drop (t * m) ys))) ≡ j * m + count_at m ys (t + j))
  full_block m ys n e zero t l packed full =
      let q : suc zero * m ≡ m = omega arith in
      let z : t + zero ≡ t = omega arith in (
        subst (λ k. Packed (take k (drop (t * m) ys))) (sym q) (packed t (omega arith) (omega arith)),
        ap (λ k. length (pairs (take k (drop (t * m) ys)))) q ∙ ap (λ k. count_at m ys k) (sym z) ∙ omega arith,
      )
  full_block m ys n e (suc j) t l packed full =
      let A : List (Slot K R) = leaf_at m ys t in
      let B : List (Slot K R) = take (suc j * m) (drop (suc t * m) ys) in
      let w : suc t + j ≡ t + suc j = omega arith in
      let ih = full_block m ys n e j (suc t) (omega (arith, l)) (λ p a c. packed p (omega (arith, a)) (omega (arith, c))) (λ p a c. full p (omega (arith, a)) (omega (arith, c))) in
      let q : suc (suc j) * m ≡ m + suc j * m = omega arith in
      let d : drop m (drop (t * m) ys) ≡ drop (suc t * m) ys = drop-drop m (t * m) ys ∙ ap (λ k. drop k ys) (sym (suc-mul t m)) in
      let split : take (suc (suc j) * m) (drop (t * m) ys) ≡ A ++ B = ap (λ k. take k (drop (t * m) ys)) q ∙ take-add m (suc j * m) (drop (t * m) ys) ∙ ap (λ zs. A ++ take (suc j * m) zs) d in
      let c : count_at m ys t ≡ m = full t (omega arith) (omega arith) in
      let held : Holds (pairs A ++ pairs B) (A ++ B) = held_append (pairs A) (pairs B) A B (leaf_long m n t ys e (omega (arith, l)) ∙ sym c) (packed t (omega arith) (omega arith)) ih.0 in (
        subst Packed (sym split) (subst (λ r. Holds r (A ++ B)) (sym (pairs_append A B)) held),
        ap (λ zs. length (pairs zs)) split ∙ ap length (pairs_append A B) ∙ length-append (pairs A) (pairs B) ∙ omega (arith, c, ih.1, ap (λ k. count_at m ys k) w, suc-mul j m),
      )

-- what follows, for leaves lo to lo + j of a row of n leaves
module _ {X : Type 0} (m n lo j : ℕ) (A S T C : List X) (la : length A ≡ lo * m) (ls : length S ≡ suc j * m) (lt : length T ≡ suc j * m) where
  abbrev old : List X
  old = A ++ (S ++ C)

  abbrev new : List X
  new = A ++ (T ++ C)

  pub leaf_before : (p : ℕ) → p < lo → leaf_at m new p ≡ leaf_at m old p
  leaf_before p l =
      let w : suc p * m ≤ length A = omega (arith, mul-le-mul_right m l, la) in
      leaf_within m p A (T ++ C) w ∙ sym (leaf_within m p A (S ++ C) w)

  pub leaf_inside : (i : ℕ) → i ≤ j → leaf_at m new (lo + i) ≡ leaf_at m T i
  leaf_inside i l =
      let l' : suc i ≤ suc j = omega (arith, l) in
      leaf_behind m lo i A (T ++ C) la ∙ leaf_within m i T C (omega (arith, mul-le-mul_right m l', lt))

  pub leaf_inside_old : (i : ℕ) → i ≤ j → leaf_at m old (lo + i) ≡ leaf_at m S i
  leaf_inside_old i l =
      let l' : suc i ≤ suc j = omega (arith, l) in
      leaf_behind m lo i A (S ++ C) la ∙ leaf_within m i S C (omega (arith, mul-le-mul_right m l', ls))

  behind : (Z : List X) → length Z ≡ suc j * m → (p : ℕ) → lo + j < p → leaf_at m (A ++ (Z ++ C)) p ≡ leaf_at m C (p - suc (lo + j))
  behind Z lz p l =
      let q : suc (lo + j) + (p - suc (lo + j)) ≡ p = omega (arith, l) in
      let e : length (A ++ Z) ≡ suc (lo + j) * m = omega (arith, length-append A Z, la, lz, suc-mul j m, suc-mul (lo + j) m, add-mul lo j m) in
      ap (λ (zs : List X). leaf_at m zs p) (sym (append_assoc A Z C)) ∙ ap (λ k. leaf_at m ((A ++ Z) ++ C) k) (sym q) ∙ leaf_behind m (suc (lo + j)) (p - suc (lo + j)) (A ++ Z) C e

  pub leaf_after : (p : ℕ) → lo + j < p → leaf_at m new p ≡ leaf_at m old p
  leaf_after p l = behind T lt p l ∙ sym (behind S ls p l)

  long_new : length new ≡ length old
  long_new = omega (arith, length-append A (T ++ C), length-append A (S ++ C), length-append T C, length-append S C, ls, lt)

  -- what stands from a later leaf on is as it was
  pub drop_after : (p : ℕ) → lo + j < p → drop (p * m) new ≡ drop (p * m) old
  drop_after p l =
      let s = suc-mul (lo + j) m in
      let le : suc (lo + j) * m ≤ p * m = mul-le-mul_right m l in
      far T lt (omega (arith, le, s, add-mul lo j m, suc-mul j m)) ∙ sym (far S ls (omega (arith, le, s, add-mul lo j m, suc-mul j m)))
    where
      far : (Z : List X) → length Z ≡ suc j * m → lo * m + suc j * m ≤ p * m → drop (p * m) (A ++ (Z ++ C)) ≡ drop (p * m - (lo * m + suc j * m)) C
      far Z lz le =
          let q : p * m ≡ length (A ++ Z) + (p * m - (lo * m + suc j * m)) = omega (arith, length-append A Z, la, lz, le) in
          ap (drop (p * m)) (sym (append_assoc A Z C)) ∙ ap (λ k. drop k ((A ++ Z) ++ C)) q ∙ drop-append-add (A ++ Z) C (p * m - (lo * m + suc j * m))

  pub drop_before : (Z : List X) (p : ℕ) → p ≤ lo → drop (p * m) (A ++ Z) ≡ drop (p * m) A ++ Z
  drop_before Z p l = drop-append-le (p * m) A Z (omega (arith, mul-le-mul_right m l, la))
