-- Packed slots once a pair is replaced in them or taken out.
use Rattle.std.proofs.Common.{◌≡◌, ℕ, suc, ◌-◌, ◌<◌, Bool, true, false, List, [], ◌∷◌, ◌++◌, length, take, drop, set, Some, None, Ok, Err, Option, sym, refl, ap, ◌∙◌, subst, arith}
use borrow.Rule.Slice.PartMut.{put_mid}
use Rattle.std.proofs.lemmas.List.{take_rest, length-drop, drop_all, append-nil}
use Rattle.std.proofs.lemmas.Bool.{cond-true, cond-false}
use Rattle.ordered.specs.declared.fault.Fault.TheVariants.{Absent}
use Rattle.ordered.specs.declared.slot.Slot.{Slot}
use Rattle.ordered.specs.Changes.{absent_refusal}
use Rattle.ordered.specs.Faults.{Outcome}
use Rattle.ordered.specs.Meaning.{Order, Ascending, holds, updated, removed}
use Rattle.ordered.specs.Slots.{pairs, Shows, Holds, Packed}
use Rattle.slot_rows.proofs.Held.{found_there, at}
use Rattle.slot_rows.proofs.Parts.{set_over, pulled_out}
use Rattle.slot_edits.specs.Edits.{Edited}

module _ {K R : Type 0} {b : K → K → Bool} (o : Order b) (k : K) (ss : List (Slot K R)) (packed : Packed ss) (asc : Ascending b (pairs ss)) where
  abbrev row : List (K × R)
  row = pairs ss

  pub refused : {X : Type 0} (new : List (K × R)) → holds b row k ≡ false → Edited {X = X} ss (absent_refusal b row k) new (Err Absent) ss
  refused {X} new h = record {
    outcome = subst (λ (d : Option ℕ). Outcome {X = X} d (Err Absent)) (sym (cond-false (holds b row k) None (Some 34) h)) refl;
    unmoved = refl;
    laid = packed;
  }

  accepted : {X : Type 0} (x : X) (new : List (K × R)) (ts : List (Slot K R)) → holds b row k ≡ true → Holds new ts → Edited ss (absent_refusal b row k) new (Ok x) ts
  accepted {X} x new ts h l = record {
    outcome = subst (λ (d : Option ℕ). Outcome {X = X} d (Ok x)) (sym (cond-true (holds b row k) None (Some 34) h)) tt;
    unmoved = tt;
    laid = l;
  }

  module _ (n : ℕ) (h : holds b row k ≡ true) (is : n ≡ at o k row) where
    found_within : n < length row
    found_within = omega (arith, is, (found_there o k row asc h).within)

    pub replaced : (v : R) (x : Slot K R) → Shows x (k, v) → Edited ss (absent_refusal b row k) (updated b row k v) (Ok (tt {0})) (set ss n x)
    replaced v x s =
        let new : take n row ++ ((k, v) ∷ drop (suc n) row) ≡ updated b row k v = ap (λ m. take m row ++ ((k, v) ∷ drop (suc m) row)) is ∙ sym ((found_there o k row asc h).put v) in
        accepted (tt {0}) (updated b row k v) (set ss n x) h (subst (λ r. Holds r (set ss n x)) new (set_over row ss n (k, v) x found_within packed s))

    pub taken : (x : Slot K R) (ys : List (Slot K R)) → x.filled ≡ false → ys ≡ drop 1 (take (length ss - n) (drop n ss) ++ (x ∷ [])) → Edited ss (absent_refusal b row k) (removed b row k) (Ok n) (put_mid n (length ss - n) ss ys)
    taken x ys f e =
        let none : drop (length ss - n) (drop n ss) ≡ [] = drop_all (length ss - n) (drop n ss) (omega (arith, length-drop n ss)) in
        let slots : put_mid n (length ss - n) ss ys ≡ take n ss ++ drop 1 (drop n ss ++ (x ∷ [])) =
        ap (λ zs. take n ss ++ (ys ++ zs)) none ∙ ap (λ zs. take n ss ++ zs) (append-nil ys ∙ e ∙ ap (λ zs. drop 1 (zs ++ (x ∷ []))) (take_rest ss n)) in
        let new : take n row ++ drop (suc n) row ≡ removed b row k = ap (λ m. take m row ++ drop (suc m) row) is ∙ sym (found_there o k row asc h).taken in
        accepted n (removed b row k) (put_mid n (length ss - n) ss ys) h (subst (λ r. Holds r (put_mid n (length ss - n) ss ys)) new (subst (Holds _) (sym slots) (pulled_out row ss n x found_within packed f)))
