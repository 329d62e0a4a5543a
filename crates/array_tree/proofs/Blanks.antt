-- Blank slots.
use Rattle.std.proofs.Common.{◌≡◌, ℕ, zero, suc, ◌+◌, ◌-◌, ◌≤◌, List, [], ◌∷◌, ◌++◌, length, take, drop, sym, ap, ◌∙◌, subst, arith}
use Rattle.std.proofs.lemmas.List.{take-take, take_at, drop-take, drop_at, length-append, length-drop}
use Rattle.ordered.specs.declared.slot.Slot.{Slot}
use Rattle.ordered.specs.Slots.{Blank}
use Rattle.slot_rows.proofs.Held.{blank_drop}
use Rattle.array_tree.specs.Filling.{Blanked}

module _ {K R : Type 0} where
  blank_take : (n : ℕ) (xs : List (Slot K R)) → Blank xs → Blank (take n xs)
  blank_take zero xs b = tt
  blank_take (suc n) [] b = tt
  blank_take (suc n) (x ∷ xs) b = (b.0, blank_take n xs b.1)

  -- of blank slots the first are blank, and so are the rest
  pub blank_front : (n k : ℕ) (xs : List (Slot K R)) → Blank (take (n + k) xs) → Blank (take n xs)
  blank_front n k xs b = subst Blank (take-take n (n + k) xs (omega arith)) (blank_take n _ b)

  pub blank_back : (n k : ℕ) (xs : List (Slot K R)) → Blank (take (n + k) xs) → Blank (take k (drop n xs))
  blank_back n k xs b = subst Blank (drop-take n k xs) (blank_drop n _ b)

  pub blanked_first : (r n : ℕ) (old part : List (Slot K R)) → r ≡ n → Blank part → length part ≡ n → n ≤ length old → Blanked n old (part ++ drop (r - 0) old)
  blanked_first r n old part er b e l =
      let z : r - 0 ≡ n = omega arith in
      record {
        blank = subst Blank (sym (take_at part _ n e)) b;
        rest = drop_at part _ n e ∙ ap (λ k. drop k old) z;
        long = length-append part _ ∙ (simp length-drop (omega arith));
      }
