-- Slots turned by one place with one written over, and slots blanked one after another.
use Rattle.std.proofs.Common.{◌≡◌, ℕ, zero, suc, ◌+◌, ◌-◌, ◌<◌, false, List, [], ◌∷◌, ◌++◌, length, take, drop, set, refl, ap, ◌∙◌, arith}
use Rattle.std.proofs.Math.Seq.{set-append_seam}
use Rattle.std.proofs.lemmas.List.{length-append, length-drop}
use Rattle.ordered.specs.declared.slot.Slot.{Slot}
use Rattle.ordered.specs.Slots.{Blank}

module _ {X : Type 0} (s : X) where
  set_first : (ys zs : List X) → length ys ≡ 1 → set (ys ++ zs) 0 s ≡ s ∷ zs
  set_first [] zs e = absurd (omega (arith, e))
  set_first (y ∷ []) zs e = refl
  set_first (y ∷ x ∷ ys) zs e = absurd (omega (arith, e))

  -- the last element turned to the front and written over
  pub turned_up : (xs ys : List X) → 0 < length xs → ys ≡ drop (length xs - 1) xs ++ take (length xs - 1) xs → set ys 0 s ≡ take (length xs) (s ∷ xs)
  turned_up [] ys l e = absurd (omega (arith, l))
  turned_up (x ∷ xs) ys l e =
      let n : suc (length xs) - 1 ≡ length xs = omega arith in
      ap (λ zs. set zs 0 s) e
      ∙ set_first (drop (suc (length xs) - 1) (x ∷ xs)) (take (suc (length xs) - 1) (x ∷ xs)) (omega (arith, length-drop (suc (length xs) - 1) (x ∷ xs)))
      ∙ ap (λ m. s ∷ take m (x ∷ xs)) n

  -- the first element turned to the back and written over
  pub turned_down : (xs ys : List X) → 0 < length xs → ys ≡ drop 1 xs ++ take 1 xs → set ys (length ys - 1) s ≡ drop 1 (xs ++ (s ∷ []))
  turned_down [] ys l e = absurd (omega (arith, l))
  turned_down (x ∷ xs) ys l e =
      let n : length (xs ++ (x ∷ [])) - 1 ≡ length xs = omega (arith, length-append xs (x ∷ [])) in
      ap (λ zs. set zs (length zs - 1) s) e ∙ ap (λ m. set (xs ++ (x ∷ [])) m s) n ∙ set-append_seam xs x [] s

-- every slot up to a place is blank
module _ {K R : Type 0} where
  pub blank_more : (xs : List (Slot K R)) (i : ℕ) (v : Slot K R) → i < length xs → v.filled ≡ false → Blank (take i xs) → Blank (take (i + 1) (set xs i v))
  blank_more [] i v l b t = absurd (omega (arith, l))
  blank_more (x ∷ xs) zero v l b t = (b, tt)
  blank_more (x ∷ xs) (suc i) v l b t = let q : suc i + 1 ≡ suc (i + 1) = omega arith in rw q (t.0, blank_more xs i v (omega (arith, l)) b t.1)
