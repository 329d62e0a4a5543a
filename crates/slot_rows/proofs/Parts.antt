-- What packed slots hold once a pair is put in, replaced or taken out.
use Rattle.std.proofs.Common.{◌≡◌, ℕ, zero, suc, ◌+◌, ◌<◌, ◌≤◌, false, List, [], ◌∷◌, ◌++◌, length, take, drop, set, sym, refl, ◌∙◌, subst, arith}
use Rattle.std.proofs.lemmas.List.{length-take-le, length-drop, take_all, drop-drop, append-nil}
use Rattle.ordered.specs.declared.slot.Slot.{Slot}
use Rattle.ordered.specs.Slots.{Blank, Shows, Holds}
use Rattle.slot_rows.proofs.Held.{length_held, blank_drop, held_take, held_drop, held_append, held_front, held_more, blank_past}
use Rattle.slot_rows.proofs.Splices.{spliced}

module _ {K R : Type 0} (row : List (K × R)) (xs : List (Slot K R)) (h : Holds row xs) (a : ℕ) where
  within : length row ≤ length xs
  within = length_held row xs h

  fronts : a ≤ length row → length (take a xs) ≡ length (take a row)
  fronts l = length-take-le a xs (omega (arith, l, within)) ∙ sym (length-take-le a row l)

  ends : Blank (drop (length row) xs)
  ends = blank_past (length row) row xs (omega arith) h

  -- the slots of the pairs from place i on
  rest : (i j : ℕ) → i + j ≡ length row → Holds (drop i row) (take j (drop i xs)) × (length (take j (drop i xs)) ≡ length (drop i row))
  rest i j e =
      let n : length (drop i row) ≡ j = omega (arith, length-drop i row, e) in (
        subst (λ r. Holds r (take j (drop i xs))) (take_all j (drop i row) (omega (arith, n))) (held_take j (drop i row) (drop i xs) (omega (arith, n)) (held_drop i row xs (omega (arith, e)) h)),
        length-take-le j (drop i xs) (omega (arith, length-drop i xs, within, e)) ∙ sym n,
      )

  pub put_in : (p : K × R) (x : Slot K R) (j : ℕ) → a + j ≡ length row → length row < length xs → Shows x p → Holds (take a row ++ (p ∷ drop a row)) (spliced a (length row + 1) (x ∷ take j (drop a xs)) xs)
  put_in p x j e l s =
      let q : length row + 1 ≡ length row + 1 = refl in
      held_append (take a row) (p ∷ drop a row) (take a xs) ((x ∷ take j (drop a xs)) ++ drop (length row + 1) xs) (fronts (omega (arith, e))) (held_take a row xs (omega (arith, e)) h) (
        s,
        subst (λ r. Holds r (take j (drop a xs) ++ drop (length row + 1) xs)) (append-nil (drop a row))
            (held_append (drop a row) [] (take j (drop a xs)) (drop (length row + 1) xs) (rest a j e).1 (rest a j e).0 (subst Blank (drop-drop 1 (length row) xs) (blank_drop 1 (drop (length row) xs) ends))),
      )

module _ {K R : Type 0} where
  -- a pair pushed into slots that have one blank past the row
  pub pushed_in : (row : List (K × R)) (ss : List (Slot K R)) (a : ℕ) (p : K × R) (x : Slot K R) → length ss ≡ suc (length row) → a ≤ length row → Holds row ss → Shows x p
      → Holds (take a row ++ (p ∷ drop a row)) (take a ss ++ take (length (drop a ss)) (x ∷ drop a ss))
  pushed_in row ss zero p x e l h s = rw e (s, held_front (length row) row ss (omega arith) h)
  pushed_in [] ss (suc a) p x e l h s = absurd (omega (arith, l))
  pushed_in (q ∷ row) [] (suc a) p x e l h s = absurd h
  pushed_in (q ∷ row) (t ∷ ss) (suc a) p x e l h s = (h.0, pushed_in row ss a p x (omega (arith, e)) (omega (arith, l)) h.1 s)

  -- a pair written over another
  pub set_over : (row : List (K × R)) (ss : List (Slot K R)) (a : ℕ) (p : K × R) (x : Slot K R) → a < length row → Holds row ss → Shows x p → Holds (take a row ++ (p ∷ drop (suc a) row)) (set ss a x)
  set_over [] ss a p x l h s = absurd (omega (arith, l))
  set_over (q ∷ row) [] a p x l h s = absurd h
  set_over (q ∷ row) (t ∷ ss) zero p x l h s = (s, h.1)
  set_over (q ∷ row) (t ∷ ss) (suc a) p x l h s = (h.0, set_over row ss a p x (omega (arith, l)) h.1 s)

  -- a pair left out, those after it one place down, and a blank put last
  pub pulled_out : (row : List (K × R)) (ss : List (Slot K R)) (a : ℕ) (x : Slot K R) → a < length row → Holds row ss → x.filled ≡ false → Holds (take a row ++ drop (suc a) row) (take a ss ++ drop 1 (drop a ss ++ (x ∷ [])))
  pulled_out [] ss a x l h f = absurd (omega (arith, l))
  pulled_out (q ∷ row) [] a x l h f = absurd h
  pulled_out (q ∷ row) (t ∷ ss) zero x l h f = held_more row ss (x ∷ []) h.1 (f, tt)
  pulled_out (q ∷ row) (t ∷ ss) (suc a) x l h f = (h.0, pulled_out row ss a x (omega (arith, l)) h.1 f)
