-- A stretch of a list replaced by as many others.
use Rattle.std.proofs.Common.{◌≡◌, ℕ, suc, ◌+◌, ◌-◌, ◌≤◌, List, ◌∷◌, ◌++◌, length, take, drop, sym, ap, ◌∙◌, append_assoc, arith}
use Rattle.std.proofs.lemmas.List.{length-append, length-take-le, length-drop, take-take, drop-take}

module _ {X : Type 0} where
  -- the elements from a to e replaced
  abbrev pub spliced : ℕ → ℕ → List X → List X → List X
  spliced a e mid xs = take a xs ++ (mid ++ drop e xs)

  module _ (a e cap : ℕ) (mid xs : List X) (ae : a ≤ e) (ec : e ≤ cap) (cl : cap ≤ length xs) (lm : length mid ≡ e - a) where
    front : length (take a xs ++ mid) ≡ e
    front = omega (arith, length-append (take a xs) mid, length-take-le a xs (omega (arith, ae, ec, cl)), lm, ae)

    regroup : spliced a e mid xs ≡ (take a xs ++ mid) ++ drop e xs
    regroup = sym (append_assoc (take a xs) mid (drop e xs))

    pub spliced_long : length (spliced a e mid xs) ≡ length xs
    spliced_long = ap length regroup ∙ omega (arith, length-append (take a xs ++ mid) (drop e xs), front, length-drop e xs, ec, cl)

  -- a stretch within a front of the list
  pub part_front : (a e cap : ℕ) (xs : List X) → a ≤ e → e ≤ cap → take (e - a) (drop a xs) ≡ take (e - a) (drop a (take cap xs))
  part_front a e cap xs ae ec =
      let c : a + (cap - a) ≡ cap = omega (arith, ae, ec) in
      sym (take-take (e - a) (cap - a) (drop a xs) (omega (arith, ae, ec))) ∙ ap (take (e - a)) (sym (drop-take a (cap - a) xs) ∙ ap (λ n. drop a (take n xs)) c)

  -- what a push up leaves of the stretch from a to e
  pub pushed_up : (a j : ℕ) (x : X) (xs : List X) → a + suc j ≤ length xs → take (length (take (suc j) (drop a xs))) (x ∷ take (suc j) (drop a xs)) ≡ x ∷ take j (drop a xs)
  pushed_up a j x xs l =
      let n : length (take (suc j) (drop a xs)) ≡ suc j = length-take-le (suc j) (drop a xs) (omega (arith, length-drop a xs, l)) in
      ap (λ m. take m (x ∷ take (suc j) (drop a xs))) n ∙ ap (λ ys. x ∷ ys) (take-take j (suc j) (drop a xs) (omega arith))
