-- The end of a line in a chunk, and what is kept of the line.
use Rattle.std.proofs.Common.{◌≡◌, ℕ, suc, ◌+◌, ◌-◌, ◌≤◌, min, Bool, true, false, cond, not, eqb, List, [], ◌∷◌, ◌++◌, length, take, Option, position, sym, refl, ap, ◌∙◌, arith}
use Rattle.std.specs.List.{before_first, position_or_len}
use Rattle.std.specs.Option.{unwrap_or, option_map}
use Rattle.std.proofs.Math.Seq.{take-append-add}
use Rattle.std.proofs.lemmas.Grind.{common_steps}
use Rattle.std.proofs.lemmas.Bool.Decides.{nat_tests}
use borrow.Rule.Slice.PartMut.{put_mid}
use Rattle.std.proofs.lemmas.List.{length-take-le, take_min}
use Rattle.std.proofs.lemmas.Slice.{take-put_mid}
use Rattle.std.proofs.lemmas.List.Sums.{prefix_len-le-length}
use Rattle.line_input.specs.Lines.{up_to_end, after_end, kept}

-- the byte that ends a line
abbrev pub ends : ℕ → Bool
ends b = eqb b 10

up_to_end_is : (xs : List ℕ) → up_to_end xs ≡ before_first ends xs
up_to_end_is [] = refl
up_to_end_is (b ∷ bs) = step (ends b) (up_to_end_is bs)
  where
    step : (t : Bool) → up_to_end bs ≡ before_first ends bs → cond t [] (b ∷ up_to_end bs) ≡ take (cond (not t) (1 + position_or_len ends bs) 0) (b ∷ bs)
    step true ih = refl
    step false ih = let n : 1 + position_or_len ends bs ≡ suc (position_or_len ends bs) = omega arith in rw n (ap (λ l. b ∷ l) ih)

-- where no end is found, the line is the whole chunk
pub line_is : (xs : List ℕ) (end : Option ℕ) (n : ℕ) → end ≡ position ends xs → n ≡ unwrap_or end (length xs) → take n xs ≡ up_to_end xs
line_is xs end n e f =
    let m : n ≡ position_or_len ends xs = grind (arith, nat_tests, prefix_len-le-length) in
    ap (λ i. take i xs) m ∙ sym (up_to_end_is xs)

pub after_end_is : (xs : List ℕ) → after_end xs ≡ option_map (λ n. n + 1) (position ends xs)
after_end_is [] = refl
after_end_is (b ∷ bs) = let ih = after_end_is bs in grind (arith, nat_tests, common_steps)

-- what a push leaves in the buffer
pub pushed : (bytes line ys : List ℕ) (start n : ℕ) → start ≤ 201 → length bytes ≡ 201 → n ≡ min (length line) (201 - start) → ys ≡ take n line
    → take (start + n) (put_mid start (start + n - start) bytes ys) ≡ kept (take start bytes ++ line)
pushed bytes line ys start n l len e is =
    let long : length (take start bytes) ≡ start = length-take-le start bytes (omega (arith, l, len)) in
    let ly : length ys ≡ n = ap length is ∙ length-take-le n line (omega (arith, e)) in
    let c : 201 ≡ length (take start bytes) + (201 - start) = omega (arith, long, l) in
    let m : n ≡ min (201 - start) (length line) = omega (arith, e) in
    take-put_mid start (start + n - start) bytes ys (start + n) (omega (arith, ly)) (omega (arith, l, len))
    ∙ ap (λ zs. take start bytes ++ zs) (is ∙ ap (λ k. take k line) m ∙ take_min (201 - start) line)
    ∙ sym (ap (λ k. take k (take start bytes ++ line)) c ∙ take-append-add (take start bytes) line (201 - start))
