-- A line whose fields are as many as its word asks for.
use Rattle.std.proofs.Common.{◌≡◌, ℕ, ◌+◌, ◌≤◌, eqb, leb, List, [], length, get_or, take, Some, Option, sym, ap, ◌∙◌, arith}
use Rattle.std.proofs.lemmas.Bool.{cond-true, eq-eqb, le-leb}
use Rattle.std.proofs.lemmas.List.{length-take, take_all}
use Rattle.line_reader.specs.declared.request.Word.{Word}
use Rattle.line_reader.specs.declared.request.Word.TheVariants as word
use Rattle.line_reader.specs.declared.request.Reason.TheVariants.{LongLine, FieldCount}
use Rattle.line_reader.specs.Fields.{fields, word_of}
use Rattle.line_reader.specs.Reads.{asks, arity, worded, reads, refuse}

few : (w : Word) → arity w ≤ 6
few word.Log = omega arith
few word.Open = omega arith
few word.Arrive = omega arith
few word.Withdraw = omega arith
few word.Call = omega arith
few word.Saw = omega arith
few word.Back = omega arith
few word.Find = omega arith
few word.List = omega arith

-- all of them are kept
all_kept : (fs : List (List ℕ)) (w : Word) → length (take 8 fs) ≡ 1 + arity w → take 8 fs ≡ fs
all_kept fs w count = take_all 8 fs (omega (arith, count, few w, length-take 8 fs))

pub accepted : (line : List ℕ) (fs : List (List ℕ)) (w : Word) → fs ≡ take 8 (fields line) → length line ≤ 200 → Some w ≡ word_of (get_or fs 0 []) → length fs ≡ 1 + arity w → asks w fs ≡ reads line
accepted line fs w kept short is count =
    let same : fs ≡ fields line = kept ∙ all_kept (fields line) w (sym (ap length kept) ∙ count) in
    sym (cond-true (leb (length line) 200) (worded (word_of (get_or (fields line) 0 [])) (fields line)) (refuse LongLine 0) (le-leb (length line) 200 short)
    ∙ ap (λ (x : List (List ℕ)). worded (word_of (get_or x 0 [])) x) (sym same)
    ∙ ap (λ (o : Option Word). worded o fs) (sym is)
    ∙ cond-true (eqb (length fs) (1 + arity w)) (asks w fs) (refuse FieldCount 0) (eq-eqb (length fs) (1 + arity w) count))
