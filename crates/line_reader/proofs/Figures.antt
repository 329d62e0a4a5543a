-- The number that the digits of a field write.
use Rattle.std.proofs.Common.{◌≡◌, ℕ, ◌<◌, ◌≤◌, List, [], ◌∷◌, length, get_or, drop, true, Some, None, ◌+◌, ◌∙◌, arith}
use Rattle.std.proofs.lemmas.Bool.Decides.{nat_tests}
use Rattle.std.proofs.lemmas.List.{at_drop_more, at_drop_all}
use Rattle.line_reader.specs.Fields.{read_on, at_most, well_begun, number_of}

-- no digit makes a number smaller
too_large : (ds : List ℕ) (n : ℕ) → 4294967295 < n → at_most 4294967295 (read_on n ds) ≡ None
too_large [] n h = grind (arith, nat_tests)
too_large (d ∷ ds) n h = let ih = too_large ds in grind (arith, nat_tests)

stops : (d : ℕ) (ds : List ℕ) (n : ℕ) → None ≡ at_most 4294967295 (read_on n (d ∷ [])) → at_most 4294967295 (read_on n (d ∷ ds)) ≡ None
stops d ds n h = let l = too_large ds in grind (arith, nat_tests)

pub refused : (ds : List ℕ) (i n : ℕ) → i < length ds → None ≡ at_most 4294967295 (read_on n (get_or ds i 0 ∷ [])) → at_most 4294967295 (read_on n (drop i ds)) ≡ at_most 4294967295 (read_on 0 ds) → well_begun ds ≡ true → None ≡ number_of ds
refused ds i n h e inv w =
    let s = at_drop_more (λ r. at_most 4294967295 (read_on n r)) ds i 0 h ∙ stops (get_or ds i 0) (drop (i + 1) ds) n e in
    grind (arith, nat_tests)

pub all_read : (ds : List ℕ) (i n : ℕ) → length ds ≤ i → n ≤ 4294967295 → at_most 4294967295 (read_on n (drop i ds)) ≡ at_most 4294967295 (read_on 0 ds) → well_begun ds ≡ true → Some n ≡ number_of ds
all_read ds i n h l inv w =
    let s = at_drop_all (λ r. at_most 4294967295 (read_on n r)) ds i h in
    grind (arith, nat_tests)
