-- The fields of a line, and what a field says.
use Rattle.std.specs.Prelude.{ℕ, ◌+◌, ◌-◌, ◌*◌, Bool, cond, not, ◌&&◌, ◌||◌, List, [], ◌∷◌, length, Some, None, codes, Option, ◌==◌, nat_le, slice_index}
use Rattle.std.specs.List.{slice_split}
use Rattle.std.specs.Str.{bytes_eq}
use Rattle.logs.specs.declared.species.Species.{Species}
use Rattle.logs.specs.declared.log.Place.{Place}
use Rattle.logs.specs.declared.log.Place.TheVariants as place
use Rattle.logs.specs.Codes.{species_of}
use Rattle.line_reader.specs.declared.request.Word.{Word}
use Rattle.line_reader.specs.declared.request.Word.TheVariants as word

-- The fields of a line, parted by single tabs (9): one more than it has tabs.
abbrev pub fields : List ℕ → List (List ℕ)
fields line = slice_split (λ b. b == 9) line

-- what stands beside a name in a table
abbrev pub named : {X : Type 0} → List (List ℕ × X) → List ℕ → Option X
named [] f = None
named (row ∷ rows) f = cond (bytes_eq f row.0) (Some row.1) (named rows f)

abbrev pub word_of : List ℕ → Option Word
word_of = named
    ((codes "LOG", word.Log) ∷ (codes "OPEN", word.Open) ∷ (codes "ARRIVE", word.Arrive) ∷ (codes "WITHDRAW", word.Withdraw) ∷ (codes "CALL", word.Call)
    ∷ (codes "SAW", word.Saw) ∷ (codes "BACK", word.Back) ∷ (codes "FIND", word.Find) ∷ (codes "LIST", word.List) ∷ [])

abbrev pub place_of : List ℕ → Option Place
place_of = named ((codes "YARD", place.Standing) ∷ (codes "SAW", place.AtSaw) ∷ [])

-- a field of one byte, the species' letter
abbrev pub letter_of : List ℕ → Option Species
letter_of f = cond (length f == 1) (species_of (slice_index f 0)) None

abbrev pub digit : ℕ → Bool
digit d = nat_le 48 d && nat_le d 57

-- the number that digits write after those of n
abbrev pub read_on : ℕ → List ℕ → Option ℕ
read_on n [] = Some n
read_on n (d ∷ ds) = cond (digit d) (read_on (n * 10 + (d - 48)) ds) None

abbrev pub at_most : ℕ → Option ℕ → Option ℕ
at_most most None = None
at_most most (Some n) = cond (nat_le n most) (Some n) None

-- 1 to 10 bytes, and no 0 in front of others
abbrev pub well_begun : List ℕ → Bool
well_begun ds = nat_le 1 (length ds) && nat_le (length ds) 10 && (not (slice_index ds 0 == 48) || length ds == 1)

abbrev pub number_of : List ℕ → Option ℕ
number_of ds = cond (well_begun ds) (at_most 4294967295 (read_on 0 ds)) None
