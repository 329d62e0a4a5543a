-- The bytes of a line in an input; a line ends at byte 10.
use Rattle.std.specs.Prelude.{ℕ, suc, cond, List, [], ◌∷◌, take, Some, None, Option, ◌==◌}

-- the bytes before the end of the line
abbrev pub up_to_end : List ℕ → List ℕ
up_to_end [] = []
up_to_end (b ∷ bs) = cond (b == 10) [] (b ∷ up_to_end bs)

abbrev pub more : Option ℕ → Option ℕ
more None = None
more (Some n) = Some (suc n)

-- how many bytes there are up to the end of the line, with that end; none if it does not end here
abbrev pub after_end : List ℕ → Option ℕ
after_end [] = None
after_end (b ∷ bs) = cond (b == 10) (Some 1) (more (after_end bs))

-- what is kept of a line
abbrev pub kept : List ℕ → List ℕ
kept line = take 201 line
