-- The code and the letter of a species.
use Rattle.std.specs.Prelude.{ℕ, cond, Some, None, Option, ◌==◌}
use Rattle.logs.specs.declared.species.Species.{Species}
use Rattle.logs.specs.declared.species.Species.TheVariants.{Spruce, Pine, Larch, Douglas}

abbrev pub code : Species → ℕ
code Spruce = 0
code Pine = 1
code Larch = 2
code Douglas = 3

-- S, P, L and D
abbrev pub letter_of : Species → ℕ
letter_of Spruce = 83
letter_of Pine = 80
letter_of Larch = 76
letter_of Douglas = 68

-- the species whose letter it is
abbrev pub species_of : ℕ → Option Species
species_of b =
    cond (b == letter_of Spruce) (Some Spruce)
    (cond (b == letter_of Pine) (Some Pine)
    (cond (b == letter_of Larch) (Some Larch)
    (cond (b == letter_of Douglas) (Some Douglas) None)))
