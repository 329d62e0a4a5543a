-- Which key is before which.
use Rattle.std.specs.Prelude.{ℕ, Bool, true, false, cond, nat_lt}
use Rattle.logs.specs.declared.keys.Tag.{Tag}
use Rattle.logs.specs.declared.keys.Size.{Size}
use Rattle.logs.specs.Codes.{code}

abbrev pub tag_before : Tag → Tag → Bool
tag_before a b = nat_lt a.0 b.0

-- The smaller number first; at equal numbers, what comes after them decides.
abbrev pub lex : ℕ → ℕ → Bool → Bool
lex x y after = cond (nat_lt x y) true (cond (nat_lt y x) false after)

-- by species, diameter, length and tag
abbrev pub size_before : Size → Size → Bool
size_before a b = lex (code a.species) (code b.species) (lex a.diameter b.diameter (lex a.length b.length (nat_lt a.tag b.tag)))
