-- The part of the size index that a LIST shows.
use Rattle.std.specs.Prelude.{◌≡◌, ℕ, Bool, cond, not, ◌&&◌, List, [], ◌∷◌, ◌++◌, length, take, drop, Some, None, Option, ◌==◌, nat_le, nat_lt}
use Rattle.logs.specs.declared.keys.Size.{Size}
use Rattle.logs.specs.declared.log.Log.{Log}
use Rattle.logs.specs.declared.log.Place.TheVariants as place
use Rattle.logs.specs.declared.species.Species.{Species}
use Rattle.logs.specs.Codes.{code}
use Rattle.logs.specs.Orders.{size_before}
use Rattle.log_yard.specs.Law.{shown}

abbrev pub in_range : Species → ℕ → Size → Bool
in_range s e k = code k.species == code s && nat_le k.diameter e

-- the standing log of a pair of the size index
abbrev pub to_log : Size × ℕ → Log
to_log p = record { tag = p.0.tag; rest = record { body = record { species = p.0.species; diameter = p.0.diameter; length = p.0.length; bay = p.1 }; place = place.Standing } }

-- its log, if it is in range
abbrev pub next_of : Species → ℕ → Option (Size × ℕ) → Option Log
next_of s e None = None
next_of s e (Some p) = cond (in_range s e p.0) (Some (to_log p)) None

-- the logs from the start of the row on, as long as they are in range
abbrev pub runs : Species → ℕ → List (Size × ℕ) → List Log
runs s e [] = []
runs s e (p ∷ ps) = cond (in_range s e p.0) (to_log p ∷ runs s e ps) []

-- the row from the first key on that passes
abbrev pub drop_to : {K R : Type 0} → (K → Bool) → List (K × R) → List (K × R)
drop_to f [] = []
drop_to f (p ∷ ps) = cond (f p.0) (p ∷ ps) (drop_to f ps)

-- before every log of the species that is at least as thick
abbrev pub start : Species → ℕ → Size
start s d = record { species = s; diameter = d; length = 0; tag = 0 }

abbrev pub range : List (Size × ℕ) → Species → ℕ → ℕ → List Log
range row s d e = runs s e (drop_to (λ q. not (size_before q (start s d))) row)

-- The first logs of xs are written, and the answer tells how many and whether more follow.
pub record Filled (xs page page' : List Log) (r : ℕ × Bool) : Type 0 where
  pub count : r.0 ≡ shown xs page
  pub more : r.1 ≡ nat_lt (shown xs page) (length xs)
  pub written : page' ≡ take (shown xs page) xs ++ drop (shown xs page) page
