-- The size key of a log, and the logs that stand.
use Rattle.std.specs.Prelude.{ℕ, ◌+◌, Bool, true, false, cond, List, [], ◌∷◌}
use Rattle.logs.specs.declared.keys.Size.{Size}
use Rattle.logs.specs.declared.log.Body.{Body}
use Rattle.logs.specs.declared.log.Place.TheVariants.{Standing, AtSaw}
use Rattle.logs.specs.declared.log.Rest.{Rest}

-- the key of the log with the tag t
abbrev pub size_of : ℕ → Body → Size
size_of t b = record { species = b.species; diameter = b.diameter; length = b.length; tag = t }

abbrev pub stands : Rest → Bool
stands r = elim r.place [ Standing ↦ true | AtSaw ↦ false ]

-- how many pairs of the row have a value that passes the test
abbrev pub tally : {K R : Type 0} → (R → Bool) → List (K × R) → ℕ
tally f [] = 0
tally f (p ∷ ps) = cond (f p.1) 1 0 + tally f ps
