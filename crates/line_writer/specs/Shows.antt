-- The bytes of an answer, and what it is to write them into a row.
use Rattle.std.specs.Prelude.{◌≡◌, ℕ, ◌+◌, ◌<◌, ◌≤◌, Bool, cond, List, [], ◌∷◌, ◌++◌, length, take, drop, Ok, Err, codes, decimal, Result}
use Rattle.std.specs.List.{flat_map}
use Rattle.logs.specs.declared.log.Log.{Log}
use Rattle.logs.specs.declared.log.Place.{Place}
use Rattle.logs.specs.declared.log.Place.TheVariants.{Standing, AtSaw}
use Rattle.logs.specs.Codes.{letter_of}
use Rattle.line_writer.specs.declared.answers.ShortRow.{ShortRow}
use Rattle.line_writer.specs.declared.row.Row.{Row}

-- The new row has the bytes from a place on, and is as the old one before and after them.
pub record Written (at : ℕ) (bytes old new : List ℕ) (to : ℕ) : Type 0 where
  pub row : new ≡ take at old ++ (bytes ++ drop to old)
  pub ends : to ≡ at + length bytes
  pub room : to ≤ length old

-- The same over one row: the bytes are added at its place, which is after them then.
pub record Added (bytes : List ℕ) (old new : Row) : Type 0 where
  pub same : new.out.ghost_name ≡ old.out.ghost_name
  pub written : Written old.at bytes old.out.now new.out.now new.at

-- the number of the refusal of a short row
abbrev pub short_number : ℕ
short_number = 16

-- A row of 4,096 bytes or more has the answer at its start, and its length is the result; a shorter one is refused and stays as it was.
abbrev pub Answered : List ℕ → List ℕ → Result ℕ ShortRow → List ℕ → Type 0
Answered bytes old (Ok n) new = (4096 ≤ length old) × Written 0 bytes old new n
Answered bytes old (Err e) new = (length old < 4096) × (new ≡ old)

-- a field and the tab after it
abbrev pub tabbed : List ℕ → List ℕ
tabbed f = f ++ (9 ∷ [])

-- the last field and the end of the line
abbrev pub ended : List ℕ → List ℕ
ended f = f ++ (10 ∷ [])

-- done, with the log of this tag
abbrev pub ok_line : ℕ → List ℕ
ok_line t = tabbed (codes "OK") ++ ended (decimal t)

-- refused: the number of the reason, and the field that it is about
abbrev pub no_line : ℕ → ℕ → List ℕ
no_line n k = tabbed (codes "NO") ++ (tabbed (decimal n) ++ ended (decimal k))

-- the yard is open, and so many logs are present
abbrev pub open_line : ℕ → List ℕ
open_line n = tabbed (codes "OPEN") ++ ended (decimal n)

abbrev pub place_word : Place → List ℕ
place_word Standing = codes "YARD"
place_word AtSaw = codes "SAW"

-- a log: tag, species, diameter, length, bay and place
unfoldable pub log_line : Log → List ℕ
log_line x =
    tabbed (codes "LOG") ++ (tabbed (decimal x.tag) ++ (tabbed (letter_of x.rest.body.species ∷ [])
    ++ (tabbed (decimal x.rest.body.diameter) ++ (tabbed (decimal x.rest.body.length)
    ++ (tabbed (decimal x.rest.body.bay) ++ ended (place_word x.rest.place))))))

-- how many logs were listed, and 1 if more follow, else 0
abbrev pub end_line : ℕ → Bool → List ℕ
end_line n more = tabbed (codes "END") ++ (tabbed (decimal n) ++ ended (decimal (cond more 1 0)))

-- the lines of the logs, and the one that ends them
abbrev pub list_lines : List Log → Bool → List ℕ
list_lines xs more = flat_map log_line xs ++ end_line (length xs) more
