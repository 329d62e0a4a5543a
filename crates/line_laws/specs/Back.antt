-- The line that is written of a log says that log.
use Rattle.std.specs.Prelude.{◌≡◌, ℕ, List, [], ◌∷◌, ◌++◌, Ok}
use Rattle.logs.specs.declared.log.Log.{Log}
use Rattle.logs.specs.Limits.{TagOk, BodyOk}
use Rattle.line_reader.specs.declared.request.Request.{Request}
use Rattle.line_reader.specs.declared.request.Request.TheVariants as request
use Rattle.line_reader.specs.Reads.{Read, reads}
use Rattle.line_writer.specs.Shows.{log_line}

-- the line of the log, without its end
abbrev pub LineOf : Log → List ℕ → Type 0
LineOf x line = log_line x ≡ line ++ (10 ∷ [])

-- a log within the limits
abbrev pub LogOk : Log → Type 0
LogOk x = TagOk x.tag × BodyOk x.rest.body

-- the law: whichever log within the limits is written, its line is read as that log
abbrev pub ReadsBack : Type 0
ReadsBack = (x : Log) (line : List ℕ) → LogOk x → LineOf x line → reads line ≡ Ok (request.Log x)

-- what is read of the line of a log, and that log if it is within the limits
pub record Reread (x : Log) (r : Read Request) : Type 0 where
  pub says : (line : List ℕ) → LineOf x line → r ≡ reads line
  pub same : LogOk x → r ≡ Ok (request.Log x)
