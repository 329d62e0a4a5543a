-- The numbers of a yard's refusals.
use Rattle.std.specs.Prelude.{◌≡◌, ℕ, Ok, Err, Result}
use Rattle.log_yard.specs.declared.answer.Answer.{Answer}
use Rattle.log_yard.specs.declared.refusal.Refusal.{Refusal}
use Rattle.log_yard.specs.declared.refusal.Refusal.TheVariants.{Outside, Reversed, Present, Absent, AtSaw, Standing, Full, NoneFits}
use Rattle.log_yard.specs.declared.refusal.OpenRefusal.{OpenRefusal}
use Rattle.log_yard.specs.declared.refusal.OpenRefusal.TheVariants as opening

-- 14 a number outside its limits, 15 the first diameter exceeds the second, 21 the tag is present, 22 absent,
-- 23 the log is at the saw, 24 standing, 25 the yard is full, 26 no log fits
abbrev pub refusal_number : Refusal → ℕ
refusal_number Outside = 14
refusal_number Reversed = 15
refusal_number Present = 21
refusal_number Absent = 22
refusal_number AtSaw = 23
refusal_number Standing = 24
refusal_number Full = 25
refusal_number NoneFits = 26

-- 28 the size index is not empty, 29 a loaded log is outside the limits, 30 more logs than the size index has room for
abbrev pub open_number : OpenRefusal → ℕ
open_number opening.NotEmpty = 28
open_number opening.OutsideLimits = 29
open_number opening.TooMany = 30

-- The call is refused under the number.
abbrev pub Refused : ℕ → Result Answer Refusal → Type 0
Refused n (Ok a) = ⊥
Refused n (Err e) = refusal_number e ≡ n
