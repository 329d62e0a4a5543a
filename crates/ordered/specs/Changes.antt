-- Which refusal of a change is due, and what a refusal leaves.
use Rattle.std.specs.Prelude.{◌≡◌, ℕ, Bool, cond, List, length, Some, None, Ok, Err, Option, Result, ◌==◌}
use Rattle.ordered.specs.declared.fault.Fault.{Fault}
use Rattle.ordered.specs.Meaning.{holds}

-- put: 33 if the key is there, else 32 if the pairs are as many as the capacity
abbrev pub put_refusal : {K R : Type 0} → (K → K → Bool) → ℕ → List (K × R) → K → Option ℕ
put_refusal b cap row k = cond (holds b row k) (Some 33) (cond (length row == cap) (Some 32) None)

-- set and take: 34 if the key is not there
abbrev pub absent_refusal : {K R : Type 0} → (K → K → Bool) → List (K × R) → K → Option ℕ
absent_refusal b row k = cond (holds b row k) None (Some 34)

-- the new value of an accepted change, the old one of a refused change
abbrev pub settled : {X Y : Type 0} → Result X Fault → Y → Y → Y
settled (Ok x) new old = new
settled (Err f) new old = old

-- a refusal leaves the whole value as it was
abbrev pub Unmoved : {X S : Type 0} → Result X Fault → S → S → Type 0
Unmoved (Ok x) s t = Unit {0}
Unmoved (Err f) s t = t ≡ s
