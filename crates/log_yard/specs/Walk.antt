-- A walk over the pairs of an index.
use Rattle.std.specs.Prelude.{◌≡◌, ℕ, zero, suc, Bool, not, List, [], ◌∷◌, Some, None, Option}
use Rattle.std.specs.Iterator.{YieldsFirst}
use Rattle.ordered.specs.Meaning.{at_or_above, above}
use Rattle.log_yard.specs.declared.pairs.Pairs.{Pairs}
use Rattle.log_yard.specs.declared.pairs.Ahead.{Ahead}
use Rattle.log_yard.specs.declared.pairs.Ahead.TheVariants.{From, After}
use Rattle.log_yard.specs.Pages.{drop_to}

-- the pairs of the row from a key on
abbrev pub from_key : {K R : Type 0} → (K → K → Bool) → List (K × R) → K → List (K × R)
from_key b row k = drop_to (λ q. not (b q k)) row

-- a pair and those after it, n of them at most
abbrev pub walked : {K R : Type 0} → (K → K → Bool) → List (K × R) → ℕ → Option (K × R) → List (K × R)
walked b row zero o = []
walked b row (suc n) None = []
walked b row (suc n) (Some p) = p ∷ walked b row n (above b row p.0)

-- the pair that a walk gives next
abbrev pub next_pair : {K R : Type 0} → (K → K → Bool) → List (K × R) → Ahead K R → Option (K × R)
next_pair b row (From k) = at_or_above b row k
next_pair b row (After k v) = above b row k

module _ {T K R : Type 0} (b : K → K → Bool) (row : T → List (K × R)) where
  -- what a walk has left
  abbrev pub pairs_left : Pairs T K R → List (K × R)
  pairs_left s = walked b (row s.index.now) s.left (next_pair b (row s.index.now) s.ahead)

  -- Each step over an index that keeps its rules gives the first of what is left.
  abbrev pub pairs_steps : (T → Type 0) → Pairs T K R → Option (K × R) → Pairs T K R → Type 0
  pairs_steps kept s r t = (t.index.now ≡ s.index.now) × (kept s.index.now → YieldsFirst pairs_left s r t)
