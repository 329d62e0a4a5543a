-- The leaf where a key belongs, of n leaves of m slots each.
use Rattle.std.specs.Prelude.{◌≡◌, ℕ, suc, ◌*◌, ◌<◌, Bool, false, List, [], ◌∷◌, take, drop}
use Rattle.ordered.specs.declared.slot.Slot.{Slot}
use Rattle.ordered.specs.Meaning.{Before, After}
use Rattle.ordered.specs.Slots.{pairs}
use Rattle.tree_layout.specs.Levels.{leaf_at}

-- the row begins with a key that is not after k
abbrev pub Headed : {K R : Type 0} → (K → K → Bool) → K → List (K × R) → Type 0
Headed b k [] = ⊥
Headed b k (p ∷ ps) = b k p.0 ≡ false

-- The key belongs in leaf t: earlier leaves have keys before it, later leaves keys after it, and unless leaf t is the first
-- it begins with a key that is not after it.
pub record Belongs {K R : Type 0} (b : K → K → Bool) (m n : ℕ) (ys : List (Slot K R)) (k : K) (t : ℕ) : Type 0 where
  pub within : t < n
  pub earlier : Before b k (pairs (take (t * m) ys))
  pub later : After b k (pairs (drop (suc t * m) ys))
  pub headed : 0 < t → Headed b k (pairs (leaf_at m ys t))
