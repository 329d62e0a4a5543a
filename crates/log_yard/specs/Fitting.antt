-- The first key of the size index that fits a CALL.
use Rattle.std.specs.Prelude.{◌≡◌, ℕ, ◌≤◌, true, ◌⊎◌, List, Some, None, Option}
use Rattle.ordered.specs.Meaning.{lookup}
use Rattle.logs.specs.declared.keys.Size.{Size}
use Rattle.logs.specs.declared.species.Species.{Species}
use Rattle.logs.specs.Orders.{size_before}

-- no key has a diameter past the limit
abbrev pub LimitsOf : List (Size × ℕ) → Type 0
LimitsOf sizes = (k : Size) (v : ℕ) → lookup size_before sizes k ≡ Some v → k.diameter ≤ 1200

abbrev pub KeyFits : Species → ℕ → ℕ → Size → Type 0
KeyFits s d l k = (k.species ≡ s) × (d ≤ k.diameter) × (l ≤ k.length)

-- no key fits, or this one does, is there and comes before each other that fits
abbrev pub FirstFit : List (Size × ℕ) → Species → ℕ → ℕ → Option Size → Type 0
FirstFit sizes s d l None = (k : Size) (v : ℕ) → lookup size_before sizes k ≡ Some v → KeyFits s d l k → ⊥
FirstFit sizes s d l (Some x) = KeyFits s d l x × ((v : ℕ) × (lookup size_before sizes x ≡ Some v)) × ((k : Size) (v : ℕ) → lookup size_before sizes k ≡ Some v → KeyFits s d l k → (k ≡ x) ⊎ (size_before x k ≡ true))
