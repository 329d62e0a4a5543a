-- What a row of slots holds.
use Rattle.std.specs.Prelude.{◌≡◌, ℕ, min, Bool, true, false, cond, List, [], ◌∷◌, Some, None, Option}
use Rattle.ordered.specs.declared.slot.Slot.{Slot}

-- Of the slots of a row no more than 1,048,575 count.
abbrev pub countable : ℕ → ℕ
countable n = min n 1048575

abbrev pub keep : {X : Type 0} → Bool → X → List X → List X
keep true x xs = x ∷ xs
keep false x xs = xs

-- the pairs of the filled slots, in the order of the slots
abbrev pub pairs : {K R : Type 0} → List (Slot K R) → List (K × R)
pairs [] = []
pairs (s ∷ ss) = keep s.filled (s.key, s.value) (pairs ss)

-- every slot is blank
abbrev pub Blank : {K R : Type 0} → List (Slot K R) → Type 0
Blank [] = Unit {0}
Blank (s ∷ ss) = (s.filled ≡ false) × Blank ss

-- the slot is filled with the pair
abbrev pub Shows : {K R : Type 0} → Slot K R → K × R → Type 0
Shows s p = (s.filled ≡ true) × (s.key ≡ p.0) × (s.value ≡ p.1)

-- The slots hold exactly the row: its pairs in order from the first slot on, and every other slot is blank.
abbrev pub Holds : {K R : Type 0} → List (K × R) → List (Slot K R) → Type 0
Holds [] ss = Blank ss
Holds (p ∷ ps) [] = ⊥
Holds (p ∷ ps) (s ∷ ss) = Shows s p × Holds ps ss

-- the filled slots come first
abbrev pub Packed : {K R : Type 0} → List (Slot K R) → Type 0
Packed ss = Holds (pairs ss) ss

-- the first key found in the slots
abbrev pub first_key : {K R : Type 0} → List (Slot K R) → Option K
first_key [] = None
first_key (s ∷ ss) = cond s.filled (Some s.key) (first_key ss)
