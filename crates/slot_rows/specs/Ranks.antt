-- How many slots of a row are below a key, and where a key stands.
use Rattle.std.specs.Prelude.{◌≡◌, ℕ, suc, Bool, false, cond, not, ◌&&◌, List, [], ◌∷◌, Ok, Err, Result}
use Rattle.ordered.specs.declared.slot.Slot.{Slot}
use Rattle.slot_rows.specs.declared.halving.Bound.{Bound}
use Rattle.slot_rows.specs.declared.halving.Bound.TheVariants.{Lower, Upper}

-- the key q is before k, or is not after k
abbrev pub key_below : {K : Type 0} → Bound → (K → K → Bool) → K → K → Bool
key_below Lower b k q = b q k
key_below Upper b k q = not (b k q)

-- the slot is filled with such a key
abbrev pub below : {K R : Type 0} → Bound → (K → K → Bool) → K → Slot K R → Bool
below bound b k s = s.filled && key_below bound b k s.key

-- how many elements pass the test before the first that does not
abbrev pub lead : {X : Type 0} → (X → Bool) → List X → ℕ
lead f [] = 0
lead f (x ∷ xs) = cond (f x) (suc (lead f xs)) 0

-- no element passes the test
abbrev pub Fails : {X : Type 0} → (X → Bool) → List X → Type 0
Fails f [] = Unit {0}
Fails f (x ∷ xs) = (f x ≡ false) × Fails f xs

-- after an element that does not pass, none does
abbrev pub Falling : {X : Type 0} → (X → Bool) → List X → Type 0
Falling f [] = Unit {0}
Falling f (x ∷ xs) = (f x ≡ false → Fails f xs) × Falling f xs

-- the first slot that has no key before k has the key k
abbrev pub there : {K R : Type 0} → (K → K → Bool) → K → List (Slot K R) → Bool
there b k [] = false
there b k (s ∷ ss) = cond (below Lower b k s) (there b k ss) (below Upper b k s)

-- the place of k, or the place where it would be put
abbrev pub located : {K R : Type 0} → (K → K → Bool) → K → List (Slot K R) → Result ℕ ℕ
located b k ss = cond (there b k ss) (Ok (lead (below Lower b k) ss)) (Err (lead (below Lower b k) ss))
