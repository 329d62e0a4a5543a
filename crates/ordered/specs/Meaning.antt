-- The meaning of an ordered index: a row of pairs, each a key and its value, under a strict order of the keys.
use Rattle.std.specs.Prelude.{◌≡◌, ℕ, ◌≤◌, Bool, true, false, cond, not, ◌&&◌, ◌⊎◌, List, [], ◌∷◌, length, is_some, Some, None, Option}

-- a strict order in which keys that differ are one before the other
pub record Order {K : Type 0} (b : K → K → Bool) : Type 0 where
  pub irreflexive : (x : K) → b x x ≡ false
  pub transitive : (x y z : K) → b x y ≡ true → b y z ≡ true → b x z ≡ true
  pub total : (x y : K) → b x y ≡ false → b y x ≡ false → x ≡ y

-- each key of the row is after k
abbrev pub After : {K R : Type 0} → (K → K → Bool) → K → List (K × R) → Type 0
After b k [] = Unit {0}
After b k (p ∷ ps) = (b k p.0 ≡ true) × After b k ps

-- each key of the row is before k
abbrev pub Before : {K R : Type 0} → (K → K → Bool) → K → List (K × R) → Type 0
Before b k [] = Unit {0}
Before b k (p ∷ ps) = (b p.0 k ≡ true) × Before b k ps

-- each key is before the next
abbrev pub Ascending : {K R : Type 0} → (K → K → Bool) → List (K × R) → Type 0
Ascending b [] = Unit {0}
Ascending b (p ∷ ps) = After b p.0 ps × Ascending b ps

-- the keys ascend, and there are no more pairs than the capacity
pub record Orderly {K R : Type 0} (b : K → K → Bool) (cap : ℕ) (row : List (K × R)) : Type 0 where
  pub ascending : Ascending b row
  pub within : length row ≤ cap

-- neither key is before the other
abbrev pub same : {K : Type 0} → (K → K → Bool) → K → K → Bool
same b x y = not (b x y) && not (b y x)

-- the value of a key
abbrev pub lookup : {K R : Type 0} → (K → K → Bool) → List (K × R) → K → Option R
lookup b [] k = None
lookup b (p ∷ ps) k = cond (same b p.0 k) (Some p.1) (lookup b ps k)

-- the key is there
abbrev pub holds : {K R : Type 0} → (K → K → Bool) → List (K × R) → K → Bool
holds b row k = is_some (lookup b row k)

-- the first pair whose key passes a test
abbrev pub first : {K R : Type 0} → (K → Bool) → List (K × R) → Option (K × R)
first f [] = None
first f (p ∷ ps) = cond (f p.0) (Some p) (first f ps)

-- the first pair whose key is not before k
abbrev pub at_or_above : {K R : Type 0} → (K → K → Bool) → List (K × R) → K → Option (K × R)
at_or_above b row k = first (λ q. not (b q k)) row

-- the first pair whose key is after k
abbrev pub above : {K R : Type 0} → (K → K → Bool) → List (K × R) → K → Option (K × R)
above b row k = first (λ q. b k q) row

-- the pair put in its place
abbrev pub inserted : {K R : Type 0} → (K → K → Bool) → List (K × R) → K → R → List (K × R)
inserted b [] k v = (k, v) ∷ []
inserted b (p ∷ ps) k v = cond (b p.0 k) (p ∷ inserted b ps k v) ((k, v) ∷ p ∷ ps)

-- the pair of a key left out
abbrev pub removed : {K R : Type 0} → (K → K → Bool) → List (K × R) → K → List (K × R)
removed b [] k = []
removed b (p ∷ ps) k = cond (same b p.0 k) (removed b ps k) (p ∷ removed b ps k)

-- the value of a key replaced
abbrev pub updated : {K R : Type 0} → (K → K → Bool) → List (K × R) → K → R → List (K × R)
updated b [] k v = []
updated b (p ∷ ps) k v = cond (same b p.0 k) ((p.0, v) ∷ updated b ps k v) (p ∷ updated b ps k v)

-- p is the pair of the row with the least key that passes the test
pub record First {K R : Type 0} (b : K → K → Bool) (row : List (K × R)) (f : K → Bool) (p : K × R) : Type 0 where
  pub passes : f p.0 ≡ true
  pub there : lookup b row p.0 ≡ Some p.1
  pub least : (q : K) (v : R) → lookup b row q ≡ Some v → f q ≡ true → (q ≡ p.0) ⊎ (b p.0 q ≡ true)
