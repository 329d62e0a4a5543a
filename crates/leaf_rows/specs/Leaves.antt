-- The leaves of a tree: n stretches of m slots each, one after the other.
use Rattle.std.specs.Prelude.{◌≡◌, ℕ, ◌+◌, ◌-◌, ◌*◌, ◌<◌, ◌≤◌, min, max, Bool, cond, List, length, drop, ◌==◌}
use Rattle.ordered.specs.declared.slot.Slot.{Slot}
use Rattle.ordered.specs.Meaning.{Ascending, inserted}
use Rattle.ordered.specs.Slots.{pairs, Packed, first_key}
use Rattle.tree_layout.specs.Levels.{leaf_at}

-- how many pairs leaf p has
abbrev pub count_at : {K R : Type 0} → ℕ → List (Slot K R) → ℕ → ℕ
count_at m ys p = length (pairs (leaf_at m ys p))

-- every leaf is packed, and the pairs ascend from leaf to leaf
pub record Leafed {K R : Type 0} (b : K → K → Bool) (m n : ℕ) (ys : List (Slot K R)) : Type 0 where
  pub long : length ys ≡ n * m
  pub packed : (p : ℕ) → p < n → Packed (leaf_at m ys p)
  pub ascending : Ascending b (pairs ys)

abbrev pub distance : ℕ → ℕ → ℕ
distance t p = (t - p) + (p - t)

-- leaf r is the nearest to leaf t that has a free slot; of two equally near, the one of the higher number
pub record Nearest {K R : Type 0} (m n : ℕ) (ys : List (Slot K R)) (t r : ℕ) : Type 0 where
  pub within : r < n
  pub free : count_at m ys r < m
  pub near : (p : ℕ) → p < n → count_at m ys p < m → distance t r ≤ distance t p
  pub tie : (p : ℕ) → p < n → count_at m ys p < m → distance t p ≡ distance t r → p ≤ r

-- The leaves once a pair has been put in for leaf t: it is in its place in the row, the nearest leaf with a free slot has one
-- pair more and every other leaf as many as before; and the first keys from a leaf on change only for leaves between the two.
pub record PutIn {K R : Type 0} (b : K → K → Bool) (m n : ℕ) (ys : List (Slot K R)) (k : K) (v : R) (t : ℕ) (low high : ℕ) (zs : List (Slot K R)) : Type 0 where
  pub r : ℕ
  pub lands : Nearest m n ys t r
  pub low_is : low ≡ min t r
  pub high_is : high ≡ max t r
  pub leafed : Leafed b m n zs
  pub row : pairs zs ≡ inserted b (pairs ys) k v
  pub counts : (p : ℕ) → p < n → count_at m zs p ≡ count_at m ys p + cond (p == r) 1 0
  pub keys_low : (p : ℕ) → 0 < p → p ≤ low → first_key (drop (p * m) zs) ≡ first_key (drop (p * m) ys)
  pub keys_high : (p : ℕ) → high < p → first_key (drop (p * m) zs) ≡ first_key (drop (p * m) ys)
