-- The numbers of a tree with m keys to a node: nodes are numbered from 0, level by level, the root first,
-- and node n has the slots n * m to n * m + m - 1.
use Rattle.std.specs.Prelude.{ℕ, zero, suc, ◌+◌, ◌*◌, ◌^◌, List, take, drop}

-- the first node of level j
abbrev pub starts : ℕ → ℕ → ℕ
starts m zero = 0
starts m (suc j) = starts m j * (m + 1) + 1

-- child i of a node
abbrev pub child : ℕ → ℕ → ℕ → ℕ
child m node i = node * (m + 1) + 1 + i

-- the leaves of a tree of height h: they are level h
abbrev pub leaves : ℕ → ℕ → ℕ
leaves m h = (m + 1) ^ h

-- how many pairs they have room for
abbrev pub leaf_slots : ℕ → ℕ → ℕ
leaf_slots m h = leaves m h * m

-- the slots of the whole tree
abbrev pub tree_slots : ℕ → ℕ → ℕ
tree_slots m h = starts m (suc h) * m

-- the slots of the leaves, in order: slot i of leaf p is number p * m + i of them
abbrev pub area : {X : Type 0} → ℕ → ℕ → List X → List X
area m h xs = take (leaf_slots m h) (drop (starts m h * m) xs)

-- leaf p of the slots of leaves
abbrev pub leaf_at : {X : Type 0} → ℕ → List X → ℕ → List X
leaf_at m ys p = take m (drop (p * m) ys)

-- the slots of leaf p of the tree
abbrev pub leaf_of : {X : Type 0} → ℕ → ℕ → List X → ℕ → List X
leaf_of m h xs p = leaf_at m (area m h xs) p
