-- The laws of a tree's numbers.
use Rattle.std.proofs.Common.{suc, arith}
use Rattle.tree_layout.specs.Laws.{Sums}
use Rattle.tree_layout.proofs.Levels.{starts_pow, tree_parts, leaf_place, leaf_slot}
use Rattle.tree_layout.proofs.Rows.{one_layout}

pub sums : Sums
sums = record {
  level = starts_pow;
  next = λ m j n i. omega arith;
  whole = λ m h. starts_pow m (suc h);
  parts = tree_parts;
  place = leaf_place;
  slot = leaf_slot;
  unique = one_layout;
}
