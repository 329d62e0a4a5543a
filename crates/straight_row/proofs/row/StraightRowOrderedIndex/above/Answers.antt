use Rattle.std.proofs.Math.Bool.{not-not}
use Rattle.straight_row.proofs.Moves.{answers}
use Rattle.straight_row.proofs.row.StraightRowOrderedIndex.above.Goals as goal

pub returns : goal.returns
returns g c = record { meaning = answers c.args.self.now _ _ (λ k. simp not-not at (c.first_from.ensures k)) }
