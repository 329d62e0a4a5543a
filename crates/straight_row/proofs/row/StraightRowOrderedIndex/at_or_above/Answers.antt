use Rattle.straight_row.proofs.Moves.{answers}
use Rattle.straight_row.proofs.row.StraightRowOrderedIndex.at_or_above.Goals as goal

pub returns : goal.returns
returns g c = record { meaning = answers c.args.self.now _ _ c.first_from.ensures }
