use Rattle.std.proofs.Common.{sym}
use Rattle.straight_row.proofs.Moves.{answers}
use Rattle.straight_row.proofs.row.StraightRowOrderedIndex.count.Goals as goal

pub returns : goal.returns
returns g c = record { meaning = answers c.args.self.now _ _ (λ k. sym k.counts) }
