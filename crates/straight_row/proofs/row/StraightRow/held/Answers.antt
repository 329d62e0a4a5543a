use Rattle.straight_row.proofs.Moves.{end_held}
use Rattle.straight_row.proofs.row.StraightRow.held.Goals as goal

pub returns-clause-row : goal.returns-clause-row
returns-clause-row g c = λ k. end_held c.args.self.now.slots.now c.args.self.now.count k _ c.end.ensures
