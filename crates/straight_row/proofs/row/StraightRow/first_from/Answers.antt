use Rattle.std.proofs.Common.{rules, ◌∙◌}
use Rattle.ordered.proofs.Rows.{order}
use Rattle.slot_rows.proofs.Looks.{first_past}
use Rattle.straight_row.proofs.Moves.{read_held}
use Rattle.straight_row.proofs.row.StraightRow.first_from.Goals as goal

pub returns-in_err-slot : goal.returns-in_err-slot
returns-in_err-slot g c = λ k.
    let o = g.met.K.Key.ordered in
    let s = c.args.self.now in
    let part = c.held-held.result.now in
    c.from_residual.ensures ∙ first_past o c.args.key _ part k.ascending (c.held-held.ensures.row k) c.args.bound c.rank.result c.rank.ensures.gives (search rules)

pub returns : goal.returns
returns g c = λ k.
    let o = g.met.K.Key.ordered in
    let s = c.args.self.now in
    read_held s.slots.now s.count k o c.args.key c.args.bound _ _ _ c.held-held.ensures.front (c.held-held.ensures.row k) c.rank.ensures.gives (search rules) c.in_ok-slot.ensures.lookup.1
