use Rattle.std.proofs.Common.{ℕ, List, ◌++◌, take, ap, ◌∙◌, rules}
use Rattle.line_input.specs.Lines.{kept}
use Rattle.line_input.proofs.Ends.{line_is, pushed}
use Rattle.line_input.proofs.line.LineBuffer.push.Goals as goal

pub returns-clause-keeps : goal.returns-clause-keeps
returns-clause-keeps c =
    let was = c.args.self.now in
    let line = take c.unwrap_or.result c.args.chunk.now in
    pushed was.bytes line c.copy_from_slice.new.self was.len c.min-n.result was.within (search rules) c.min-n.ensures c.copy_from_slice.ensures.after
    ∙ ap (λ (l : List ℕ). kept (take was.len was.bytes ++ l)) (line_is c.args.chunk.now c.end_of_line-end.result c.unwrap_or.result c.end_of_line-end.ensures c.unwrap_or.ensures)
