use Rattle.std.proofs.Common.{◌≡◌, take, ap, ◌∙◌, arith, rules}
use Rattle.std.proofs.lemmas.List.{take_min}
use Rattle.line_writer.specs.Shows.{Added, list_lines}
use Rattle.line_writer.proofs.Writes.{◌and◌, flag}
use Rattle.line_writer.proofs.answers.write_list.Goals as goal

pub returns : goal.returns
returns c =
    let listed : take c.min.result c.args.logs.now ≡ take 100 c.args.logs.now = ap (λ n. take n c.args.logs.now) c.min.ensures ∙ take_min 100 c.args.logs.now in
    let all : Added (list_lines (take 100 c.args.logs.now) c.args.more) c.begin-row.result c.number-2.new.self = rw (← listed, ← flag c.args.more, ← c.from.ensures) (c.logs.ensures.adds and c.field.ensures.adds and c.number.ensures.adds and c.number-2.ensures.adds) in
    (omega arith, search rules)
