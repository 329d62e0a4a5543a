use Rattle.std.proofs.Common.{◌≡◌, ◌+◌, length, ◌∙◌, arith, rules}
use Rattle.line_reader.specs.Reads.{arity}
use Rattle.line_reader.proofs.Asked.{accepted}
use Rattle.line_reader.proofs.reader.read_request.Goals as goal

pub returns : goal.returns
returns c =
    let n : length c.split-fields.result ≡ 1 + arity c.in_ok-word.word = cc in
    c.read_fields.ensures ∙ accepted c.args.line.now _ c.in_ok-word.word c.split-fields.ensures (omega arith) (search rules) n
