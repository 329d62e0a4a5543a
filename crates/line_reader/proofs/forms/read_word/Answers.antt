use Rattle.std.proofs.Common.{◌≡◌, codes, sym, ap, arith, rules}
use Rattle.std.proofs.lemmas.Slice.Eq.{text_from_reads}
use Rattle.line_reader.specs.Fields.{word_of}
use Rattle.line_reader.proofs.forms.read_word.Goals as goal

pub returns-in-ARRIVE : goal.returns-in-ARRIVE
returns-in-ARRIVE c = let e : c.args.name.now ≡ codes "ARRIVE" = text_from_reads _ _ (omega arith) (search rules) in sym (ap word_of e)

pub returns-in-WITHDRAW : goal.returns-in-WITHDRAW
returns-in-WITHDRAW c = let e : c.args.name.now ≡ codes "WITHDRAW" = text_from_reads _ _ (omega arith) (search rules) in sym (ap word_of e)
