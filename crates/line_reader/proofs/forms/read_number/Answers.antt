use Rattle.std.proofs.Common.{◌∙◌, sym}
use Rattle.line_reader.proofs.Figures.{refused, all_read}
use Rattle.line_reader.proofs.forms.read_number.Goals as goal

pub returns-in_err-n : goal.returns-in_err-n
returns-in_err-n c =
    c.from_residual.ensures
    ∙ refused c.args.digits.now c.loop-d.d-index c.loop-d.n c.loop-d-test.true (sym c.in_err-n.was ∙ c.read_digit.ensures) c.loop-d.invariant.0 (sym c.if-not-is_well_begun.ensures)

pub returns : goal.returns
returns c = all_read c.args.digits.now c.loop-d.d-index c.loop-d.n c.loop-d-test.false c.loop-d.invariant.1 c.loop-d.invariant.0 (sym c.if-not-is_well_begun.ensures)
