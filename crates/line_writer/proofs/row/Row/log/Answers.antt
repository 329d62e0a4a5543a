use Rattle.line_writer.specs.Shows.{log_line}
use Rattle.line_writer.proofs.Writes.{◌and◌}
use Rattle.line_writer.proofs.row.Row.log.Goals as goal

pub returns-clause-adds : goal.returns-clause-adds
unfolding log_line
returns-clause-adds c =
    rw (← c.letter.ensures, ← c.place_word.ensures)
    (c.field.ensures.adds and c.number.ensures.adds and c.field-2.ensures.adds and c.number-2.ensures.adds
    and c.number-3.ensures.adds and c.number-4.ensures.adds and c.field-3.ensures.adds)
