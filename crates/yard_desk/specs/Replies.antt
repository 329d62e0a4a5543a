-- The bytes of a desk's answer to a line.
use Rattle.std.specs.Prelude.{ℕ, List, take, Ok, Err, Result}
use Rattle.logs.specs.declared.log.Log.{Log}
use Rattle.line_writer.specs.Shows.{ok_line, no_line, open_line, log_line, list_lines}
use Rattle.yard_desk.specs.declared.reply.Reply.{Reply}
use Rattle.yard_desk.specs.declared.reply.Reply.TheVariants.{Done, Found, Listed, Opened}
use Rattle.yard_desk.specs.declared.refusal.Refusal.{Refusal}
use Rattle.yard_desk.specs.Refusals.{refusal_number, refusal_position}

-- by cases of the reply, with the page that it leaves
abbrev pub reply_line : List Log → Result Reply Refusal → List ℕ
reply_line page (Ok (Done t)) = ok_line t
reply_line page (Ok (Found x)) = log_line x
reply_line page (Ok (Listed n more)) = list_lines (take n page) more
reply_line page (Ok (Opened n)) = open_line n
reply_line page (Err e) = no_line (refusal_number e) (refusal_position e)
