-- What a desk answers to a line, by the replies that it gives.
use Rattle.std.specs.Prelude.{◌≡◌, ℕ, ◌<◌, ◌≤◌, Bool, true, false, List, length, Ok, Err, Result}
use Rattle.logs.specs.declared.log.Log.{Log}
use Rattle.line_writer.specs.declared.answers.ShortRow.{ShortRow}
use Rattle.line_writer.specs.Shows.{Written}
use Rattle.yard_desk.specs.declared.desk.Answered.{Answered}
use Rattle.yard_desk.specs.declared.refusal.Refusal.{Refusal}
use Rattle.yard_desk.specs.declared.reply.Reply.{Reply}
use Rattle.yard_desk.specs.declared.reply.Reply.TheVariants.{Done, Found, Listed, Opened}
use Rattle.yard_desk.specs.Replies.{reply_line}

-- only an accepted OPEN opens
abbrev pub opens_yard : Result Reply Refusal → Bool
opens_yard (Ok (Done t)) = false
opens_yard (Ok (Found x)) = false
opens_yard (Ok (Listed n more)) = false
opens_yard (Ok (Opened n)) = true
opens_yard (Err e) = false

module _ {D : Type 0} (page : D → List Log) (serves : D → List ℕ → Result Reply Refusal → D → Type 0) where
  -- A row of under 4,096 bytes is refused, and nothing changes; else the row begins with the bytes of the reply that the desk
  -- gives to the line.
  abbrev pub Answers : D → List ℕ → List ℕ → Result Answered ShortRow → List ℕ → D → Type 0
  Answers d line old (Err e) new d' = (length old < 4096) × (new ≡ old) × (d' ≡ d)
  Answers d line old (Ok a) new d' = (4096 ≤ length old) × serves d line a.reply d' × Written 0 (reply_line (page d') a.reply) old new a.length
