use Rattle.std.proofs.Common.{ap, get_or}
use Rattle.ordered.proofs.Rows.{order}
use Rattle.slot_rows.proofs.Looks.{found, missing, shows_found}
use Rattle.slot_edits.proofs.Edits.{refused, replaced}
use Rattle.slot_edits.proofs.replace.Goals as goal

pub returns : goal.returns
returns g c = λ packed asc.
    let o = g.met.K.Key.ordered in
    let ss = c.args.part.now in
    let n = c.in-Ok.at in
    let f = found o c.args.key _ ss asc packed n c.in-Ok.ensures.gives in
    let s = shows_found o c.args.key _ ss asc packed n (get_or ss n c.index-part-at.result) c.in-Ok.ensures.gives (ap (get_or ss n) c.index-part-at.is) c.args.value in
    replaced o c.args.key ss packed asc n f.0 f.1 c.args.value _ s

pub returns-in_default : goal.returns-in_default
returns-in_default g c = λ packed asc.
    let o = g.met.K.Key.ordered in
    let ss = c.args.part.now in
    refused o c.args.key ss packed asc _ (missing o c.args.key _ ss asc packed _ c.in_default.ensures.gives).0
