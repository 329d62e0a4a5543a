use Rattle.std.proofs.Common.{refl}
use Rattle.ordered.proofs.Rows.{order}
use Rattle.slot_rows.proofs.Looks.{found, missing}
use Rattle.slot_edits.proofs.Edits.{refused, taken}
use Rattle.slot_edits.proofs.remove.Goals as goal

pub returns-clause-edits : goal.returns-clause-edits
returns-clause-edits g c = λ packed asc.
    let o = g.met.K.Key.ordered in
    let ss = c.args.part.now in
    let f = found o c.args.key _ ss asc packed c.in-Ok.at c.in-Ok.ensures.gives in
    taken o c.args.key ss packed asc c.in-Ok.at f.0 f.1 _ c.push_down.new.part refl c.push_down.ensures

pub returns-clause-place : goal.returns-clause-place
returns-clause-place g c = λ packed asc.
    let o = g.met.K.Key.ordered in
    (found o c.args.key _ c.args.part.now asc packed c.in-Ok.at c.in-Ok.ensures.gives).1

pub returns-in_default-clause-edits : goal.returns-in_default-clause-edits
returns-in_default-clause-edits g c = λ packed asc.
    let o = g.met.K.Key.ordered in
    let ss = c.args.part.now in
    refused o c.args.key ss packed asc _ (missing o c.args.key _ ss asc packed _ c.in_default.ensures.gives).0
