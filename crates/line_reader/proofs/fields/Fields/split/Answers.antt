use Rattle.std.proofs.Common.{length, map, eqb, ap, ◌∙◌, arith, rules}
use borrow.Author.Tests.{tests}
use Rattle.std.proofs.lemmas.Iterator.{YieldsList-from_take}
use Rattle.std.proofs.lemmas.Iterator.Splits.{YieldsList-from_slice_split}
use Rattle.std.proofs.lemmas.Iterator.Consumers.{YieldsList-turn, YieldsList-end}
use Rattle.std.proofs.lemmas.List.{length-take}
use Rattle.line_reader.specs.Fields.{fields}
use Rattle.line_reader.proofs.fields.Fields.split.Goals as goal

pub push-requires : goal.push-requires
push-requires c =
    let turn =
    YieldsList-turn
    (YieldsList-from_take 8
    (YieldsList-from_slice_split _ (λ b. eqb b 9) c.args.line.now (cc) (cc) (cc) (λ x b q k. search (rules, tests)))
    (cc))
    c.loop-field.yielded _ c.loop-field.yielded_by _ _ c.in-Some.field c.in-Some.is c.next.ensures.steps in
    (omega arith, omega (arith, turn.0, length-take 8 (fields c.args.line.now), ap length c.loop-field.invariant.2))

pub returns : goal.returns
returns c =
    let end =
    YieldsList-end
    (YieldsList-from_take 8
    (YieldsList-from_slice_split _ (λ b. eqb b 9) c.args.line.now (cc) (cc) (cc) (λ x b q k. search (rules, tests)))
    (cc))
    c.loop-field.yielded _ c.loop-field.yielded_by _ _ c.in-None.is c.next.ensures.steps in
    ap (map (λ field. field.now)) c.loop-field.invariant.2 ∙ end.0
