use Rattle.std.proofs.Common.{◌≡◌, ◌<◌, ◌≤◌, length, take, arith, length-take}
use Rattle.log_yard.proofs.Runs as runs
use Rattle.log_yard.proofs.yard.Yard.run.Goals as goal

pub loop-i-preserved : goal.loop-i-preserved
loop-i-preserved g c =
    let calls = take c.min-count.result c.args.calls.now in
    let la : c.loop-i.i < length c.loop-i.answers = omega (arith, c.loop-i-test.true, c.loop-i.auto.answers, c.min-count.ensures, length-take c.min-count.result c.args.calls.now) in (
      runs.obeys_next g.T.OrderedIndex g.S.OrderedIndex c.args.self.now c.loop-i.self c.perform.new.self calls c.loop-i.answers c.loop-i.i _ c.perform.result c.args.page.now c.loop-i.page c.perform.new.page c.loop-i-test.true la c.loop-i.invariant.0 c.perform.ensures.law,
      runs.rest_next c.args.answers.now c.loop-i.answers c.loop-i.i c.perform.result c.loop-i.invariant.1,
    )

pub returns-clause-law : goal.returns-clause-law
returns-clause-law g c =
    let calls = take c.min-count.result c.args.calls.now in
    let whole : length calls ≤ c.loop-i.i = c.loop-i-test.false in
    let e : c.loop-i.i ≡ c.min-count.result = omega (arith, whole, c.loop-i.auto.i-end, c.min-count.ensures, length-take c.min-count.result c.args.calls.now) in
    runs.obeys_whole g.T.OrderedIndex g.S.OrderedIndex c.args.self.now c.loop-i.self calls c.loop-i.answers c.args.page.now c.loop-i.page c.loop-i.i c.min-count.result whole e c.loop-i.invariant.0
