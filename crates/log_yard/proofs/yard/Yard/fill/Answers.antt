use Rattle.std.proofs.Common.{◌≡◌, ◌≤◌, length, sym, refl, ap, subst, inl, inr, arith, length-take}
use Rattle.std.proofs.lemmas.List.{set-get_or}
use Rattle.logs.specs.Orders.{size_before}
use Rattle.log_yard.specs.Pages.{range, runs}
use Rattle.log_yard.specs.Walk.{pairs_left}
use Rattle.log_yard.proofs.Lists as lists
use Rattle.log_yard.proofs.yard.Yard.fill.Goals as goal

pub returns-in_default : goal.returns-in_default
returns-in_default g c = λ ks.
    let inv = c.loop-n.invariant ks in
    let row = g.S.OrderedIndex.row in
    let xs = range (row c.args.self.now.sizes) c.args.species c.args.low c.args.high in
    let rest = pairs_left size_before row c.loop-n.pairs in
    let none = lists.no_log c.args.species c.args.high c.next.result rest (pairs_left size_before row c.next.new.self) (c.next.ensures.steps.1 (subst g.S.OrderedIndex.kept (sym inv.0) ks)) c.in_range.result c.in_range.ensures c.in_default.is in
    let few : c.loop-n.n ≤ c.min-most.result = omega (arith, c.loop-n-test.true, length-take c.min-most.result c.args.page.now) in (
      c.from_key-pairs.ensures.ascends ks,
      rw set-get_or (lists.fill_done xs c.args.page.now c.loop-n.shown (runs c.args.species c.args.high rest) c.loop-n.n c.min-most.result c.loop-n.n _ refl c.min-most.ensures few c.loop-n.auto.shown inv.1 inv.2 (inl (ap length none)) (lists.none_more none)),
    )

pub returns : goal.returns
returns g c = λ ks.
    let inv = c.loop-n.invariant ks in
    let row = g.S.OrderedIndex.row in
    let xs = range (row c.args.self.now.sizes) c.args.species c.args.low c.args.high in
    let rest = pairs_left size_before row c.loop-n.pairs in
    let more = lists.more_logs c.args.species c.args.high c.next-2.result rest (pairs_left size_before row c.next-2.new.self) (c.next-2.ensures.steps.1 (subst g.S.OrderedIndex.kept (sym inv.0) ks)) c.in_range-2.result c.in_range-2.ensures c.is_some.result c.is_some.ensures in
    let whole : c.loop-n.n ≡ c.min-most.result = omega (arith, c.loop-n-test.false, c.loop-n.auto.n-end, c.min-most.ensures, length-take c.min-most.result c.args.page.now) in (
      c.from_key-pairs.ensures.ascends ks,
      lists.fill_done xs c.args.page.now c.loop-n.shown (runs c.args.species c.args.high rest) c.loop-n.n c.min-most.result c.min-most.result c.is_some.result (sym whole) c.min-most.ensures (omega (arith, whole)) c.loop-n.auto.shown inv.1 inv.2 (inr (omega (arith, whole))) more,
    )
