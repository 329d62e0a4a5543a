use Rattle.std.proofs.Common.{◌<◌, ◌≤◌, length, is_some, sym, refl, ap, ◌∙◌, arith, rules}
use Rattle.log_yard.specs.Tells.{capacity}
use Rattle.log_yard.proofs.Steps as step
use Rattle.log_yard.proofs.yard.Yard.arrive.Goals as goal

pub returns-then-count-capacity : goal.returns-then-count-capacity
returns-then-count-capacity g c = λ page. record {
  law = λ cap ls h told.
      let t = g.T.OrderedIndex in
      let s = g.S.OrderedIndex in
      let y = c.args.self.now in
      let kt = told.sound.tags_kept in
      let over : capacity t s y ≤ length (t.row y.tags) = omega (arith, c.count.ensures.meaning.gives kt, c.capacity.ensures kt told.sound.sizes_kept, c.if-count-capacity.true) in
      step.arrive_full_ok t s cap ls h y told page c.args.tag c.args.body
      (sym (ap is_some (c.get.ensures.meaning.gives kt)) ∙ sym c.is_some.ensures ∙ c.if-is_some.false)
      (c.get.ensures.meaning.orderly kt).ascending (search rules, search rules) over;
  still = refl;
  page = refl;
}

pub returns : goal.returns
returns g c = λ page. record {
  law = λ cap ls h told.
      let t = g.T.OrderedIndex in
      let s = g.S.OrderedIndex in
      let y = c.args.self.now in
      let kt = told.sound.tags_kept in
      let room : length (t.row y.tags) < capacity t s y = omega (arith, c.count.ensures.meaning.gives kt, c.capacity.ensures kt told.sound.sizes_kept, c.if-count-capacity.false) in
      step.arrive_ok t s cap ls h y told page c.args.tag c.args.body
      (sym (ap is_some (c.get.ensures.meaning.gives kt)) ∙ sym c.is_some.ensures ∙ c.if-is_some.false)
      (c.get.ensures.meaning.orderly kt).ascending (search rules, search rules)
      (record { tags = c.put.new.self; sizes = c.put-2.new.self }) c.size_of.result c.put.result c.put-2.result c.size_of.ensures room c.put.ensures.meaning c.put-2.ensures.meaning;
  still = tt;
  page = tt;
}
