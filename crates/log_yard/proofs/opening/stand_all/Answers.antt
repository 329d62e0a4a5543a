use Rattle.std.proofs.Common.{refl, subst, rules}
use Rattle.logs.specs.declared.keys.Tag.{Tag}
use Rattle.logs.specs.declared.log.Place.TheVariants as place
use Rattle.logs.specs.declared.log.Rest.{Rest}
use Rattle.log_yard.specs.Opens.{Fills}
use Rattle.log_yard.proofs.Opened as opened
use Rattle.log_yard.proofs.Steps.{apart}
use Rattle.log_yard.proofs.Walking.{next_tag, last_tag}
use Rattle.log_yard.proofs.opening.stand_all.Goals as goal

pub loop-tag-preserved-then-eq : goal.loop-tag-preserved-then-eq
loop-tag-preserved-then-eq g c = λ kt ks e few.
    let made = c.from_key-tag-items in
    let p : Tag × Rest = (c.in-Some.tag, c.in-Some.rest) in
    let n = next_tag g.T.OrderedIndex c.args.tags.now made.result c.into_iter-tag-iterator.result c.into_iter-tag-iterator.ensures.into_iter_gives made.ensures.lent kt made.ensures.left c.loop-tag.yielded c.loop-tag.tag-iterator c.next.new.self c.loop-tag.yielded_by c.next.result c.next.ensures.steps p c.in-Some.is in
    opened.fill_standing g.S.OrderedIndex c.args.sizes.now c.loop-tag.sizes c.put.new.self (g.T.OrderedIndex.row c.args.tags.now) c.loop-tag.yielded n.0 p (made.ensures.ascends kt) n.1 (c.loop-tag.invariant kt ks e few)
    c.size_of.result c.put.result few (search rules) c.size_of.ensures c.put.ensures.meaning

pub loop-tag-preserved : goal.loop-tag-preserved
loop-tag-preserved g c = λ kt ks e few.
    let made = c.from_key-tag-items in
    let p : Tag × Rest = (c.in-Some.tag, c.in-Some.rest) in
    let n = next_tag g.T.OrderedIndex c.args.tags.now made.result c.into_iter-tag-iterator.result c.into_iter-tag-iterator.ensures.into_iter_gives made.ensures.lent kt made.ensures.left c.loop-tag.yielded c.loop-tag.tag-iterator c.next.new.self c.loop-tag.yielded_by c.next.result c.next.ensures.steps p c.in-Some.is in
    opened.fill_at_saw g.S.OrderedIndex c.args.sizes.now c.loop-tag.sizes c.loop-tag.sizes (g.T.OrderedIndex.row c.args.tags.now) c.loop-tag.yielded n.0 p (made.ensures.ascends kt) n.1 (c.loop-tag.invariant kt ks e few)
    refl (apart c.in-Some.rest.place place.Standing c.if-eq.ensures)

pub returns : goal.returns
returns g c = λ kt ks e few.
    let made = c.from_key-tag-items in
    let whole = last_tag g.T.OrderedIndex c.args.tags.now made.result c.into_iter-tag-iterator.result c.into_iter-tag-iterator.ensures.into_iter_gives made.ensures.lent kt made.ensures.left c.loop-tag.yielded c.loop-tag.tag-iterator c.next.new.self c.loop-tag.yielded_by c.next.result c.next.ensures.steps c.in-None.is in
    subst (λ z. Fills g.S.OrderedIndex z c.args.sizes.now c.loop-tag.sizes) whole (c.loop-tag.invariant kt ks e few)
