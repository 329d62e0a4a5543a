use Rattle.std.proofs.Common.{ℕ, ◌+◌, ◌*◌, ◌^◌, ◌<◌, length, ap, arith, rules}
use borrow.Author.Rules.{get_or_read}
use Rattle.std.specs.declared.ops.Range.{Range}
use Rattle.tree_index.proofs.Keys.{head_within}
use Rattle.tree_changes.proofs.Backwards.{serves_back, last_back}
use Rattle.tree_changes.proofs.Heads.{FilledAt, BlankAt, last_filled}
use Rattle.tree_changes.proofs.removing.filled_before.Goals as goal

pub find-requires-clause-callable : goal.find-requires-clause-callable
find-requires-clause-callable g c = serves_back (λ x q r. search rules) (λ x l.
    let in_leaves : x < c.args.layout.leaves = omega (arith, l, ap (λ (r : Range ℕ). r.end) c.rev.ensures.source, c.requires.within) in
    let small : c.args.layout.base + x * c.args.layout.width < 2 ^ 20 = omega (arith, head_within c.args.layout x in_leaves, c.args.layout.small) in
    let in_row : c.args.layout.base + x * c.args.layout.width < length c.args.slots.now = omega (arith, head_within c.args.layout x in_leaves, c.requires.fits) in
    search rules)

pub returns : goal.returns
returns g c =
    let xs = c.args.slots.now in
    let at = λ (p : ℕ). c.args.layout.base + p * c.args.layout.width in
    let found = last_back _ _ (FilledAt xs at) (BlankAt xs at) (λ x q k d l. search (rules, get_or_read)) (λ x q k. (search rules, λ d l. search (rules, get_or_read))) c.args.leaf _ _ _ c.rev.ensures.source c.find.ensures.ran in
    let w = last_filled xs at c.unwrap_or.result c.args.leaf c.find.result c.unwrap_or.ensures (λ p l. omega (arith, head_within c.args.layout p (omega (arith, l, c.requires.within)), c.requires.fits)) found in
    record { before = w.0; filled = w.1; last = w.2 }
