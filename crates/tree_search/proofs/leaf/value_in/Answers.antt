use Rattle.std.proofs.Common.{Some, sym, ap, ◌∙◌}
use Rattle.ordered.specs.Slots.{pairs}
use Rattle.slot_rows.proofs.Looks.{value_found, value_missing}
use Rattle.tree_search.proofs.Splits.{was_ok, was_err}
use Rattle.tree_search.proofs.leaf.value_in.Goals as goal

pub returns-in_err-at : goal.returns-in_err-at
returns-in_err-at g c = λ packed asc.
    let w = was_err c.search.result c.in_err-at.ensures.value in
    c.from_residual.ensures ∙ value_missing g.met.K.Key.ordered c.args.key (pairs c.args.leaf.now) c.args.leaf.now asc packed w.0 (λ f. sym w.1 ∙ c.search.ensures.gives f)

pub returns : goal.returns
returns g c = λ packed asc.
    ap (λ x. Some x.value) (sym c.index-leaf-at.is)
    ∙ value_found g.met.K.Key.ordered c.args.key (pairs c.args.leaf.now) c.args.leaf.now asc packed c.in_ok-at.at c.index-leaf-at.result (λ f. sym (was_ok c.search.result c.in_ok-at.at c.in_ok-at.ensures.value) ∙ c.search.ensures.gives f) c.index-leaf-at.is
