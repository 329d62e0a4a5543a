use Rattle.std.proofs.Common.{rules}
use Rattle.tree_search.proofs.Splits.{first_in_or_past, past_given}
use Rattle.tree_search.proofs.seek.first_from.Goals as goal

pub returns : goal.returns
returns g c = λ st.
    first_in_or_past g.met.K.Key.ordered c.args.key c.args.layout.width c.args.layout.height c.args.slots.now c.target_leaf-target.result st (c.target_leaf-target.ensures.target st) c.leaf_slots-leaf.result.now (c.leaf_slots-leaf.ensures.gives st.fits) c.args.bound c.first_in.result c.or_else.result c.first_in.ensures
    (past_given c.first_in.result _ _ _ (λ p. search rules) c.or_else.ensures)
