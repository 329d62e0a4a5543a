use Rattle.tree_search.proofs.Splits.{find_in}
use Rattle.tree_search.proofs.seek.find.Goals as goal

pub returns : goal.returns
returns g c = λ st.
    find_in g.met.K.Key.ordered c.args.key c.args.layout.width c.args.layout.height c.args.slots.now c.target_leaf-target.result st (c.target_leaf-target.ensures.target st) _ (c.leaf_slots.ensures.gives st.fits) _ c.value_in.ensures
