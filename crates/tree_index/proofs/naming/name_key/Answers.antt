use Rattle.std.proofs.Common.{◌≡◌, is_some, Some, None, Option, refl}
use Rattle.std.specs.Option.{unwrap_or}
use Rattle.ordered.specs.declared.slot.Slot.{Slot}
use Rattle.tree_index.specs.Index.{Names}
use Rattle.tree_index.proofs.naming.name_key.Goals as goal

named : {K R : Type 0} (s : Slot K R) (o : Option K) (k : K) → s.filled ≡ is_some o → s.key ≡ unwrap_or o k → Names s o
named s None k f e = f
named s (Some x) k f e = (f, e)

pub returns : goal.returns
returns g c =
    let s : Slot g.row.K.Denot g.row.R.Denot = record { filled = c.is_some.result; key = c.unwrap_or.result; value = c.index-slots-at.result.value } in
    (s, refl, named s c.args.key c.index-slots-at.result.key c.is_some.ensures c.unwrap_or.ensures)
