use Rattle.std.proofs.Common.{◌≡◌, length-take, arith, rules}
use Rattle.array_tree.specs.Filling.{slot_count}
use Rattle.array_tree.proofs.Blanks.{blanked_first}
use Rattle.array_tree.proofs.blanking.blank_tree.Goals as goal

pub returns : goal.returns
returns g c =
    let e : c.map_or-end.result ≡ slot_count c.args.layout = search rules in
    blanked_first _ _ c.args.slots.now c.blank.new.part e c.blank.ensures (omega (arith, c.blank.auto.part, length-take c.map_or-end.result c.args.slots.now, c.requires, e)) c.requires
