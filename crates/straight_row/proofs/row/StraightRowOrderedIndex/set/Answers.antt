use Rattle.std.proofs.Common.{◌-◌, arith}
use borrow.Rule.Slice.PartMut.{same_len_mid}
use Rattle.ordered.proofs.Rows.{order}
use Rattle.straight_row.specs.Index.{Keeps}
use Rattle.straight_row.proofs.Moves.{set_done, changes, same_count, unmoved_slots}
use Rattle.straight_row.proofs.row.StraightRowOrderedIndex.set.Goals as goal

pub returns : goal.returns
returns g c =
    let o = g.met.K.Key.ordered in
    let s = c.args.self.now in
    let r = c.replace.result in
    let m = c.end-end.result - 0 in
    let e = λ (k : Keeps g.K.Key.before s). set_done s.slots.now s.count k o c.args.key m c.replace.new.part (omega (arith, c.end-end.ensures)) c.replace.auto.part c.args.value r c.replace.ensures in
    record { meaning = changes s _ _ _ s.count r e (same_len_mid 0 m s.slots.now c.replace.new.part c.replace.auto.part) (same_count r s.count) (unmoved_slots r s _); slots = λ k. (e k).leaves }
