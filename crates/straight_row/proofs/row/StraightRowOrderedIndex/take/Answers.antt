use Rattle.std.proofs.Common.{◌-◌, Ok, Err, refl, arith}
use borrow.Rule.Slice.PartMut.{same_len_mid}
use Rattle.std.proofs.lemmas.Result.{err_from_is_err_and}
use Rattle.ordered.proofs.Rows.{order}
use Rattle.straight_row.specs.Index.{Keeps}
use Rattle.straight_row.proofs.Moves.{take_done, changes, unmoved_slots}
use Rattle.straight_row.proofs.row.StraightRowOrderedIndex.take.Goals as goal

pub returns-in_err-remove : goal.returns-in_err-remove
returns-in_err-remove g c =
    let o = g.met.K.Key.ordered in
    let s = c.args.self.now in
    let p = err_from_is_err_and c.from_residual.result c.from_residual.ensures.1 in
    let f = c.in_err-remove.field-0.0 in
    let m = c.end-end.result - 0 in
    let e = λ (k : Keeps g.K.Key.before s). take_done s.slots.now s.count k o c.args.key m c.remove.new.part (omega (arith, c.end-end.ensures)) c.remove.auto.part (Err f) c.in_err-remove.ensures.edits in
    rw (p.1, p.2) (record { meaning = changes s _ _ _ (s.count - 1) (Err f) e (same_len_mid 0 m s.slots.now c.remove.new.part c.remove.auto.part) refl (unmoved_slots {X = Unit {0}} (Err f) s _); slots = λ k. (e k).leaves })

pub returns : goal.returns
returns g c =
    let o = g.met.K.Key.ordered in
    let s = c.args.self.now in
    let m = c.end-end.result - 0 in
    let e = λ (k : Keeps g.K.Key.before s). take_done s.slots.now s.count k o c.args.key m c.remove.new.part (omega (arith, c.end-end.ensures)) c.remove.auto.part (Ok c.in_ok-remove.field-0) c.in_ok-remove.ensures.edits in
    record { meaning = changes s _ _ _ (s.count - 1) (Ok (tt {0})) e (same_len_mid 0 m s.slots.now c.remove.new.part c.remove.auto.part) refl (λ _. tt); slots = λ k. (e k).leaves }
