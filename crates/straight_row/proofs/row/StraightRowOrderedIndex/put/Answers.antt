use Rattle.std.proofs.Common.{◌+◌, ◌-◌, Ok, Err, refl, arith}
use borrow.Rule.Slice.PartMut.{same_len_mid}
use Rattle.ordered.proofs.Rows.{order}
use Rattle.ordered.specs.declared.fault.Fault.TheVariants.{Present, Full}
use Rattle.slot_rows.proofs.Looks.{found, missing}
use Rattle.straight_row.specs.Index.{Keeps}
use Rattle.straight_row.proofs.Moves.{put_present, put_full, put_done, changes}
use Rattle.straight_row.proofs.row.StraightRowOrderedIndex.put.Goals as goal

pub returns-in_default-clause-meaning : goal.returns-in_default-clause-meaning
returns-in_default-clause-meaning g c =
    let o = g.met.K.Key.ordered in
    let s = c.args.self.now in
    let part = c.held.result.now in
    changes s _ _ _ (s.count + 1) (Err Present) (λ k. put_present s.slots.now s.count k o c.args.key _ _ (found o c.args.key _ part k.ascending (c.held.ensures.row k) _ c.in_default.ensures.gives).0) refl refl (λ _. refl)

pub returns-then-self-countable-clause-meaning : goal.returns-then-self-countable-clause-meaning
returns-then-self-countable-clause-meaning g c =
    let o = g.met.K.Key.ordered in
    let s = c.args.self.now in
    let part = c.held.result.now in
    changes s _ _ _ (s.count + 1) (Err Full) (λ k. put_full s.slots.now s.count k o c.args.key _ _ (missing o c.args.key _ part k.ascending (c.held.ensures.row k) _ c.in-Err.ensures.gives).0 (omega (arith, c.countable.ensures, c.if-self-countable.true))) refl refl (λ _. refl)

pub returns : goal.returns
returns g c =
    let o = g.met.K.Key.ordered in
    let s = c.args.self.now in
    let e = λ (k : Keeps g.K.Key.before s).
    let m = missing o c.args.key _ c.held.result.now k.ascending (c.held.ensures.row k) c.in-Err.at c.in-Err.ensures.gives in
    put_done s.slots.now s.count k o c.args.key c.args.value _ c.in-Err.at c.push_up.new.part (refl, refl, refl) m.0 m.1 (omega (arith, c.countable.ensures, c.if-self-countable.false)) c.push_up.ensures in
    record { meaning = changes s _ _ _ (s.count + 1) (Ok (tt {0})) e (same_len_mid c.in-Err.at (s.count + 1 - c.in-Err.at) s.slots.now c.push_up.new.part c.push_up.auto.part) refl (λ _. tt); slots = λ k. (e k).leaves }
