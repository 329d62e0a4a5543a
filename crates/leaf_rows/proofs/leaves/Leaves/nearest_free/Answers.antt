use Rattle.std.proofs.Common.{◌+◌, ◌-◌, ◌<◌, sym, ◌∙◌, arith}
use Rattle.std.proofs.lemmas.Bool.{ltb-true, ltb-false}
use Rattle.leaf_rows.specs.Leaves.{count_at}
use Rattle.leaf_rows.proofs.Near.{near_by, tie_low, wider}
use Rattle.leaf_rows.proofs.leaves.Leaves.nearest_free.Goals.{else-far-self-via-then-far-self+else-is_free, else-far-self-via-else-far-self, else-far-t-via-then-far-t+else-is_free-2, else-far-t-via-else-far-t}
use Rattle.leaf_rows.proofs.leaves.Leaves.nearest_free.Goals as goal

pub loop-far-preserved : goal.loop-far-preserved
loop-far-preserved g c =
    let leaves = c.args.self.now in
    let t = c.args.t in
    let far = c.loop-far.far in record {
      within = omega (arith, c.loop-far.invariant.within, c.if-far-self-2.false);
      none = λ packed. wider (λ q. count_at g.K.Key.WIDTH leaves.area.now q < g.K.Key.WIDTH) leaves.count t far (c.loop-far.invariant.none packed)
          (elim c.else-far-self.branch [
            | else-far-self-via-then-far-self+else-is_free w ↦ λ l f. omega (arith, f, ltb-false (count_at g.K.Key.WIDTH leaves.area.now (t + far)) g.K.Key.WIDTH (sym (w.is_free.ensures (packed (t + far) l)) ∙ w.if-is_free.false))
            | else-far-self-via-else-far-self w ↦ λ l f. omega (arith, l, w.if-far-self.false)
          ])
          (elim c.else-far-t.branch [
            | else-far-t-via-then-far-t+else-is_free-2 w ↦ λ l f. omega (arith, f, ltb-false (count_at g.K.Key.WIDTH leaves.area.now (t - far)) g.K.Key.WIDTH (sym (w.is_free-then-far-t.ensures (packed (t - far) (omega (arith, c.requires)))) ∙ w.if-is_free-2.false))
            | else-far-t-via-else-far-t w ↦ λ l f. omega (arith, l, w.if-far-t.false)
          ]);
    }

pub returns-then-is_free-2-clause-gives : goal.returns-then-is_free-2-clause-gives
returns-then-is_free-2-clause-gives g c = λ packed.
    let leaves = c.args.self.now in
    let t = c.args.t in
    let far = c.loop-far.far in
    let high : t + far < leaves.count → count_at g.K.Key.WIDTH leaves.area.now (t + far) < g.K.Key.WIDTH → ⊥ =
    elim c.else-far-self.branch [
      | else-far-self-via-then-far-self+else-is_free w ↦ λ l f. omega (arith, f, ltb-false (count_at g.K.Key.WIDTH leaves.area.now (t + far)) g.K.Key.WIDTH (sym (w.is_free.ensures (packed (t + far) l)) ∙ w.if-is_free.false))
      | else-far-self-via-else-far-self w ↦ λ l f. omega (arith, l, w.if-far-self.false)
    ] in
    record {
      within = omega (arith, c.requires);
      free = ltb-true (count_at g.K.Key.WIDTH leaves.area.now (t - far)) g.K.Key.WIDTH (sym (c.is_free-then-far-t.ensures (packed (t - far) (omega (arith, c.requires)))) ∙ c.if-is_free-2.true);
      near = near_by (λ q. count_at g.K.Key.WIDTH leaves.area.now q < g.K.Key.WIDTH) leaves.count t far (c.loop-far.invariant.none packed) (t - far) (omega (arith, c.if-far-t.true));
      tie = tie_low (λ q. count_at g.K.Key.WIDTH leaves.area.now q < g.K.Key.WIDTH) leaves.count t far (c.loop-far.invariant.none packed) c.if-far-t.true high;
    }
