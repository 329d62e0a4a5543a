use Rattle.std.proofs.Common.{length, refl, arith}
use borrow.Author.Rules.{scaled_Fits}
use Rattle.leaf_rows.proofs.Settled.{leaves_are, leaf_fits, next_fits, put_there, put_full, put_up, put_down}
use Rattle.leaf_rows.proofs.placing.put.Goals as goal

pub overflow_mul-next : goal.overflow_mul-next
overflow_mul-next g c = omega (arith, next_fits c.of-leaves.result c.args.area.now c.of-leaves.ensures.area c.WIDTH-width.result c.in-Some.r c.args.t c.WIDTH-width.ensures g.met.K.Key.narrowest c.if-r-t.true c.if-t-leaves.false)

pub offset_bounds-area-next : goal.offset_bounds-area-next
offset_bounds-area-next g c = scaled_Fits _ (length c.args.area.now) _ (next_fits c.of-leaves.result c.args.area.now c.of-leaves.ensures.area c.WIDTH-width.result c.in-Some.r c.args.t c.WIDTH-width.ensures g.met.K.Key.narrowest c.if-r-t.true c.if-t-leaves.false) c.well_formed.0.1

pub offset_bounds-area-next-then-r-t : goal.offset_bounds-area-next-then-r-t
offset_bounds-area-next-then-r-t g c = scaled_Fits _ (length c.args.area.now) _ (next_fits c.of-leaves.result c.args.area.now c.of-leaves.ensures.area c.WIDTH-width.result c.in-Some.r c.args.t c.WIDTH-width.ensures g.met.K.Key.narrowest c.if-r-t.true c.if-t-leaves.false) c.well_formed.0.1

pub offset_bounds-area-free : goal.offset_bounds-area-free
offset_bounds-area-free g c = scaled_Fits _ (length c.args.area.now) _ (omega (arith, leaf_fits c.of-leaves.result c.args.area.now c.of-leaves.ensures.area c.in-Some.r c.in-Some.ensures.bound, c.free_slot-free.ensures.high)) c.well_formed.0.1

pub overflow_add-free : goal.overflow_add-free
overflow_add-free g c = omega (arith, leaf_fits c.of-leaves.result c.args.area.now c.of-leaves.ensures.area c.in-Some.r c.in-Some.ensures.bound, c.free_slot-free.ensures.high)

pub offset_bounds-area-min : goal.offset_bounds-area-min
offset_bounds-area-min g c = scaled_Fits _ (length c.args.area.now) _ (omega (arith, leaf_fits c.of-leaves.result c.args.area.now c.of-leaves.ensures.area c.in-Some.r c.in-Some.ensures.bound, c.free_slot-free.ensures.high, c.min.ensures)) c.well_formed.0.1

pub slice_bounds-push_up-end : goal.slice_bounds-push_up-end
slice_bounds-push_up-end g c = omega (arith, leaf_fits c.of-leaves.result c.args.area.now c.of-leaves.ensures.area c.in-Some.r c.in-Some.ensures.bound, c.free_slot-free.ensures.high)

pub returns-then-t-leaves-clause-puts : goal.returns-then-t-leaves-clause-puts
returns-then-t-leaves-clause-puts g c = λ n lf bl. absurd (omega (arith, bl.within, c.if-t-leaves.true, c.of-leaves.ensures.count, leaves_are g.K.Key.WIDTH n c.args.area.now (omega (arith, g.met.K.Key.narrowest)) lf.long))

pub returns-in_default-clause-puts : goal.returns-in_default-clause-puts
returns-in_default-clause-puts g c = λ n lf bl. put_there g.met.K.Key.ordered g.met.K.Key.narrowest n c.args.area.now lf c.args.key c.args.value c.args.t bl c.of-leaves.result c.of-leaves.ensures _ c.leaf.ensures.gives _ c.in_default.ensures.gives

pub returns-in_default-nearest_free-clause-puts : goal.returns-in_default-nearest_free-clause-puts
returns-in_default-nearest_free-clause-puts g c = λ n lf bl. put_full g.met.K.Key.ordered g.met.K.Key.narrowest n c.args.area.now lf c.args.key c.args.value c.args.t bl c.of-leaves.result c.of-leaves.ensures _ c.leaf.ensures.gives c.in-Err.at c.in-Err.ensures.gives c.in_default-nearest_free.ensures.gives

pub returns-then-r-t-clause-puts : goal.returns-then-r-t-clause-puts
returns-then-r-t-clause-puts g c = λ n lf bl.
    put_down g.met.K.Key.ordered g.met.K.Key.narrowest n c.args.area.now lf c.args.key c.args.value c.args.t bl c.of-leaves.result c.of-leaves.ensures _ c.leaf.ensures.gives c.in-Err.at c.in-Err.ensures.gives
    c.in-Some.r c.in-Some.ensures.gives _ (refl, refl, refl) c.free_slot-free.result c.free_slot-free.ensures.gives c.WIDTH-width.result c.WIDTH-width.ensures _ refl c.index-area-next.result _ c.push_down.new.part c.if-r-t.true refl c.index-area-next.is c.push_down.ensures

pub returns-else-r-t-clause-puts : goal.returns-else-r-t-clause-puts
returns-else-r-t-clause-puts g c = λ n lf bl.
    put_up g.met.K.Key.ordered g.met.K.Key.narrowest n c.args.area.now lf c.args.key c.args.value c.args.t bl c.of-leaves.result c.of-leaves.ensures _ c.leaf.ensures.gives c.in-Err.at c.in-Err.ensures.gives
    c.in-Some.r c.in-Some.ensures.gives _ (refl, refl, refl) c.free_slot-free.result c.free_slot-free.ensures.gives c.WIDTH-width.result c.WIDTH-width.ensures _ refl c.min.result _ c.push_up.new.part c.if-r-t.false c.min.ensures refl c.push_up.ensures
