-- Nothing stands against opening the yard.
use Rattle.std.proofs.Common.{◌≡◌, ℕ, ◌≤◌, min, [], length, replicate, sym, ◌∙◌, subst, ⊎_elim, arith}
use Rattle.logs.specs.declared.keys.Size.{Size}
use Rattle.logs.specs.declared.keys.Tag.{Tag}
use Rattle.logs.specs.declared.log.Rest.{Rest}
use Rattle.logs.specs.Orders.{tag_before}
use Rattle.log_yard.specs.declared.yard.Yard.{Yard}
use Rattle.log_yard.specs.Opens.{AllFit, OpenDue}
use Rattle.log_yard.specs.Tells.{Tells}
use Rattle.log_yard.proofs.Opened.{empty_row}
use Rattle.array_tree.specs.declared.standing_tree.ArrayTree.{ArrayTree}
use Rattle.array_tree.specs.Standing.{Closed, height_of, row_in, room_in}
use Rattle.array_tree.specs.Trees.{row_of}
use Rattle.array_tree.proofs.Answered.{orderly}
use Rattle.yard_desk.specs.Loading.{loaded, capacity}
use Rattle.day_desk.specs.declared.opening_desk.OpeningDesk.{OpeningDesk}
use Rattle.day_desk.specs.declared.open_desk.OpenDesk.{OpenDesk}
use Rattle.day_desk.specs.Open.{no_log}
use Rattle.day_desk.specs.Opening.{tag_tree, size_tree, Opens}

module _ (d : OpeningDesk) (x : ArrayTree Tag Rest) (z : ArrayTree Size ℕ) (tags : Closed d.loader.tags x) (sizes : Closed d.sizes z) where
  empty : row_in 7 z ≡ []
  empty = sizes.row ∙ empty_row (row_of d.sizes) (sym d.sizes.fills.counted ∙ d.empty)

  roomy : room_in 15 x ≤ room_in 7 z
  roomy = omega (arith, tags.room, sizes.room, d.roomy)

  within : length (row_in 15 x) ≤ room_in 15 x
  within = (orderly tag_before 15 (height_of 15 x) x.slots.now x.room x.count tags.keeps).within

  pub never_refused : (n : ℕ) → OpenDue tag_tree size_tree x z n → ⊥
  never_refused n = ⊎_elim
      (λ not_empty. not_empty.1 empty)
      (⊎_elim
      (λ too_many. omega (arith, too_many.2, roomy, within))
      (λ outside. outside.3 (subst AllFit (sym tags.row) d.fit)))

  capped : min (room_in 15 x) (room_in 7 z) ≡ capacity d.loader
  capped = omega (arith, tags.room, roomy)

  pub opens : (v : Yard (ArrayTree Tag Rest) (ArrayTree Size ℕ)) (o : OpenDesk (ArrayTree Tag Rest) (ArrayTree Size ℕ)) → o.yard ≡ v → o.page ≡ replicate 100 no_log
      → Tells tag_tree size_tree (min (room_in 15 x) (room_in 7 z)) (row_in 15 x) [] v → Opens d o
  opens v o e p t = record {
    tells = subst (Tells tag_tree size_tree (capacity d.loader) (loaded d.loader) []) (sym e) (subst (λ ls. Tells tag_tree size_tree (capacity d.loader) ls [] v) tags.row (subst (λ n. Tells tag_tree size_tree n (row_in 15 x) [] v) capped t));
    page = p;
  }
