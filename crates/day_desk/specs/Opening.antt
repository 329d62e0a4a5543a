-- What the desk of an opened yard tells.
use Rattle.std.specs.Prelude.{◌≡◌, ℕ, [], replicate}
use Rattle.ordered.specs.declared.index.OrderedIndex.{Ghosts}
use Rattle.logs.specs.declared.keys.Size.{Size}
use Rattle.logs.specs.declared.keys.Tag.{Tag}
use Rattle.logs.specs.declared.log.Rest.{Rest}
use Rattle.logs.specs.Orders.{tag_before, size_before}
use Rattle.log_yard.specs.Tells.{Tells}
use Rattle.array_tree.specs.declared.standing_tree.ArrayTree.{ArrayTree}
use Rattle.array_tree.specs.Standing.{row_in, room_in, Keeps}
use Rattle.day_desk.specs.declared.opening_desk.OpeningDesk.{OpeningDesk}
use Rattle.day_desk.specs.declared.open_desk.OpenDesk.{OpenDesk}
use Rattle.yard_desk.specs.Loading.{loaded, capacity}
use Rattle.day_desk.specs.Open.{no_log}

-- the two trees as ordered indexes
abbrev pub tag_tree : Ghosts (ArrayTree Tag Rest) Tag Rest
tag_tree = record { row = row_in 15; room = room_in 15; kept = Keeps tag_before 15 }

abbrev pub size_tree : Ghosts (ArrayTree Size ℕ) Size ℕ
size_tree = record { row = row_in 7; room = room_in 7; kept = Keeps size_before 7 }

-- The yard tells exactly the loaded logs, with no call yet, and has room for as many as the loading desk had.
pub record Opens (d : OpeningDesk) (d' : OpenDesk (ArrayTree Tag Rest) (ArrayTree Size ℕ)) : Type 0 where
  pub tells : Tells tag_tree size_tree (capacity d.loader) (loaded d.loader) [] d'.yard
  pub page : d'.page ≡ replicate 100 no_log
