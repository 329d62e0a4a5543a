-- The limits of a log's numbers.
use Rattle.std.specs.Prelude.{ℕ, ◌≤◌, Bool, ◌&&◌, nat_le}
use Rattle.logs.specs.declared.limits.Limits.{Limits}
use Rattle.logs.specs.declared.log.Body.{Body}

abbrev pub tags : Limits
tags = record { low = 1; high = 4294967295 }

-- in millimetres
abbrev pub diameters : Limits
diameters = record { low = 80; high = 1200 }

-- in centimetres
abbrev pub lengths : Limits
lengths = record { low = 100; high = 1500 }

abbrev pub bays : Limits
bays = record { low = 1; high = 200 }

-- from the least to the largest
abbrev pub allows : Limits → ℕ → Bool
allows x n = nat_le x.low n && nat_le n x.high

abbrev pub Within : Limits → ℕ → Type 0
Within x n = (x.low ≤ n) × (n ≤ x.high)

abbrev pub TagOk : ℕ → Type 0
TagOk = Within tags

abbrev pub DiameterOk : ℕ → Type 0
DiameterOk = Within diameters

abbrev pub LengthOk : ℕ → Type 0
LengthOk = Within lengths

abbrev pub BayOk : ℕ → Type 0
BayOk = Within bays

abbrev pub BodyOk : Body → Type 0
BodyOk x = DiameterOk x.diameter × LengthOk x.length × BayOk x.bay
