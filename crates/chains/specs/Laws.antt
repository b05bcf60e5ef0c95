-- What holds of following, on every disk.
use Rattle.std.specs.Prelude.{◌≡◌, ℕ, ◌+◌, []}
use Rattle.disk.specs.Geometry.{Place}
use Rattle.sector.specs.Source.{Disk}
use Rattle.chains.specs.declared.route.Route.{Route}
use Rattle.chains.specs.Chains.{chain_from}

-- a bound on the number of blocks that cuts no route short: with any larger one it comes to the same
abbrev pub BoundEnough : (Route → ℕ) → Type 0
BoundEnough bound = (d : Disk) (r : Route) (from p : Place) (n : ℕ) → chain_from d r (bound r + n) [] from p ≡ chain_from d r (bound r) [] from p
