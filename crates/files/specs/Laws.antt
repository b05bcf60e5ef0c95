-- What holds of extracting, on every disk.
use Rattle.std.specs.Prelude.{◌≡◌, ℕ, List}
use Rattle.disk.specs.Geometry.{Place}
use Rattle.sector.specs.Source.{Disk}
use Rattle.files.specs.Files.{extracted}
use Rattle.files.specs.Paths.{Agree}

-- extracting looks at no block but those of a path: on another disk that has the same blocks there it answers the same
abbrev pub PathOnly : (Disk → List ℕ → List Place) → Type 0
PathOnly path = (d e : Disk) (name : List ℕ) → Agree d e (path d name) → extracted e name ≡ extracted d name
