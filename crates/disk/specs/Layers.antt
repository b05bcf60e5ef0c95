-- The number of each layer.
use Rattle.std.specs.Prelude.{ℕ}
use Rattle.disk.specs.declared.layer.Layer.{Layer}
use Rattle.disk.specs.declared.layer.Layer.TheVariants.{Image, Track, Sector, Volume, Caller}

abbrev pub layer_number : Layer → ℕ
layer_number Image = 1
layer_number Track = 2
layer_number Sector = 3
layer_number Volume = 4
layer_number Caller = 5
