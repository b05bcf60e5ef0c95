-- Refusals by their cause, layer and place.
use Rattle.disk.specs.declared.cause.Cause.{Cause}
use Rattle.disk.specs.declared.layer.Layer.{Layer}
use Rattle.disk.specs.declared.layer.Layer.TheVariants.{Image, Track, Volume, Caller}
use Rattle.disk.specs.declared.refusal.Refusal.{Refusal}
use Rattle.disk.specs.Geometry.{Place}
use Rattle.std.specs.Prelude.{ℕ}

abbrev pub refusal : Cause → Layer → Place → Refusal
refusal c l p = record { cause = c; layer = l; place = p }

-- a file that is no image of its kind
abbrev pub by_image : Cause → Refusal
by_image c = refusal c Image (0, 0)

-- a fault of the call itself, at no block
abbrev pub by_caller : Cause → Refusal
by_caller c = refusal c Caller (0, 0)

-- a fault of a track, at its sector 0
abbrev pub by_track : Cause → ℕ → Refusal
by_track c t = refusal c Track (t, 0)

-- a fault of the volume, found at a block, or at 0/0 for none
abbrev pub by_volume : Cause → Place → Refusal
by_volume c p = refusal c Volume p
