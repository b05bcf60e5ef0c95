-- What circles, windows on them and walks over their frames show.
use Rattle.std.specs.Prelude.{◌≡◌, ℕ, ◌-◌, ◌<◌, Bool, true, false, List, [], ◌∷◌, ◌++◌, length, take, Option, MatchOption}
use Rattle.track.specs.Circles.{turned, circle_of, start, frames_from}
use Rattle.track.specs.declared.circle.Circle.{Circle}
use Rattle.track.specs.declared.turned.Turned.{Turned}
use Rattle.track.specs.declared.window.Window.{Window}
use Rattle.track.specs.declared.window.Header.{Header}
use Rattle.track.specs.declared.window.Header.TheVariants.{Sound, Unsound}
use Rattle.track.specs.declared.frames.Frames.{Frames}

-- the bits of a circle
abbrev pub circle_bits : Circle → List Bool
circle_bits c = circle_of c.bits c.bytes.now

-- the bits of a turned circle
abbrev pub turned_bits : Turned → List Bool
turned_bits t = turned t.first (circle_bits t.circle)

-- the bits that a window shows
abbrev pub shown : Window → List Bool
shown w = take w.count (turned_bits w.turned)

-- whether a header is sound, and the track and sector that it names
abbrev pub said : Header → Bool × (ℕ × ℕ)
said (Sound p) = (true, p)
said (Unsound p) = (false, p)

-- the frames that are still to come
abbrev pub rest : Frames → List (List Bool)
rest s = frames_from (circle_bits s.circle) s.at (s.circle.bits - s.at)

-- the circle, and the frames that have come
abbrev pub whole : Frames → List Bool
whole s = circle_bits s.circle

abbrev pub passed : Frames → List (List Bool)
passed s = frames_from (circle_bits s.circle) 0 s.at

-- the next frame is w
pub record Next (s : Frames) (w : Window) (s' : Frames) : Type 0 where
  pub shows : rest s ≡ shown w ∷ rest s'
  pub begins : start (turned w.turned.first (whole s)) ≡ true
  pub skips : frames_from (whole s) 0 w.turned.first ≡ passed s
  pub passes : passed s' ≡ passed s ++ shown w ∷ []
  pub stays : whole s' ≡ whole s
  pub near : w.turned.first < length (whole s)

-- the next frame comes, or none is left
abbrev pub GivesNext : Frames → Option Window → Frames → Type 0
GivesNext s r s' = MatchOption r (rest s ≡ []) (λ w. Next s w s')
