-- Whether the frame that was found takes a data block.
use Rattle.std.proofs.Common.{◌≡◌, ℕ, ◌≤◌, Bool, false, ltb, List, length, is_some, Some, None, Ok, Err, Option, refl, ap, ◌∙◌}
use Rattle.std.proofs.lemmas.Bool.{cond-false, le-ltb, false≢true}
use Rattle.std.specs.Option.{option_map}
use Rattle.disk.specs.declared.cause.Cause.TheVariants.{ShortFrame}
use Rattle.track.specs.Headers.{header}
use Rattle.track.specs.Reading.{at, sought}
use Rattle.track.specs.Room.{room, sought_room, room_for}

pub not_some : {X Y : Type 0} (f : X → Y) (o : Option X) → false ≡ is_some o → None ≡ option_map f o
not_some f None e = refl
not_some f (Some x) e = absurd (false≢true e)

pub roomy : (fs : List (List Bool)) (t s : ℕ) (f : List Bool) → sought fs t s ≡ at f → header f ≡ None → 2600 ≤ length f → room_for fs t s ≡ Ok tt
roomy fs t s f e h l =
    ap sought_room e ∙ ap (λ (o : Option (Bool × (ℕ × ℕ))). room o (length f)) h
    ∙ cond-false (ltb (length f) 2600) (Err ShortFrame) (Ok tt) (le-ltb (length f) 2600 l)
