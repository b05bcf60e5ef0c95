-- A search for a block, frame by frame.
use Rattle.std.proofs.Common.{◌≡◌, ℕ, Bool, true, false, cond, ◌||◌, List, [], ◌∷◌, ◌++◌, Some, None, Option, sym, refl, ap, ◌∙◌}
use Rattle.std.proofs.lemmas.Bool.{true≢false, false≢true}
use Rattle.std.proofs.Math.Bool.{or_assoc}
use Rattle.std.specs.Option.{is_some, option_map}
use Rattle.track.specs.Headers.{header, sound_head, unsound_head}
use Rattle.track.specs.Reading.{any, head_or, linked, from_hits, hits, sought, Sought, missing}
use Rattle.disk.specs.declared.cause.Cause.TheVariants.{TwoHeaders}

-- the data frame that was found, as a hit; which header it follows does not matter
abbrev pub met : Option (List Bool) → List (List Bool × List Bool)
met None = []
met (Some d) = ([], d) ∷ []

-- what is sought, by what was found, and the frames to come
abbrev pub seeking : ℕ → ℕ → List Bool → Option (List Bool) → Bool → List (List Bool) → Sought
seeking t s first o u fs = from_hits (met o ++ hits t s (linked first fs)) (u || any (λ g. unsound_head t s (header g)) fs)

pub seek_start : (t s : ℕ) (f : List Bool) (fs gs : List (List Bool)) → gs ≡ f ∷ fs → sought gs t s ≡ seeking t s f None false gs
seek_start t s f fs gs e =
    ap (λ (l : List (List Bool)). sought l t s) e ∙ ap (seeking t s f None false) (sym e)

one_hit : (x d : List Bool) (l : List (List Bool × List Bool)) (u v : Bool) → from_hits ((x, d) ∷ l) u ≡ from_hits (([], d) ∷ l) v
one_hit x d [] u v = refl
one_hit x d (p ∷ l) u v = refl

module _ (t s : ℕ) (first x : List Bool) (gs fs : List (List Bool)) (e : gs ≡ x ∷ fs) where
  -- a frame that is no sound header of the block
  pub seek_miss : (o : Option (List Bool)) (u v : Bool) → sound_head t s (header x) ≡ false → (u || unsound_head t s (header x)) ≡ v → seeking t s first o u gs ≡ seeking t s first o v fs
  seek_miss o u v h g =
      ap (seeking t s first o u) e
      ∙ ap (λ (b : Bool). from_hits (met o ++ cond b ((x, head_or first fs) ∷ hits t s (linked first fs)) (hits t s (linked first fs))) (u || (unsound_head t s (header x) || any (λ g. unsound_head t s (header g)) fs))) h
      ∙ ap (from_hits (met o ++ hits t s (linked first fs))) (sym (or_assoc u (unsound_head t s (header x)) (any (λ g. unsound_head t s (header g)) fs)) ∙ ap (λ (b : Bool). b || any (λ g. unsound_head t s (header g)) fs) g)

  -- the first sound header
  seek_hit : (u : Bool) → sound_head t s (header x) ≡ true → seeking t s first None u gs ≡ seeking t s first (Some (head_or first fs)) u fs
  seek_hit u h =
      ap (seeking t s first None u) e
      ∙ ap (λ (b : Bool). from_hits (cond b ((x, head_or first fs) ∷ hits t s (linked first fs)) (hits t s (linked first fs))) (u || (unsound_head t s (header x) || any (λ g. unsound_head t s (header g)) fs))) h
      ∙ one_hit x (head_or first fs) (hits t s (linked first fs)) _ _

  pub seek_first : (o : Option (List Bool)) (u : Bool) → sound_head t s (header x) ≡ true → false ≡ is_some o → seeking t s first o u gs ≡ seeking t s first (Some (head_or first fs)) u fs
  seek_first None u h f = seek_hit u h
  seek_first (Some d) u h f = absurd (false≢true f)

  -- the second
  seek_two : (d : List Bool) (u : Bool) → sound_head t s (header x) ≡ true → seeking t s first (Some d) u gs ≡ missing TwoHeaders
  seek_two d u h =
      ap (seeking t s first (Some d) u) e
      ∙ ap (λ (b : Bool). from_hits (([], d) ∷ cond b ((x, head_or first fs) ∷ hits t s (linked first fs)) (hits t s (linked first fs))) (u || (unsound_head t s (header x) || any (λ g. unsound_head t s (header g)) fs))) h

  pub seek_some : (o : Option (List Bool)) (u : Bool) → sound_head t s (header x) ≡ true → true ≡ is_some o → seeking t s first o u gs ≡ missing TwoHeaders
  seek_some None u h f = absurd (true≢false f)
  seek_some (Some d) u h f = seek_two d u h

pub kept : {X Y : Type 0} (f : X → Y) (o : Option X) → is_some o ≡ is_some (option_map f o)
kept f None = refl
kept f (Some x) = refl
