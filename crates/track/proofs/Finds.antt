-- Headers that name a block, and the place of its data: the steps of the loop of `find`, most of which `search` cites by itself.
use Rattle.std.proofs.Common.{◌≡◌, ℕ, suc, ◌-◌, ◌<◌, ◌≤◌, Bool, true, false, cond, not, ◌&&◌, ◌||◌, List, [], ◌∷◌, ◌++◌, length, Some, None, Option, Result, sym, refl, ap, ◌∙◌, subst, arith}
use Rattle.std.proofs.lemmas.Bool.{and_from, and_right, false≢true}
use Rattle.track.specs.Circles.{turned, start, frames_from, frames}
use Rattle.track.specs.Headers.{header, place_is, sound_head, unsound_head, byte_at}
use Rattle.track.specs.Reading.{head_or, sought, at, missing}
use Rattle.track.proofs.Seeks.{seeking, seek_start, seek_miss, seek_first, seek_some, kept}
use Rattle.disk.specs.declared.cause.Cause.{Cause}
use Rattle.disk.specs.declared.cause.Cause.TheVariants.{BadHeader, NoHeader, TwoHeaders}
use Rattle.track.specs.declared.window.Header.{Header}
use Rattle.track.specs.Shown.{shown, said, rest, whole, passed, Next, GivesNext}
use Rattle.track.specs.declared.window.Window.{Window}
use Rattle.track.specs.declared.frames.Frames.{Frames}
use Rattle.track.proofs.Circles.{length_bits}
use Rattle.std.specs.Option.{unwrap_or, option_map, ok_or, is_some, IfSome}
use Rattle.std.specs.Result.{MatchResult}
use Rattle.std.proofs.Math.Bool.{or-false, or-true}
use Rattle.track.specs.Places.{last_or, data_place}
use Rattle.track.proofs.Turns.{frames_turned, frames_split}
use Rattle.std.proofs.lemmas.List.{append-nil}

-- the place on the circle
abbrev pub Placed : List Bool → ℕ → ℕ → ℕ → Type 0
Placed c t s p = (p < length c) × (data_place c t s p ≡ true)

last_push : {X : Type 0} (d x : X) (xs : List X) → last_or d (xs ++ x ∷ []) ≡ x
last_push d x [] = refl
last_push d x (y ∷ xs) = last_push y x xs

pub last_over : {X : Type 0} (d y : X) (xs ys : List X) → last_or d (xs ++ y ∷ ys) ≡ last_or y ys
last_over d y [] ys = refl
last_over d y (x ∷ xs) ys = last_over x y xs ys

sound_last : (t s : ℕ) (xs ys : List (List Bool)) → sound_head t s (header (last_or [] ys)) ≡ true → sound_head t s (header (last_or [] (xs ++ ys))) ≡ true
unfolding byte_at
sound_last t s xs [] e = absurd (false≢true e)
sound_last t s xs (y ∷ ys) e = ap (λ (f : List Bool). sound_head t s (header f)) (last_over [] y xs ys) ∙ e

pub place_known : (c : List Bool) (t s w : ℕ) (ps : List (List Bool)) → w < length c → start (turned w c) ≡ true → frames_from c 0 w ≡ ps → sound_head t s (header (last_or [] ps)) ≡ true → Placed c t s w
place_known c t s w ps l b e h = (
  l,
  and_from (start (turned w c)) (sound_head t s (header (last_or [] (frames (turned w c))))) b
      (ap (λ (fs : List (List Bool)). sound_head t s (header (last_or [] fs))) (frames_turned w c (omega arith) ∙ ap (λ (fs : List (List Bool)). frames_from c w (length c - w) ++ fs) e)
      ∙ sound_last t s (frames_from c w (length c - w)) ps h),
)

module _ (t s : ℕ) (h : Header) {o : Option (Bool × (ℕ × ℕ))} (e : Some (said h) ≡ o) where
  -- a sound header that names the block
  pub named_sound : {p q : ℕ × ℕ} → said h ≡ (true, p) → q ≡ p → true ≡ place_is t s q → sound_head t s o ≡ true
  named_sound d same n = sym (ap (sound_head t s) e) ∙ ap (λ x. x.0 && place_is t s x.1) d ∙ sym (n ∙ ap (place_is t s) same)

  -- an unsound one
  pub named_unsound : {p q : ℕ × ℕ} → said h ≡ (false, p) → q ≡ p → true ≡ place_is t s q → (sound_head t s o ≡ false) × (unsound_head t s o ≡ true)
  named_unsound d same n = (
    sym (ap (sound_head t s) e) ∙ ap (λ x. x.0 && place_is t s x.1) d,
    sym (ap (unsound_head t s) e) ∙ ap (λ x. not x.0 && place_is t s x.1) d ∙ sym (n ∙ ap (place_is t s) same),
  )

  -- one that names another block
  pub named_other : {b : Bool} {p q : ℕ × ℕ} → said h ≡ (b, p) → q ≡ p → false ≡ place_is t s q → (sound_head t s o ≡ false) × (unsound_head t s o ≡ false)
  named_other {b} {p} {q} d same n =
      let no = sym (n ∙ ap (place_is t s) same) in (
        sym (ap (sound_head t s) e) ∙ ap (λ x. x.0 && place_is t s x.1) d ∙ and_right b (place_is t s p) no,
        sym (ap (unsound_head t s) e) ∙ ap (λ x. not x.0 && place_is t s x.1) d ∙ and_right (not b) (place_is t s p) no,
      )

-- a frame that is no header
pub named_none : (t s : ℕ) {o : Option (Bool × (ℕ × ℕ))} → None ≡ o → (sound_head t s o ≡ false) × (unsound_head t s o ≡ false)
named_none t s e = (sym (ap (sound_head t s) e), sym (ap (unsound_head t s) e))

-- the first frame follows the last
pub place_round : (c : List Bool) (t s w : ℕ) → w < length c → start (turned w c) ≡ true → frames_from c 0 w ≡ [] → sound_head t s (header (last_or [] (frames c))) ≡ true → Placed c t s w
place_round c t s w l b e h =
    let B : List (List Bool) = frames_from c w (length c - w) in
    let m : w ≤ length c = omega arith in (
      l,
      and_from (start (turned w c)) (sound_head t s (header (last_or [] (frames (turned w c))))) b
          (ap (λ (fs : List (List Bool)). sound_head t s (header (last_or [] fs)))
          (frames_turned w c m ∙ ap (λ (fs : List (List Bool)). B ++ fs) e ∙ append-nil B ∙ sym (frames_split w c m ∙ ap (λ (fs : List (List Bool)). fs ++ B) e))
          ∙ h),
    )

pub all_passed : (f : Frames) → rest f ≡ [] → passed f ≡ frames (whole f)
all_passed f e =
    let c : List Bool = whole f in
    let l = length_bits f.circle in
    let h = f.placed in
    sym (frames_split f.at c (omega arith) ∙ ap (λ (m : ℕ). passed f ++ frames_from c f.at (m - f.at)) l ∙ ap (λ (fs : List (List Bool)). passed f ++ fs) e ∙ append-nil (passed f))

-- where a search for t/s stands once frames up to those of f have come, of which the circle's first is `first`
pub record Seek (c : List Bool) (t s : ℕ) (first : Window) (o : Option Window) (u : Bool) (f : Frames) : Type 0 where
  pub seeks : sought (frames c) t s ≡ seeking t s (shown first) (option_map shown o) u (rest f)
  pub round : whole f ≡ c
  pub known : IfSome o (λ w. Placed c t s w.turned.first)

-- the circle's first frame
pub record First (c : List Bool) (first : Window) : Type 0 where
  pub near : first.turned.first < length c
  pub begins : start (turned first.turned.first c) ≡ true
  pub alone : frames_from c 0 first.turned.first ≡ []

pub is_first : (c : List Bool) (f f' : Frames) (first : Window) (r : Option Window) → whole f ≡ c → passed f ≡ [] → GivesNext f r f' → r ≡ Some first → First c first
is_first c f f' first r e p n g =
    let m : Next f first f' = subst (λ x. GivesNext f x f') g n in
    record {
      near = (let l = ap length e in let q = m.near in omega arith);
      begins = ap (λ (z : List Bool). start (turned first.turned.first z)) (sym e) ∙ m.begins;
      alone = ap (λ (z : List Bool). frames_from z 0 first.turned.first) (sym e) ∙ m.skips ∙ p;
    }

module _ {c : List Bool} {t s : ℕ} {first : Window} {o : Option Window} {u : Bool} {f f' : Frames} {x : Window} (S : Seek c t s first o u f) (n : Next f x f') where
  seek_on : (v : Bool) → sound_head t s (header (shown x)) ≡ false → (u || unsound_head t s (header (shown x))) ≡ v → Seek c t s first o v f'
  seek_on v h g =
      record {
        seeks = S.seeks ∙ seek_miss t s (shown first) (shown x) (rest f) (rest f') n.shows (option_map shown o) u v h g;
        round = n.stays ∙ S.round;
        known = S.known;
      }

  -- x is no header of the block
  pub seek_other : (sound_head t s (header (shown x)) ≡ false) × (unsound_head t s (header (shown x)) ≡ false) → Seek c t s first o u f'
  seek_other h = seek_on u h.0 (ap (λ (b : Bool). u || b) h.1 ∙ or-false u)

  -- an unsound one
  pub seek_unsound : (sound_head t s (header (shown x)) ≡ false) × (unsound_head t s (header (shown x)) ≡ true) → Seek c t s first o true f'
  seek_unsound h = seek_on true h.0 (ap (λ (b : Bool). u || b) h.1 ∙ or-true u)

  -- a second sound one
  pub seek_second : sound_head t s (header (shown x)) ≡ true → true ≡ is_some o → sought (frames c) t s ≡ missing TwoHeaders
  seek_second h g =
      S.seeks ∙ seek_some t s (shown first) (shown x) (rest f) (rest f') n.shows (option_map shown o) u h (g ∙ kept shown o)

  sound_last_come : sound_head t s (header (shown x)) ≡ true → sound_head t s (header (last_or [] (passed f'))) ≡ true
  sound_last_come h =
      ap (λ (l : List (List Bool)). sound_head t s (header (last_or [] l))) n.passes
      ∙ ap (λ (g : List Bool). sound_head t s (header g)) (last_push [] (shown x) (passed f)) ∙ h

  -- the frame after it is the next of those to come, or the first of all
  follows : (w : Window) (r : Option Window) (g : Frames) → First c first → sound_head t s (header (shown x)) ≡ true → GivesNext f' r g → w ≡ unwrap_or r first
      → (shown w ≡ head_or (shown first) (rest f')) × Placed c t s w.turned.first
  follows w None g F h m e =
      let all : passed f' ≡ frames c = all_passed f' m ∙ ap frames (n.stays ∙ S.round) in (
        ap shown e ∙ sym (ap (head_or (shown first)) m),
        subst (λ (y : Window). Placed c t s y.turned.first) (sym e)
            (place_round c t s first.turned.first F.near F.begins F.alone (ap (λ (l : List (List Bool)). sound_head t s (header (last_or [] l))) (sym all) ∙ sound_last_come h)),
      )
  follows w (Some v) g F h m e =
      let k : whole f' ≡ c = n.stays ∙ S.round in (
        ap shown e ∙ sym (ap (head_or (shown first)) m.shows),
        subst (λ (y : Window). Placed c t s y.turned.first) (sym e)
            (place_known c t s v.turned.first (passed f')
            (let l = ap length k in let q = m.near in omega arith)
            (ap (λ (z : List Bool). start (turned v.turned.first z)) (sym k) ∙ m.begins)
            (ap (λ (z : List Bool). frames_from z 0 v.turned.first) (sym k) ∙ m.skips)
            (sound_last_come h)),
      )

  -- x is the first sound one, and w the frame after it
  pub seek_found : (w : Window) (r : Option Window) (g : Frames) → First c first → sound_head t s (header (shown x)) ≡ true → false ≡ is_some o → GivesNext f' r g → w ≡ unwrap_or r first
      → Seek c t s first (Some w) u f'
  seek_found w r g F h l m e =
      let a = follows w r g F h m e in
      record {
        seeks = S.seeks
            ∙ seek_first t s (shown first) (shown x) (rest f) (rest f') n.shows (option_map shown o) u h (l ∙ kept shown o)
            ∙ ap (λ (d : List Bool). seeking t s (shown first) (Some d) u (rest f')) (sym a.0);
        round = n.stays ∙ S.round;
        known = a.1;
      }

-- where a search stands that has looked one frame ahead: `r` is what came after the frames up to those of `before`
pub record Ahead (c : List Bool) (t s : ℕ) (first : Window) (o : Option Window) (u : Bool) (r : Option Window) (f : Frames) : Type 0 where
  pub before : Frames
  pub seek : Seek c t s first o u before
  pub gives : GivesNext before r f

-- how many frames are left to be looked at
abbrev pub left : Option Window → Frames → ℕ
left None f = 0
left (Some w) f = suc (length (rest f))

fewer : (f f' : Frames) (r : Option Window) → GivesNext f r f' → left r f' < suc (length (rest f))
fewer f f' None g = omega arith
fewer f f' (Some w) g = let e = ap length g.shows in omega arith

pub ahead_fewer : (r r' : Option Window) (f f' : Frames) (x : Window) → r ≡ Some x → GivesNext f r' f' → left r' f' < left r f
ahead_fewer r r' f f' x e g = subst (λ (q : Option Window). left r' f' < left q f) (sym e) (fewer f f' r' g)

-- the search begins: the first frame has come
pub ahead_start : (c : List Bool) (t s : ℕ) (f f' : Frames) (first : Window) → rest f ≡ frames c → whole f ≡ c → Next f first f' → Ahead c t s first None false (Some first) f'
ahead_start c t s f f' first e w n =
    record {
      before = f;
      seek = record {
        seeks = seek_start t s (shown first) (rest f') (frames c) (sym e ∙ n.shows) ∙ ap (seeking t s (shown first) None false) (sym e);
        round = w;
        known = tt;
      };
      gives = n;
    }

came : {c : List Bool} {t s : ℕ} {first : Window} {o : Option Window} {u : Bool} {r : Option Window} {f : Frames} {x : Window} (A : Ahead c t s first o u r f) → r ≡ Some x → Next A.before x f
came {f = f} A e = subst (λ (q : Option Window). GivesNext A.before q f) e A.gives

-- x is looked at, and r' comes next
module _ {c : List Bool} {t s : ℕ} {first : Window} {o : Option Window} {u : Bool} {r r' : Option Window} {f f' : Frames} {x : Window} (A : Ahead c t s first o u r f) (e : r ≡ Some x) (g : GivesNext f r' f') where
  step : {o' : Option Window} {v : Bool} → Seek c t s first o' v f → Ahead c t s first o' v r' f'
  step S = record { before = f; seek = S; gives = g }

  pub ahead_other : (sound_head t s (header (shown x)) ≡ false) × (unsound_head t s (header (shown x)) ≡ false) → Ahead c t s first o u r' f'
  ahead_other h = step (seek_other A.seek (came A e) h)

  pub ahead_unsound : (sound_head t s (header (shown x)) ≡ false) × (unsound_head t s (header (shown x)) ≡ true) → Ahead c t s first o true r' f'
  ahead_unsound h = step (seek_unsound A.seek (came A e) h)

  pub ahead_found : (w : Window) → First c first → sound_head t s (header (shown x)) ≡ true → false ≡ is_some o → w ≡ unwrap_or r' first → Ahead c t s first (Some w) u r' f'
  ahead_found w F h l m = step (seek_found A.seek (came A e) w r' f' F h l g m)

pub ahead_second : {c : List Bool} {t s : ℕ} {first : Window} {o : Option Window} {u : Bool} {r : Option Window} {f : Frames} {x : Window}
    → Ahead c t s first o u r f → r ≡ Some x → sound_head t s (header (shown x)) ≡ true → true ≡ is_some o → sought (frames c) t s ≡ missing TwoHeaders
ahead_second A e h i = seek_second A.seek (came A e) h i

-- what the search answers once all frames have come
pub seek_done : {c : List Bool} {t s : ℕ} {first : Window} {u : Bool} {f : Frames} (o : Option Window) (n : ℕ) (e : Cause) (r : Result Window Cause)
    → Seek c t s first o u f → rest f ≡ [] → length c ≡ n → e ≡ cond u BadHeader NoHeader → r ≡ ok_or o e
    → MatchResult r (λ w. (sought (frames c) t s ≡ at (shown w)) × (w.turned.first < n) × (data_place c t s w.turned.first ≡ true)) (λ m. sought (frames c) t s ≡ missing m)
seek_done {c} {t} {s} {first} {u} {f} o n e r S d l h g = subst P (sym g) (answered o S)
  where
    P : Result Window Cause → Type 0
    P y = MatchResult y (λ w. (sought (frames c) t s ≡ at (shown w)) × (w.turned.first < n) × (data_place c t s w.turned.first ≡ true)) (λ m. sought (frames c) t s ≡ missing m)

    answered : (o : Option Window) → Seek c t s first o u f → P (ok_or o e)
    answered None S =
        S.seeks ∙ ap (seeking t s (shown first) None u) d ∙ ap (λ (b : Bool). missing (cond b BadHeader NoHeader)) (or-false u) ∙ ap missing (sym h)
    answered (Some w) S =
        let p = S.known.0 in
        (S.seeks ∙ ap (seeking t s (shown first) (Some (shown w)) u) d, omega arith, S.known.1)
