-- The frame after a header changes: what is found behind every header.
use Rattle.std.proofs.Common.{◌≡◌, ℕ, Bool, true, false, cond, ◌||◌, eqb, List, [], ◌∷◌, ◌++◌, Some, None, Option, sym, refl, ap, ◌∙◌, ⊎_elim}
use Rattle.std.proofs.lemmas.List.Elements.{filter-append}
use Rattle.std.proofs.lemmas.Bool.{true≢false, false≢true, cases_Bool, and_parts, and_from, eqb-true, eq-eqb}
use Rattle.track.specs.Headers.{header, place_is, sound_head, unsound_head}
use Rattle.track.specs.Reading.{any, head_or, linked, from_hits, hits, sought, at}
use Rattle.track.proofs.Turns.{linked_append}
use Rattle.track.specs.Places.{last_or}
use Rattle.laying.proofs.Frames.{last_split}

-- a found frame is that of the last pair
from_last : (K : List (List Bool × List Bool)) (p : List Bool × List Bool) (u : Bool) (g : List Bool) → from_hits (K ++ p ∷ []) u ≡ at g → (K ≡ []) × (p.1 ≡ g)
from_last [] p u g e = let z : p.1 ≡ g = cc in (refl, z)
from_last (q ∷ []) p u g e = cc
from_last (q ∷ r ∷ K) p u g e = cc

hits_round : (t s : ℕ) (x h : List Bool) (ms : List (List Bool)) → hits t s (linked x (ms ++ h ∷ [])) ≡ hits t s (linked h ms) ++ cond (sound_head t s (header h)) ((h, x) ∷ []) []
hits_round t s x h ms =
    ap (hits t s) (linked_append x ms (h ∷ [])) ∙ filter-append (λ p. sound_head t s (header p.0)) (linked h ms) ((h, x) ∷ [])

-- what is found behind a sound header that stands last is the first frame
pub found_first : (g : List Bool) (fs : List (List Bool)) (t s : ℕ) (f : List Bool) → sound_head t s (header (last_or g fs)) ≡ true → sought (g ∷ fs) t s ≡ at f → g ≡ f
found_first g fs t s f h e =
    let r = last_split g fs in
    let k : List Bool = last_or g fs in
    let u : Bool = any (λ x. unsound_head t s (header x)) (g ∷ fs) in
    let a : hits t s (linked g (g ∷ fs)) ≡ hits t s (linked k r.0) ++ (k, g) ∷ [] =
    ap (λ (l : List (List Bool)). hits t s (linked g l)) r.1 ∙ hits_round t s g k r.0 ∙ ap (λ (b : Bool). hits t s (linked k r.0) ++ cond b ((k, g) ∷ []) []) h in
    (from_last (hits t s (linked k r.0)) (k, g) u f (sym (ap (λ (l : List (List Bool × List Bool)). from_hits l u) a) ∙ e)).1

-- a search where the first frame is no header
sought_behind : (x : List Bool) (ms : List (List Bool)) (h : List Bool) (t s : ℕ) → header x ≡ None
    → sought (x ∷ (ms ++ h ∷ [])) t s ≡ from_hits (hits t s (linked h ms) ++ cond (sound_head t s (header h)) ((h, x) ∷ []) []) (any (λ g. unsound_head t s (header g)) (ms ++ h ∷ []))
sought_behind x ms h t s e =
    let R : List (List Bool) = ms ++ h ∷ [] in
    let H : List (List Bool × List Bool) = hits t s (linked x R) in
    let U : Bool = any (λ g. unsound_head t s (header g)) R in
    ap (λ (o : Option (Bool × (ℕ × ℕ))). from_hits (cond (sound_head t s o) ((x, head_or x R) ∷ H) H) (unsound_head t s o || U)) e
    ∙ ap (λ (l : List (List Bool × List Bool)). from_hits l U) (hits_round t s x h ms)

-- a header names one block
sound_once : (t s u v : ℕ) (o : Option (Bool × (ℕ × ℕ))) → sound_head t s o ≡ true → place_is t s (u, v) ≡ false → sound_head u v o ≡ false
sound_once t s u v None e f = refl
sound_once t s u v (Some h) e f =
    ⊎_elim
    (λ g. let p = and_parts h.0 (place_is t s h.1) e in
    let q = and_parts (eqb h.1.0 t) (eqb h.1.1 s) p.1 in
    let p' = and_parts h.0 (place_is u v h.1) g in
    let q' = and_parts (eqb h.1.0 u) (eqb h.1.1 v) p'.1 in
    let a : u ≡ t = sym (eqb-true h.1.0 u q'.0) ∙ eqb-true h.1.0 t q.0 in
    let b : v ≡ s = sym (eqb-true h.1.1 v q'.1) ∙ eqb-true h.1.1 s q.1 in
    absurd (true≢false (sym (and_from (eqb u t) (eqb v s) (eq-eqb u t a) (eq-eqb v s b)) ∙ f)))
    (λ g. g)
    (cases_Bool (sound_head u v (Some h)))

-- the first frame g changes to x: neither is a header, and the last frame is the sound header of t/s
pub record Swapped (g x : List Bool) (fs : List (List Bool)) (t s : ℕ) : Type 0 where
  pub own : sought (x ∷ fs) t s ≡ at x
  pub others : (u v : ℕ) → place_is t s (u, v) ≡ false → sought (x ∷ fs) u v ≡ sought (g ∷ fs) u v

pub swapped : (g x : List Bool) (fs : List (List Bool)) (t s : ℕ) → header g ≡ None → header x ≡ None → sound_head t s (header (last_or g fs)) ≡ true → sought (g ∷ fs) t s ≡ at g → Swapped g x fs t s
swapped g x [] t s m n h e = absurd (false≢true (sym (ap (sound_head t s) m) ∙ h))
swapped g x (f ∷ fs) t s m n h e =
    let r = last_split f fs in
    let ms : List (List Bool) = r.0 in
    let k : List Bool = last_or f fs in
    let see : (y : List Bool) (u v : ℕ) → header y ≡ None
    → sought (y ∷ (f ∷ fs)) u v ≡ from_hits (hits u v (linked k ms) ++ cond (sound_head u v (header k)) ((k, y) ∷ []) []) (any (λ z. unsound_head u v (header z)) (ms ++ k ∷ [])) = λ y u v o.
    ap (λ (l : List (List Bool)). sought (y ∷ l) u v) r.1 ∙ sought_behind y ms k u v o in
    let U : Bool = any (λ z. unsound_head t s (header z)) (ms ++ k ∷ []) in
    let K : List (List Bool × List Bool) = hits t s (linked k ms) in
    let q = from_last K (k, g) U g (sym (see g t s m ∙ ap (λ (b : Bool). from_hits (K ++ cond b ((k, g) ∷ []) []) U) h) ∙ e) in
    record {
      own = see x t s n ∙ ap (λ (b : Bool). from_hits (K ++ cond b ((k, x) ∷ []) []) U) h ∙ ap (λ (l : List (List Bool × List Bool)). from_hits (l ++ (k, x) ∷ []) U) q.0;
      others = λ u v f.
          let z : sound_head u v (header k) ≡ false = sound_once t s u v (header k) h f in
          let W : Bool = any (λ z. unsound_head u v (header z)) (ms ++ k ∷ []) in
          see x u v n
          ∙ ap (λ (b : Bool). from_hits (hits u v (linked k ms) ++ cond b ((k, x) ∷ []) []) W) z
          ∙ sym (ap (λ (b : Bool). from_hits (hits u v (linked k ms) ++ cond b ((k, g) ∷ []) []) W) z)
          ∙ sym (see g u v m);
    }
