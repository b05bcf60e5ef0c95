-- The bytes of a track: how many they are, and that packing their bits gives them back.
use Rattle.std.specs.Prelude.{◌≡◌, ℕ, suc, ◌+◌, ◌<◌, ◌≤◌, Bool, true, false, cond, not, ◌&&◌, List, [], ◌∷◌, ◌++◌, length, take, drop, ◌==◌, nat_eq, nat_le, refl}
use Rattle.std.proofs.Common.{arith, sym, ap, subst, ◌∙◌, inl, inr}
use Rattle.std.proofs.lemmas.List.{length-take, get_or_past}
use Rattle.std.proofs.lemmas.Bool.{and_parts, or_cases, and_from, and_left, and_right, not_from_true, not_from_false, leb-true, le-leb, eq-eqb, not-true, true≢false}
use Rattle.gcr.specs.Bits.{bits_of}
use Rattle.gcr.proofs.Bits.{length_bits_of}
use Rattle.gcr.proofs.Values.{value_bits}
use Rattle.track.specs.Fetching.{pack, on_disk, laid}
use Rattle.g64.specs.Layout.{offset_of, length_of, end_of, largest, headed, inside, all_inside, all_clear, valid}
use Rattle.disk.specs.Bytes.{Bytes}
use Rattle.disk.proofs.ByteLists.{take_bytes, drop_bytes}
use Rattle.g64.specs.Image.{given, stored_on, circle_on}
use Rattle.g64.specs.Tracks.{each_one}

-- what an image says of a track that has bits
pub record Room (f : List ℕ) (t : ℕ) : Type 0 where
  pub begin : 684 ≤ offset_of f t
  pub within : end_of f t ≤ length f
  pub small : length_of f t ≤ 7928

roomy : (f : List ℕ) (t : ℕ) → largest f ≤ 7928 → inside f t ≡ true → (offset_of f t == 0) ≡ false → Room f t
unfolding inside
roomy f t m h z = elim (or_cases (offset_of f t == 0) (nat_le 684 (offset_of f t) && (nat_le (length_of f t) (largest f) && nat_le (end_of f t) (length f))) h) [
  | inl e ↦ absurd (true≢false (sym e ∙ z))
  | inr e ↦
      let p = and_parts (nat_le 684 (offset_of f t)) (nat_le (length_of f t) (largest f) && nat_le (end_of f t) (length f)) e in
      let q = and_parts (nat_le (length_of f t) (largest f)) (nat_le (end_of f t) (length f)) p.1 in
      let a = leb-true (length_of f t) (largest f) q.0 in
      let b = leb-true (end_of f t) (length f) q.1 in
      record { begin = leb-true 684 (offset_of f t) p.0; within = b; small = omega arith }
]

-- what an image is, part by part
pub record Sound (f : List ℕ) : Type 0 where
  pub long : 684 ≤ length f
  pub begins : headed f ≡ true
  pub bounded : largest f ≤ 7928
  pub within : all_inside f ≡ true
  pub clears : all_clear f ≡ true

pub sound : (f : List ℕ) → valid f ≡ true → Sound f
unfolding valid
sound f v =
    let p = and_parts (nat_le 684 (length f)) (headed f && (nat_le (largest f) 7928 && (all_inside f && all_clear f))) v in
    let q = and_parts (headed f) (nat_le (largest f) 7928 && (all_inside f && all_clear f)) p.1 in
    let r = and_parts (nat_le (largest f) 7928) (all_inside f && all_clear f) q.1 in
    let s = and_parts (all_inside f) (all_clear f) r.1 in
    record { long = leb-true 684 (length f) p.0; begins = q.0; bounded = leb-true (largest f) 7928 r.0; within = s.0; clears = s.1 }

pub sound_valid : (f : List ℕ) → Sound f → valid f ≡ true
unfolding valid
sound_valid f s =
    and_from (nat_le 684 (length f)) (headed f && (nat_le (largest f) 7928 && (all_inside f && all_clear f))) (le-leb 684 (length f) s.long)
    (and_from (headed f) (nat_le (largest f) 7928 && (all_inside f && all_clear f)) s.begins
    (and_from (nat_le (largest f) 7928) (all_inside f && all_clear f) (le-leb (largest f) 7928 s.bounded)
    (and_from (all_inside f) (all_clear f) s.within s.clears)))

pub room : (f : List ℕ) (t : ℕ) → valid f ≡ true → 1 ≤ t → t ≤ 35 → (offset_of f t == 0) ≡ false → Room f t
room f t v l u z =
    let s = sound f v in
    let n : t < 1 + 35 = omega arith in
    roomy f t s.bounded (each_one (inside f) 35 1 t s.within l n) z

-- bytes are their bits, packed
pub packs : (bs : List ℕ) → Bytes bs → pack (bits_of bs) ≡ bs
packs [] h = refl
packs (b ∷ bs) h = λ i. value_bits 8 b (h 0) i ∷ packs bs (λ k. h (suc k)) i

-- the bytes of a track, by the three tests
pub stored_is : (f : List ℕ) (t : ℕ) → valid f ≡ true → 1 ≤ t → t ≤ 35 → (offset_of f t == 0) ≡ false → stored_on f t ≡ take (length_of f t) (drop (offset_of f t + 2) f)
unfolding stored_on
stored_is f t v l u z =
    ap (λ (b : Bool). cond b (take (length_of f t) (drop (offset_of f t + 2) f)) [])
    (and_from (valid f) (on_disk t && not (offset_of f t == 0)) v
    (and_from (on_disk t) (not (offset_of f t == 0)) (and_from (nat_le 1 t) (nat_le t 35) (le-leb 1 t l) (le-leb t 35 u)) (not_from_false (offset_of f t == 0) z)))

-- a file that is no image
pub stored_none : (f : List ℕ) (t : ℕ) → valid f ≡ false → stored_on f t ≡ []
unfolding stored_on
stored_none f t v = ap (λ (b : Bool). cond (b && (on_disk t && not (offset_of f t == 0))) (take (length_of f t) (drop (offset_of f t + 2) f)) []) v

-- a track with no bits
pub stored_empty : (f : List ℕ) (t : ℕ) → offset_of f t ≡ 0 → stored_on f t ≡ []
unfolding stored_on
stored_empty f t z =
    ap (λ (b : Bool). cond b (take (length_of f t) (drop (offset_of f t + 2) f)) [])
    (and_right (valid f) (on_disk t && not (offset_of f t == 0)) (and_right (on_disk t) (not (offset_of f t == 0)) (not_from_true (offset_of f t == 0) (eq-eqb (offset_of f t) 0 z))))

-- a track that the disk has not
pub stored_off : (f : List ℕ) (t : ℕ) → on_disk t ≡ false → stored_on f t ≡ []
unfolding stored_on
stored_off f t d =
    ap (λ (b : Bool). cond b (take (length_of f t) (drop (offset_of f t + 2) f)) [])
    (and_right (valid f) (on_disk t && not (offset_of f t == 0)) (and_left (on_disk t) (not (offset_of f t == 0)) d))

-- what it says that the file gives a track
pub record Given (f : List ℕ) (t : ℕ) : Type 0 where
  pub sound_file : valid f ≡ true
  pub least : 1 ≤ t
  pub most : t ≤ 35
  pub placed : nat_eq (offset_of f t) 0 ≡ false

pub is_given : (f : List ℕ) (t : ℕ) → given f t ≡ true → Given f t
is_given f t e =
    let p = and_parts (valid f) (on_disk t && not (offset_of f t == 0)) e in
    let q = and_parts (on_disk t) (not (offset_of f t == 0)) p.1 in
    let d = and_parts (nat_le 1 t) (nat_le t 35) q.0 in
    record { sound_file = p.0; least = leb-true 1 t d.0; most = leb-true t 35 d.1; placed = not-true (offset_of f t == 0) q.1 }

-- a track with bits is given
pub given_some : (f : List ℕ) (t : ℕ) → 0 < length (circle_on f t) → given f t ≡ true
unfolding stored_on
given_some f t = elim (given f t) as (λ b. 0 < length (bits_of (cond b (take (length_of f t) (drop (offset_of f t + 2) f)) [])) → b ≡ true) [
  | true ↦ λ h. refl
  | false ↦ λ h. absurd (omega arith)
]

-- no track is longer than the largest size of any image
pub stored_small : (f : List ℕ) (t : ℕ) → length (stored_on f t) ≤ 7928
unfolding stored_on
stored_small f t = go (given f t) refl
  where
    go : (b : Bool) → given f t ≡ b → length (cond b (take (length_of f t) (drop (offset_of f t + 2) f)) []) ≤ 7928
    go false e = omega arith
    go true e =
        let y = is_given f t e in
        let r = room f t y.sound_file y.least y.most y.placed in
        let s = r.small in
        let l = length-take (length_of f t) (drop (offset_of f t + 2) f) in
        omega arith

pub circle_small : (f : List ℕ) (t : ℕ) → length (circle_on f t) ≤ 65536
circle_small f t =
    let l = length_bits_of (stored_on f t) in
    let s = stored_small f t in
    omega arith

pub stored_bytes : (f : List ℕ) (t : ℕ) → Bytes f → Bytes (stored_on f t)
unfolding stored_on
stored_bytes f t h = elim (given f t) as (λ b. Bytes (cond b (take (length_of f t) (drop (offset_of f t + 2) f)) [])) [
  | true ↦ take_bytes (length_of f t) (drop (offset_of f t + 2) f) (drop_bytes (offset_of f t + 2) f h)
  | false ↦ (λ k. subst (λ (x : ℕ). x < 256) (sym (get_or_past [] k 0 (omega arith))) (omega arith))
]

-- a buffer whose begin was written over
pub copied_is : (n : ℕ) (new old last : List ℕ) → last ≡ new → n ≡ length new → last ++ drop n old ≡ laid new old
copied_is n new old last e l = λ i. e i ++ drop (l i) old
