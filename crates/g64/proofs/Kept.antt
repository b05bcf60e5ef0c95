-- A file in which only bytes of one track changed: its layout, and the bytes of every track.
use Rattle.std.proofs.Common.{◌≡◌, ℕ, ◌+◌, ◌-◌, ◌*◌, ◌<◌, ◌≤◌, Bool, true, false, ◌&&◌, ◌||◌, eqb, leb, ◌⊎◌, List, length, get_or, take, drop, sym, refl, ap, ◌∙◌, inl, inr, arith}
use Rattle.std.specs.Str.{bytes_eq}
use Rattle.std.proofs.lemmas.List.{get_or-take, get_or-drop, take-take, drop-drop, drop-take}
use Rattle.std.proofs.lemmas.Bool.{or_cases, and_parts, leb-true, ne_eqb, cases_eq, cases_lt}
use Rattle.track.specs.Fetching.{on_disk}
use Rattle.g64.specs.Layout.{number16, number32, entry_of, offset_of, length_of, end_of, largest, head, headed, inside, apart, clear, valid}
use Rattle.g64.specs.Image.{stored_on}
use Rattle.g64.specs.Stored.{room, sound, sound_valid, stored_is, stored_empty, stored_off}
use Rattle.g64.specs.Tracks.{each_one, each_same}

-- g is f but for the bytes from a on up to e
pub record Kept (f g : List ℕ) (a e : ℕ) : Type 0 where
  pub size : length g ≡ length f
  pub front : take a g ≡ take a f
  pub back : drop e g ≡ drop e f

module _ (f g : List ℕ) (a e : ℕ) (o : Kept f g a e) where
  front_byte : (k : ℕ) → k < a → get_or g k 0 ≡ get_or f k 0
  front_byte k h = sym (get_or-take a g k 0 h) ∙ ap (λ (l : List ℕ). get_or l k 0) o.front ∙ get_or-take a f k 0 h

  back_byte : (k : ℕ) → e ≤ k → get_or g k 0 ≡ get_or f k 0
  back_byte k h =
      let i : e + (k - e) ≡ k = omega arith in
      ap (λ (j : ℕ). get_or g j 0) (sym i) ∙ sym (get_or-drop e g (k - e) 0) ∙ ap (λ (l : List ℕ). get_or l (k - e) 0) o.back ∙ get_or-drop e f (k - e) 0 ∙ ap (λ (j : ℕ). get_or f j 0) i

  front_number : (k : ℕ) → k + 1 < a → number16 g k ≡ number16 f k
  unfolding number16
  front_number k h = λ i. front_byte k (omega arith) i + 256 * front_byte (k + 1) h i

  back_number : (k : ℕ) → e ≤ k → number16 g k ≡ number16 f k
  unfolding number16
  back_number k h = λ i. back_byte k h i + 256 * back_byte (k + 1) (omega arith) i

  front_offset : (u : ℕ) → u ≤ 35 → 684 ≤ a → offset_of g u ≡ offset_of f u
  unfolding offset_of number32
  front_offset u h l = λ i. front_number (entry_of u) (omega arith) i + 65536 * front_number (entry_of u + 2) (omega arith) i

  front_take : (n : ℕ) → n ≤ a → take n g ≡ take n f
  front_take n h = sym (take-take n a g h) ∙ ap (take n) o.front ∙ take-take n a f h

  front_head : 684 ≤ a → headed g ≡ headed f
  unfolding headed
  front_head l = ap (λ (x : List ℕ). bytes_eq head x) (front_take 10 (omega arith))

  front_part : (b n : ℕ) → b + n ≤ a → take n (drop b g) ≡ take n (drop b f)
  front_part b n h = sym (drop-take b n g) ∙ ap (drop b) (front_take (b + n) h) ∙ drop-take b n f

  back_part : (b n : ℕ) → e ≤ b → take n (drop b g) ≡ take n (drop b f)
  back_part b n h =
      let i : e + (b - e) ≡ b = omega arith in
      ap (λ (j : ℕ). take n (drop j g)) (sym i)
      ∙ ap (take n) (sym (drop-drop (b - e) e g) ∙ ap (drop (b - e)) o.back ∙ drop-drop (b - e) e f)
      ∙ ap (λ (j : ℕ). take n (drop j f)) i

-- two tracks that have bits
apart_some : (f : List ℕ) (t u : ℕ) → (offset_of f t ≡ 0 → ⊥) → (offset_of f u ≡ 0 → ⊥) → apart f t u ≡ (leb (end_of f t) (offset_of f u) || leb (end_of f u) (offset_of f t))
unfolding apart
apart_some f t u y z = rw (ne_eqb (offset_of f t) 0 y, ne_eqb (offset_of f u) 0 z)

one_way : (f : List ℕ) (t u : ℕ) → apart f t u ≡ true → (offset_of f t ≡ 0 → ⊥) → (offset_of f u ≡ 0 → ⊥) → (end_of f t ≤ offset_of f u) ⊎ (end_of f u ≤ offset_of f t)
one_way f t u h y z = elim (or_cases (leb (end_of f t) (offset_of f u)) (leb (end_of f u) (offset_of f t)) (sym (apart_some f t u y z) ∙ h)) [
  | inl a ↦ inl (leb-true (end_of f t) (offset_of f u) a)
  | inr a ↦ inr (leb-true (end_of f u) (offset_of f t) a)
]

later : (f : List ℕ) (t u : ℕ) → valid f ≡ true → 1 ≤ t → t < u → u ≤ 35 → apart f t u ≡ true
unfolding clear
later f t u v l h m =
    let c : clear f t ≡ true = each_one (clear f) 35 1 t (sound f v).clears l (omega arith) in
    each_one (apart f t) (35 - t) (t + 1) u c (omega arith) (omega arith)

-- of two tracks that have bits one ends before the other begins
pub apart_tracks : (f : List ℕ) (t u : ℕ) → valid f ≡ true → 1 ≤ t → t ≤ 35 → 1 ≤ u → u ≤ 35 → (t ≡ u → ⊥) → (offset_of f t ≡ 0 → ⊥) → (offset_of f u ≡ 0 → ⊥)
    → (end_of f t ≤ offset_of f u) ⊎ (end_of f u ≤ offset_of f t)
apart_tracks f t u v a b c d n y z = elim (cases_lt t u) [
  | inl l ↦ one_way f t u (later f t u v a l d) y z
  | inr l ↦ elim (one_way f u t (later f u t v c (let k : u < t = omega arith in k) b) z y) [ inl h ↦ inr h | inr h ↦ inl h ]
]

module _ (f g : List ℕ) (t : ℕ) (v : valid f ≡ true) (l : 1 ≤ t) (m : t ≤ 35) (z : offset_of f t ≡ 0 → ⊥) (o : Kept f g (offset_of f t + 2) (end_of f t)) where
  begin : 684 ≤ offset_of f t + 2
  begin = let h = (room f t v l m (ne_eqb (offset_of f t) 0 z)).begin in omega arith

  pub same_offset : (u : ℕ) → u ≤ 35 → offset_of g u ≡ offset_of f u
  same_offset u h = front_offset f g (offset_of f t + 2) (end_of f t) o u h begin

  number_there : (u : ℕ) → 1 ≤ u → u ≤ 35 → number16 g (offset_of f u) ≡ number16 f (offset_of f u)
  number_there u a b =
      let b684 = begin in
      elim (cases_eq (offset_of f u) 0) [
        | inl e ↦ front_number f g (offset_of f t + 2) (end_of f t) o (offset_of f u) (omega arith)
        | inr y ↦ elim (cases_eq t u) [
          | inl e ↦ (let q : offset_of f t ≡ offset_of f u = ap (offset_of f) e in front_number f g (offset_of f t + 2) (end_of f t) o (offset_of f u) (omega arith))
          | inr n ↦ elim (apart_tracks f t u v l m a b n z y) [
            | inl h ↦ back_number f g (offset_of f t + 2) (end_of f t) o (offset_of f u) h
            | inr h ↦ front_number f g (offset_of f t + 2) (end_of f t) o (offset_of f u) (omega arith)
          ]
        ]
      ]

  pub same_length : (u : ℕ) → 1 ≤ u → u ≤ 35 → length_of g u ≡ length_of f u
  unfolding length_of
  same_length u a b = ap (number16 g) (same_offset u b) ∙ number_there u a b

  same_largest : largest g ≡ largest f
  same_largest = let h = begin in front_number f g (offset_of f t + 2) (end_of f t) o 10 (omega arith)

  same_inside : (u : ℕ) → 1 ≤ u → u ≤ 35 → inside g u ≡ inside f u
  unfolding inside
  same_inside u a b =
      let p = same_offset u b in
      let n = same_length u a b in
      λ i. eqb (p i) 0 || (leb 684 (p i) && (leb (n i) (same_largest i) && leb (p i + 2 + n i) (o.size i)))

  same_apart : (u w : ℕ) → 1 ≤ u → u ≤ 35 → 1 ≤ w → w ≤ 35 → apart g u w ≡ apart f u w
  unfolding apart
  same_apart u w a b c d =
      let p = same_offset u b in
      let n = same_length u a b in
      let q = same_offset w d in
      let k = same_length w c d in
      λ i. eqb (p i) 0 || (eqb (q i) 0 || (leb (p i + 2 + n i) (q i) || leb (q i + 2 + k i) (p i)))

  same_clear : (u : ℕ) → 1 ≤ u → u ≤ 35 → clear g u ≡ clear f u
  unfolding clear
  same_clear u a b = each_same (apart g u) (apart f u) (35 - u) (u + 1) (λ w c d. same_apart u w a b (omega arith) (omega arith))

  pub still_valid : valid g ≡ true
  still_valid =
      let s = sound f v in
      let n = o.size in
      let h = s.long in
      let k = s.bounded in
      let q = same_largest in
      sound_valid g record {
        long = omega arith;
        begins = front_head f g (offset_of f t + 2) (end_of f t) o begin ∙ s.begins;
        bounded = omega arith;
        within = each_same (inside g) (inside f) 35 1 (λ u a b. same_inside u a (omega arith)) ∙ s.within;
        clears = each_same (clear g) (clear f) 35 1 (λ u a b. same_clear u a (omega arith)) ∙ s.clears;
      }

  -- a track of the disk, by the file as it was
  stored_now : (u : ℕ) → 1 ≤ u → u ≤ 35 → (offset_of f u ≡ 0 → ⊥) → stored_on g u ≡ take (length_of f u) (drop (offset_of f u + 2) g)
  stored_now u a b y =
      let p = same_offset u b in
      let n = same_length u a b in
      stored_is g u still_valid a b (ne_eqb (offset_of g u) 0 (λ e. y (sym p ∙ e))) ∙ (λ i. take (n i) (drop (p i + 2) g))

  pub stored_own : stored_on g t ≡ take (length_of f t) (drop (offset_of f t + 2) g)
  stored_own = stored_now t l m z

  stored_there : (u : ℕ) → 1 ≤ u → u ≤ 35 → (t ≡ u → ⊥) → stored_on g u ≡ stored_on f u
  stored_there u a b n = elim (cases_eq (offset_of f u) 0) [
    | inl e ↦ stored_empty g u (same_offset u b ∙ e) ∙ sym (stored_empty f u e)
    | inr y ↦ stored_now u a b y
        ∙ elim (apart_tracks f t u v l m a b n z y) [
          | inl h ↦ back_part f g (offset_of f t + 2) (end_of f t) o (offset_of f u + 2) (length_of f u) (omega arith)
          | inr h ↦ front_part f g (offset_of f t + 2) (end_of f t) o (offset_of f u + 2) (length_of f u) (omega arith)
        ]
        ∙ sym (stored_is f u v a b (ne_eqb (offset_of f u) 0 y))
  ]

  pub stored_other : (u : ℕ) → (t ≡ u → ⊥) → stored_on g u ≡ stored_on f u
  stored_other u n =
      let P : Bool → Type 0 = λ b. on_disk u ≡ b → stored_on g u ≡ stored_on f u in
      (elim (on_disk u) as P [
        | true ↦ λ d. (let p = and_parts (leb 1 u) (leb u 35) d in stored_there u (leb-true 1 u p.0) (leb-true u 35 p.1) n)
        | false ↦ λ d. stored_off g u d ∙ sym (stored_off f u d)
      ]) refl
