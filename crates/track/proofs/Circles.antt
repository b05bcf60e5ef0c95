use Rattle.std.proofs.Common.{◌≡◌, ℕ, zero, suc, ◌+◌, ◌-◌, ◌*◌, ◌^◌, ◌<◌, ◌≤◌, Bool, true, false, cond, not, ◌&&◌, leb, List, [], ◌∷◌, length, get_or, take, drop, Some, None, Option, sym, refl, ap, ◌∙◌, subst, inl, inr, arith, pow-add}
use Rattle.std.proofs.lemmas.List.{length-append, length-take, length-drop, length-take-le, get_or_append_left, get_or-append_right, get_or-drop, get_or-take, get_or_past, drop_more, drop_all}
use Rattle.std.proofs.lemmas.Bool.{cond_both, cond-true, cond-false, lt-leb, le-leb, cases_lt}
use mir.Val.{bool_byte}
use Rattle.std.specs.List.{list_all, find, range_with_len}
use Rattle.std.specs.Option.{unwrap_or, MatchOption}
use Rattle.std.proofs.lemmas.List.Sums.{fold_more}
use Rattle.gcr.specs.Bits.{bits_of, value, and_bit}
use Rattle.gcr.specs.Codes.{byte_of, coded}
use Rattle.gcr.proofs.Bits.{length_bits_of}
use Rattle.track.specs.Shown.{circle_bits, turned_bits, shown}
use Rattle.track.specs.declared.circle.Circle.{Circle}
use Rattle.track.specs.declared.turned.Turned.{Turned}
use Rattle.track.specs.declared.window.Window.{Window}
use Rattle.track.specs.Circles.{circle_of, turned, ones, before, start, frames_from}

pub length_circle : (n : ℕ) (bs : List ℕ) → n ≤ length bs * 8 → length (circle_of n bs) ≡ n
length_circle n bs h = length-take-le n (bits_of bs) (let e = length_bits_of bs in omega arith)

pub length_turned : {X : Type 0} (k : ℕ) (c : List X) → length (turned k c) ≡ length c
length_turned k c =
    length-append (drop k c) (take k c) ∙ (let p = length-drop k c in let q = length-take k c in omega arith)

pub getD_turned_low : {X : Type 0} (k : ℕ) (c : List X) (i : ℕ) (d : X) → k + i < length c → get_or (turned k c) i d ≡ get_or c (k + i) d
getD_turned_low k c i d h =
    get_or_append_left (drop k c) (take k c) d i (let p = length-drop k c in omega arith) ∙ get_or-drop k c i d

pub getD_turned_high : {X : Type 0} (k : ℕ) (c : List X) (i : ℕ) (d : X) → k ≤ length c → length c ≤ k + i → i < length c
    → get_or (turned k c) i d ≡ get_or c (k + i - length c) d
getD_turned_high k c i d g h l =
    get_or-append_right (drop k c) (take k c) (length c - k) i d (length-drop k c) (omega arith)
    ∙ get_or-take k c (i - (length c - k)) d (omega arith)
    ∙ ap (λ (n : ℕ). get_or c n d) (let e : i - (length c - k) ≡ k + i - length c = omega arith in e)

-- ten ones in a row, place by place
pub ones_range : (a : List Bool) (i n : ℕ) → list_all (λ k. get_or a k false) (range_with_len i n) ≡ ones n (drop i a)
ones_range a i zero = refl
ones_range a i (suc n) = elim (cases_lt i (length a)) [
  | inl h ↦ ap (λ (b : Bool). get_or a i false && b) (ones_range a (i + 1) n) ∙ sym (ap (ones (suc n)) (drop_more a i false h))
  | inr h ↦ ap (λ (b : Bool). b && list_all (λ k. get_or a k false) (range_with_len (i + 1) n)) (get_or_past a i false h) ∙ sym (ap (ones (suc n)) (drop_all i a h))
]

-- the bits before ten ones end at the first place of ten ones
pub before_range : (a : List Bool) (i n m : ℕ) → i + n ≡ length a → m ≡ length a
    → unwrap_or (find (λ k. ones 10 (drop k a)) (range_with_len i n)) m ≡ i + length (before (drop i a))
before_range a i zero m e g =
    (let z : m ≡ i + 0 = omega arith in z) ∙ ap (λ (l : List Bool). i + length (before l)) (sym (drop_all i a (omega arith)))
before_range a i (suc n) m e g =
    let b : Bool = get_or a i false in
    let l : List Bool = drop (i + 1) a in
    let ih : unwrap_or (find (λ k. ones 10 (drop k a)) (range_with_len (i + 1) n)) m ≡ (i + 1) + length (before l) = before_range a (i + 1) n m (omega arith) g in
    subst (λ (x : List Bool). unwrap_or (cond (ones 10 x) (Some i) (find (λ k. ones 10 (drop k a)) (range_with_len (i + 1) n))) m ≡ i + length (before x))
    (sym (drop_more a i false (omega arith)))
    (elim (ones 10 (b ∷ l)) as (λ v. unwrap_or (cond v (Some i) (find (λ k. ones 10 (drop k a)) (range_with_len (i + 1) n))) m ≡ i + length (cond v [] (b ∷ before l))) [
      | true ↦ (let z : i ≡ i + 0 = omega arith in z)
      | false ↦ ih ∙ (let z : (i + 1) + length (before l) ≡ i + suc (length (before l)) = omega arith in z)
    ])

pub before_le : (a : List Bool) → length (before a) ≤ length a
before_le [] = omega arith
before_le (b ∷ l) = cond_both (ones 10 (b ∷ l)) [] (b ∷ before l) (λ x. length x ≤ suc (length l)) (λ _. omega arith) (λ _. let p = before_le l in omega arith)

-- the bits before ten ones are a front
pub take_before : (a : List Bool) → take (length (before a)) a ≡ before a
take_before [] = refl
take_before (b ∷ l) =
    cond_both (ones 10 (b ∷ l)) [] (b ∷ before l) (λ x. take (length x) (b ∷ l) ≡ x) (λ _. refl) (λ _. ap (λ (x : List Bool). b ∷ x) (take_before l))

pub length_bits : (c : Circle) → length (circle_bits c) ≡ c.bits
length_bits c = length_circle c.bits c.bytes.now c.held

pub len : (t : Turned) → length (turned_bits t) ≡ t.circle.bits
len t = length_turned t.first (circle_bits t.circle) ∙ length_bits t.circle

pub start_is : (a : List Bool) (b : ℕ) → false ≡ get_or a 0 false → b ≡ length a - 10 → ones 10 (drop b a) ≡ start a
start_is a b e f =
    ap (λ (n : ℕ). ones 10 (drop n a)) f ∙ ap (λ (z : Bool). not z && ones 10 (drop (length a - 10) a)) e

pub as_bit : (b : Bool) → bool_byte b ≡ cond b 1 0
as_bit true = refl
as_bit false = refl

-- a number with one bit more
pub bit_added : (code j code' : ℕ) (b : Bool) → code < 2 ^ j → code' ≡ code * 2 + cond b 1 0 → code' < 2 ^ (j + 1)
bit_added code j code' b h f =
    let p = pow-add 2 j 1 in
    let q : cond b 1 0 ≤ 1 = cond_both b 1 0 (λ x. x ≤ 1) (λ _. omega arith) (λ _. omega arith) in
    omega arith

-- ten bits as a number
pub byte_step : (l : List Bool) (j code code' : ℕ) (b : Bool) → code < 2 ^ j → code ≡ value (take j l) → j < length l → b ≡ get_or l j false → code' ≡ code * 2 + cond b 1 0
    → (code' < 2 ^ (j + 1)) × (code' ≡ value (take (j + 1) l))
byte_step l j code code' b h v k e f = (
  bit_added code j code' b h f,
  f ∙ ap (λ (n : ℕ). n * 2 + cond b 1 0) v ∙ ap (λ (x : Bool). value (take j l) * 2 + cond x 1 0) e ∙ sym (fold_more and_bit 0 l j false k),
)

pub coded_short : (l : List Bool) → length l < 10 → None ≡ coded l
coded_short l h = sym (cond-false (leb 10 (length l)) (byte_of (value (take 10 l))) None (lt-leb 10 (length l) h))

pub coded_long : (l : List Bool) → 10 ≤ length l → byte_of (value (take 10 l)) ≡ coded l
coded_long l h = sym (cond-true (leb 10 (length l)) (byte_of (value (take 10 l))) None (le-leb 10 (length l) h))

pub length_shown : (w : Window) → length (shown w) ≡ w.count
length_shown w =
    length-take-le w.count (turned_bits w.turned) (let e = len w.turned in let h = w.within in omega arith)

-- the place at which the first of the frames among n places begins, or that none does
abbrev pub Found : List Bool → ℕ → ℕ → Option ℕ → Type 0
Found c p n o = MatchOption o (frames_from c p n ≡ []) (λ q. (p ≤ q) × (q < p + n) × (start (turned q c) ≡ true) × (frames_from c p (q - p) ≡ []))

found_more : (c : List Bool) (p n : ℕ) (b : Bool) (o : Option ℕ) → start (turned p c) ≡ b → Found c (p + 1) n o → Found c p (suc n) (cond b (Some p) o)
found_more c p n true o e h = (omega arith, omega arith, e, ap (frames_from c p) (let z : p - p ≡ 0 = omega arith in z))
found_more c p n false None e h =
    ap (λ (b : Bool). cond b (before (turned p c) ∷ frames_from c (suc p) n) (frames_from c (suc p) n)) e
    ∙ ap (λ (q : ℕ). frames_from c q n) (let z : suc p ≡ p + 1 = omega arith in z) ∙ h
found_more c p n false (Some q) e h =
    let l = h.0 in (
      omega arith,
      omega arith,
      h.2,
      ap (frames_from c p) (let z : q - p ≡ suc (q - (p + 1)) = omega arith in z)
          ∙ ap (λ (b : Bool). cond b (before (turned p c) ∷ frames_from c (suc p) (q - (p + 1))) (frames_from c (suc p) (q - (p + 1)))) e
          ∙ ap (λ (r : ℕ). frames_from c r (q - (p + 1))) (let z : suc p ≡ p + 1 = omega arith in z) ∙ h.3,
    )

pub found : (c : List Bool) (p n : ℕ) → Found c p n (find (λ q. start (turned q c)) (range_with_len p n))
found c p zero = refl
found c p (suc n) = found_more c p n (start (turned p c)) (find (λ q. start (turned q c)) (range_with_len (p + 1) n)) refl (found c (p + 1) n)

pub found_at : (c : List Bool) (p n q : ℕ) → Some q ≡ find (λ r. start (turned r c)) (range_with_len p n) → Found c p n (Some q)
found_at c p n q e = subst (Found c p n) (sym e) (found c p n)

pub found_below : (c : List Bool) (p n m : ℕ) (o : Option ℕ) → Found c p n o → p + n ≤ m → 0 < m → unwrap_or o 0 < m
found_below c p n m None f h g = g
found_below c p n m (Some q) f h g = let l = f.1 in omega arith

pub frames_take : (c : List Bool) (p n m : ℕ) → n ≡ suc m → start (turned p c) ≡ true → frames_from c p n ≡ before (turned p c) ∷ frames_from c (p + 1) m
frames_take c p n m f s =
    ap (frames_from c p) f
    ∙ ap (λ (b : Bool). cond b (before (turned p c) ∷ frames_from c (suc p) m) (frames_from c (suc p) m)) s
    ∙ ap (λ (q : ℕ). before (turned p c) ∷ frames_from c q m) (let e : suc p ≡ p + 1 = omega arith in e)
