-- Bits of numbers and of bytes, by place and by parts.
use Rattle.std.proofs.Common.{◌≡◌, ℕ, zero, suc, ◌+◌, ◌-◌, ◌*◌, ◌/◌, ◌%◌, ◌^◌, ◌<◌, ◌≤◌, Bool, true, false, cond, eqb, List, [], ◌∷◌, ◌++◌, length, get_or, sym, refl, ap, ◌∙◌, mul_assoc, add_comm, suc-add, div-add-mod', zero-add, arith, length-append, pow-add}
use native.Mathlib.Nat.{mul-add-mod_self_right}
use Rattle.std.proofs.lemmas.Nat.{shr-shr, shr_high, field_of}
use Rattle.std.proofs.lemmas.List.{get_or_append_left, get_or-append_right}
use Rattle.std.specs.List.{flat_map}
use Rattle.gcr.specs.Bits.{bit, bits, bits_of, and_bit}
use Rattle.gcr.specs.Codes.{ten}

-- a bit above the lower part is a bit of the upper part
pub bit_high : (j k a b : ℕ) → b < 2 ^ k → bit (j + k) (a * 2 ^ k + b) ≡ bit j a
bit_high j k a b h =
    ap (λ (i : ℕ). eqb ((a * 2 ^ k + b) / 2 ^ i % 2) 1) (add_comm j k)
    ∙ ap (λ (n : ℕ). eqb (n % 2) 1) (sym (shr-shr (a * 2 ^ k + b) k j))
    ∙ ap (λ (n : ℕ). eqb (n / 2 ^ j % 2) 1) (shr_high a k b h)

-- 2 ^ k where k is at least m
pub pow_split : (a k m : ℕ) → m ≤ k → a * 2 ^ k ≡ a * 2 ^ (k - m) * 2 ^ m
pow_split a k m h =
    ap (λ (i : ℕ). a * 2 ^ i) (let e : k ≡ (k - m) + m = omega arith in e)
    ∙ ap (λ (n : ℕ). a * n) (pow-add 2 (k - m) m)
    ∙ sym (mul_assoc a (2 ^ (k - m)) (2 ^ m))

pub bit_low : (i k a b : ℕ) → i < k → bit i (a * 2 ^ k + b) ≡ bit i b
bit_low i k a b h =
    ap (λ (n : ℕ). eqb n 1) (sym (field_of (a * 2 ^ k + b) 1 i))
    ∙ ap (λ (n : ℕ). eqb ((n + b) % 2 ^ (1 + i) / 2 ^ i) 1) (pow_split a k (1 + i) (omega arith))
    ∙ ap (λ (n : ℕ). eqb (n / 2 ^ i) 1) (mul-add-mod_self_right (a * 2 ^ (k - (1 + i))) (2 ^ (1 + i)) b)
    ∙ ap (λ (n : ℕ). eqb n 1) (field_of b 1 i)

pub bits_low : (n k a b : ℕ) → n ≤ k → bits n (a * 2 ^ k + b) ≡ bits n b
bits_low zero k a b h = refl
bits_low (suc n) k a b h =
    let x : bit n (a * 2 ^ k + b) ≡ bit n b = bit_low n k a b h in
    let y : bits n (a * 2 ^ k + b) ≡ bits n b = bits_low n k a b (omega arith) in
    cc

pub bits_append : (j k a b : ℕ) → b < 2 ^ k → bits (j + k) (a * 2 ^ k + b) ≡ bits j a ++ bits k b
bits_append zero k a b h =
    ap (λ (n : ℕ). bits n (a * 2 ^ k + b)) (zero-add k) ∙ bits_low k k a b (omega arith)
bits_append (suc j) k a b h =
    ap (λ (n : ℕ). bits n (a * 2 ^ k + b)) (suc-add j k)
    ∙ (let x : bit (j + k) (a * 2 ^ k + b) ≡ bit j a = bit_high j k a b h in
    let y : bits (j + k) (a * 2 ^ k + b) ≡ bits j a ++ bits k b = bits_append j k a b h in
    cc)

pub bit_small : (b : Bool) → cond b 1 0 < 2
bit_small true = omega arith
bit_small false = omega arith

one_bit : (b : Bool) → bits 1 (cond b 1 0) ≡ b ∷ []
one_bit true = refl
one_bit false = refl

-- a number with one bit more
pub bits_more : (k n : ℕ) (b : Bool) → bits (k + 1) (and_bit n b) ≡ bits k n ++ b ∷ []
bits_more k n b = bits_append k 1 n (cond b 1 0) (bit_small b) ∙ ap (λ (l : List Bool). bits k n ++ l) (one_bit b)

pub length_bits : (n v : ℕ) → length (bits n v) ≡ n
length_bits zero v = refl
length_bits (suc n) v = ap suc (length_bits n v)

pub get_d_bits : (n v i : ℕ) (d : Bool) → i < n → get_or (bits n v) i d ≡ bit (n - 1 - i) v
get_d_bits zero v i d h = absurd (let z : ⊥ = omega arith in z)
get_d_bits (suc n) v zero d h = ap (λ (k : ℕ). bit k v) (let e : n ≡ suc n - 1 - 0 = omega arith in e)
get_d_bits (suc n) v (suc i) d h =
    get_d_bits n v i d (omega arith)
    ∙ ap (λ (k : ℕ). bit k v) (let e : n - 1 - i ≡ suc n - 1 - suc i = omega arith in e)

pub length_bits_of : (bs : List ℕ) → length (bits_of bs) ≡ length bs * 8
length_bits_of [] = refl
length_bits_of (b ∷ bs) =
    length-append (bits 8 b) (bits_of bs) ∙ (let e = length_bits_of bs in omega arith)

-- bit r of byte q
pub getD_bits_of_at : (bs : List ℕ) (q r : ℕ) → q < length bs → r < 8 → get_or (bits_of bs) (q * 8 + r) false ≡ bit (7 - r) (get_or bs q 0)
getD_bits_of_at [] q r h l = absurd (let z : ⊥ = omega arith in z)
getD_bits_of_at (b ∷ bs) zero r h l =
    ap (λ (k : ℕ). get_or (bits_of (b ∷ bs)) k false) (let e : 0 * 8 + r ≡ r = omega arith in e)
    ∙ get_or_append_left (bits 8 b) (bits_of bs) false r l
    ∙ get_d_bits 8 b r false l
    ∙ ap (λ (k : ℕ). bit k b) (let e : 8 - 1 - r ≡ 7 - r = omega arith in e)
getD_bits_of_at (b ∷ bs) (suc q) r h l =
    get_or-append_right (bits 8 b) (bits_of bs) 8 (suc q * 8 + r) false refl (omega arith)
    ∙ ap (λ (k : ℕ). get_or (bits_of bs) k false) (let e : suc q * 8 + r - 8 ≡ q * 8 + r = omega arith in e)
    ∙ getD_bits_of_at bs q r (omega arith) l

-- bit p of a row of bytes stands in byte p / 8
pub getD_bits_of : (bs : List ℕ) (p : ℕ) → p < length bs * 8 → get_or (bits_of bs) p false ≡ bit (7 - p % 8) (get_or bs (p / 8) 0)
getD_bits_of bs p h =
    ap (λ (k : ℕ). get_or (bits_of bs) k false) (sym (div-add-mod' p 8))
    ∙ getD_bits_of_at bs (p / 8) (p % 8) (omega arith) (omega arith)

-- one byte at the low end
pub byte_more : (k n : ℕ) → bits (k + 8) n ≡ bits k (n / 256) ++ bits 8 (n % 256)
byte_more k n =
    ap (λ (m : ℕ). bits (k + 8) m) (sym (div-add-mod' n 256)) ∙ bits_append k 8 (n / 256) (n % 256) (omega arith)

pub five_bytes : (n : ℕ) → bits_of (n / 4294967296 ∷ n / 16777216 % 256 ∷ n / 65536 % 256 ∷ n / 256 % 256 ∷ n % 256 ∷ []) ≡ bits 40 n
five_bytes n = sym
    (byte_more 32 n
    ∙ ap (λ (l : List Bool). l ++ bits 8 (n % 256)) (byte_more 24 (n / 256))
    ∙ ap (λ (l : List Bool). (l ++ bits 8 (n / 256 % 256)) ++ bits 8 (n % 256)) (byte_more 16 (n / 256 / 256))
    ∙ ap (λ (l : List Bool). ((l ++ bits 8 (n / 256 / 256 % 256)) ++ bits 8 (n / 256 % 256)) ++ bits 8 (n % 256)) (byte_more 8 (n / 256 / 256 / 256))
    ∙ (let p : n / 256 / 256 ≡ n / 65536 = omega arith in
    let q : n / 256 / 256 / 256 ≡ n / 16777216 = omega arith in
    let r : n / 256 / 256 / 256 / 256 ≡ n / 4294967296 = omega arith in
    cc))

pub four_tens : (a b c d : ℕ) → b < 1024 → c < 1024 → d < 1024 → bits 40 (((a * 1024 + b) * 1024 + c) * 1024 + d) ≡ bits 10 a ++ (bits 10 b ++ (bits 10 c ++ bits 10 d))
four_tens a b c d hb hc hd =
    bits_append 30 10 ((a * 1024 + b) * 1024 + c) d hd
    ∙ ap (λ (l : List Bool). l ++ bits 10 d) (bits_append 20 10 (a * 1024 + b) c hc)
    ∙ ap (λ (l : List Bool). (l ++ bits 10 c) ++ bits 10 d) (bits_append 10 10 a b hb)

pub four_list : (l : List ℕ) → length l ≡ 4 → l ≡ get_or l 0 0 ∷ get_or l 1 0 ∷ get_or l 2 0 ∷ get_or l 3 0 ∷ []
four_list [] h = absurd (let z : ⊥ = omega arith in z)
four_list (a ∷ []) h = absurd (let z : ⊥ = omega arith in z)
four_list (a ∷ b ∷ []) h = absurd (let z : ⊥ = omega arith in z)
four_list (a ∷ b ∷ c ∷ []) h = absurd (let z : ⊥ = omega arith in z)
four_list (a ∷ b ∷ c ∷ d ∷ []) h = refl
four_list (a ∷ b ∷ c ∷ d ∷ e ∷ l) h = absurd (let z : ⊥ = omega arith in z)

pub four_joined : (w x y z : List Bool) (l : List ℕ) → length l ≡ 4 → w ≡ ten (get_or l 0 0) → x ≡ ten (get_or l 1 0) → y ≡ ten (get_or l 2 0) → z ≡ ten (get_or l 3 0)
    → w ++ (x ++ (y ++ z)) ≡ flat_map ten l
four_joined w x y z l h p q r s =
    (ap (λ (v : List Bool). v ++ (x ++ (y ++ z))) p
    ∙ ap (λ (v : List Bool). ten (get_or l 0 0) ++ (v ++ (y ++ z))) q
    ∙ ap (λ (v : List Bool). ten (get_or l 0 0) ++ (ten (get_or l 1 0) ++ (v ++ z))) r
    ∙ ap (λ (v : List Bool). ten (get_or l 0 0) ++ (ten (get_or l 1 0) ++ (ten (get_or l 2 0) ++ v))) s)
    ∙ ap (flat_map ten) (sym (four_list l h))
