use Rattle.std.proofs.Common.{◌≡◌, ℕ, ◌+◌, ◌*◌, ◌/◌, ◌%◌, ◌<◌, List, [], ◌∷◌, length, get_or, bit_and, sym, refl, ap, ◌∙◌, arith, rules}
use Rattle.std.specs.List.{flat_map}
use Rattle.std.proofs.lemmas.Nat.{and_mask}
use Rattle.gcr.specs.Bits.{bits, bits_of}
use Rattle.gcr.specs.Codes.{Tens}
use Rattle.gcr.proofs.Bits.{five_bytes, four_tens}
use Rattle.gcr.proofs.group.ten_bit_codes.Goals as goal

five_list : (l : List ℕ) → length l ≡ 5 → l ≡ get_or l 0 0 ∷ get_or l 1 0 ∷ get_or l 2 0 ∷ get_or l 3 0 ∷ get_or l 4 0 ∷ []
five_list [] h = absurd (let z : ⊥ = omega arith in z)
five_list (a ∷ []) h = absurd (let z : ⊥ = omega arith in z)
five_list (a ∷ b ∷ []) h = absurd (let z : ⊥ = omega arith in z)
five_list (a ∷ b ∷ c ∷ []) h = absurd (let z : ⊥ = omega arith in z)
five_list (a ∷ b ∷ c ∷ d ∷ []) h = absurd (let z : ⊥ = omega arith in z)
five_list (a ∷ b ∷ c ∷ d ∷ e ∷ []) h = refl
five_list (a ∷ b ∷ c ∷ d ∷ e ∷ f ∷ l) h = absurd (let z : ⊥ = omega arith in z)

-- forty bits, by five bytes
by_bytes : (n a b c d e : ℕ) → a < 256 → b < 256 → c < 256 → d < 256 → e < 256 → n ≡ (a * 16777216 + b * 65536 + c * 256 + d) * 256 + e → bits_of (a ∷ b ∷ c ∷ d ∷ e ∷ []) ≡ bits 40 n
by_bytes n a b c d e ha hb hc hd he is =
    let p : n / 4294967296 ≡ a = omega arith in
    let q : n / 16777216 % 256 ≡ b = omega arith in
    let r : n / 65536 % 256 ≡ c = omega arith in
    let s : n / 256 % 256 ≡ d = omega arith in
    let t : n % 256 ≡ e = omega arith in
    (λ i. bits_of (sym p i ∷ sym q i ∷ sym r i ∷ sym s i ∷ sym t i ∷ [])) ∙ five_bytes n

-- and by four tens
by_tens : (n : ℕ) → bits 40 n ≡ flat_map (bits 10) (n / 1073741824 ∷ n / 1048576 % 1024 ∷ n / 1024 % 1024 ∷ n % 1024 ∷ [])
by_tens n =
    let e : ((n / 1073741824 * 1024 + n / 1048576 % 1024) * 1024 + n / 1024 % 1024) * 1024 + n % 1024 ≡ n = omega arith in
    ap (bits 40) (sym e) ∙ four_tens (n / 1073741824) (n / 1048576 % 1024) (n / 1024 % 1024) (n % 1024) (omega arith) (omega arith) (omega arith)

module _ (l : List ℕ) (long : length l ≡ 5) (ha : get_or l 0 0 < 256) (hb : get_or l 1 0 < 256) (hc : get_or l 2 0 < 256) (hd : get_or l 3 0 < 256) (he : get_or l 4 0 < 256)
    (n : ℕ) (is : n ≡ (get_or l 0 0 * 16777216 + get_or l 1 0 * 65536 + get_or l 2 0 * 256 + get_or l 3 0) * 256 + get_or l 4 0) where
  tens_so : Tens (n / 1073741824 ∷ bit_and (n / 1048576) 1023 ∷ bit_and (n / 1024) 1023 ∷ bit_and n 1023 ∷ []) (bits_of l)
  tens_so = rw (and_mask (n / 1048576) 10, and_mask (n / 1024) 10, and_mask n 10) (
    ap bits_of (five_list l long) ∙ by_bytes n (get_or l 0 0) (get_or l 1 0) (get_or l 2 0) (get_or l 3 0) (get_or l 4 0) ha hb hc hd he is ∙ by_tens n,
    omega arith,
    omega arith,
    omega arith,
    omega arith,
  )

pub returns : goal.returns
returns c = tens_so c.args.track (search rules) (search rules) (search rules) (search rules) (search rules) (search rules) c.from_be_bytes-all.result (omega (arith, c.from_be_bytes-all.ensures))
