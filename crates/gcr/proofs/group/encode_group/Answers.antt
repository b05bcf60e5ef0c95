use Rattle.std.proofs.Common.{◌≡◌, ℕ, ◌+◌, ◌*◌, ◌/◌, ◌%◌, ◌^◌, ◌<◌, List, [], ◌∷◌, length, get_or, bit_or, w64, ap, ◌∙◌, mod-eq_of_lt, arith, rules}
use Rattle.std.specs.List.{flat_map}
use Rattle.std.specs.Int.{to_be_bytes}
use Rattle.std.proofs.lemmas.Nat.{or_shifted}
use Rattle.gcr.specs.Bits.{bits, bits_of}
use Rattle.gcr.specs.Codes.{ten}
use Rattle.gcr.proofs.Bits.{five_bytes, four_tens, four_joined}
use Rattle.gcr.proofs.group.encode_group.Goals as goal

-- ten bits more at the low end
more : (n b : ℕ) → n < 2 ^ 30 → b < 1024 → bit_or (n * 2 ^ 10 % 2 ^ 64) b ≡ n * 1024 + b
more n b h k = ap (λ (m : ℕ). bit_or m b) (mod-eq_of_lt (omega arith)) ∙ or_shifted n 10 b k

joined : (a b c d : ℕ) → a < 1024 → b < 1024 → c < 1024 → d < 1024 →
    bit_or (bit_or (bit_or (a * 2 ^ 10 % 2 ^ 64) b * 2 ^ 10 % 2 ^ 64) c * 2 ^ 10 % 2 ^ 64) d ≡ ((a * 1024 + b) * 1024 + c) * 1024 + d
joined a b c d ha hb hc hd =
    rw (more a b (omega arith) hb, more (a * 1024 + b) c (omega arith) hc, more ((a * 1024 + b) * 1024 + c) d (omega arith) hd)

last_five : (n : ℕ) (l : List ℕ) → n < 2 ^ 40 → l ≡ to_be_bytes w64 n → bits_of (get_or l 3 0 ∷ get_or l 4 0 ∷ get_or l 5 0 ∷ get_or l 6 0 ∷ get_or l 7 0 ∷ []) ≡ bits 40 n
last_five n l h e =
    let p : n / 4294967296 % 256 ≡ n / 4294967296 = omega arith in
    (λ i. bits_of (get_or (e i) 3 0 ∷ get_or (e i) 4 0 ∷ get_or (e i) 5 0 ∷ get_or (e i) 6 0 ∷ get_or (e i) 7 0 ∷ []))
    ∙ (λ i. bits_of (p i ∷ n / 16777216 % 256 ∷ n / 65536 % 256 ∷ n / 256 % 256 ∷ n % 256 ∷ []))
    ∙ five_bytes n

module _ (bytes codes : List ℕ) (long : length bytes ≡ 4) (small : (i : ℕ) → i < 4 → get_or codes i 0 < 1024) (tens : (i : ℕ) → i < 4 → bits 10 (get_or codes i 0) ≡ ten (get_or bytes i 0)) where
  group_bits : (l : List ℕ) → let a = get_or codes 0 0 in let b = get_or codes 1 0 in let c = get_or codes 2 0 in let d = get_or codes 3 0 in
      l ≡ to_be_bytes w64 (bit_or (bit_or (bit_or (a * 2 ^ 10 % 2 ^ 64) b * 2 ^ 10 % 2 ^ 64) c * 2 ^ 10 % 2 ^ 64) d) →
      bits_of (get_or l 3 0 ∷ get_or l 4 0 ∷ get_or l 5 0 ∷ get_or l 6 0 ∷ get_or l 7 0 ∷ []) ≡ flat_map ten bytes
  group_bits l e =
      let a = get_or codes 0 0 in let b = get_or codes 1 0 in let c = get_or codes 2 0 in let d = get_or codes 3 0 in
      let ha : a < 1024 = small 0 (omega arith) in let hb : b < 1024 = small 1 (omega arith) in
      let hc : c < 1024 = small 2 (omega arith) in let hd : d < 1024 = small 3 (omega arith) in
      last_five (((a * 1024 + b) * 1024 + c) * 1024 + d) l (omega arith) (e ∙ ap (to_be_bytes w64) (joined a b c d ha hb hc hd))
      ∙ four_tens a b c d hb hc hd
      ∙ four_joined (bits 10 a) (bits 10 b) (bits 10 c) (bits 10 d) bytes long (tens 0 (omega arith)) (tens 1 (omega arith)) (tens 2 (omega arith)) (tens 3 (omega arith))

pub returns : goal.returns
returns c = group_bits c.args.bytes c.map.result (search rules)
    (λ i h. let call = c.map.ensures.items.at i 0 0 h in search rules)
    (λ i h. let call = c.map.ensures.items.at i 0 0 h in search rules)
    c.to_be_bytes.result c.to_be_bytes.ensures
