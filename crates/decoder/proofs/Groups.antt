-- Groups of four bytes, each coded as five.
use Rattle.std.proofs.Common.{◌≡◌, ℕ, zero, suc, ◌+◌, ◌*◌, ◌<◌, Bool, List, [], ◌∷◌, ◌++◌, length, get_or, take, drop, sym, refl, ap, ◌∙◌, arith}
use Rattle.std.specs.List.{flat_map}
use Rattle.std.specs.Simd.{first_chunks}
use Rattle.std.proofs.lemmas.List.{append-nil, length-append, length-drop, take_more, take-append-drop}
use Rattle.std.proofs.lemmas.List.Concat.{flat_map-append}
use Rattle.gcr.specs.Bits.{bits, bits_of}
use Rattle.gcr.specs.Codes.{ten}
use Rattle.gcr.specs.Sums.{xor_all}
use Rattle.decoder.specs.Writing.{data_bytes}

pub length_data : (b : List ℕ) → length b ≡ 256 → length (data_bytes b) ≡ 260
unfolding data_bytes
length_data b n = ap suc (length-append b (xor_all b ∷ 0 ∷ 0 ∷ []) ∙ (let z : length b + 3 ≡ 259 = omega arith in z))

-- one group more
pub group_more : (o r : List ℕ) (fours : List (List ℕ)) (k : ℕ) → k < length fours → bits_of o ≡ flat_map (flat_map ten) (take k fours) → bits_of r ≡ flat_map ten (get_or fours k [])
    → bits_of (o ++ r) ≡ flat_map (flat_map ten) (take (k + 1) fours)
group_more o r fours k h e f =
    flat_map-append (bits 8) o r
    ∙ ap (λ (z : List Bool). z ++ bits_of r) e
    ∙ ap (λ (z : List Bool). flat_map (flat_map ten) (take k fours) ++ z) (f ∙ sym (append-nil (flat_map ten (get_or fours k []))))
    ∙ sym (flat_map-append (flat_map ten) (take k fours) (get_or fours k [] ∷ []))
    ∙ ap (flat_map (flat_map ten)) (sym (take_more fours k [] h))

-- the codes of all groups of four are those of all bytes
pub groups_all : (n : ℕ) (bytes : List ℕ) → length bytes ≡ n * 4 → flat_map (flat_map ten) (first_chunks 4 n bytes) ≡ flat_map ten bytes
groups_all zero [] l = refl
groups_all zero (b ∷ bytes) l = absurd (omega arith)
groups_all (suc n) bytes l =
    ap (λ (z : List Bool). flat_map ten (take 4 bytes) ++ z) (groups_all n (drop 4 bytes) (length-drop 4 bytes ∙ (omega arith)))
    ∙ sym (flat_map-append ten (take 4 bytes) (drop 4 bytes))
    ∙ ap (flat_map ten) (take-append-drop 4 bytes)
