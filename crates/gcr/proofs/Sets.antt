-- One bit of a byte or of bytes set, in the byte and in its bits.
use Rattle.std.proofs.Common.{◌≡◌, ◌≢◌, ℕ, zero, suc, ◌+◌, ◌-◌, ◌*◌, ◌/◌, ◌%◌, ◌<◌, ◌≤◌, Bool, List, [], ◌∷◌, ◌++◌, length, get_or, set, inl, inr, sym, refl, ap, ◌∙◌, div-add-mod', arith, length-set}
use Rattle.std.proofs.lemmas.Bool.{cases_eq}
use Rattle.std.proofs.lemmas.List.{set-append_left, set-append_right, same_lists, get_or-set_other, set_past}
use Rattle.std.proofs.lemmas.Grind.{get_or-set_at}
use Rattle.gcr.specs.Bits.{bit, bits, bits_of}
use Rattle.gcr.proofs.Bits.{get_d_bits, length_bits_of}

-- the bits of a byte that differs from another in one of them at most
pub bits_set : (v w at : ℕ) (b : Bool) → at < 8 → bit (7 - at) w ≡ b → ((i : ℕ) → i < 8 → i ≢ 7 - at → bit i w ≡ bit i v) → bits 8 w ≡ set (bits 8 v) at b
bits_set v w at b h same other = same_lists (bits 8 w) (set (bits 8 v) at b) (sym (length-set (bits 8 v) at b)) each
  where
    each : (k : ℕ) (d : Bool) → k < 8 → get_or (bits 8 w) k d ≡ get_or (set (bits 8 v) at b) k d
    each k d l = elim (cases_eq k at) [
      | inl e ↦ get_d_bits 8 w k d l ∙ ap (λ (i : ℕ). bit i w) (let n : 8 - 1 - k ≡ 7 - at = omega arith in n) ∙ same ∙ sym (get_or-set_at (bits 8 v) at k b d e h)
      | inr n ↦ get_d_bits 8 w k d l ∙ other (8 - 1 - k) (omega arith) (λ e. n (omega arith)) ∙ sym (get_d_bits 8 v k d l) ∙ sym (get_or-set_other (bits 8 v) at k b d n)
    ]

pub bits_of_set : (bs : List ℕ) (q r w : ℕ) (b : Bool) → q < length bs → r < 8 → bits 8 w ≡ set (bits 8 (get_or bs q 0)) r b → bits_of (set bs q w) ≡ set (bits_of bs) (q * 8 + r) b
bits_of_set [] q r w b h l e = absurd (let z : ⊥ = omega arith in z)
bits_of_set (x ∷ bs) zero r w b h l e =
    ap (λ (z : List Bool). z ++ bits_of bs) e
    ∙ sym (set-append_left (bits 8 x) (bits_of bs) r b l)
    ∙ ap (λ (i : ℕ). set (bits 8 x ++ bits_of bs) i b) (let z : r ≡ 0 * 8 + r = omega arith in z)
bits_of_set (x ∷ bs) (suc q) r w b h l e =
    ap (λ (z : List Bool). bits 8 x ++ z) (bits_of_set bs q r w b (omega arith) l e)
    ∙ ap (λ (i : ℕ). bits 8 x ++ set (bits_of bs) i b) (let z : q * 8 + r ≡ suc q * 8 + r - 8 = omega arith in z)
    ∙ sym (set-append_right (bits 8 x) (bits_of bs) 8 (suc q * 8 + r) b refl (omega arith))

pub bits_of_set_at : (bs : List ℕ) (p w : ℕ) (b : Bool) → p < length bs * 8 → bits 8 w ≡ set (bits 8 (get_or bs (p / 8) 0)) (p % 8) b → bits_of (set bs (p / 8) w) ≡ set (bits_of bs) p b
bits_of_set_at bs p w b h e =
    bits_of_set bs (p / 8) (p % 8) w b (omega arith) (omega arith) e
    ∙ ap (λ (i : ℕ). set (bits_of bs) i b) (div-add-mod' p 8)

-- past the end of the bytes nothing is set
pub bits_of_set_past : (bs : List ℕ) (p : ℕ) (b : Bool) → length bs ≤ p / 8 → set (bits_of bs) p b ≡ bits_of bs
bits_of_set_past bs p b h = set_past (bits_of bs) p b (let l = length_bits_of bs in omega arith)
