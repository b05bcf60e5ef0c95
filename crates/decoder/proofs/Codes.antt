-- The coded bits of a data block: as many as they are, what they begin and end with, and what they read as.
use Rattle.std.proofs.Common.{◌≡◌, ℕ, zero, suc, ◌+◌, ◌*◌, ◌/◌, ◌%◌, ◌<◌, ◌≤◌, Bool, true, false, eqb, List, [], ◌∷◌, ◌++◌, length, get_or, drop, Some, None, Ok, fold, Option, sym, refl, ap, ◌∙◌, ⊎_elim, arith}
use lib.Bits.{bit_xor, xor_lt}
use Rattle.std.specs.List.{flat_map, AllByRecursion}
use Rattle.std.proofs.lemmas.List.{append_assoc, length-append, take_at, drop_at, get_or_past}
use Rattle.std.proofs.lemmas.List.Concat.{flat_map-append}
use Rattle.std.proofs.ByRecursion.{All-push}
use Rattle.std.proofs.lemmas.Bool.{agree_below_at, cases_Bool, true≢false, false≢true, cond-true, cond-false, eqb-true, eq-eqb, cases_lt}
use Rattle.gcr.specs.Bits.{bits, value}
use Rattle.gcr.specs.Codes.{codes, code_of, ten, byte_of, coded, bytes_in, if_some}
use Rattle.gcr.specs.Sums.{xor_all}
use Rattle.track.specs.Circles.{ones, before}
use Rattle.track.specs.Headers.{byte_at, head_of, header}
use Rattle.track.specs.Places.{last_or}
use Rattle.track.specs.Reading.{data_of}
use Rattle.track.proofs.Cuts.{ones_fewer, ones_front}
use Rattle.track.proofs.Circles.{coded_long}
use Rattle.track.proofs.Finds.{last_over}
use Rattle.track.proofs.Blocks.{data_long, summed_is}
use Rattle.decoder.specs.Writing.{data_bits, data_bytes}

ones_more : (m n : ℕ) (l : List Bool) → m ≤ n → ones m l ≡ false → ones n l ≡ false
ones_more m n l h e = ⊎_elim (λ t. absurd (true≢false (sym (ones_fewer m n l h t) ∙ e))) (λ f. f) (cases_Bool (ones n l))

-- at most five bits before what does not begin with five ones: no ten ones
no_run : (n : ℕ) (l w : List Bool) → length l + 5 ≤ n → ones 5 w ≡ false → ones n (l ++ w) ≡ false
no_run n [] w h e = ones_more 5 n w (omega arith) e
no_run zero (b ∷ l) w h e = absurd (omega arith)
no_run (suc n) (true ∷ l) w h e = no_run n l w (omega arith) e
no_run (suc n) (false ∷ l) w h e = refl

five : (l w : List Bool) → length l ≤ 5 → ones 5 w ≡ false → before (l ++ w) ≡ l ++ before w
five [] w h e = refl
five (b ∷ l) w h e =
    cond-false (ones 10 (b ∷ (l ++ w))) [] (b ∷ before (l ++ w)) (no_run 10 (b ∷ l) w (omega arith) e)
    ∙ ap (λ (z : List Bool). b ∷ z) (five l w (omega arith) e)

-- no code is five ones
code_zero : (n : ℕ) → ones 5 (bits 5 (code_of n)) ≡ false
code_zero n =
    ⊎_elim
    (agree_below_at (λ k. ones 5 (bits 5 (code_of k))) (λ _. false) 16 n refl)
    (λ l. ap (λ (v : ℕ). ones 5 (bits 5 v)) (get_or_past codes n 0 l))
    (cases_lt n 16)

-- before coded bits a frame goes on
abbrev Calm : List Bool → List Bool → Type 0
Calm l w = (before (l ++ w) ≡ l ++ before w) × (ones 5 (l ++ w) ≡ false)

code_calm : (n : ℕ) (w : List Bool) → ones 5 w ≡ false → Calm (bits 5 (code_of n)) w
code_calm n w e = (five (bits 5 (code_of n)) w (omega arith) e, ones_front 5 (bits 5 (code_of n)) w (omega arith) ∙ code_zero n)

calm_append : (a b w : List Bool) → Calm a (b ++ w) → Calm b w → Calm (a ++ b) w
calm_append a b w p q = (
  ap before (append_assoc a b w) ∙ p.0 ∙ ap (λ (z : List Bool). a ++ z) q.0 ∙ sym (append_assoc a b (before w)),
  ap (ones 5) (append_assoc a b w) ∙ p.1,
)

ten_calm : (b : ℕ) (w : List Bool) → ones 5 w ≡ false → Calm (ten b) w
ten_calm b w e =
    let q = code_calm (b % 16) w e in
    calm_append (bits 5 (code_of (b / 16))) (bits 5 (code_of (b % 16))) w (code_calm (b / 16) (bits 5 (code_of (b % 16)) ++ w) q.1) q

joined_calm : (x : ℕ) (xs : List ℕ) (w : List Bool) → ones 5 w ≡ false → Calm (flat_map ten (x ∷ xs)) w
joined_calm x [] w e = calm_append (ten x) [] w (ten_calm x w e) (refl, e)
joined_calm x (y ∷ xs) w e =
    let q = joined_calm y xs w e in calm_append (ten x) (flat_map ten (y ∷ xs)) w (ten_calm x (flat_map ten (y ∷ xs) ++ w) q.1) q

-- every byte reads back
abbrev is_byte : ℕ → Option ℕ → Bool
is_byte n None = false
is_byte n (Some m) = eqb m n

is_byte_some : (n : ℕ) (o : Option ℕ) → is_byte n o ≡ true → o ≡ Some n
is_byte_some n None e = absurd (false≢true e)
is_byte_some n (Some m) e = ap (λ (k : ℕ). Some k) (eqb-true m n e)

byte_back : (b : ℕ) → b < 256 → byte_of (value (ten b)) ≡ Some b
byte_back b h = is_byte_some b (byte_of (value (ten b))) (agree_below_at (λ n. is_byte n (byte_of (value (ten n)))) (λ _. true) 256 b refl h)

coded_ten : (b : ℕ) (w : List Bool) → b < 256 → coded (ten b ++ w) ≡ Some b
coded_ten b w h =
    sym (coded_long (ten b ++ w) (let e = length-append (ten b) w in omega arith))
    ∙ ap (λ (z : List Bool). byte_of (value z)) (take_at (ten b) w 10 refl)
    ∙ byte_back b h

pub bytes_back : (n : ℕ) (bs : List ℕ) (w : List Bool) → length bs ≡ n → AllByRecursion (λ x. x < 256) bs → bytes_in n (flat_map ten bs ++ w) ≡ Some bs
unfolding bytes_in
bytes_back zero [] w e h = refl
bytes_back (suc n) [] w e h = absurd (omega arith)
bytes_back zero (b ∷ bs) w e h = absurd (omega arith)
bytes_back (suc n) (b ∷ bs) w e h =
    ap (bytes_in (suc n)) (append_assoc (ten b) (flat_map ten bs) w)
    ∙ ap (λ (o : Option ℕ). if_some o (λ x. if_some (bytes_in n (drop 10 (ten b ++ (flat_map ten bs ++ w)))) (λ xs. Some (x ∷ xs)))) (coded_ten b (flat_map ten bs ++ w) h.0)
    ∙ ap (λ (z : List Bool). if_some (bytes_in n z) (λ xs. Some (b ∷ xs))) (drop_at (ten b) (flat_map ten bs ++ w) 10 refl)
    ∙ ap (λ (o : Option (List ℕ)). if_some o (λ xs. Some (b ∷ xs))) (bytes_back n bs w (omega arith) h.1)

length_joined : (bs : List ℕ) → length (flat_map ten bs) ≡ length bs * 10
length_joined [] = refl
length_joined (b ∷ bs) = length-append (ten b) (flat_map ten bs) ∙ (let e = length_joined bs in let z : 10 + length (flat_map ten bs) ≡ suc (length bs) * 10 = omega arith in z)

folded_small : (bs : List ℕ) (a : ℕ) → a < 256 → AllByRecursion (λ x. x < 256) bs → fold bit_xor a bs < 256
folded_small [] a h e = h
folded_small (b ∷ bs) a h e = folded_small bs (bit_xor a b) (xor_lt 8 a b h e.0) e.1

not_head : (a b c d e : Option ℕ) → head_of (Some 7) a b c d e ≡ None
not_head None b c d e = refl
not_head (Some a) None c d e = refl
not_head (Some a) (Some b) None d e = refl
not_head (Some a) (Some b) (Some c) None e = refl
not_head (Some a) (Some b) (Some c) (Some d) None = refl
not_head (Some a) (Some b) (Some c) (Some d) (Some e) = refl

-- what laying needs of the bits: they are as many, begin with a zero, hold no sync and end none, are no header, and hold the block
pub record Lays (l : List Bool) (b : List ℕ) : Type 0 where
  pub long : length l ≡ 2600
  pub begins : (w : List Bool) → get_or (l ++ w) 0 true ≡ false
  pub ends : last_or true l ≡ false
  pub calm : (w : List Bool) → before (l ++ w) ≡ l ++ before w
  pub plain : (w : List Bool) → header (l ++ w) ≡ None
  pub holds : (w : List Bool) → data_of (l ++ w) ≡ Ok b

pub lays : (b : List ℕ) → length b ≡ 256 → AllByRecursion (λ x. x < 256) b → Lays (data_bits b) b
unfolding data_bits data_bytes byte_at
lays b n h =
    let S : ℕ = xor_all b in
    let B : List ℕ = b ++ S ∷ [] in
    let Z : List Bool = flat_map ten (0 ∷ 0 ∷ []) in
    let m : length B ≡ 257 = length-append b (S ∷ []) ∙ (let z : length b + 1 ≡ 257 = omega arith in z) in
    let split : data_bits b ≡ flat_map ten (7 ∷ B) ++ Z =
    ap (λ (z : List ℕ). flat_map ten (7 ∷ z)) (sym (append_assoc b (S ∷ []) (0 ∷ 0 ∷ []))) ∙ flat_map-append ten (7 ∷ B) (0 ∷ 0 ∷ []) in
    let parts : (w : List Bool) → data_bits b ++ w ≡ ten 7 ++ (flat_map ten B ++ (Z ++ w)) = λ w.
    ap (λ (z : List Bool). z ++ w) split ∙ append_assoc (flat_map ten (7 ∷ B)) Z w ∙ append_assoc (ten 7) (flat_map ten B) (Z ++ w) in
    let mark : (w : List Bool) → byte_at (data_bits b ++ w) 0 ≡ Some 7 = λ w.
    ap coded (parts w) ∙ coded_ten 7 (flat_map ten B ++ (Z ++ w)) (omega arith) in
    let size : length (data_bits b) ≡ 2600 = ap length split ∙ length-append (flat_map ten (7 ∷ B)) Z ∙ (let e = length_joined (7 ∷ B) in omega arith) in
    record {
      long = size;
      begins = λ w. ap (λ (z : List Bool). get_or z 0 true) (parts w);
      ends = ap (last_or true) split ∙ last_over true (get_or Z 0 true) (flat_map ten (7 ∷ B)) (drop 1 Z);
      calm = λ w.
          ap (λ (z : List Bool). before (z ++ w)) split ∙ ap before (append_assoc (flat_map ten (7 ∷ B)) Z w)
          ∙ (joined_calm 7 B (Z ++ w) refl).0
          ∙ sym (append_assoc (flat_map ten (7 ∷ B)) Z (before w)) ∙ ap (λ (z : List Bool). z ++ before w) (sym split);
      plain = λ w.
          let f : List Bool = data_bits b ++ w in
          ap (λ (o : Option ℕ). head_of o (byte_at f 1) (byte_at f 2) (byte_at f 3) (byte_at f 4) (byte_at f 5)) (mark w)
          ∙ not_head (byte_at f 1) (byte_at f 2) (byte_at f 3) (byte_at f 4) (byte_at f 5);
      holds = λ w.
          data_long (data_bits b ++ w) (Some B) (sym (mark w)) (let e = length-append (data_bits b) w in omega arith)
          (ap (λ (z : List Bool). bytes_in 257 (drop 10 z)) (parts w)
          ∙ bytes_back 257 B (Z ++ w) m (All-push (λ x. x < 256) b S h (folded_small b 0 (omega arith) h)))
          ∙ summed_is b S n ∙ cond-true (eqb S S) _ _ (eq-eqb S S refl);
    }
