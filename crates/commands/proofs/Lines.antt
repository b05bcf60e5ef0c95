-- What is written of bytes, piece by piece.
use Rattle.disk.proofs.TwoDigits.{two_digits_then}
use Rattle.std.proofs.Common.{◌≡◌, ℕ, ◌+◌, ◌-◌, ◌/◌, ◌%◌, ◌<◌, ◌≤◌, List, [], ◌∷◌, ◌++◌, length, get_or, take, drop, codes, decimal, ◌^◌, sym, ap, ◌∙◌, arith}
use lib.Utf8.{encode}
use Rattle.std.specs.declared.fmt.Formatter.{Formatter}
use Rattle.std.specs.List.{flat_map}
use Rattle.std.specs.Fmt.{IsPlainFormatter, HasWritten, format_spec, styled_decimal}
use Rattle.std.proofs.Output.{writes_in_calls_nil, has_written_of_eq, has_written_append}
use Rattle.std.proofs.lemmas.List.{flat_map_more, take_more, take_all, take_rest, nil_from_length}
use Rattle.std.proofs.lemmas.Str.{encode_ascii}
use Rattle.commands.specs.Hex.{hex_digit, hex_byte, next_byte, hex_line}

-- what `{:02}` writes of a byte, and what follows
two_digits : (n : ℕ) (rest : List ℕ) → n < 256 → styled_decimal (format_spec 32 0 4 2 (2 ^ 64 - 1)) n ++ rest ≡ decimal (n / 10) ++ (decimal (n % 10) ++ rest)
two_digits n rest small = sym (two_digits_then n rest (omega arith))

pub place_so : (track sector : ℕ) (rest : List ℕ) → track < 256 → sector < 256 → styled_decimal (format_spec 32 0 4 2 (2 ^ 64 - 1)) track ++ (codes "/" ++ (styled_decimal (format_spec 32 0 4 2 (2 ^ 64 - 1)) sector ++ rest)) ≡ decimal (track / 10) ++ (decimal (track % 10) ++ (codes "/" ++ (decimal (sector / 10) ++ (decimal (sector % 10) ++ rest))))
place_so track sector rest h k =
    two_digits track _ h ∙ ap (λ (l : List ℕ). decimal (track / 10) ++ (decimal (track % 10) ++ (codes "/" ++ l))) (two_digits sector rest k)

-- what two digits write of a byte
pub digits_so : (b h l : ℕ) → h < 128 → l < 128 → h ≡ hex_digit (b / 16) → l ≡ hex_digit (b % 16) → encode h ++ encode l ≡ hex_byte b
digits_so b h l p q e f = (λ i. encode_ascii h p i ++ encode_ascii l q i) ∙ (λ i. e i ∷ f i ∷ [])

pub put_none : {W : Type 0} (took : W → List ℕ → W → Type 0) (f : Formatter W) → IsPlainFormatter f → HasWritten took f [] f
put_none took f p = record { wrote = writes_in_calls_nil took f.writer; plain = p }

pub line_none : (bs : List ℕ) → length bs ≡ 0 → [] ≡ hex_line bs
unfolding hex_line
line_none bs e = ap hex_line (sym (nil_from_length bs e))

one_more : {X : Type 0} (show : X → List ℕ) (xs : List X) (i : ℕ) (d : X) → i < length xs → flat_map show (take i xs) ++ show (get_or xs i d) ≡ flat_map show (take (i + 1) xs)
one_more show xs i d h = flat_map_more show [] (take i xs) (get_or xs i d) ∙ ap (flat_map show) (sym (take_more xs i d h))

-- the rest of the bytes, as the code names it
abbrev pub others : List ℕ → List ℕ
others bs = take (length bs - 1) (drop 1 bs)

line_all : (bs : List ℕ) (i : ℕ) → 1 ≤ length bs → length (others bs) ≤ i → hex_byte (get_or bs 0 0) ++ flat_map next_byte (take i (others bs)) ≡ hex_line bs
unfolding hex_line
line_all [] i h l = absurd (omega arith)
line_all (b ∷ bs) i h l = ap (λ (x : List ℕ). hex_byte b ++ flat_map next_byte x) (take_all i (others (b ∷ bs)) l ∙ take_rest (b ∷ bs) 1)

module _ {W : Type 0} (took : W → List ℕ → W → Type 0) (f g h : Formatter W) where
  pub wrote_next : {X : Type 0} (show : X → List ℕ) (xs : List X) (i : ℕ) (d : X) → i < length xs → HasWritten took f (flat_map show (take i xs)) g → HasWritten took g (show (get_or xs i d)) h → HasWritten took f (flat_map show (take (i + 1) xs)) h
  wrote_next show xs i d l p q = has_written_of_eq took f _ _ h (one_more show xs i d l) (has_written_append took f _ g _ h p q)

  pub wrote_line : (bs : List ℕ) (i : ℕ) → 1 ≤ length bs → length (others bs) ≤ i → HasWritten took f (hex_byte (get_or bs 0 0)) g → HasWritten took g (flat_map next_byte (take i (others bs))) h → HasWritten took f (hex_line bs) h
  wrote_line bs i s l p q = has_written_of_eq took f _ _ h (line_all bs i s l) (has_written_append took f _ g _ h p q)
