-- What `{:02}` writes of a number: its last digit, behind at least one more.
use Rattle.std.proofs.Common.{◌≡◌, ℕ, ◌+◌, ◌-◌, ◌/◌, ◌%◌, ◌^◌, ◌<◌, ◌≤◌, false, List, [], ◌∷◌, ◌++◌, length, inl, inr, ap, sym, ◌∙◌, arith, append_assoc, append-nil, length-append}
use Rattle.std.specs.Fmt.{decimal, padded_integral, format_spec, char_count}
use Rattle.std.proofs.lemmas.Bool.{cases_lt}
use Rattle.std.proofs.lemmas.Fmt.{decimal_digit, decimal_step, decimal_nonempty}

-- the text of a hole `{:02}`
abbrev pub padded : ℕ → List ℕ
padded n = padded_integral (format_spec 32 0 4 2 (2 ^ 64 - 1)) false [] (decimal n)

filled : (l : List ℕ) → 2 ≤ length l → padded_integral (format_spec 32 0 4 2 (2 ^ 64 - 1)) false [] l ≡ l
unfolding padded_integral char_count
filled l h = let p : 2 - length l ≡ 0 = omega arith in rw (p, append-nil l)

two_digits : (n : ℕ) → n < 2 ^ 64 → padded n ≡ decimal (n / 10) ++ decimal (n % 10)
unfolding padded_integral char_count
two_digits n h = elim (cases_lt n 10) [
  | inl l ↦ let high : n / 10 ≡ 0 = omega arith in let low : n % 10 ≡ n = omega arith in rw (high, low, decimal_digit n l, decimal_digit 0 (omega arith))
  | inr l ↦
      let s = decimal_step n l h in
      let k = decimal_nonempty (n / 10) (omega arith) in
      let m : 2 ≤ length (decimal n) = rw s (omega (arith, length-append (decimal (n / 10)) ((48 + n % 10) ∷ []))) in
      filled (decimal n) m ∙ s ∙ ap (λ t. decimal (n / 10) ++ t) (sym (decimal_digit (n % 10) (omega arith)))
]

pub two_digits_then : (n : ℕ) (rest : List ℕ) → n < 2 ^ 64 → decimal (n / 10) ++ (decimal (n % 10) ++ rest) ≡ padded n ++ rest
two_digits_then n rest h = sym (append_assoc (decimal (n / 10)) (decimal (n % 10)) rest) ∙ ap (λ t. t ++ rest) (sym (two_digits n h))
