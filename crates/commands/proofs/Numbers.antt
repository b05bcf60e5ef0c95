-- What parse answers is the number of the text.
use Rattle.std.proofs.Common.{◌≡◌, ℕ, ◌^◌, ◌<◌, true, List, [], ◌∷◌, length, get_or, None, Ok, Err, Result, refl, arith, rules}
use Rattle.std.specs.Result.{OkIff, result_ok}
use Rattle.std.specs.Str.{all_ascii_digits}
use Rattle.std.proofs.lemmas.Str.Parse.{IsNumeralModel, numerals_by_fold}
use Rattle.std.proofs.lemmas.Bool.Decides.{nat_tests}
use Rattle.commands.specs.Numbers.{digits_after, byte_number}

pub own : IsNumeralModel (λ ds. all_ascii_digits ds ≡ true) (digits_after 0)
own = numerals_by_fold _ (search rules) digits_after (search rules)

pub parsed_so : {E : Type 0} (t : List ℕ) (r : Result ℕ E) → OkIff r ((all_ascii_digits t ≡ true) × (0 < length t) × (digits_after 0 t < 2 ^ 8)) (digits_after 0 t) → result_ok r ≡ byte_number t
unfolding byte_number
parsed_so t (Ok x) h = grind (arith, nat_tests)
parsed_so t (Err e) h = grind (arith, nat_tests)

-- a sign is no digit
pub plus_first : (t : List ℕ) → get_or t 0 0 ≡ 43 → None ≡ byte_number t
unfolding byte_number
plus_first [] e = absurd (omega arith)
plus_first (c ∷ cs) e = rw e refl
