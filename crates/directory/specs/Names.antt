-- File names: which are valid, and how an entry holds one.
use Rattle.std.specs.Prelude.{ℕ, ◌-◌, Bool, true, cond, not, ◌&&◌, ◌||◌, List, [], ◌∷◌, ◌++◌, length, replicate, Ok, Err, Result, ◌==◌, nat_le, nat_lt}
use Rattle.disk.specs.declared.cause.Cause.TheVariants.{BadName}
use Rattle.disk.specs.declared.refusal.Refusal.{Refusal}
use Rattle.disk.specs.Refusals.{by_caller}

-- no name holds these bytes: carriage return " * , : = ? and the padding
abbrev pub barred : ℕ → Bool
barred b = b == 13 || (b == 34 || (b == 42 || (b == 44 || (b == 58 || (b == 61 || (b == 63 || b == 160))))))

unfoldable pub clean : List ℕ → Bool
clean [] = true
clean (b ∷ bs) = not (barred b) && clean bs

-- one to sixteen bytes, none of them barred
abbrev pub valid : List ℕ → Bool
valid n = nat_lt 0 (length n) && (nat_le (length n) 16 && clean n)

-- a name as an entry holds it
unfoldable pub title : List ℕ → List ℕ
title n = n ++ replicate (16 - length n) 160

abbrev pub named : List ℕ → Result (List ℕ) Refusal
named n = cond (valid n) (Ok (title n)) (Err (by_caller BadName))
