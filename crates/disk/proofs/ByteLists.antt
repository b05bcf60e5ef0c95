-- Parts of a list of bytes are lists of bytes.
use Rattle.std.proofs.Common.{ℕ, ◌+◌, ◌<◌, List, take, drop, sym, subst, inl, inr, arith}
use Rattle.std.proofs.lemmas.List.{length-take, get_or-take, get_or-drop, get_or_past}
use Rattle.std.proofs.lemmas.Bool.{cases_lt}
use Rattle.disk.specs.Bytes.{Bytes}

pub drop_bytes : (n : ℕ) (xs : List ℕ) → Bytes xs → Bytes (drop n xs)
drop_bytes n xs h k = subst (λ (x : ℕ). x < 256) (sym (get_or-drop n xs k 0)) (h (n + k))

pub take_bytes : (n : ℕ) (xs : List ℕ) → Bytes xs → Bytes (take n xs)
take_bytes n xs h k = elim (cases_lt k n) [
  | inl l ↦ subst (λ (x : ℕ). x < 256) (sym (get_or-take n xs k 0 l)) (h k)
  | inr l ↦ subst (λ (x : ℕ). x < 256) (sym (get_or_past (take n xs) k 0 (let e = length-take n xs in omega arith))) (omega arith)
]
