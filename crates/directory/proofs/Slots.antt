-- The first slot that passes is the first such number of a range.
use Rattle.std.proofs.Common.{◌≡◌, ℕ, zero, suc, ◌+◌, Bool, cond, Some, Option, sym, refl, ap, ◌∙◌}
use Rattle.std.specs.List.{find, range_with_len}
use Rattle.std.specs.Option.{option_map}
use Rattle.std.proofs.lemmas.Iterator.Adapters.{option_map_id}
use Rattle.directory.specs.Entries.{first_slot}

first_found : (test : ℕ → Bool) (n k : ℕ) → find test (range_with_len k n) ≡ first_slot test n k
unfolding first_slot
first_found test zero k = refl
first_found test (suc n) k = ap (cond (test k) (Some k)) (first_found test n (k + 1))

pub slot_found : (test : ℕ → Bool) (n : ℕ) (r : Option ℕ) → option_map (λ x. x) r ≡ find test (range_with_len 0 n) → r ≡ first_slot test n 0
slot_found test n r h = sym (option_map_id r) ∙ h ∙ first_found test n 0
