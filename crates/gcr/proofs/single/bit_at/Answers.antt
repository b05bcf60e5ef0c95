use Rattle.std.proofs.Common.{◌≡◌, ℕ, ◌-◌, ◌/◌, ◌%◌, ◌≤◌, ◌<◌, Bool, false, Some, None, Option, Bor, List, length, get_or, sym, ap, ◌∙◌, arith, rules, MatchOption}
use Rattle.std.specs.List.{HoldsAt}
use Rattle.std.proofs.lemmas.List.{get_or_past}
use Rattle.gcr.specs.Bits.{bit, bits_of}
use Rattle.gcr.proofs.Bits.{getD_bits_of, length_bits_of}
use Rattle.gcr.proofs.single.bit_at.Goals as goal

-- a bit by the byte that holds it
by_byte : (o : Option (Bor ℕ)) (bs : List ℕ) (at : ℕ) (r : Bool)
    → MatchOption o (length bs ≤ at / 8) (λ x. (at / 8 < length bs) × HoldsAt (λ y. x.now ≡ y) bs (at / 8))
    → MatchOption o (r ≡ false) (λ x. r ≡ bit (7 - at % 8) x.now) → r ≡ get_or (bits_of bs) at false
by_byte None bs at r h k = let l = length_bits_of bs in k ∙ sym (get_or_past (bits_of bs) at false (omega arith))
by_byte (Some x) bs at r h k = k ∙ ap (bit (7 - at % 8)) (h.1 0) ∙ sym (getD_bits_of bs at (let l = h.0 in omega arith))

pub returns : goal.returns
returns c = by_byte c.get.result c.args.bytes.now c.args.at c.is_some_and.result c.get.ensures.lookup.3 (let h : MatchOption c.get.result (c.is_some_and.result ≡ false) (λ x. c.is_some_and.result ≡ bit (7 - c.args.at % 8) x.now) = search rules in h)
