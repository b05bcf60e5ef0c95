use Rattle.std.proofs.Common.{◌≡◌, ℕ, ◌==◌, sym, ◌∙◌, rules, tests}
use Rattle.std.specs.List.{position}
use Rattle.std.proofs.lemmas.Iterator.{YieldsList-from_slice}
use Rattle.std.proofs.lemmas.Iterator.Adapters.{position_from-zero}
use Rattle.std.proofs.lemmas.Iterator.Search.{position_from_yields_List}
use Rattle.gcr.specs.Codes.{codes, nibble_of}
use Rattle.gcr.proofs.nibble.nibble.Goals as goal

by_position : (c : ℕ) → position (λ x. c == x) codes ≡ nibble_of c
by_position c = position_from-zero (λ x. c == x) codes

pub returns-in_err-nibble-clause-value : goal.returns-in_err-nibble-clause-value
returns-in_err-nibble-clause-value c =
    let p : c.position.result ≡ position (λ x. c.args.code == x) codes = position_from_yields_List (λ x. c.args.code == x) _ _ c.position.result c.position.ensures.ran (YieldsList-from_slice codes c.iter.ensures.rest) (λ x b q k. search (rules, tests)) in
    c.from_residual.ensures ∙ sym c.in_err-nibble.was ∙ p ∙ by_position c.args.code
