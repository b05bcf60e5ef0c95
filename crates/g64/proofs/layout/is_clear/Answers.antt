use Rattle.std.proofs.Common.{◌≡◌, ℕ, ◌+◌, ◌-◌, sym, ap, ◌∙◌, arith, rules}
use Rattle.g64.specs.Layout.{apart, apart_from, extent_of, clear}
use Rattle.g64.proofs.Looks.{looked, passed, each_same}
use Rattle.g64.proofs.Extents.{apart_at, apart_none}
use Rattle.g64.proofs.layout.is_clear.Goals as goal

pub returns-in_default : goal.returns-in_default
unfolding clear
returns-in_default c =
    let f = c.args.file.now in
    let t : ℕ = c.args.track in
    sym (passed (apart f t) (35 - t) (t + 1) (λ i l u. apart_none f t i (sym c.extent_of.ensures ∙ c.in_default.is)))

pub returns : goal.returns
unfolding clear
returns c =
    let f = c.args.file.now in
    let t : ℕ = c.args.track in
    let n : 36 ≡ t + 1 + (35 - t) = omega arith in
    looked _ _ (λ u. apart_from c.in-Some.own (extent_of f u)) (35 - t) (t + 1) c.all.result c.all.ensures.ran (λ x b q k. search rules) (ap (λ (k : ℕ). record { start = t + 1; end = k }) n)
    ∙ each_same (λ u. apart_from c.in-Some.own (extent_of f u)) (apart f t) (35 - t) (t + 1) (λ u. apart_at f t u c.in-Some.own (sym c.extent_of.ensures ∙ c.in-Some.is))
