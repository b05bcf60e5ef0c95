use Rattle.std.proofs.Common.{◌∙◌, sym, refl, rules}
use Rattle.g64.specs.Layout.{inside, clear}
use Rattle.g64.proofs.Looks.{looked}
use Rattle.g64.proofs.layout.all_fit.Goals as goal

pub returns-then-all : goal.returns-then-all
returns-then-all c =
    let f = c.args.file.now in
    let i = looked _ _ (inside f) 35 1 c.all.result c.all.ensures.ran (λ x b q k. search rules) refl in
    rw (sym i ∙ c.if-all.true) (looked _ _ (clear f) 35 1 c.all-then-all.result c.all-then-all.ensures.ran (λ x b q k. search rules) refl)

pub returns-else-all : goal.returns-else-all
returns-else-all c =
    let i = looked _ _ (inside c.args.file.now) 35 1 c.all.result c.all.ensures.ran (λ x b q k. search rules) refl in
    rw (sym i ∙ c.if-all.false) c.if-all.false
