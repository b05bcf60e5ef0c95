use Rattle.std.proofs.Common.{sym, ◌∙◌, arith}
use Rattle.std.proofs.lemmas.Str.Parse.{parse_plain}
use Rattle.std.proofs.lemmas.Str.Pattern.{starts_char}
use Rattle.std.proofs.lemmas.Bool.{false≢true}
use Rattle.commands.proofs.Numbers.{own, parsed_so, plus_first}
use Rattle.commands.proofs.number.number.Goals as goal

pub returns-then-starts_with : goal.returns-then-starts_with
returns-then-starts_with c =
    let starts = starts_char 43 c.args.text.now c.starts_with.result c.starts_with.ensures.cases (omega arith) (omega arith) in
    plus_first c.args.text.now (starts.0 c.if-starts_with.true)

pub returns : goal.returns
returns c =
    let text = c.args.text.now in
    let starts = starts_char 43 text c.starts_with.result c.starts_with.ensures.cases (omega arith) (omega arith) in
    c.ok.ensures.value ∙ parsed_so text c.parse.result (parse_plain own 8 text _ c.parse.ensures.value.0 (λ e. false≢true (sym c.if-starts_with.false ∙ starts.1 e)))
