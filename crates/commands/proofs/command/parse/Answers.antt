use Rattle.std.proofs.Common.{subst}
use Rattle.commands.specs.Commands.{Asked, Answers}
use Rattle.commands.proofs.Words.{nothing_so, asked_so, unknown_so}
use Rattle.commands.proofs.command.parse.Goals as goal

pub returns-in_default : goal.returns-in_default
returns-in_default c = nothing_so c.args.words.now c.in_default.len_below

pub returns-in-Ok : goal.returns-in-Ok
returns-in-Ok c =
    subst (λ (a : Asked). Answers c.command_of.result a)
    (asked_so c.args.words.now _ _ c.in-len1-up.len_at_least c.word-item.is c.as_str.ensures.value _ c.in-Ok.ensures.value) c.command_of.ensures

pub returns-in-Err : goal.returns-in-Err
returns-in-Err c =
    unknown_so c.args.words.now _ _ c.in-len1-up.len_at_least c.word-item.is c.as_str.ensures.value _ c.in-Err.ensures.value c.as_str-in-Err.ensures.value
