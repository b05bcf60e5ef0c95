use Rattle.std.proofs.Common.{◌∙◌, arith, rules}
use Rattle.std.proofs.lemmas.Bool.Decides.{nat_tests}
use Rattle.commands.specs.declared.verb.Verb.TheVariants as verbs
use Rattle.commands.specs.Commands.{texts}
use Rattle.commands.proofs.Words.{text_at, miscounted_so, counted_so, refused_so, misnamed, extract_so, no_track, no_sector, block_so, survey_so}
use Rattle.commands.proofs.command.command_of.Goals as goal
use Rattle.commands.proofs.command.command_of.Goals.{in_default-via-in-Extract+then-words-lt4, in_default-via-in-Extract+else-words-lt4+else-this-lt5, in_default-via-in-Block+then-this-lt4, in_default-via-in-Block+else-this-lt4+else-this-lt5-2, in_default-via-in-Survey+then-this-lt2, in_default-via-in-Survey+else-this-lt2+else-this-lt3, in_default-via-in-Help+then-this-lt1, in_default-via-in-Help+else-this-lt1+else-this-lt2-2}

pub returns-in_err-name_of-in-Extract-len4 : goal.returns-in_err-name_of-in-Extract-len4
returns-in_err-name_of-in-Extract-len4 c =
    let ws = c.args.words.now in
    let name = text_at ws 2 _ _ (omega arith) c.name-item.is c.as_str-in-Extract-len4.ensures.value in
    refused_so _ _ _ _ c.from_residual.ensures.1 (counted_so ws _ verbs.Extract c.in-Extract-len4.is-0 (omega arith))
    (misnamed (texts ws) _ _ name c.in_err-name_of-in-Extract-len4.ensures)

pub returns-in_ok-name_of-in-Extract-len4 : goal.returns-in_ok-name_of-in-Extract-len4
returns-in_ok-name_of-in-Extract-len4 c =
    let ws = c.args.words.now in
    let image = text_at ws 1 _ _ (omega arith) c.image-item.is c.as_str.ensures.value in
    let name = text_at ws 2 _ _ (omega arith) c.name-item.is c.as_str-in-Extract-len4.ensures.value in
    let out = text_at ws 3 _ _ (omega arith) c.out-item.is c.as_str-in-Extract-len4-2.ensures.value in
    counted_so ws _ verbs.Extract c.in-Extract-len4.is-0 (omega arith) ∙ extract_so (texts ws) _ _ _ _ _ name image out c.in_ok-name_of-in-Extract-len4.ensures

pub returns-in_err-number_of-in-Block-len4 : goal.returns-in_err-number_of-in-Block-len4
returns-in_err-number_of-in-Block-len4 c =
    let ws = c.args.words.now in
    let track = text_at ws 2 _ _ (omega arith) c.track-item.is c.as_str-in-Block-len4-2.ensures.value in
    refused_so _ _ _ _ c.from_residual-in_err-number_of-in-Block-len4.ensures.1 (counted_so ws _ verbs.Block c.in-Block-len4.is-0 (omega arith))
    (no_track (texts ws) _ _ track c.in_err-number_of-in-Block-len4.ensures)

pub returns-in_err-number_of-in-Block-len4-2 : goal.returns-in_err-number_of-in-Block-len4-2
returns-in_err-number_of-in-Block-len4-2 c =
    let ws = c.args.words.now in
    let track = text_at ws 2 _ _ (omega arith) c.track-item.is c.as_str-in-Block-len4-2.ensures.value in
    let sector = text_at ws 3 _ _ (omega arith) c.sector-item.is c.as_str-in-Block-len4-3.ensures.value in
    refused_so _ _ _ _ c.from_residual-in_err-number_of-in-Block-len4-2.ensures.1 (counted_so ws _ verbs.Block c.in-Block-len4.is-0 (omega arith))
    (no_sector (texts ws) _ _ _ _ track sector c.in_ok-number_of-in-Block-len4.ensures c.in_err-number_of-in-Block-len4-2.ensures)

pub returns-in_ok-number_of-in-Block-len4-2 : goal.returns-in_ok-number_of-in-Block-len4-2
returns-in_ok-number_of-in-Block-len4-2 c =
    let ws = c.args.words.now in
    let image = text_at ws 1 _ _ (omega arith) c.image-item-then-this-lt5-2.is c.as_str-in-Block-len4.ensures.value in
    let track = text_at ws 2 _ _ (omega arith) c.track-item.is c.as_str-in-Block-len4-2.ensures.value in
    let sector = text_at ws 3 _ _ (omega arith) c.sector-item.is c.as_str-in-Block-len4-3.ensures.value in
    counted_so ws _ verbs.Block c.in-Block-len4.is-0 (omega arith)
    ∙ block_so (texts ws) _ _ _ _ _ track sector image c.in_ok-number_of-in-Block-len4.ensures c.in_ok-number_of-in-Block-len4-2.ensures

pub returns-in-Survey-len2 : goal.returns-in-Survey-len2
returns-in-Survey-len2 c =
    let ws = c.args.words.now in
    let image = text_at ws 1 _ _ (omega arith) c.image-item-then-this-lt3.is c.as_str-in-Survey-len2.ensures.value in
    counted_so ws _ verbs.Survey c.in-Survey-len2.is-0 (omega arith) ∙ survey_so (texts ws) _ image

pub returns-in-Help-len1 : goal.returns-in-Help-len1
returns-in-Help-len1 c = counted_so c.args.words.now _ verbs.Help c.in-Help-len1.is-0 (omega arith)

pub returns-in_default : goal.returns-in_default
returns-in_default c = elim c.in_default.branch [
  | in_default-via-in-Extract+then-words-lt4 w ↦ miscounted_so c.args.words.now _ verbs.Extract (search rules) (grind (arith, nat_tests))
  | in_default-via-in-Extract+else-words-lt4+else-this-lt5 w ↦ miscounted_so c.args.words.now _ verbs.Extract (search rules) (grind (arith, nat_tests))
  | in_default-via-in-Block+then-this-lt4 w ↦ miscounted_so c.args.words.now _ verbs.Block (search rules) (grind (arith, nat_tests))
  | in_default-via-in-Block+else-this-lt4+else-this-lt5-2 w ↦ miscounted_so c.args.words.now _ verbs.Block (search rules) (grind (arith, nat_tests))
  | in_default-via-in-Survey+then-this-lt2 w ↦ miscounted_so c.args.words.now _ verbs.Survey (search rules) (grind (arith, nat_tests))
  | in_default-via-in-Survey+else-this-lt2+else-this-lt3 w ↦ miscounted_so c.args.words.now _ verbs.Survey (search rules) (grind (arith, nat_tests))
  | in_default-via-in-Help+then-this-lt1 w ↦ miscounted_so c.args.words.now _ verbs.Help (search rules) (grind (arith, nat_tests))
  | in_default-via-in-Help+else-this-lt1+else-this-lt2-2 w ↦ miscounted_so c.args.words.now _ verbs.Help (search rules) (grind (arith, nat_tests))
]
