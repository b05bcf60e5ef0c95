use Rattle.std.proofs.Common.{not, rules, ◌∙◌}
use Rattle.std.proofs.lemmas.Iterator.{YieldsList-from_slice}
use Rattle.std.proofs.lemmas.Iterator.Search.{all_from_yields_List}
use Rattle.directory.specs.Names.{barred}
use Rattle.directory.proofs.Names.{clean_all}
use Rattle.directory.proofs.name.is_clean.Goals as goal

pub returns : goal.returns
returns c =
    all_from_yields_List (λ b. not (barred b)) _ _ _ c.all.ensures.ran (YieldsList-from_slice c.args.bytes.now c.iter.ensures.rest) (λ x b q k. search rules)
    ∙ clean_all c.args.bytes.now
