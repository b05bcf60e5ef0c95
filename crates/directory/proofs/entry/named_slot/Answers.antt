use Rattle.std.proofs.Common.{refl, rules}
use Rattle.std.proofs.lemmas.Iterator.{YieldsList-from_range}
use Rattle.std.proofs.lemmas.Iterator.Search.{find_from_yields_List}
use Rattle.directory.specs.Entries.{is_of, slot_of}
use Rattle.directory.proofs.Slots.{slot_found}
use Rattle.directory.proofs.entry.named_slot.Goals as goal

pub returns : goal.returns
unfolding slot_of
returns c =
    slot_found (is_of c.args.block.now c.args.name.now) 8 c.find.result
    (find_from_yields_List (is_of c.args.block.now c.args.name.now) _ _ c.find.result c.find.ensures.ran (YieldsList-from_range 0 8 8 refl refl) (λ x b q k. search rules))
