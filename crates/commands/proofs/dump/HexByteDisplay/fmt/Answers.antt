use Rattle.std.proofs.Output.{has_written_of_eq}
use Rattle.commands.proofs.Lines.{digits_so}
use Rattle.commands.proofs.dump.HexByteDisplay.fmt.Goals as goal

pub returns-clause-writes : goal.returns-clause-writes
returns-clause-writes g c = λ plain ok.
    has_written_of_eq g.W.Write.write_str_gives _ _ _ _ (digits_so _ _ _ c.hex_digit-high.ensures.ascii c.hex_digit-low.ensures.ascii c.hex_digit-high.ensures.value c.hex_digit-low.ensures.value) (c.write.ensures.writes plain ok)
