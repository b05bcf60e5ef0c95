use Rattle.std.proofs.Common.{arith}
use Rattle.std.proofs.Output.{has_written_of_eq}
use Rattle.commands.proofs.Lines.{place_so}
use Rattle.commands.proofs.account.WrittenDisplay.fmt.Goals as goal

pub returns-clause-writes : goal.returns-clause-writes
returns-clause-writes g c = λ plain ok.
    has_written_of_eq g.W.Write.write_str_gives _ _ _ _
    (rw (c.laid_out.ensures, c.laid_out-2.ensures) (place_so c.args.self.now.place.0 c.args.self.now.place.1 _ (omega arith) (omega arith)))
    (c.write.ensures.writes plain ok)
