use Rattle.std.proofs.Common.{◌≡◌, length, is_some}
use Rattle.commands.specs.Names.{unescaped}
use Rattle.commands.proofs.name.is_spelled.Given as goal

abbrev pub invariant-loop-tail : goal.invariant-loop-tail
invariant-loop-tail l = is_some (unescaped l.rest) ≡ is_some (unescaped l.text)

abbrev pub decreases-loop-tail : goal.decreases-loop-tail
decreases-loop-tail l = length l.rest
