use Rattle.std.proofs.Common.{◌≡◌, length, vec_items}
use Rattle.commands.specs.Names.{behind, unescaped}
use Rattle.commands.proofs.name.name_bytes.Given as goal

-- what is written, before what is left
abbrev pub invariant-loop-byte : goal.invariant-loop-byte
invariant-loop-byte l = behind (vec_items l.name) (unescaped l.rest) ≡ unescaped l.text

abbrev pub decreases-loop-byte : goal.decreases-loop-byte
decreases-loop-byte l = length l.rest
