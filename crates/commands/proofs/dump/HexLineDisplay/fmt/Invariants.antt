use Rattle.std.proofs.Common.{take}
use Rattle.std.specs.List.{flat_map}
use Rattle.std.specs.Fmt.{IsPlainFormatter, HasWritten}
use Rattle.commands.specs.Hex.{next_byte}
use Rattle.commands.proofs.dump.HexLineDisplay.fmt.Given as goal

-- the bytes so far were written, since the loop began
abbrev pub invariant-loop-byte : goal.invariant-loop-byte
invariant-loop-byte g l = IsPlainFormatter l.initial.f → HasWritten g.W.Write.write_str_gives l.initial.f (flat_map next_byte (take l.byte-index l.rest)) l.f
