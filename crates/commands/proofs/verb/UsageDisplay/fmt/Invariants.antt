use Rattle.std.proofs.Common.{take}
use Rattle.std.specs.List.{flat_map}
use Rattle.std.specs.Fmt.{IsPlainFormatter, HasWritten}
use Rattle.commands.specs.Verbs.{usage_line}
use Rattle.commands.proofs.verb.UsageDisplay.fmt.Given as goal

-- the lines so far were written, since the loop began
abbrev pub invariant-loop-verb : goal.invariant-loop-verb
invariant-loop-verb g l = IsPlainFormatter l.initial.f → HasWritten g.W.Write.write_str_gives l.initial.f (flat_map usage_line (take l.verb-index l.verb-items)) l.f
