use Rattle.std.proofs.Common.{true, refl, arith}
use Rattle.std.proofs.Output.{has_written_of_eq}
use Rattle.commands.specs.Hex.{next_byte}
use Rattle.commands.proofs.Lines.{put_none, line_none, others, wrote_next, wrote_line}
use Rattle.commands.proofs.dump.HexLineDisplay.fmt.Goals as goal

pub returns-in_default-clause-writes : goal.returns-in_default-clause-writes
returns-in_default-clause-writes g c = λ plain _.
    has_written_of_eq g.W.Write.write_str_gives _ _ _ _ (line_none c.args.self.now.0.now (omega arith)) (put_none g.W.Write.write_str_gives c.args.f.now plain)

pub loop-byte-preserved : goal.loop-byte-preserved
loop-byte-preserved g c = λ plain.
    let before = c.loop-byte.invariant plain in
    wrote_next g.W.Write.write_str_gives c.write.new.self c.loop-byte.f c.write-in-loop-byte.new.self next_byte (others c.args.self.now.0.now) c.loop-byte.byte-index 0 (omega arith) before
    (c.in_ok-write-2.ensures.writes before.plain (refl {a = true}))

pub returns-clause-writes : goal.returns-clause-writes
returns-clause-writes g c = λ plain _.
    let first = c.in_ok-write.ensures.writes plain (refl {a = true}) in
    wrote_line g.W.Write.write_str_gives c.args.f.now c.write.new.self c.loop-byte.f c.args.self.now.0.now c.loop-byte.byte-index c.in-len1-up.len_at_least (omega arith) first
    (c.loop-byte.invariant first.plain)
