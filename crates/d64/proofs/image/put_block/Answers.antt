use Rattle.std.proofs.Common.{arith}
use Rattle.d64.proofs.Writes.{refilled_paste}
use Rattle.d64.proofs.image.put_block.Goals as goal

pub returns-clause-items : goal.returns-clause-items
returns-clause-items c =
    refilled_paste c.args.image.now c.args.at _ c.as_mut_slice.result.now c.copy_from_slice.new.self c.args.block.now
    c.as_mut_slice.ensures.value c.copy_from_slice.ensures.after (omega arith) (omega arith) c.requires
