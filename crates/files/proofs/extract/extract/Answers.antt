use Rattle.std.proofs.Common.{Err, ap, ◌∙◌, arith}
use Rattle.files.proofs.Extracts.{held, fills, too_long, too_long_buffer, answered_so, filled_so}
use Rattle.files.proofs.extract.extract.Goals as goal

pub returns-then-buffer-total : goal.returns-then-buffer-total
returns-then-buffer-total g c =
    let h = held _ (g.met.D.SectorSource.whole c.args.disk.now) _ c.in_ok-chain.chain _ c.in_ok-chain.ensures.value c.extent_of-total.ensures.bytes in
    record { answer = ap Err c.by_caller.ensures ∙ too_long h _ (omega arith); buffer = too_long_buffer h _ (omega arith) }

pub copy_chain-requires : goal.copy_chain-requires
copy_chain-requires g c =
    fills (held _ (g.met.D.SectorSource.whole c.args.disk.now) _ c.in_ok-chain.chain _ c.in_ok-chain.ensures.value c.extent_of-total.ensures.bytes) _ (omega arith)

pub returns : goal.returns
returns g c =
    let h = held _ (g.met.D.SectorSource.whole c.args.disk.now) _ c.in_ok-chain.chain _ c.in_ok-chain.ensures.value c.extent_of-total.ensures.bytes in
    record { answer = answered_so h _ (omega arith); buffer = filled_so h _ _ (omega arith) c.copy_chain.ensures }
