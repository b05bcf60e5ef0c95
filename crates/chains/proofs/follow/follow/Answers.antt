use Rattle.std.proofs.Common.{Ok, Err, sym, ap, ◌∙◌, arith}
use Rattle.chains.proofs.Chains.{along_none, turn_next, turn_end}
use Rattle.chains.proofs.follow.follow.Goals as goal

pub loop-init : goal.loop-init
loop-init g c = along_none _ _ _ _ _ c.new-places.ensures c.new-met.ensures

pub loop-preserved : goal.loop-preserved
loop-preserved g c =
    let v = c.longest-end.ensures.value in
    turn_next c.loop.invariant (omega arith) _ (sym c.visit.ensures ∙ c.in_ok-block.was) _ _ _ (sym c.link.ensures ∙ c.in_ok-next.was ∙ ap Ok c.in-Some.is) c.push.ensures.items c.add.ensures

pub returns : goal.returns
returns g c =
    let v = c.longest-end.ensures.value in
    record { value = ap Err c.by_volume.ensures ∙ turn_end c.loop.invariant (omega arith); within = tt }
