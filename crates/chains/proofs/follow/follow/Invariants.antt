use Rattle.chains.proofs.Chains.{Along}
use Rattle.chains.proofs.follow.follow.Given as goal

abbrev pub invariant-loop : goal.invariant-loop
invariant-loop g l =
    Along (g.D.SectorSource.contents l.disk) l.route l.fn.from l.fn.first l.counter l.places.items l.met l.back l.here
