use Rattle.std.proofs.Common.{[], ◌∷◌, ◌++◌, ◌∙◌, arith, rules}
use Rattle.std.proofs.lemmas.List.{length-take, take_more_set}
use Rattle.tables.specs.Surveys.{found_first}
use Rattle.tables.proofs.Firsts.{firsts_made}
use Rattle.tables.proofs.Surveys.{first_more}
use Rattle.tables.proofs.survey.survey.Goals as goal

pub look_at-requires : goal.look_at-requires
look_at-requires g c = omega (arith, length-take 683 c.args.table.now)

pub loop-index-preserved : goal.loop-index-preserved
loop-index-preserved g c =
    take_more_set c.loop-index.finding-items c.loop-index.index c.look_at.result (omega arith)
    ∙ (λ j. c.loop-index.invariant j ++ c.look_at.ensures j ∷ [])
    ∙ first_more (g.D.SectorSource.contents c.args.disk.now) c.loop-index.index

pub returns-clause-after : goal.returns-clause-after
returns-clause-after g c =
    firsts_made (found_first (g.D.SectorSource.contents c.args.disk.now)) c.args.table.now c.loop-index.finding-items c.loop-index.index (search rules) (search rules) (omega arith) c.loop-index.invariant
