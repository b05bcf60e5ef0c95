use Rattle.std.proofs.Common.{◌≡◌, take}
use Rattle.tables.specs.Surveys.{found_first}
use Rattle.tables.proofs.survey.survey.Given as goal

abbrev pub invariant-loop-index : goal.invariant-loop-index
invariant-loop-index g l = take l.index l.finding-items ≡ found_first (g.D.SectorSource.contents l.disk) l.index
