use Rattle.std.proofs.Common.{take}
use Rattle.std.proofs.lemmas.Slice.Eq.{slice_eq-Decides}
use Rattle.std.proofs.lemmas.Bool.Decides.{Decides-eqb}
use Rattle.disk.proofs.Compared.{tested}
use Rattle.g64.specs.Layout.{head, headed}
use Rattle.g64.proofs.layout.has_head.Goals as goal

pub returns : goal.returns
unfolding headed
returns c = tested head (take 10 c.args.file.now) c.starts_with.result (slice_eq-Decides Decides-eqb _ _ _ c.starts_with.ensures.value)
