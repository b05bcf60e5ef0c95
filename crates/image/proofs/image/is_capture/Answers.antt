use Rattle.std.proofs.Common.{take, codes, sym}
use Rattle.std.proofs.lemmas.Slice.Eq.{slice_eq-Decides}
use Rattle.std.proofs.lemmas.Bool.Decides.{Decides-eqb}
use Rattle.disk.proofs.Compared.{tested}
use Rattle.image.specs.Kinds.{is_capture}
use Rattle.image.proofs.image.is_capture.Goals as goal

pub returns : goal.returns
unfolding is_capture
returns c =
    let d = slice_eq-Decides Decides-eqb _ _ _ c.starts_with.ensures.value in
    tested (take 8 c.args.file.now) (codes "GCR-1541") c.starts_with.result (λ h. sym (d.0 h), λ h. d.1 (sym h))
