use Rattle.std.proofs.Common.{◌≡◌, IfOk, sym, ap, ◌∙◌, subst}
use Rattle.disk.specs.Geometry.{Place}
use Rattle.sector.specs.Source.{loaded}
use Rattle.image.specs.declared.image.Image.{Image}
use Rattle.image.specs.Images.{contents_of, disk_of}
use Rattle.image.proofs.Captures.{returned}
use Rattle.image.proofs.image.Image.into_bytes.Goals as goal

pub returns-in-Capture-clause-again : goal.returns-in-Capture-clause-again
returns-in-Capture-clause-again c =
    let d = c.in-Capture.capture in
    let i = sym (c.into_source-in-Capture.ensures ∙ ap (λ x. x.source) c.into_source.ensures) in
    subst (λ (x : Image). IfOk c.hand_back-in-Capture.result (λ v. (p : Place) → loaded (disk_of v.items) p ≡ loaded (contents_of x) p)) (sym c.in-Capture.is)
    (returned d c.into_source-in-Capture.result.image c.hand_back-in-Capture.result (ap (λ x. x.image) i) c.hand_back-in-Capture.ensures)
