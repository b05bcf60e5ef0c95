use Rattle.std.proofs.Common.{sym, ap, ◌∙◌}
use Rattle.image.specs.declared.image.Image.{Image}
use Rattle.image.specs.Images.{answers_as}
use Rattle.image.proofs.image.ImageSectorDevice.write.Goals as goal

pub returns-in-Capture-clause-answers : goal.returns-in-Capture-clause-answers
returns-in-Capture-clause-answers c = λ q. c.write-in-Capture.ensures.answers q ∙ ap (λ (i : Image). answers_as i q) (sym c.in-Capture.is)
