use Rattle.std.proofs.Common.{◌∙◌, sym, arith}
use Rattle.d64.proofs.Begins.{begins}
use Rattle.d64.proofs.image.D64SectorSource.read.Goals as goal

pub overflow_add-at : goal.overflow_add-at
overflow_add-at c =
    let b = (begins _ _ _ (sym c.begin_of.ensures ∙ c.in_ok-at.was)).within in
    omega arith

pub slice_bounds-copy_from_slice-end-2 : goal.slice_bounds-copy_from_slice-end-2
slice_bounds-copy_from_slice-end-2 c =
    let b = (begins _ _ _ (sym c.begin_of.ensures ∙ c.in_ok-at.was)).within in
    omega arith
