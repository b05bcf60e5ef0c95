use Rattle.std.proofs.Common.{◌-◌, Bool, List, ap, ◌∙◌, arith}
use Rattle.std.specs.Option.{unwrap_or}
use Rattle.track.specs.Aligning.{start_from}
use Rattle.track.specs.Shown.{circle_bits}
use Rattle.track.proofs.Circles.{length_bits, found, found_below}
use Rattle.track.proofs.Starts.{start_range}
use Rattle.track.proofs.circle.Circle.first_start.Goals as goal

pub returns-clause-place : goal.returns-clause-place
returns-clause-place c =
    let k : List Bool = circle_bits c.args.self.now in
    let n = length_bits c.args.self.now in
    c.unwrap_or.ensures ∙ ap (λ o. unwrap_or o 0) c.next_start.ensures
    ∙ start_range k 0 (c.args.self.now.bits - 0)
    ∙ ap (start_from k 0) (omega arith)

pub returns-clause-small : goal.returns-clause-small
returns-clause-small c =
    let k : List Bool = circle_bits c.args.self.now in
    let m = c.args.self.now.small in
    let f = found_below k 0 (c.args.self.now.bits - 0) 65536 _ (found k 0 (c.args.self.now.bits - 0)) (omega arith) (omega arith) in
    let e = c.unwrap_or.ensures ∙ ap (λ o. unwrap_or o 0) c.next_start.ensures in
    omega arith
