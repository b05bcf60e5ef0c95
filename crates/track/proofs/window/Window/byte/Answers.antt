use Rattle.std.proofs.Common.{◌≡◌, ℕ, ◌+◌, ◌*◌, false, take, drop, sym, ap, ◌∙◌, arith}
use Rattle.gcr.specs.Bits.{value}
use Rattle.gcr.specs.Codes.{byte_of}
use Rattle.std.proofs.lemmas.List.{length-drop, get_or-drop}
use Rattle.track.specs.Headers.{byte_at}
use Rattle.track.specs.Shown.{shown}
use Rattle.track.proofs.Circles.{as_bit, byte_step, coded_short, coded_long, length_shown}
use Rattle.track.proofs.window.Window.byte.Goals as goal

pub returns-then-self-from : goal.returns-then-self-from
unfolding byte_at
returns-then-self-from c =
    let n = length_shown c.args.self.now in
    let m = length-drop (c.args.k * 10) (shown c.args.self.now) in
    coded_short (drop (c.args.k * 10) (shown c.args.self.now)) (omega arith)

pub loop-j-preserved : goal.loop-j-preserved
loop-j-preserved c =
    let n = length_shown c.args.self.now in
    let m = length-drop (c.args.k * 10) (shown c.args.self.now) in
    byte_step (drop (c.args.k * 10) (shown c.args.self.now)) c.loop-j.j c.loop-j.code _ c.bit.result c.loop-j.invariant.0 c.loop-j.invariant.1 (omega arith)
    (c.bit.ensures ∙ sym (get_or-drop (c.args.k * 10) (shown c.args.self.now) c.loop-j.j false)) (ap (λ (b : ℕ). c.loop-j.code * 2 + b) (as_bit c.bit.result))

pub returns : goal.returns
unfolding byte_at
returns c =
    let n = length_shown c.args.self.now in
    let m = length-drop (c.args.k * 10) (shown c.args.self.now) in
    let e : c.loop-j.j ≡ 10 = omega arith in
    c.decode.ensures ∙ ap byte_of (c.loop-j.invariant.1 ∙ ap (λ (i : ℕ). value (take i (drop (c.args.k * 10) (shown c.args.self.now)))) e)
    ∙ coded_long (drop (c.args.k * 10) (shown c.args.self.now)) (omega arith)
