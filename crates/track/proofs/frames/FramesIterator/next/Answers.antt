use Rattle.std.proofs.Common.{◌≡◌, ℕ, ◌+◌, ◌-◌, Bool, List, [], ◌∷◌, ◌++◌, length, take, sym, refl, ap, ◌∙◌, zero-add, subst, arith}
use Rattle.std.proofs.lemmas.List.{append-nil}
use Rattle.track.specs.Circles.{turned, before, frames_from}
use Rattle.track.specs.Shown.{circle_bits, GivesNext}
use Rattle.track.proofs.Circles.{length_bits, length_turned, Found, found, found_at, frames_take, take_before, before_le}
use Rattle.track.proofs.Turns.{frames_append}
use Rattle.track.proofs.frames.FramesIterator.next.Goals as goal

pub returns-in_err-first-clause-steps : goal.returns-in_err-first-clause-steps
returns-in_err-first-clause-steps c =
    let s = c.args.self.now in
    subst (λ r. GivesNext s r s) (sym c.from_residual.ensures)
    (subst (Found (circle_bits s.circle) s.at (s.circle.bits - s.at)) (sym c.in_err-first.ensures) (found (circle_bits s.circle) s.at (s.circle.bits - s.at)))

pub overflow_add-self : goal.overflow_add-self
overflow_add-self c =
    let s = c.args.self.now in
    let f = found_at (circle_bits s.circle) s.at (s.circle.bits - s.at) _ c.in_ok-first.ensures in
    let l = f.1 in let m = s.circle.small in omega arith

pub invariant_of-self : goal.invariant_of-self
invariant_of-self c =
    let s = c.args.self.now in
    let f = found_at (circle_bits s.circle) s.at (s.circle.bits - s.at) _ c.in_ok-first.ensures in
    let l = f.1 in record { placed = omega arith }

pub invariant_of-result : goal.invariant_of-result
invariant_of-result c =
    let k = c.args.self.now.circle in
    let n = length_turned c.in_ok-first.first (circle_bits k) ∙ length_bits k in
    let m = before_le (turned c.in_ok-first.first (circle_bits k)) in
    record { within = omega arith }

pub returns-clause-steps : goal.returns-clause-steps
returns-clause-steps c =
    let s = c.args.self.now in
    let k : List Bool = circle_bits s.circle in
    let q : ℕ = c.in_ok-first.first in
    let f = found_at k s.at (s.circle.bits - s.at) q c.in_ok-first.ensures in
    let l = f.0 in
    let m = f.1 in
    let n = length_bits s.circle in
    let b : before (turned q k) ≡ take c.frame_bits.result (turned q k) = sym (ap (λ (i : ℕ). take i (turned q k)) c.frame_bits.ensures ∙ take_before (turned q k)) in
    let skips : frames_from k 0 q ≡ frames_from k 0 s.at =
    ap (frames_from k 0) (let e : q ≡ s.at + (q - s.at) = omega arith in e)
    ∙ frames_append k 0 s.at (q - s.at)
    ∙ ap (λ (i : ℕ). frames_from k 0 s.at ++ frames_from k i (q - s.at)) (zero-add s.at)
    ∙ ap (λ (z : List (List Bool)). frames_from k 0 s.at ++ z) f.3
    ∙ append-nil (frames_from k 0 s.at) in
    record {
      shows = ap (frames_from k s.at) (let e : s.circle.bits - s.at ≡ (q - s.at) + (s.circle.bits - q) = omega arith in e)
          ∙ frames_append k s.at (q - s.at) (s.circle.bits - q)
          ∙ ap (λ (z : List (List Bool)). z ++ frames_from k (s.at + (q - s.at)) (s.circle.bits - q)) f.3
          ∙ ap (λ (i : ℕ). frames_from k i (s.circle.bits - q)) (let e : s.at + (q - s.at) ≡ q = omega arith in e)
          ∙ frames_take k q (s.circle.bits - q) (s.circle.bits - (q + 1)) (omega arith) f.2
          ∙ ap (λ (z : List Bool). z ∷ frames_from k (q + 1) (s.circle.bits - (q + 1))) b;
      begins = f.2;
      skips = skips;
      passes = frames_append k 0 q 1
          ∙ ap (λ (i : ℕ). frames_from k 0 q ++ frames_from k i 1) (zero-add q)
          ∙ ap (λ (z : List (List Bool)). frames_from k 0 q ++ z) (frames_take k q 1 0 refl f.2)
          ∙ ap (λ (z : List Bool). frames_from k 0 q ++ z ∷ []) b
          ∙ ap (λ (z : List (List Bool)). z ++ take c.frame_bits.result (turned q k) ∷ []) skips;
      stays = refl;
      near = omega arith;
    }

pub returns-clause-goes : goal.returns-clause-goes
returns-clause-goes c =
    let n = returns-clause-steps c in
    let l = ap length n.shows in
    record { on = λ _. (tt, tt, omega arith); keeps = tt; rests = λ _. tt }
