use Rattle.std.proofs.Common.{◌≡◌, Ok, Err, sym, ◌∙◌, arith, rules}
use Rattle.std.proofs.lemmas.Bool.{cond-true, cond-false, eq-eqb, ne_eqb}
use Rattle.track.specs.Reading.{data_of}
use Rattle.track.specs.Shown.{shown}
use Rattle.track.proofs.Blocks.{is_seven, data_bad, data_read}
use Rattle.track.proofs.Circles.{length_shown}
use Rattle.track.proofs.window.Window.data.Goals as goal
use Rattle.disk.specs.declared.cause.Cause.TheVariants.{BadCode, BadChecksum}

pub returns-in_err-byte : goal.returns-in_err-byte
returns-in_err-byte c =
    let f = shown c.args.self.now in
    let n = length_shown c.args.self.now in
    let e : data_of f ≡ Err BadCode = data_bad f c.loop-k.k (is_seven _ c.if-ne.ensures ∙ c.byte.ensures) (omega arith) (omega arith) (sym c.in_err-byte.ensures.ok_part ∙ c.byte-in-loop-k.ensures) in
    search rules

pub returns-in_err-sum : goal.returns-in_err-sum
returns-in_err-sum c =
    let f = shown c.args.self.now in
    let n = length_shown c.args.self.now in
    let e : data_of f ≡ Err BadCode = data_bad f 256 (is_seven _ c.if-ne.ensures ∙ c.byte.ensures) (omega arith) (omega arith) (sym c.in_err-sum.ensures.ok_part ∙ c.byte-2.ensures) in
    search rules

pub returns-then-checksum-sum : goal.returns-then-checksum-sum
returns-then-checksum-sum c =
    let f = shown c.args.self.now in
    let n = length_shown c.args.self.now in
    let x = c.checksum.ensures in
    let e : data_of f ≡ Err BadChecksum = data_read f c.in_ok-sum.sum c.loop-k.byte-items (is_seven _ c.if-ne.ensures ∙ c.byte.ensures) (omega arith) c.loop-k-test.array_long (λ k h. c.loop-k.invariant k (omega arith)) (sym c.in_ok-sum.ensures.ok_part ∙ c.byte-2.ensures)
    ∙ cond-false _ _ _ (ne_eqb _ _ (λ q. c.if-checksum-sum.true (x ∙ q))) in
    search rules

pub returns : goal.returns
returns c =
    let f = shown c.args.self.now in
    let n = length_shown c.args.self.now in
    let x = c.checksum.ensures in
    let e : data_of f ≡ Ok c.loop-k.byte-items = data_read f c.in_ok-sum.sum c.loop-k.byte-items (is_seven _ c.if-ne.ensures ∙ c.byte.ensures) (omega arith) c.loop-k-test.array_long (λ k h. c.loop-k.invariant k (omega arith)) (sym c.in_ok-sum.ensures.ok_part ∙ c.byte-2.ensures)
    ∙ cond-true _ _ _ (eq-eqb _ _ (sym x ∙ c.if-checksum-sum.false)) in
    search rules
