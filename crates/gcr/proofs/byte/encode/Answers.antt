use Rattle.std.proofs.Common.{◌+◌, ◌*◌, ◌/◌, ◌%◌, ap, ◌∙◌, arith}
use Rattle.gcr.specs.Bits.{bits}
use Rattle.gcr.specs.Codes.{code_of}
use Rattle.gcr.proofs.Bits.{bits_append}
use Rattle.gcr.proofs.byte.encode.Goals as goal

pub returns-clause-ten : goal.returns-clause-ten
returns-clause-ten c =
    let p = c.from.ensures ∙ c.code.ensures.value in
    let q = c.from-2.ensures ∙ c.code-2.ensures.value in
    ap (bits 10) (λ i. p i * 32 + q i)
    ∙ bits_append 5 5 (code_of (c.args.byte / 16)) (code_of (c.args.byte % 16)) (let s = c.code-2.ensures.small in let v = c.code-2.ensures.value in omega arith)
