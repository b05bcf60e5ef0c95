use Rattle.std.proofs.Common.{rules, arith, ◌∷◌, ◌++◌}
use Rattle.disk.specs.Words.{words_of}
use Rattle.disk.proofs.TwoDigits.{padded, two_digits_then}
use Rattle.disk.proofs.refusal.RefusalDisplay.fmt.Goals as goal

pub returns-clause-writes : goal.returns-clause-writes
returns-clause-writes g c =
    let r = c.args.self.now in
    let end = 58 ∷ 32 ∷ words_of r.cause in
    rw (two_digits_then r.place.1 end (omega arith), two_digits_then r.place.0 (47 ∷ (padded r.place.1 ++ end)) (omega arith)) (search rules)
