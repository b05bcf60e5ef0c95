use Rattle.std.proofs.Common.{◌≡◌, take}
use Rattle.gcr.specs.Sums.{xor_all}
use Rattle.gcr.proofs.sum.checksum.Given as goal

abbrev pub invariant-loop-byte : goal.invariant-loop-byte
invariant-loop-byte l = l.sum ≡ xor_all (take l.byte-index l.block)
