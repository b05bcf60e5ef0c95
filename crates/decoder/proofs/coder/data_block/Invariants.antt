use Rattle.std.proofs.Common.{◌≡◌, ◌*◌, length, take}
use Rattle.std.specs.List.{flat_map}
use Rattle.gcr.specs.Bits.{bits_of}
use Rattle.gcr.specs.Codes.{ten}
use Rattle.decoder.proofs.coder.data_block.Given as goal

abbrev pub invariant-loop-k : goal.invariant-loop-k
invariant-loop-k l = record {
  long : length l.coded ≡ 325;
  begun : bits_of (take (5 * l.k) l.coded) ≡ flat_map (flat_map ten) (take l.k l.four-items);
}
