use Rattle.std.proofs.Common.{◌≡◌, ◌*◌, ◌^◌, ◌<◌, drop}
use Rattle.track.specs.Fetching.{pack}
use Rattle.track.specs.Shown.{turned_bits}
use Rattle.track.proofs.Packing.{begun}
use Rattle.track.proofs.turned.Turned.packed_byte.Given as goal

abbrev pub invariant-loop-j : goal.invariant-loop-j
invariant-loop-j l =
    (l.code < 2 ^ l.j)
    × (pack (drop (l.k * 8) (turned_bits l.self)) ≡ begun l.j l.code (drop l.j (drop (l.k * 8) (turned_bits l.self))))
