use Rattle.std.proofs.Common.{◌≡◌, ◌^◌, ◌<◌, take, drop}
use Rattle.gcr.specs.Bits.{value}
use Rattle.track.specs.Shown.{shown}
use Rattle.track.proofs.window.Window.byte.Given as goal

abbrev pub invariant-loop-j : goal.invariant-loop-j
invariant-loop-j l = (l.code < 2 ^ l.j) × (l.code ≡ value (take l.j (drop l.from (shown l.self))))
