use Rattle.std.proofs.Common.{◌≡◌, ℕ, ◌+◌, ◌<◌, get_or, Some}
use Rattle.track.specs.Headers.{byte_at}
use Rattle.track.specs.Shown.{shown}
use Rattle.track.proofs.window.Window.data.Given as goal

-- the bytes before place k stand for their codes
abbrev pub invariant-loop-k : goal.invariant-loop-k
invariant-loop-k l = (i : ℕ) → i < l.k → Some (get_or l.byte-items i 0) ≡ byte_at (shown l.self) (i + 1)
