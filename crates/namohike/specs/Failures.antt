-- What is shown of a failure.
use Rattle.std.specs.Prelude.{ℕ, List, Some, None, Option}
use Rattle.disk.specs.Words.{refusal_shown}
use Rattle.commands.specs.Commands.{error_shown}
use Rattle.namohike.specs.declared.failure.Failure.{Failure}
use Rattle.namohike.specs.declared.failure.Failure.TheVariants.{Refused, Misused, CannotRead, CannotWrite, Failed}

-- of the errors of files and memory nothing is said, since the host words them
abbrev pub failure_shown : Failure → Option (List ℕ)
failure_shown (Refused r) = Some (refusal_shown r)
failure_shown (Misused e) = Some (error_shown e)
failure_shown (CannotRead path e) = None
failure_shown (CannotWrite path e) = None
failure_shown (Failed e) = None
