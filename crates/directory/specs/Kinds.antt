-- What the type byte of a directory entry says.
use Rattle.std.specs.Prelude.{ℕ, ◌-◌, Bool, true, false, cond, ◌&&◌, ◌==◌, nat_le}
use Rattle.directory.specs.declared.kind.FileKind.{FileKind}
use Rattle.directory.specs.declared.kind.FileKind.TheVariants.{Seq, Prg, Usr}
use Rattle.directory.specs.declared.kind.Status.{Status}
use Rattle.directory.specs.declared.kind.Status.TheVariants.{Empty, Unclosed, Closed, Foreign}

-- 1, 2 and 3 are SEQ, PRG and USR
abbrev pub kind_of : ℕ → FileKind
kind_of n = cond (n == 1) Seq (cond (n == 2) Prg Usr)

-- 0 is an empty slot; bit 7 stands for a closed file
abbrev pub status_of : ℕ → Status
status_of b = cond (b == 0) Empty (cond (nat_le b 3) (Unclosed (kind_of b)) (cond (nat_le 129 b && nat_le b 131) (Closed (kind_of (b - 128))) (Foreign b)))

-- any slot but an empty one
abbrev pub filled : Status → Bool
filled Empty = false
filled (Unclosed k) = true
filled (Closed k) = true
filled (Foreign b) = true
