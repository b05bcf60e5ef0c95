-- What is shown of accounts.
use Rattle.std.specs.Prelude.{ℕ, ◌/◌, ◌%◌, List, ◌++◌, codes, decimal}
use Rattle.commands.specs.declared.account.Account.{Account}
use Rattle.commands.specs.declared.account.Tally.{Tally}
use Rattle.commands.specs.declared.account.Written.{Written}

abbrev pub account_shown : Account → List ℕ
account_shown a =
    a.name.now ++ (codes ": " ++ (decimal a.bytes ++ (codes " bytes, " ++ (decimal a.blocks ++ codes " blocks"))))

abbrev pub tally_shown : Tally → List ℕ
tally_shown t = codes "683 blocks: " ++ (decimal t.read ++ (codes " read, " ++ (decimal t.refused ++ codes " refused")))

-- track and sector in at least two digits
abbrev pub written_shown : Written → List ℕ
written_shown w =
    decimal (w.place.0 / 10) ++ (decimal (w.place.0 % 10) ++ (codes "/" ++ (decimal (w.place.1 / 10) ++ (decimal (w.place.1 % 10) ++ codes ": 256 bytes written"))))
