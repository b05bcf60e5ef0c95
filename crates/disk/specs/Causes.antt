-- The number of each cause, as published.
use Rattle.std.specs.Prelude.{ℕ}
use Rattle.disk.specs.declared.cause.Cause.{Cause}
use Rattle.disk.specs.declared.cause.Cause.TheVariants.{NoHeader, NoFrame, NoData, BadChecksum, BadCode, Protected, BadHeader, BadName, Unclosed, NotBegun, NotFound, NameTaken, ForeignType, NoSuchBlock, BadStructure, Full, NotDos, TwoHeaders, ShortFrame, BadImage, ShortBuffer, BadSpan, Other}

abbrev pub number_of : Cause → ℕ
number_of NoHeader = 20
number_of NoFrame = 21
number_of NoData = 22
number_of BadChecksum = 23
number_of BadCode = 24
number_of Protected = 26
number_of BadHeader = 27
number_of BadName = 33
number_of Unclosed = 60
number_of NotBegun = 61
number_of NotFound = 62
number_of NameTaken = 63
number_of ForeignType = 64
number_of NoSuchBlock = 66
number_of BadStructure = 71
number_of Full = 72
number_of NotDos = 73
number_of TwoHeaders = 80
number_of ShortFrame = 81
number_of BadImage = 82
number_of ShortBuffer = 84
number_of BadSpan = 85
number_of (Other n) = n
