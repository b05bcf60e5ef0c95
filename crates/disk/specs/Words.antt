-- What is shown of a refusal.
use Rattle.std.specs.Prelude.{ℕ, ◌/◌, ◌%◌, List, ◌++◌, codes, decimal}
use Rattle.disk.specs.declared.cause.Cause.{Cause}
use Rattle.disk.specs.declared.cause.Cause.TheVariants.{NoHeader, NoFrame, NoData, BadChecksum, BadCode, Protected, BadHeader, BadName, Unclosed, NotBegun, NotFound, NameTaken, ForeignType, NoSuchBlock, BadStructure, Full, NotDos, TwoHeaders, ShortFrame, BadImage, ShortBuffer, BadSpan, Other}
use Rattle.disk.specs.declared.refusal.Refusal.{Refusal}
use Rattle.disk.specs.Causes.{number_of}
use Rattle.disk.specs.Layers.{layer_number}

abbrev pub words_of : Cause → List ℕ
words_of NoHeader = codes "no header names the block"
words_of NoFrame = codes "no frame on the track"
words_of NoData = codes "no data block after the header"
words_of BadChecksum = codes "wrong checksum in the data block"
words_of BadCode = codes "no valid code in the data block"
words_of Protected = codes "write protected"
words_of BadHeader = codes "wrong checksum in the header"
words_of BadName = codes "no valid name"
words_of Unclosed = codes "the file was never closed"
words_of NotBegun = codes "no unclosed file for the ticket"
words_of NotFound = codes "no file of that name"
words_of NameTaken = codes "a file of that name is there already"
words_of ForeignType = codes "no SEQ, PRG or USR file"
words_of NoSuchBlock = codes "no such track or sector"
words_of BadStructure = codes "links, names, counts or free map disagree"
words_of Full = codes "disk full"
words_of NotDos = codes "no DOS 2A volume"
words_of TwoHeaders = codes "two headers name the block"
words_of ShortFrame = codes "the data block is cut short"
words_of BadImage = codes "no valid image"
words_of ShortBuffer = codes "the buffer is too small"
words_of BadSpan = codes "the bits do not fit the track"
words_of (Other n) = codes "refused by the device"

-- number, layer, track and sector in at least two digits, and the words
abbrev pub refusal_shown : Refusal → List ℕ
refusal_shown r =
    codes "FAULT " ++ (decimal (number_of r.cause) ++ (codes " " ++ (decimal (layer_number r.layer) ++ (codes " "
    ++ (decimal (r.place.0 / 10) ++ (decimal (r.place.0 % 10) ++ (codes "/"
    ++ (decimal (r.place.1 / 10) ++ (decimal (r.place.1 % 10) ++ (codes ": " ++ words_of r.cause))))))))))
