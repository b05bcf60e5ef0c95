-- Which command the words ask for, and what is shown of words that ask for none.
use Rattle.std.specs.Prelude.{◌≡◌, ℕ, cond, List, [], ◌++◌, map, length, Some, None, Ok, Err, vec_items, string_bytes, codes, Option, Result, String, ◌==◌, slice_index_or}
use Rattle.commands.specs.declared.verb.Verb.{Verb}
use Rattle.commands.specs.declared.verb.Verb.TheVariants as verbs
use Rattle.commands.specs.declared.command.Command.{Command}
use Rattle.commands.specs.declared.command.Command.TheVariants.{Extract, Block, Survey, Help}
use Rattle.commands.specs.declared.command.CommandError.{CommandError}
use Rattle.commands.specs.declared.command.CommandError.TheVariants.{NoMemory, NoCommand, UnknownCommand, WrongCount, BadNumber, BadName}
use Rattle.commands.specs.Names.{unescaped}
use Rattle.commands.specs.Numbers.{byte_number}
use Rattle.commands.specs.Verbs.{verb_of, usage_of}

-- what words can ask for, or why they ask for nothing
pub data Asked : Type 0 where
  extract : List ℕ → List ℕ → List ℕ → List ℕ → Asked
  block : List ℕ → ℕ × ℕ → Asked
  survey : List ℕ → Asked
  help : Asked
  nothing : Asked
  unknown : List ℕ → Asked
  miscounted : Verb → Asked
  no_number : List ℕ → Asked
  no_name : List ℕ → Asked

-- the words, each by its bytes
unfoldable pub texts : {Z : Type 0} → List (String Z) → List (List ℕ)
texts ws = map string_bytes ws

-- what goes on with a name, or with a number, that is typed as t
abbrev pub named : List ℕ → Option (List ℕ) → (List ℕ → Asked) → Asked
named t None k = no_name t
named t (Some name) k = k name

abbrev pub numbered : List ℕ → Option ℕ → (ℕ → Asked) → Asked
numbered t None k = no_number t
numbered t (Some n) k = k n

-- the same with the place that stands after the image's name
abbrev pub placed : List (List ℕ) → (ℕ × ℕ → Asked) → Asked
placed ws k = numbered (slice_index_or ws 2 []) (byte_number (slice_index_or ws 2 [])) (λ track. numbered (slice_index_or ws 3 []) (byte_number (slice_index_or ws 3 [])) (λ sector. k (track, sector)))

abbrev pub counted : Verb → ℕ → List (List ℕ) → Asked → Asked
counted v n ws a = cond (length ws == n) a (miscounted v)

-- extract IMAGE NAME OUT
abbrev pub extract_of : List (List ℕ) → Asked
extract_of ws = counted verbs.Extract 4 ws (named (slice_index_or ws 2 []) (unescaped (slice_index_or ws 2 [])) (λ name. extract (slice_index_or ws 1 []) (slice_index_or ws 2 []) name (slice_index_or ws 3 [])))

-- block IMAGE TRACK SECTOR
abbrev pub block_of : List (List ℕ) → Asked
block_of ws =
    counted verbs.Block 4 ws
    (numbered (slice_index_or ws 2 []) (byte_number (slice_index_or ws 2 [])) (λ track. numbered (slice_index_or ws 3 []) (byte_number (slice_index_or ws 3 [])) (λ sector. block (slice_index_or ws 1 []) (track, sector))))

-- survey IMAGE
abbrev pub survey_of : List (List ℕ) → Asked
survey_of ws = counted verbs.Survey 2 ws (survey (slice_index_or ws 1 []))

-- --help
abbrev pub help_of : List (List ℕ) → Asked
help_of ws = counted verbs.Help 1 ws help

abbrev pub asked_by : Option Verb → List (List ℕ) → Asked
asked_by None ws = unknown (slice_index_or ws 0 [])
asked_by (Some verbs.Extract) ws = extract_of ws
asked_by (Some verbs.Block) ws = block_of ws
asked_by (Some verbs.Survey) ws = survey_of ws
asked_by (Some verbs.Help) ws = help_of ws

-- what the words after the program's name ask for
unfoldable pub asked : List (List ℕ) → Asked
asked ws = cond (length ws == 0) nothing (asked_by (verb_of (slice_index_or ws 0 [])) ws)

-- commands that hold a name need memory
abbrev pub NeedsMemory : Asked → Type 0
NeedsMemory (extract image text name out) = Unit {0}
NeedsMemory (block image place) = ⊥
NeedsMemory (survey image) = ⊥
NeedsMemory help = ⊥
NeedsMemory nothing = ⊥
NeedsMemory (unknown w) = ⊥
NeedsMemory (miscounted v) = ⊥
NeedsMemory (no_number w) = ⊥
NeedsMemory (no_name w) = ⊥

-- the error says why; want of memory comes only where words ask for a command that needs it
abbrev pub Reports : CommandError → Asked → Type 0
Reports NoMemory a = NeedsMemory a
Reports NoCommand a = a ≡ nothing
Reports (UnknownCommand w) a = a ≡ unknown w.now
Reports (WrongCount v) a = a ≡ miscounted v
Reports (BadNumber w) a = a ≡ no_number w.now
Reports (BadName w) a = a ≡ no_name w.now

abbrev pub Answers : Result Command CommandError → Asked → Type 0
Answers (Ok (Extract image name out)) a = a ≡ extract image.now name.text.now (vec_items name.bytes) out.now
Answers (Ok (Block image place)) a = a ≡ block image.now place
Answers (Ok (Survey image)) a = a ≡ survey image.now
Answers (Ok Help) a = a ≡ help
Answers (Err e) a = Reports e a

abbrev pub error_shown : CommandError → List ℕ
error_shown NoMemory = codes "out of memory"
error_shown NoCommand = codes "no command"
error_shown (UnknownCommand w) = codes "no such command: " ++ w.now
error_shown (WrongCount v) = codes "expected " ++ usage_of v
error_shown (BadNumber w) = codes "not a number from 0 to 255: " ++ w.now
error_shown (BadName w) = codes "bad escape in the name: " ++ w.now
