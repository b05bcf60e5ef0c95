-- The words that commands begin with.
use Rattle.std.specs.Prelude.{ℕ, cond, List, [], ◌∷◌, ◌++◌, Some, None, codes, Option}
use Rattle.std.specs.List.{flat_map}
use Rattle.std.specs.Str.{bytes_eq}
use Rattle.commands.specs.declared.verb.Verb.{Verb}
use Rattle.commands.specs.declared.verb.Verb.TheVariants.{Extract, Block, Survey, Help}

unfoldable pub verb_of : List ℕ → Option Verb
verb_of w =
    cond (bytes_eq w (codes "extract")) (Some Extract)
    (cond (bytes_eq w (codes "block")) (Some Block)
    (cond (bytes_eq w (codes "survey")) (Some Survey)
    (cond (bytes_eq w (codes "--help")) (Some Help) None)))

abbrev pub no_verb_shown : List ℕ
no_verb_shown = codes "no such command"

abbrev pub usage_of : Verb → List ℕ
usage_of Extract = codes "extract IMAGE NAME OUT"
usage_of Block = codes "block IMAGE TRACK SECTOR"
usage_of Survey = codes "survey IMAGE"
usage_of Help = codes "--help"

-- 10 ends a line
abbrev pub usage_line : Verb → List ℕ
usage_line v = (10 ∷ codes "  namohike ") ++ usage_of v

abbrev pub verbs : List Verb
verbs = Extract ∷ Block ∷ Survey ∷ Help ∷ []

-- 92 is the backslash
abbrev pub usage_note : List ℕ
usage_note = (10 ∷ codes "In a NAME ") ++ (92 ∷ codes "xHH stands for any byte.")

abbrev pub usage_shown : List ℕ
usage_shown = codes "usage:" ++ (flat_map usage_line verbs ++ usage_note)
