-- The bytes that a typed name stands for.
use Rattle.std.specs.Prelude.{ℕ, ◌+◌, ◌-◌, ◌*◌, cond, List, [], ◌∷◌, ◌++◌, length, drop, Some, None, codes, Option, ◌==◌, nat_lt, slice_index}
use Rattle.commands.specs.declared.name.NameError.{NameError}
use Rattle.commands.specs.declared.name.NameError.TheVariants.{NoMemory, BadEscape}

-- the value of a hexadecimal digit, of either case
abbrev pub hex_value : ℕ → Option ℕ
hex_value c =
    cond (nat_lt c 48) None (cond (nat_lt c 58) (Some (c - 48))
    (cond (nat_lt c 65) None (cond (nat_lt c 71) (Some (c - 55))
    (cond (nat_lt c 97) None (cond (nat_lt c 103) (Some (c - 87)) None)))))

abbrev pub pair : Option ℕ → Option ℕ → Option ℕ
pair None low = None
pair (Some h) None = None
pair (Some h) (Some l) = Some (16 * h + l)

-- the byte of two hexadecimal digits
unfoldable pub hex_pair : ℕ → ℕ → Option ℕ
hex_pair h l = pair (hex_value h) (hex_value l)

abbrev pub paired : List ℕ → Option ℕ → Option (ℕ × List ℕ)
paired rest None = None
paired rest (Some b) = Some (b, rest)

-- the byte that a text begins with, and the text after it: \xHH, or any byte but the backslash, of code 92
abbrev pub first_byte : List ℕ → Option (ℕ × List ℕ)
first_byte t =
    cond (nat_lt (length t) 1) None
    (cond (slice_index t 0 == 92)
    (cond (nat_lt (length t) 4) None (cond (slice_index t 1 == 120) (paired (drop 4 t) (hex_pair (slice_index t 2) (slice_index t 3))) None))
    (Some (slice_index t 0, drop 1 t)))

-- bytes before others
abbrev pub behind : List ℕ → Option (List ℕ) → Option (List ℕ)
behind bs None = None
behind bs (Some cs) = Some (bs ++ cs)

-- a byte before others
abbrev pub before : Option ℕ → Option (List ℕ) → Option (List ℕ)
before None bs = None
before (Some b) None = None
before (Some b) (Some bs) = Some (b ∷ bs)

-- a backslash begins \xHH, and any other byte stands for itself
unfoldable pub unescaped : List ℕ → Option (List ℕ)
unescaped [] = Some []
unescaped (a ∷ []) = cond (a == 92) None (before (Some a) (unescaped []))
unescaped (a ∷ b ∷ []) = cond (a == 92) None (before (Some a) (unescaped (b ∷ [])))
unescaped (a ∷ b ∷ c ∷ []) = cond (a == 92) None (before (Some a) (unescaped (b ∷ c ∷ [])))
unescaped (a ∷ b ∷ c ∷ d ∷ rest) =
    cond (a == 92) (cond (b == 120) (before (hex_pair c d) (unescaped rest)) None) (before (Some a) (unescaped (b ∷ c ∷ d ∷ rest)))

-- why there is no name: a bad text, and want of memory only for a good one
abbrev pub why_not : Option (List ℕ) → NameError
why_not None = BadEscape
why_not (Some name) = NoMemory

abbrev pub why_shown : NameError → List ℕ
why_shown NoMemory = codes "out of memory"
why_shown BadEscape = codes "bad escape in the name"
