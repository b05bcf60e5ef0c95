-- One step of a look at a typed name.
use Rattle.std.proofs.Common.{◌≡◌, ℕ, ◌<◌, Bool, true, false, cond, eqb, List, [], ◌∷◌, ◌++◌, length, is_some, Some, None, Option, sym, refl, ap, ◌∙◌, subst, append_assoc, append-nil, arith}
use Rattle.std.proofs.lemmas.Bool.{false≢true}
use Rattle.std.proofs.lemmas.Bool.Decides.{nat_tests}
use Rattle.std.specs.Char.{digit_value}
use Rattle.commands.specs.Names.{hex_value, hex_pair, paired, first_byte, behind, before, unescaped}

-- what to_digit answers is the value of the digit
pub no_digit : (b c : ℕ) → c ≡ b → (digit_value c < 16 → ⊥) → hex_value b ≡ None
no_digit b c e n = subst (λ (x : ℕ). hex_value x ≡ None) e (let here : digit_value c < 16 → ⊥ = n in grind (arith, nat_tests))

pub a_digit : (b c d : ℕ) → c ≡ b → (digit_value c < 16) × (d ≡ digit_value c) → hex_value b ≡ Some d
a_digit b c d e h = subst (λ (x : ℕ). hex_value x ≡ Some d) e (grind (arith, nat_tests))

-- a first byte, before what the text after it stands for
abbrev pub going_on : Option (ℕ × List ℕ) → Option (List ℕ)
going_on None = None
going_on (Some p) = before (Some p.0) (unescaped p.1)

paired_on : (o : Option ℕ) (rest : List ℕ) → before o (unescaped rest) ≡ going_on (paired rest o)
paired_on None rest = refl
paired_on (Some b) rest = refl

first_long : (a b c d : ℕ) (rest : List ℕ) → first_byte (a ∷ b ∷ c ∷ d ∷ rest) ≡ cond (eqb a 92) (cond (eqb b 120) (paired rest (hex_pair c d)) None) (Some (a, b ∷ c ∷ d ∷ rest))
first_long a b c d rest = grind (arith, nat_tests)

pub unescaped_first : (t : List ℕ) → 0 < length t → unescaped t ≡ going_on (first_byte t)
unfolding unescaped
unescaped_first [] h = absurd (omega arith)
unescaped_first (a ∷ []) h =
    elim (eqb a 92) as (λ v. cond v None (before (Some a) (unescaped [])) ≡ going_on (cond v None (Some (a, [])))) [ true ↦ refl | false ↦ refl ]
unescaped_first (a ∷ b ∷ []) h =
    elim (eqb a 92) as (λ v. cond v None (before (Some a) (unescaped (b ∷ []))) ≡ going_on (cond v None (Some (a, b ∷ [])))) [ true ↦ refl | false ↦ refl ]
unescaped_first (a ∷ b ∷ c ∷ []) h =
    elim (eqb a 92) as (λ v. cond v None (before (Some a) (unescaped (b ∷ c ∷ []))) ≡ going_on (cond v None (Some (a, b ∷ c ∷ []))))
    [ true ↦ refl | false ↦ refl ]
unescaped_first (a ∷ b ∷ c ∷ d ∷ rest) h =
    (elim (eqb a 92) as (λ (v : Bool). cond v (cond (eqb b 120) (before (hex_pair c d) (unescaped rest)) None) (before (Some a) (unescaped (b ∷ c ∷ d ∷ rest))) ≡ going_on (cond v (cond (eqb b 120) (paired rest (hex_pair c d)) None) (Some (a, b ∷ c ∷ d ∷ rest)))) [
      | true ↦ elim (eqb b 120) as (λ v. cond v (before (hex_pair c d) (unescaped rest)) None ≡ going_on (cond v (paired rest (hex_pair c d)) None)) [ true ↦ paired_on (hex_pair c d) rest | false ↦ refl ]
      | false ↦ refl
    ])
    ∙ ap going_on (sym (first_long a b c d rest))

some_before : (b : ℕ) (o : Option (List ℕ)) → is_some (before (Some b) o) ≡ is_some o
some_before b None = refl
some_before b (Some bs) = refl

-- what a text with no first byte stands for
abbrev pub left : List ℕ → Option (List ℕ)
left [] = Some []
left (a ∷ rest) = None

some_left : (rest : List ℕ) → eqb (length rest) 0 ≡ is_some (left rest)
some_left [] = refl
some_left (a ∷ rest) = grind (arith, nat_tests)

ended : (rest name : List ℕ) → true ≡ is_some (behind name (left rest)) → behind name (left rest) ≡ Some name
ended [] name e = ap (λ (l : List ℕ). Some l) (append-nil name)
ended (a ∷ rest) name e = absurd (false≢true (sym e))

pub behind_more : (name : List ℕ) (b : ℕ) (o : Option (List ℕ)) → behind (name ++ b ∷ []) o ≡ behind name (before (Some b) o)
behind_more name b None = refl
behind_more name b (Some bs) = ap (λ (l : List ℕ). Some l) (append_assoc name (b ∷ []) bs)

pub none_left : (rest : List ℕ) → None ≡ first_byte rest → unescaped rest ≡ left rest
unfolding unescaped
none_left [] e = refl
none_left (a ∷ rest) e = unescaped_first (a ∷ rest) (omega arith) ∙ ap going_on (sym e)

-- one byte on
pub next_left : (rest tail : List ℕ) (b : ℕ) → Some (b, tail) ≡ first_byte rest → unescaped rest ≡ before (Some b) (unescaped tail)
next_left [] tail b e = grind arith
next_left (a ∷ rest) tail b e = unescaped_first (a ∷ rest) (omega arith) ∙ ap going_on (sym e)

-- the way of the loop that looks
pub look_so : (text rest tail : List ℕ) (b : ℕ) → is_some (unescaped rest) ≡ is_some (unescaped text) → Some (b, tail) ≡ first_byte rest → is_some (unescaped tail) ≡ is_some (unescaped text)
look_so text rest tail b inv e = sym (some_before b (unescaped tail)) ∙ sym (ap is_some (next_left rest tail b e)) ∙ inv

pub looked_so : (text rest : List ℕ) → is_some (unescaped rest) ≡ is_some (unescaped text) → None ≡ first_byte rest → eqb (length rest) 0 ≡ is_some (unescaped text)
looked_so text rest inv e = some_left rest ∙ sym (ap is_some (none_left rest e)) ∙ inv

-- the ways of the loop that writes: what is written, before what is left
pub step_so : (text rest tail name more : List ℕ) (b : ℕ) → behind name (unescaped rest) ≡ unescaped text → Some (b, tail) ≡ first_byte rest → more ≡ name ++ b ∷ [] → behind more (unescaped tail) ≡ unescaped text
step_so text rest tail name more b inv e m =
    ap (λ (l : List ℕ). behind l (unescaped tail)) m ∙ behind_more name b (unescaped tail)
    ∙ ap (behind name) (sym (next_left rest tail b e)) ∙ inv

pub end_so : (text rest name : List ℕ) → behind name (unescaped rest) ≡ unescaped text → true ≡ is_some (unescaped text) → None ≡ first_byte rest → unescaped text ≡ Some name
end_so text rest name inv s e =
    let at_end = sym inv ∙ ap (behind name) (none_left rest e) in
    at_end ∙ ended rest name (s ∙ ap is_some at_end)
