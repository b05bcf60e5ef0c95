-- The words by their bytes.
use Rattle.std.proofs.Common.{◌≡◌, ℕ, ◌<◌, ◌≤◌, false, eqb, List, [], length, get_or, Some, None, string_bytes, codes, Option, String, refl, sym, ap, ◌∙◌, subst, inl, inr, arith, eq-eqb, ne_eqb, Ok, Err, Result}
use Rattle.std.proofs.lemmas.Bool.{cond-true, cond-false, cases_Bool}
use Rattle.std.specs.Result.{IsErrAnd}
use Rattle.std.specs.Str.{bytes_eq}
use Rattle.std.proofs.lemmas.Slice.Eq.{bytes_eq-Decides}
use Rattle.std.proofs.lemmas.List.{length-map, get_or-map}
use Rattle.commands.specs.declared.verb.Verb.{Verb}
use Rattle.commands.specs.declared.verb.Verb.TheVariants as verbs
use Rattle.commands.specs.declared.command.Command.{Command}
use Rattle.commands.specs.declared.command.CommandError.{CommandError}
use Rattle.commands.specs.Names.{unescaped}
use Rattle.commands.specs.Numbers.{byte_number}
use Rattle.commands.specs.Verbs.{verb_of}
use Rattle.commands.specs.Commands.{Asked, extract, block, survey, help, nothing, unknown, miscounted, texts, named, numbered, placed, counted, asked_by, asked, NeedsMemory, Reports, Answers}

pub length_texts : {Z : Type 0} (ws : List (String Z)) → length (texts ws) ≡ length ws
unfolding texts
length_texts ws = length-map ws string_bytes

pub text_at : {Z : Type 0} (ws : List (String Z)) (i : ℕ) (s : String Z) (t : List ℕ) → i < length ws → s ≡ get_or ws i s → t ≡ string_bytes s → t ≡ get_or (texts ws) i []
unfolding texts
text_at ws i s t h e f = f ∙ ap string_bytes e ∙ sym (get_or-map string_bytes ws i s [] h)

pub nothing_so : {Z : Type 0} (ws : List (String Z)) → length ws < 1 → asked (texts ws) ≡ nothing
unfolding asked
nothing_so ws h =
    let none : length (texts ws) ≡ 0 = omega (arith, length_texts ws) in
    cond-true (eqb (length (texts ws)) 0) nothing (asked_by (verb_of (get_or (texts ws) 0 [])) (texts ws)) (eq-eqb (length (texts ws)) 0 none)

-- how many words a command takes, and what so many ask for
abbrev pub words_of : Verb → ℕ
words_of verbs.Extract = 4
words_of verbs.Block = 4
words_of verbs.Survey = 2
words_of verbs.Help = 1

abbrev pub of : Verb → List (List ℕ) → Asked
of verbs.Extract ts = named (get_or ts 2 []) (unescaped (get_or ts 2 [])) (λ name. extract (get_or ts 1 []) (get_or ts 2 []) name (get_or ts 3 []))
of verbs.Block ts = placed ts (λ p. block (get_or ts 1 []) p)
of verbs.Survey ts = survey (get_or ts 1 [])
of verbs.Help ts = help

asked_counted : (v : Verb) (ts : List (List ℕ)) → asked_by (Some v) ts ≡ counted v (words_of v) ts (of v ts)
asked_counted verbs.Extract ts = refl
asked_counted verbs.Block ts = refl
asked_counted verbs.Survey ts = refl
asked_counted verbs.Help ts = refl

-- what follows the first word, s, whose text is w
module _ {Z : Type 0} (ws : List (String Z)) (s : String Z) (w : List ℕ) (some : 1 ≤ length ws) (is : s ≡ get_or ws 0 s) (text : w ≡ string_bytes s) where
  first : w ≡ get_or (texts ws) 0 []
  first = text_at ws 0 s w some is text

  pub asked_so : (o : Option Verb) → o ≡ verb_of w → asked_by o (texts ws) ≡ asked (texts ws)
  unfolding asked
  asked_so o e =
      let more : length (texts ws) ≡ 0 → ⊥ = omega (arith, length_texts ws) in
      ap (λ (v : Option Verb). asked_by v (texts ws)) (e ∙ ap verb_of first)
      ∙ sym (cond-false (eqb (length (texts ws)) 0) nothing (asked_by (verb_of (get_or (texts ws) 0 [])) (texts ws)) (ne_eqb (length (texts ws)) 0 more))

  pub unknown_so : (t : List ℕ) → None ≡ verb_of w → t ≡ string_bytes s → asked (texts ws) ≡ unknown t
  unknown_so t e f = sym (asked_so None e) ∙ ap (λ (x : List ℕ). unknown x) (sym (f ∙ sym text ∙ first))

-- as many words as a command takes, or another number
module _ {Z : Type 0} (ws : List (String Z)) (u v : Verb) (e : u ≡ v) where
  pub miscounted_so : (length ws ≡ words_of v → ⊥) → asked_by (Some u) (texts ws) ≡ miscounted u
  miscounted_so n =
      let other : length (texts ws) ≡ words_of v → ⊥ = λ l. n (sym (length_texts ws) ∙ l) in
      ap (λ (x : Verb). asked_by (Some x) (texts ws)) e ∙ asked_counted v (texts ws)
      ∙ cond-false (eqb (length (texts ws)) (words_of v)) (of v (texts ws)) (miscounted v) (ne_eqb (length (texts ws)) (words_of v) other)
      ∙ ap (λ (x : Verb). miscounted x) (sym e)

  pub counted_so : length ws ≡ words_of v → asked_by (Some u) (texts ws) ≡ of v (texts ws)
  counted_so n =
      ap (λ (x : Verb). asked_by (Some x) (texts ws)) e ∙ asked_counted v (texts ws)
      ∙ cond-true (eqb (length (texts ws)) (words_of v)) (of v (texts ws)) (miscounted v) (eq-eqb (length (texts ws)) (words_of v) (length_texts ws ∙ n))

-- an error that is passed on
pub refused_so : (r : Result Command CommandError) (e : CommandError) (a b : Asked) → IsErrAnd r (λ y. y ≡ e) → a ≡ b → Reports e b → Answers r a
refused_so (Ok x) e a b never f h = absurd never
refused_so (Err y) e a b same f h = rw (same, f) h

-- what so many words ask for, by their texts
module _ (ts : List (List ℕ)) where
  named_at : (t : List ℕ) → t ≡ get_or ts 2 [] → of verbs.Extract ts ≡ named t (unescaped t) (λ name. extract (get_or ts 1 []) t name (get_or ts 3 []))
  named_at t e = ap (λ (x : List ℕ). named x (unescaped x) (λ name. extract (get_or ts 1 []) x name (get_or ts 3 []))) (sym e)

  pub misnamed : (t : List ℕ) (e : CommandError) → t ≡ get_or ts 2 [] → ((k : List ℕ → Asked) → ((n : List ℕ) → NeedsMemory (k n)) → Reports e (named t (unescaped t) k)) → Reports e (of verbs.Extract ts)
  misnamed t e f h = subst (λ (a : Asked). Reports e a) (sym (named_at t f)) (h (λ name. extract (get_or ts 1 []) t name (get_or ts 3 [])) (λ n. tt))

  pub extract_so : (t image text name out : List ℕ) → t ≡ get_or ts 2 [] → image ≡ get_or ts 1 [] → out ≡ get_or ts 3 [] → (text ≡ t) × (unescaped t ≡ Some name) → of verbs.Extract ts ≡ extract image text name out
  extract_so t image text name out e f g h =
      named_at t e ∙ ap (λ (o : Option (List ℕ)). named t o (λ n. extract (get_or ts 1 []) t n (get_or ts 3 []))) h.1
      ∙ (λ i. extract (sym f i) (sym h.0 i) name (sym g i))

  -- a place of which the track, or the sector, is no number
  pub no_track : (t : List ℕ) (e : CommandError) → t ≡ get_or ts 2 [] → ((k : ℕ → Asked) → Reports e (numbered t (byte_number t) k)) → Reports e (of verbs.Block ts)
  no_track t e f h =
      let at : ℕ → Asked = λ track. numbered (get_or ts 3 []) (byte_number (get_or ts 3 [])) (λ sector. block (get_or ts 1 []) (track, sector)) in
      subst (λ (x : List ℕ). Reports e (numbered x (byte_number x) at)) f (h at)

  -- a place, once its track is known
  tracked : (t : List ℕ) (track : ℕ) → t ≡ get_or ts 2 [] → byte_number t ≡ Some track → of verbs.Block ts ≡ numbered (get_or ts 3 []) (byte_number (get_or ts 3 [])) (λ sector. block (get_or ts 1 []) (track, sector))
  tracked t track e n =
      ap (λ (o : Option ℕ). numbered (get_or ts 2 []) o (λ track. numbered (get_or ts 3 []) (byte_number (get_or ts 3 [])) (λ sector. block (get_or ts 1 []) (track, sector)))) (sym (ap byte_number e) ∙ n)

  pub no_sector : (t s : List ℕ) (track : ℕ) (e : CommandError) → t ≡ get_or ts 2 [] → s ≡ get_or ts 3 [] → byte_number t ≡ Some track → ((k : ℕ → Asked) → Reports e (numbered s (byte_number s) k)) → Reports e (of verbs.Block ts)
  no_sector t s track e f g n h =
      let at : ℕ → Asked = λ sector. block (get_or ts 1 []) (track, sector) in
      subst (λ (a : Asked). Reports e a) (sym (tracked t track f n)) (subst (λ (x : List ℕ). Reports e (numbered x (byte_number x) at)) g (h at))

  pub block_so : (t s image : List ℕ) (track sector : ℕ) → t ≡ get_or ts 2 [] → s ≡ get_or ts 3 [] → image ≡ get_or ts 1 [] → byte_number t ≡ Some track → byte_number s ≡ Some sector → of verbs.Block ts ≡ block image (track, sector)
  block_so t s image track sector e f g n m =
      tracked t track e n ∙ ap (λ (o : Option ℕ). numbered (get_or ts 3 []) o (λ sector. block (get_or ts 1 []) (track, sector))) (sym (ap byte_number f) ∙ m)
      ∙ ap (λ (x : List ℕ). block x (track, sector)) (sym g)

  pub survey_so : (image : List ℕ) → image ≡ get_or ts 1 [] → of verbs.Survey ts ≡ survey image
  survey_so image e = ap (λ (x : List ℕ). survey x) (sym e)

other_text : (w t : List ℕ) → (w ≡ t → ⊥) → bytes_eq w t ≡ false
other_text w t n = elim (cases_Bool (bytes_eq w t)) [ inl e ↦ absurd (n ((bytes_eq-Decides w t).0 e)) | inr e ↦ e ]

pub no_verb : (w : List ℕ) → (w ≡ codes "extract" → ⊥) → (w ≡ codes "block" → ⊥) → (w ≡ codes "survey" → ⊥) → (w ≡ codes "--help" → ⊥) → None ≡ verb_of w
unfolding verb_of
no_verb w x b s h = rw (other_text w _ x, other_text w _ b, other_text w _ s, other_text w _ h)
