-- A filled slot is tested by its name.
use Rattle.std.proofs.Common.{◌≡◌, ℕ, Bool, true, List, sym, refl, ap, ◌∙◌}
use Rattle.std.specs.Str.{bytes_eq}
use Rattle.directory.specs.declared.entry.Entry.{Entry}
use Rattle.directory.specs.declared.kind.Status.{Status}
use Rattle.directory.specs.declared.kind.Status.TheVariants.{Empty, Unclosed, Closed, Foreign}
use Rattle.directory.specs.Kinds.{filled}
use Rattle.directory.specs.Entries.{entry_of, is_of}

filled_unless : (s : Status) → (s ≡ Empty → ⊥) → filled s ≡ true
filled_unless Empty h = absurd (h refl)
filled_unless (Unclosed k) h = refl
filled_unless (Closed k) h = refl
filled_unless (Foreign b) h = refl

pub named_by : (b n : List ℕ) (k : ℕ) (e : Entry) (r : Bool) → e ≡ entry_of b k → (e.status ≡ Empty → ⊥) → r ≡ bytes_eq e.name n → r ≡ is_of b n k
unfolding is_of
named_by b n k e r is ne s =
    let f : filled (entry_of b k).status ≡ true = ap (λ (x : Entry). filled x.status) (sym is) ∙ filled_unless e.status ne in
    s ∙ ap (λ (x : Entry). bytes_eq x.name n) is ∙ sym (rw f)
