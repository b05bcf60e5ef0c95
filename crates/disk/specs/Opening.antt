-- Opening an image: its check, and then what is made.
use Rattle.std.specs.Prelude.{◌≡◌, Ok, Err, Result}
use Rattle.disk.specs.declared.refusal.Refusal.{Refusal}

-- an opening: the check's refusal, or what is made
abbrev pub opened : {X : Type 0} → Result Unit Refusal → (X → Type 0) → Result X Refusal → Type 0
opened (Ok x) P (Ok v) = P v
opened (Ok x) P (Err e) = ⊥
opened (Err e) P (Ok v) = ⊥
opened (Err e) P (Err f) = f ≡ e
