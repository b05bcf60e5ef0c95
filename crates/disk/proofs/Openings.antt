-- An opening that was accepted.
use Rattle.std.proofs.Common.{◌≡◌, Ok, Err, Result, refl}
use Rattle.disk.specs.declared.refusal.Refusal.{Refusal}
use Rattle.disk.specs.Opening.{opened}

pub opened_ok : {X : Type 0} (r : Result Unit Refusal) (P : X → Type 0) (v : X) → opened r P (Ok v) → (r ≡ Ok tt) × P v
opened_ok (Ok x) P v h = (refl, h)
opened_ok (Err e) P v h = absurd h
