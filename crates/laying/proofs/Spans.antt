-- What it says that bits fit a circle.
use Rattle.std.proofs.Common.{◌≡◌, ℕ, ◌*◌, ◌<◌, ◌≤◌, true, ◌&&◌, ltb, leb}
use Rattle.std.proofs.lemmas.Bool.{and_parts, ltb-true, leb-true}
use Rattle.track.specs.Laying.{fits}

pub record Span (size p n m : ℕ) : Type 0 where
  pub near : p < size
  pub short : n ≤ size
  pub given : n ≤ m * 8

pub span : (size p n m : ℕ) → fits size p n m ≡ true → Span size p n m
span size p n m h =
    let a = and_parts (ltb p size) (leb n size && leb n (m * 8)) h in
    let b = and_parts (leb n size) (leb n (m * 8)) a.1 in
    record { near = ltb-true p size a.0; short = leb-true n size b.0; given = leb-true n (m * 8) b.1 }
