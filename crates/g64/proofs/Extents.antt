-- The bytes of a track, by where they lie.
use Rattle.std.proofs.Common.{◌≡◌, ℕ, ◌+◌, ◌-◌, ◌≤◌, Bool, true, false, cond, eqb, leb, ◌||◌, List, [], length, take, drop, Some, None, Option, refl, sym, ap, ◌∙◌, arith}
use Rattle.std.specs.declared.ops.Range.{Range}
use Rattle.std.proofs.lemmas.Bool.{and_parts, leb-true, eqb-true}
use Rattle.track.specs.Fetching.{on_disk}
use Rattle.g64.specs.Layout.{offset_of, length_of, end_of, extent_of, apart, apart_from, valid}
use Rattle.g64.specs.Image.{stored_on}
use Rattle.g64.specs.Stored.{room, stored_is, stored_empty}

-- a track that lies there
pub record Lies (f : List ℕ) (t : ℕ) (x : Range ℕ) : Type 0 where
  pub begin : x.start ≡ offset_of f t
  pub after : x.end ≡ end_of f t
  pub placed : eqb (offset_of f t) 0 ≡ false

pub lies : (f : List ℕ) (t : ℕ) (x : Range ℕ) → extent_of f t ≡ Some x → Lies f t x
lies f t x = go (eqb (offset_of f t) 0) refl
  where
    go : (b : Bool) → eqb (offset_of f t) 0 ≡ b → cond b None (Some (record { start = offset_of f t; end = end_of f t })) ≡ Some x → Lies f t x
    go true e h = cc
    go false e h = let r : record { start = offset_of f t; end = end_of f t } ≡ x = cc in record { begin = ap (λ (y : Range ℕ). y.start) (sym r); after = ap (λ (y : Range ℕ). y.end) (sym r); placed = e }

-- two tracks apart, by where the first lies and the other
pub apart_at : (f : List ℕ) (t u : ℕ) (x : Range ℕ) → extent_of f t ≡ Some x → apart_from x (extent_of f u) ≡ apart f t u
unfolding apart
apart_at f t u x h =
    let l = lies f t x h in
    ap (λ (y : Range ℕ). apart_from y (extent_of f u)) (let e : x ≡ record { start = offset_of f t; end = end_of f t } = record_of l.begin l.after in e)
    ∙ go (eqb (offset_of f u) 0) refl
    ∙ ap (λ (b : Bool). b || (eqb (offset_of f u) 0 || (leb (end_of f t) (offset_of f u) || leb (end_of f u) (offset_of f t)))) (sym l.placed)
  where
    record_of : x.start ≡ offset_of f t → x.end ≡ end_of f t → x ≡ record { start = offset_of f t; end = end_of f t }
    record_of a b = λ i. record { start = a i; end = b i }

    go : (b : Bool) → eqb (offset_of f u) 0 ≡ b → apart_from (record { start = offset_of f t; end = end_of f t }) (cond b None (Some (record { start = offset_of f u; end = end_of f u }))) ≡ (b || (leb (end_of f t) (offset_of f u) || leb (end_of f u) (offset_of f t)))
    go true e = refl
    go false e = refl

-- a track without bits is apart from any
pub apart_none : (f : List ℕ) (t u : ℕ) → extent_of f t ≡ None → apart f t u ≡ true
unfolding apart
apart_none f t u = go (eqb (offset_of f t) 0) refl
  where
    go : (b : Bool) → eqb (offset_of f t) 0 ≡ b → cond {A = Option (Range ℕ)} b None (Some (record { start = offset_of f t; end = end_of f t })) ≡ None → apart f t u ≡ true
    go true e h = ap (λ (b : Bool). b || (eqb (offset_of f u) 0 || (leb (end_of f t) (offset_of f u) || leb (end_of f u) (offset_of f t)))) e
    go false e h = cc

pub none_lies : (f : List ℕ) (t : ℕ) → extent_of f t ≡ None → [] ≡ stored_on f t
none_lies f t = go (eqb (offset_of f t) 0) refl
  where
    go : (b : Bool) → eqb (offset_of f t) 0 ≡ b → cond {A = Option (Range ℕ)} b None (Some (record { start = offset_of f t; end = end_of f t })) ≡ None → [] ≡ stored_on f t
    go true e h = sym (stored_empty f t (eqb-true (offset_of f t) 0 e))
    go false e h = cc

-- of an image, the bytes of a track of the disk
module _ (f : List ℕ) (t : ℕ) (x : Range ℕ) (v : valid f ≡ true) (d : on_disk t ≡ true) (h : extent_of f t ≡ Some x) where
  pub lies_within : x.end ≤ length f
  lies_within =
      let p = and_parts (leb 1 t) (leb t 35) d in
      let l = lies f t x h in
      let w = (room f t v (leb-true 1 t p.0) (leb-true t 35 p.1) l.placed).within in
      let e = l.after in
      omega arith

  pub lies_stored : take (x.end - (x.start + 2)) (drop (x.start + 2) f) ≡ stored_on f t
  lies_stored =
      let p = and_parts (leb 1 t) (leb t 35) d in
      let l = lies f t x h in
      let a = l.begin in
      let e = l.after in
      let n : x.end - (x.start + 2) ≡ length_of f t = omega arith in
      (λ i. take (n i) (drop (a i + 2) f)) ∙ sym (stored_is f t v (leb-true 1 t p.0) (leb-true t 35 p.1) l.placed)
