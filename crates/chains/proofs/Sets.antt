-- A table of flags as a set of blocks, and the lists that it marks.
use Rattle.std.proofs.Common.{◌≡◌, Bool, true, false, ◌&&◌, ◌||◌, eqb, ◌≢◌, List, [], ◌∷◌, ◌++◌, length, get_or, set, replicate, sym, refl, ap, ◌∙◌, subst, inl, inr, arith}
use Rattle.std.proofs.Math.Bool.{or_comm, or_assoc, or-false}
use Rattle.std.proofs.lemmas.List.{get_or-set_same, get_or-set_other, get_or-replicate}
use Rattle.std.proofs.lemmas.Bool.{cases_Bool, eqb-true, eq-eqb, and_parts, and_from, both_ways}
use Rattle.disk.specs.Geometry.{Place, legal, index_of, same_place}
use Rattle.disk.proofs.Places.{index_within, place_same}
use Rattle.chains.specs.Sets.{among, holds, with_place}

pub same_refl : (p : Place) → same_place p p ≡ true
same_refl p = and_from _ _ (eq-eqb p.0 p.0 refl) (eq-eqb p.1 p.1 refl)

pub same_true : (p q : Place) → same_place p q ≡ true → p ≡ q
same_true p q h =
    let e = and_parts (eqb p.0 q.0) (eqb p.1 q.1) h in
    let a = eqb-true p.0 q.0 e.0 in
    let b = eqb-true p.1 q.1 e.1 in
    λ i. (a i, b i)

pub holds_none : (p : Place) → holds (replicate 683 false) p ≡ false
unfolding holds
holds_none p = go (legal p) refl
  where
    go : (b : Bool) → legal p ≡ b → (b && get_or (replicate 683 false) (index_of p) false) ≡ false
    go false e = refl
    go true e = get_or-replicate 683 (index_of p) false false (index_within p e)

pub holds_legal : (flags : List Bool) (p : Place) → legal p ≡ true → holds flags p ≡ get_or flags (index_of p) false
unfolding holds
holds_legal flags p e = rw e

pub holds_illegal : (flags : List Bool) (p : Place) → legal p ≡ false → holds flags p ≡ false
unfolding holds
holds_illegal flags p e = rw e

pub holds_more : (flags : List Bool) (q p : Place) → length flags ≡ 683 → legal q ≡ true → holds (set flags (index_of q) true) p ≡ with_place q (holds flags) p
holds_more flags q p n lq = elim (cases_Bool (same_place q p)) [
  | inl e ↦
      (let s = same_true q p e in
      let w = index_within q lq in
      subst (λ (x : Place). holds (set flags (index_of q) true) x ≡ with_place q (holds flags) x) s
      (holds_legal (set flags (index_of q) true) q lq ∙ get_or-set_same flags (index_of q) true false (omega arith) ∙ sym (rw (lq, same_refl q))))
  | inr e ↦ (elim (cases_Bool (legal p)) [
    | inl lp ↦
        (let ne : index_of p ≢ index_of q = λ i. both_ways (same_place q p) e (subst (λ (x : Place). same_place q x ≡ true) (sym (place_same p q lp lq i)) (same_refl q)) in
        holds_legal (set flags (index_of q) true) p lp ∙ get_or-set_other flags (index_of q) (index_of p) true false ne ∙ sym (holds_legal flags p lp) ∙ sym (rw (lq, e)))
    | inr lp ↦ (holds_illegal (set flags (index_of q) true) p lp ∙ sym (rw (lq, e, holds_illegal flags p lp)))
  ])
]

pub among_push : (ps : List Place) (q p : Place) → among (ps ++ q ∷ []) p ≡ (among ps p || same_place q p)
unfolding among
among_push [] q p = or-false (same_place q p)
among_push (x ∷ ps) q p = ap (λ b. same_place x p || b) (among_push ps q p) ∙ sym (or_assoc (same_place x p) (among ps p) (same_place q p))

-- the flags at the blocks of the list, and at no other, are up
abbrev pub Marks : List Bool → List Place → Type 0
Marks flags ps = (p : Place) → legal p ≡ true → holds flags p ≡ among ps p

pub marks_none : (flags : List Bool) → ((p : Place) → holds flags p ≡ false) → Marks flags []
unfolding among
marks_none flags h p l = h p

pub marks_more : (flags flags' : List Bool) (ps : List Place) (q : Place) → legal q ≡ true → ((p : Place) → holds flags' p ≡ with_place q (holds flags) p) → Marks flags ps → Marks flags' (ps ++ q ∷ [])
marks_more flags flags' ps q lq h m p l =
    h p ∙ ap (λ b. (b && same_place q p) || holds flags p) lq ∙ or_comm (same_place q p) (holds flags p) ∙ ap (λ b. b || same_place q p) (m p l) ∙ sym (among_push ps q p)
