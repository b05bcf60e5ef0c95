-- One step along a chain.
use Rattle.std.proofs.Common.{◌≡◌, ℕ, suc, ◌+◌, ◌-◌, ◌<◌, ◌≤◌, Bool, true, false, List, [], ◌∷◌, ◌++◌, length, Some, None, Ok, Err, Result, sym, refl, ap, ◌∙◌, inl, inr, arith}
use Rattle.std.proofs.lemmas.List.{length_push}
use Rattle.std.proofs.lemmas.Bool.{cases_Bool, and_parts}
use Rattle.disk.specs.declared.cause.Cause.TheVariants.{BadStructure}
use Rattle.disk.specs.declared.refusal.Refusal.{Refusal}
use Rattle.disk.specs.Geometry.{Place, legal}
use Rattle.disk.specs.Refusals.{by_volume}
use Rattle.sector.specs.Source.{Disk, and_then}
use Rattle.chains.specs.declared.route.Route.{Route}
use Rattle.chains.specs.Sets.{among, holds, with_place}
use Rattle.chains.specs.Chains.{of_route, on_route, visited, link_of, led, chain_from, chain_of, most}
use Rattle.chains.proofs.Sets.{Marks, marks_none, marks_more}

-- a refusal is no answer
pub no_answer : {X : Type 0} {x : X} {e : Refusal} → ◌≡◌ {A = Result X Refusal} (Err e) (Ok x) → ⊥
no_answer h = cc

pub visited_on_route : (d : Disk) (r : Route) (met : Bool) (from p : Place) (b : List ℕ) → visited d r met from p ≡ Ok b → on_route r p ≡ true
unfolding visited
visited_on_route d r met from p b e = elim (cases_Bool (on_route r p)) [
  | inl t ↦ t
  | inr f ↦ cc (rw f at e)
]

pub visited_legal : (d : Disk) (r : Route) (met : Bool) (from p : Place) (b : List ℕ) → visited d r met from p ≡ Ok b → legal p ≡ true
visited_legal d r met from p b e = (and_parts (legal p) (of_route r p) (visited_on_route d r met from p b e)).0

-- what is met matters at blocks only
visited_same : (d : Disk) (r : Route) (flags : List Bool) (ps : List Place) (from p : Place) → Marks flags ps → visited d r (holds flags p) from p ≡ visited d r (among ps p) from p
unfolding visited
visited_same d r flags ps from p m = elim (cases_Bool (legal p)) [
  | inl l ↦ ap (λ x. visited d r x from p) (m p l)
  | inr l ↦ rw l
]

chain_more : (d : Disk) (r : Route) (n k : ℕ) (met : List Place) (from p : Place) → k < n →
    chain_from d r (n - k) met from p ≡ and_then (visited d r (among met p) from p) (λ b. and_then (link_of r p b) (λ l. led l (met ++ p ∷ [], b) (λ q. chain_from d r (n - (k + 1)) (met ++ p ∷ []) p q)))
unfolding chain_from
chain_more d r n k met from p h =
    let e : n - k ≡ suc (n - (k + 1)) = omega arith in
    ap (λ (m : ℕ). chain_from d r m met from p) e

-- a loop along a chain after k blocks: what is left of it comes to the whole chain
pub record Along (d : Disk) (r : Route) (from first : Place) (k : ℕ) (met : List Place) (flags : List Bool) (back here : Place) : Type 0 where
  pub left : chain_from d r (most r - k) met back here ≡ chain_of d r from first
  pub marks : Marks flags met
  pub many : length met ≡ k

pub along_none : (d : Disk) (r : Route) (from p : Place) (flags : List Bool) {met : List Place} → met ≡ [] → ((q : Place) → holds flags q ≡ false) → Along d r from p 0 met flags from p
along_none d r from p flags e h = rw e (record {
  left = ap (λ (n : ℕ). chain_from d r n [] from p) (omega arith);
  marks = marks_none flags h;
  many = refl;
})

module _ {d : Disk} {r : Route} {from first : Place} {k : ℕ} {met : List Place} {flags : List Bool} {back here : Place} (a : Along d r from first k met flags back here) where
  pub turn_end : most r ≤ k → Err (by_volume BadStructure back) ≡ chain_of d r from first
  unfolding chain_from
  turn_end h =
      let z : most r - k ≡ 0 = omega arith in
      rw z at a.left

  module _ (h : k < most r) where
    turned : and_then (visited d r (holds flags here) back here) (λ b. and_then (link_of r here b) (λ l. led l (met ++ here ∷ [], b) (λ q. chain_from d r (most r - (k + 1)) (met ++ here ∷ []) here q))) ≡ chain_of d r from first
    turned =
        ap (λ x. and_then x (λ b. and_then (link_of r here b) (λ l. led l (met ++ here ∷ [], b) (λ q. chain_from d r (most r - (k + 1)) (met ++ here ∷ []) here q)))) (visited_same d r flags met back here a.marks)
        ∙ sym (chain_more d r (most r) k met back here h) ∙ a.left

    pub turn_unread : (e : Refusal) → visited d r (holds flags here) back here ≡ Err e → Err e ≡ chain_of d r from first
    turn_unread e s = rw s at turned

    module _ (b : List ℕ) (s : visited d r (holds flags here) back here ≡ Ok b) where
      pub turn_unlinked : (e : Refusal) → link_of r here b ≡ Err e → Err e ≡ chain_of d r from first
      turn_unlinked e t = rw t at (rw s at turned)

      pub turn_stop : link_of r here b ≡ Ok None → Ok (met ++ here ∷ [], b) ≡ chain_of d r from first
      turn_stop t = rw t at (rw s at turned)

      pub turn_next : (q : Place) (met' : List Place) (flags' : List Bool) → link_of r here b ≡ Ok (Some q) → met' ≡ met ++ here ∷ [] → ((p : Place) → holds flags' p ≡ with_place here (holds flags) p) → Along d r from first (k + 1) met' flags' here q
      turn_next q met' flags' t e f = rw e (record {
        left = rw t at (rw s at turned);
        marks = marks_more flags flags' met here (visited_legal d r _ back here b s) f a.marks;
        many = length_push met here ∙ ap (λ (n : ℕ). n + 1) a.many;
      })

-- what ends a turn with an answer
pub ruleset turns = (turn_unread, turn_unlinked, turn_stop)
