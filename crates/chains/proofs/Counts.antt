-- How many blocks a route can have.
use Rattle.std.proofs.Common.{◌≡◌, ℕ, ◌+◌, ◌-◌, ◌<◌, ◌≤◌, true, false, cond, ◌||◌, eqb, ltb, List, [], ◌∷◌, ◌++◌, map, length, sym, ap, ◌∙◌, subst, inl, inr, arith}
use Rattle.std.specs.List.{IsDistinct, list_any}
use Rattle.std.proofs.lemmas.Bool.{cases_Bool, eqb-true, false≢true, or_cases, or_left, or_right}
use Rattle.std.proofs.lemmas.Bool.Decides.{nat_tests}
use Rattle.std.proofs.lemmas.Cmp.{nat_eq_equiv}
use Rattle.std.proofs.lemmas.List.{length-map, map-append}
use Rattle.std.proofs.lemmas.List.Folds.{list_any-append}
use Rattle.std.proofs.lemmas.Map.Keys.{IsDistinct-push}
use Rattle.std.proofs.lemmas.Map.Steps.{length-le_from_distinct_below}
use Rattle.std.proofs.Math.Bool.{or-false}
use Rattle.disk.specs.Geometry.{Place, legal, index_of, track_at, sector_at, same_place}
use Rattle.chains.specs.declared.route.Route.{Route}
use Rattle.chains.specs.declared.route.Route.TheVariants.{File, Directory, Search}
use Rattle.chains.specs.Sets.{among}
use Rattle.chains.specs.Chains.{on_route}
use Rattle.chains.proofs.Sets.{same_refl, among_push}

-- the blocks that a route may lead over, numbered
unfoldable pub room : Route → ℕ
room File = 664
room Directory = 18
room (Search n) = 18

pub nth : Route → ℕ → Place
nth File i = cond (ltb i 357) (track_at i, sector_at i) (track_at (i + 19), sector_at (i + 19))
nth Directory i = (18, i + 1)
nth (Search n) i = (18, i + 1)

pub number : Route → Place → ℕ
number File p = cond (ltb p.0 18) (index_of p) (index_of p - 19)
number Directory p = p.1 - 1
number (Search n) p = p.1 - 1

number_within : (r : Route) (p : Place) → on_route r p ≡ true → number r p < room r
unfolding number room legal index_of
number_within File p h = grind (arith, nat_tests)
number_within Directory p h = grind (arith, nat_tests)
number_within (Search n) p h = grind (arith, nat_tests)

nth_track : (r : Route) (p : Place) → on_route r p ≡ true → (nth r (number r p)).0 ≡ p.0
unfolding number nth legal index_of
nth_track File p h = grind (arith, nat_tests)
nth_track Directory p h = grind (arith, nat_tests)
nth_track (Search n) p h = grind (arith, nat_tests)

nth_sector : (r : Route) (p : Place) → on_route r p ≡ true → (nth r (number r p)).1 ≡ p.1
unfolding number nth legal index_of
nth_sector File p h = grind (arith, nat_tests)
nth_sector Directory p h = grind (arith, nat_tests)
nth_sector (Search n) p h = grind (arith, nat_tests)

nth_number : (r : Route) (p : Place) → on_route r p ≡ true → nth r (number r p) ≡ p
nth_number r p h = λ i. (nth_track r p h i, nth_sector r p h i)

-- the places in the list have numbers of their own among those of the route's blocks
pub record Counted (r : Route) (ps : List Place) : Type 0 where
  pub apart : IsDistinct eqb (map (number r) ps)
  pub stand : (k : ℕ) → list_any (eqb k) (map (number r) ps) ≡ true → (k < room r) × (among ps (nth r k) ≡ true)

pub counted_none : (r : Route) → Counted r []
unfolding IsDistinct
counted_none r = record { apart = tt; stand = λ k h. absurd (false≢true h) }

module _ (r : Route) (ps : List Place) (p : Place) (h : on_route r p ≡ true) (c : Counted r ps) where
  pushed : map (number r) (ps ++ p ∷ []) ≡ map (number r) ps ++ number r p ∷ []
  pushed = map-append (number r) ps (p ∷ [])

  fresh : among ps p ≡ false → list_any (eqb (number r p)) (map (number r) ps) ≡ false
  fresh f = elim (cases_Bool (list_any (eqb (number r p)) (map (number r) ps))) [
    | inl t ↦ absurd (false≢true (sym f ∙ ap (among ps) (sym (nth_number r p h)) ∙ (c.stand (number r p) t).1))
    | inr t ↦ t
  ]

  stands : (k : ℕ) → list_any (eqb k) (map (number r) ps ++ number r p ∷ []) ≡ true → (k < room r) × (among (ps ++ p ∷ []) (nth r k) ≡ true)
  stands k t = elim (or_cases (list_any (eqb k) (map (number r) ps)) (eqb k (number r p) || false) (sym (list_any-append (eqb k) (map (number r) ps) (number r p ∷ [])) ∙ t)) [
    | inl old ↦ (let s = c.stand k old in (s.0, among_push ps p (nth r k) ∙ or_left (among ps (nth r k)) (same_place p (nth r k)) s.1))
    | inr new ↦
        (let e : k ≡ number r p = eqb-true k (number r p) (sym (or-false (eqb k (number r p))) ∙ new) in
        let w = number_within r p h in
        (omega arith, among_push ps p (nth r k) ∙ or_right (among ps (nth r k)) (same_place p (nth r k)) (ap (λ (j : ℕ). same_place p (nth r j)) e ∙ ap (same_place p) (nth_number r p h) ∙ same_refl p)))
  ]

  pub counted_more : among ps p ≡ false → Counted r (ps ++ p ∷ [])
  counted_more f = record {
    apart = subst (IsDistinct eqb) (sym pushed) (IsDistinct-push nat_eq_equiv (map (number r) ps) (number r p) c.apart (fresh f));
    stand = λ k t. stands k (ap (list_any (eqb k)) (sym pushed) ∙ t);
  }

-- no route has more blocks than there are
pub few : (r : Route) (ps : List Place) → Counted r ps → length ps ≤ room r
few r ps c =
    let l = length-map ps (number r) in
    let m = length-le_from_distinct_below (map (number r) ps) (room r) c.apart (λ k t. (c.stand k t).0) in
    omega arith
