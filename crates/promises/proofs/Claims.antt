-- Blocks given to one owner: which they were, and when it goes.
use Rattle.std.proofs.Common.{◌≡◌, ℕ, zero, suc, Bool, true, false, cond, ◌||◌, eqb, ◌⊎◌, List, [], ◌∷◌, ◌++◌, Some, None, Option, Ok, Err, sym, refl, ap, ◌∙◌, subst, inl, inr, arith}
use mathlib.Core.Path.{fun_ext}
use Rattle.std.proofs.lemmas.Bool.{eqb-true, eq-eqb, or_parts, or_from, or_cases, true≢false, cond-true, cond-false, cases_Bool}
use Rattle.std.proofs.lemmas.Bool.Decides.{nat_tests}
use Rattle.disk.specs.declared.cause.Cause.TheVariants.{BadStructure}
use Rattle.disk.specs.Geometry.{Place, same_place}
use Rattle.disk.specs.Refusals.{by_volume}
use Rattle.sector.specs.Source.{Disk}
use Rattle.chains.specs.declared.route.Route.{Route}
use Rattle.chains.specs.Sets.{among}
use Rattle.chains.specs.Chains.{on_route, visited, link_of, Followed, led, chain_from}
use Rattle.chains.proofs.Chains.{no_answer, visited_on_route}
use Rattle.chains.proofs.Sets.{same_refl, same_true, among_push}
use Rattle.chains.proofs.Bounds.{visited_unmet}
use Rattle.files.proofs.Followed.{came_from}
use Rattle.sound.specs.Owners.{Owners, given_to, claimed}

pub same_sym : (p q : Place) → same_place p q ≡ same_place q p
same_sym p q = grind (arith, nat_tests)

-- the blocks once they are given to n, all at once
abbrev pub given_all : Owners → List Place → ℕ → Owners
given_all own ps n q = cond (among ps q) n (own q)

given_more : (own : Owners) (p : Place) (ps : List Place) (n : ℕ) (q : Place) → given_all (given_to own p n) ps n q ≡ given_all own (p ∷ ps) n q
unfolding among
given_more own p ps n q =
    ap (λ (b : Bool). cond (among ps q) n (cond b n (own q))) (same_sym q p) ∙ both (same_place p q) (among ps q)
  where
    both : (a b : Bool) → cond b n (cond a n (own q)) ≡ cond (a || b) n (own q)
    both true true = refl
    both true false = refl
    both false b = refl

-- what was given had no owner, and all else stays
pub claimed_gives : (own own' : Owners) (ps : List Place) (from : Place) (n : ℕ) → claimed own ps from n ≡ Ok own'
    → ((q : Place) → own' q ≡ given_all own ps n q) × ((q : Place) → among ps q ≡ true → own q ≡ 0)
unfolding claimed among
claimed_gives own own' [] from n e = (λ q. (let z : own ≡ own' = cc in ap (λ (o : Owners). o q) (sym z)), λ q m. absurd (true≢false (sym m)))
claimed_gives own own' (p ∷ ps) from n e = go (eqb (own p) 0) refl e (claimed_gives (given_to own p n) own' ps p n)
  where
    one : own p ≡ 0 → (q : Place) (b : Bool) → same_place p q ≡ b → (b || among ps q) ≡ true → (among ps q ≡ true → given_to own p n q ≡ 0) → own q ≡ 0
    one z q true s m k = ap own (sym (same_true p q s)) ∙ z
    one z q false s m k = sym (cond-false (same_place q p) n (own q) (same_sym q p ∙ s)) ∙ k m

    go : (b : Bool) → eqb (own p) 0 ≡ b → cond b (claimed (given_to own p n) ps p n) (Err (by_volume BadStructure from)) ≡ Ok own'
        → (claimed (given_to own p n) ps p n ≡ Ok own' → ((q : Place) → own' q ≡ given_all (given_to own p n) ps n q) × ((q : Place) → among ps q ≡ true → given_to own p n q ≡ 0))
        → ((q : Place) → own' q ≡ given_all own (p ∷ ps) n q) × ((q : Place) → (same_place p q || among ps q) ≡ true → own q ≡ 0)
    go false f h ih = absurd (no_answer h)
    go true f h ih =
        let r = ih h in
        (λ q. r.0 q ∙ given_more own p ps n q, λ q m. one (eqb-true (own p) 0 f) q (same_place p q) refl m (r.1 q))

-- no place stands twice
abbrev pub Apart : List Place → Type 0
Apart [] = Unit {0}
Apart (p ∷ ps) = (among ps p ≡ false) × Apart ps

pub claimed_goes : (own : Owners) (ps : List Place) (from : Place) (n : ℕ) → Apart ps → ((q : Place) → among ps q ≡ true → own q ≡ 0) → claimed own ps from n ≡ Ok (given_all own ps n)
unfolding claimed among
claimed_goes own [] from n a z = refl
claimed_goes own (p ∷ ps) from n a z =
    let zp : own p ≡ 0 = z p (ap (λ (b : Bool). b || among ps p) (same_refl p)) in
    let ih = claimed_goes (given_to own p n) ps p n a.1 (λ q m. rest q (same_place q p) refl m) in
    cond-true (eqb (own p) 0) _ _ (eq-eqb (own p) 0 zp) ∙ ih ∙ ap (λ (o : Owners). Ok o) (fun_ext (given_more own p ps n))
  where
    rest : (q : Place) (b : Bool) → same_place q p ≡ b → among ps q ≡ true → given_to own p n q ≡ 0
    rest q true s m = absurd (true≢false (sym m ∙ ap (among ps) (same_true q p s) ∙ a.0))
    rest q false s m = cond-false (same_place q p) n (own q) s ∙ z q (ap (λ (b : Bool). b || among ps q) (same_sym p q ∙ s) ∙ m)

apart_push : (ps : List Place) (p : Place) → Apart ps → among ps p ≡ false → Apart (ps ++ p ∷ [])
unfolding among
apart_push [] p a m = (refl, tt)
apart_push (q ∷ ps) p a m =
    let h = or_parts (same_place q p) (among ps p) m in
    (among_push ps p q ∙ or_from (among ps q) (same_place p q) a.0 (same_sym p q ∙ h.0), apart_push ps p a.1 h.1)

-- no block of a chain that was followed stands in it twice
pub chain_apart : (d : Disk) (r : Route) (n : ℕ) (met : List Place) (from p : Place) (f : Followed) → chain_from d r n met from p ≡ Ok f → Apart met → Apart f.0
unfolding chain_from
chain_apart d r zero met from p f e a = absurd (no_answer e)
chain_apart d r (suc n) met from p f e a =
    let v = came_from (visited d r (among met p) from p) _ f e in
    let l = came_from (link_of r p v.0) _ f v.2 in
    let m : Apart (met ++ p ∷ []) = apart_push met p a (visited_unmet d r (among met p) from p v.0 v.1) in
    go l.0 v.0 l.2 m (λ q h. chain_apart d r n (met ++ p ∷ []) p q f h m)
  where
    go : (k : Option Place) (b : List ℕ) → led k (met ++ p ∷ [], b) (λ q. chain_from d r n (met ++ p ∷ []) p q) ≡ Ok f → Apart (met ++ p ∷ []) → ((q : Place) → chain_from d r n (met ++ p ∷ []) p q ≡ Ok f → Apart f.0) → Apart f.0
    go None b h m ih = let z : (met ++ p ∷ [], b) ≡ f = cc in subst (λ (x : Followed). Apart x.0) z m
    go (Some q) b h m ih = ih q h

-- every block of a chain that was followed is on the route
pub chain_on_route : (d : Disk) (r : Route) (n : ℕ) (met : List Place) (from p : Place) (f : Followed) → chain_from d r n met from p ≡ Ok f
    → ((q : Place) → among met q ≡ true → on_route r q ≡ true) → (q : Place) → among f.0 q ≡ true → on_route r q ≡ true
unfolding chain_from
chain_on_route d r zero met from p f e a = absurd (no_answer e)
chain_on_route d r (suc n) met from p f e a =
    let v = came_from (visited d r (among met p) from p) _ f e in
    let l = came_from (link_of r p v.0) _ f v.2 in
    let m : (q : Place) → among (met ++ p ∷ []) q ≡ true → on_route r q ≡ true = λ q h. pushed q (or_cases (among met q) (same_place p q) (sym (among_push met p q) ∙ h)) (visited_on_route d r (among met p) from p v.0 v.1) in
    go l.0 v.0 l.2 m (λ q h. chain_on_route d r n (met ++ p ∷ []) p q f h m)
  where
    pushed : (q : Place) → (among met q ≡ true) ⊎ (same_place p q ≡ true) → on_route r p ≡ true → on_route r q ≡ true
    pushed q (inl h) o = a q h
    pushed q (inr h) o = ap (on_route r) (sym (same_true p q h)) ∙ o

    go : (k : Option Place) (b : List ℕ) → led k (met ++ p ∷ [], b) (λ q. chain_from d r n (met ++ p ∷ []) p q) ≡ Ok f → ((q : Place) → among (met ++ p ∷ []) q ≡ true → on_route r q ≡ true)
        → ((q : Place) → chain_from d r n (met ++ p ∷ []) p q ≡ Ok f → (x : Place) → among f.0 x ≡ true → on_route r x ≡ true) → (x : Place) → among f.0 x ≡ true → on_route r x ≡ true
    go None b h m ih = let z : (met ++ p ∷ [], b) ≡ f = cc in subst (λ (y : Followed). (x : Place) → among y.0 x ≡ true → on_route r x ≡ true) z m
    go (Some q) b h m ih = ih q h

-- so what is off the route is none of them
pub not_on_route : (d : Disk) (r : Route) (n : ℕ) (from p : Place) (f : Followed) (q : Place) → chain_from d r n [] from p ≡ Ok f → on_route r q ≡ false → among f.0 q ≡ false
unfolding among
not_on_route d r n from p f q e o = elim (cases_Bool (among f.0 q)) [
  | inl h ↦ absurd (true≢false (sym (chain_on_route d r n [] from p f e (λ x m. absurd (true≢false (sym m))) q h) ∙ o))
  | inr h ↦ h
]
