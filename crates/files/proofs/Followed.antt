-- What is known of the blocks of a chain that was followed to its end.
use Rattle.std.proofs.Common.{◌≡◌, ℕ, zero, suc, ◌-◌, ◌<◌, Bool, true, false, ◌⊎◌, List, [], ◌∷◌, ◌++◌, length, get_or, Some, None, Option, Ok, Err, Result, refl, ap, ◌∙◌, subst, inl, inr, arith}
use Rattle.std.specs.List.{AllByRecursion}
use Rattle.std.proofs.ByRecursion.{All-push}
use Rattle.std.proofs.lemmas.List.{length_push, get_or_push}
use Rattle.disk.specs.declared.refusal.Refusal.{Refusal}
use Rattle.disk.specs.Geometry.{Place, legal}
use Rattle.disk.specs.Bytes.{Bytes}
use Rattle.sector.specs.Source.{Disk, Reading, bytes, fault, Whole, loaded, and_then}
use Rattle.chains.specs.declared.route.Route.{Route}
use Rattle.chains.specs.Sets.{among}
use Rattle.chains.specs.Chains.{on_route, visited, link_of, Followed, led, chain_from}
use Rattle.files.specs.Found.{last_of}
use Rattle.files.specs.Files.{Readable}

-- a block that was visited was read
pub visited_loaded : (d : Disk) (r : Route) (met : Bool) (from p : Place) (b : List ℕ) → visited d r met from p ≡ Ok b → loaded d p ≡ Ok b
unfolding visited
visited_loaded d r met from p b e = go (on_route r p) refl met refl
  where
    go : (x : Bool) → on_route r p ≡ x → (y : Bool) → met ≡ y → loaded d p ≡ Ok b
    go false f y g = cc (rw f at e)
    go true f true g = cc (rw (f, g) at e)
    go true f false g = rw (f, g) at e

-- an accepted step came before what was accepted
pub came_from : {X Y : Type 0} (r : Result X Refusal) (k : X → Result Y Refusal) (y : Y) → and_then r k ≡ Ok y → (x : X) × (r ≡ Ok x) × (k x ≡ Ok y)
came_from (Ok x) k y e = (x, refl, e)
came_from (Err z) k y e = cc

-- the first step of a chain that was followed to its end
pub chain_step : (d : Disk) (r : Route) (n : ℕ) (met : List Place) (from p : Place) (f : Followed) → chain_from d r (suc n) met from p ≡ Ok f →
    (b : List ℕ) × (visited d r (among met p) from p ≡ Ok b) ×
    (((link_of r p b ≡ Ok None) × (◌≡◌ {A = Followed} (met ++ p ∷ [], b) f)) ⊎ ((q : Place) × (link_of r p b ≡ Ok (Some q)) × (chain_from d r n (met ++ p ∷ []) p q ≡ Ok f)))
unfolding chain_from
chain_step d r n met from p f e =
    let v = came_from (visited d r (among met p) from p) _ f e in
    let l = came_from (link_of r p v.0) _ f v.2 in
    (v.0, v.1, led_on v.0 l.0 l.1 l.2)
  where
    led_on : (b : List ℕ) (l : Option Place) → link_of r p b ≡ Ok l → led l (met ++ p ∷ [], b) (λ q. chain_from d r n (met ++ p ∷ []) p q) ≡ Ok f →
        ((link_of r p b ≡ Ok None) × (◌≡◌ {A = Followed} (met ++ p ∷ [], b) f)) ⊎ ((q : Place) × (link_of r p b ≡ Ok (Some q)) × (chain_from d r n (met ++ p ∷ []) p q ≡ Ok f))
    led_on b None t s = inl (t, cc)
    led_on b (Some q) t s = inr (q, t, s)

module _ (d : Disk) (whole : (p : Place) → Whole (d p)) where
  pub loaded_whole : (p : Place) (b : List ℕ) → loaded d p ≡ Ok b → (length b ≡ 256) × Bytes b
  unfolding loaded
  loaded_whole p b e = go (legal p) refl (d p) refl
    where
      go : (x : Bool) → legal p ≡ x → (v : Reading) → d p ≡ v → (length b ≡ 256) × Bytes b
      go false f v g = cc (rw f at e)
      go true f (fault c) g = cc (rw (f, g) at e)
      go true f (bytes a) g =
          let s : ◌≡◌ {A = Result (List ℕ) Refusal} (Ok a) (Ok b) = rw (f, g) at e in
          let q : a ≡ b = cc in
          subst (λ (x : List ℕ). (length x ≡ 256) × Bytes x) q (subst Whole g (whole p))

  -- every block of a chain can be read, and the last one's bytes are at hand
  pub record Walked (f : Followed) : Type 0 where
    pub some : 0 < length f.0
    pub readable : AllByRecursion (Readable d) f.0
    pub last : loaded d (last_of f.0) ≡ Ok f.1

  last_push : (ps : List Place) (p : Place) → last_of (ps ++ p ∷ []) ≡ p
  last_push ps p =
      let e : length (ps ++ p ∷ []) - 1 ≡ length ps = omega (arith, length_push ps p) in
      ap (λ (k : ℕ). get_or (ps ++ p ∷ []) k (0, 0)) e ∙ get_or_push ps p (0, 0) (length ps) refl

  pub chain_walked : (r : Route) (n : ℕ) (met : List Place) (from p : Place) (f : Followed) → chain_from d r n met from p ≡ Ok f → AllByRecursion (Readable d) met → Walked f
  unfolding chain_from
  chain_walked r zero met from p f e a = cc
  chain_walked r (suc n) met from p f e a =
      let s = chain_step d r n met from p f e in
      let l = visited_loaded d r (among met p) from p s.0 s.1 in
      let more = All-push (Readable d) met p a (s.0, l, (loaded_whole p s.0 l).0) in
      elim s.2 [
        | inl t ↦ subst Walked t.1 (record { some = omega (arith, length_push met p); readable = more; last = ap (loaded d) (last_push met p) ∙ l })
        | inr t ↦ chain_walked r n (met ++ p ∷ []) p t.0 f t.2 more
      ]
