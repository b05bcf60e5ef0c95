-- Extracting looks at nothing but its path.
use Rattle.std.proofs.Common.{◌≡◌, ℕ, zero, suc, Bool, true, false, ◌||◌, List, [], ◌∷◌, ◌++◌, take, drop, Some, None, Option, Ok, Err, Result, sym, refl, ap, ◌∙◌, subst, inl, inr}
use Rattle.std.proofs.lemmas.List.{append_assoc}
use Rattle.std.proofs.lemmas.Bool.{or_left, or_right}
use Rattle.disk.specs.declared.refusal.Refusal.{Refusal}
use Rattle.disk.specs.Geometry.{Place, same_place}
use Rattle.sector.specs.Source.{Disk, loaded, and_then}
use Rattle.files.specs.declared.find.Located.{Located}
use Rattle.chains.specs.declared.route.Route.{Route}
use Rattle.chains.specs.declared.route.Route.TheVariants.{File, Search}
use Rattle.directory.specs.Names.{named}
use Rattle.chains.specs.Sets.{among}
use Rattle.chains.specs.Chains.{on_route, visited, link_of, Followed, led, chain_from, chain_of}
use Rattle.files.specs.Found.{last_of, found_in, entry_for, located, closed_at, file_chain}
use Rattle.directory.specs.Entries.{slot_of}
use Rattle.files.specs.Files.{held, block_data, all_data, size_of, bytes_of, extracted}
use Rattle.files.specs.Paths.{after, onward, looked, path_of, Agree}
use Rattle.files.specs.Laws.{PathOnly}
use Rattle.std.proofs.Math.Bool.{or_assoc}
use Rattle.chains.proofs.Sets.{same_refl}
use Rattle.files.proofs.Followed.{chain_step, visited_loaded}
use Rattle.chains.proofs.Chains.{visited_on_route}
use Rattle.chains.proofs.Bounds.{visited_unmet}

pub among_append : (ps qs : List Place) (p : Place) → among (ps ++ qs) p ≡ (among ps p || among qs p)
unfolding among
among_append [] qs p = refl
among_append (x ∷ ps) qs p = ap (λ b. same_place x p || b) (among_append ps qs p) ∙ sym (or_assoc (same_place x p) (among ps p) (among qs p))

among_first : (p : Place) (ps : List Place) → among (p ∷ ps) p ≡ true
unfolding among
among_first p ps = or_left (same_place p p) (among ps p) (same_refl p)

among_rest : (q : Place) (ps : List Place) (p : Place) → among ps p ≡ true → among (q ∷ ps) p ≡ true
unfolding among
among_rest q ps p h = or_right (same_place q p) (among ps p) h

module _ (d e : Disk) where
  agree_first : (ps qs : List Place) → Agree d e (ps ++ qs) → Agree d e ps
  agree_first ps qs a p h = a p (among_append ps qs p ∙ or_left (among ps p) (among qs p) h)

  agree_second : (ps qs : List Place) → Agree d e (ps ++ qs) → Agree d e qs
  agree_second ps qs a p h = a p (among_append ps qs p ∙ or_right (among ps p) (among qs p) h)

  loaded_same : (p : Place) → e p ≡ d p → loaded e p ≡ loaded d p
  unfolding loaded
  loaded_same p h = rw h

  -- the same blocks on the way, the same chain
  pub chain_same : (r : Route) (n : ℕ) (met : List Place) (from p : Place) → Agree d e (looked d r n met p) → chain_from e r n met from p ≡ chain_from d r n met from p
  unfolding chain_from looked visited
  chain_same r zero met from p a = refl
  chain_same r (suc n) met from p a = go (on_route r p) refl (among met p) refl (λ q h. chain_same r n (met ++ p ∷ []) p q h)
    where
      go : (x : Bool) → on_route r p ≡ x → (y : Bool) → among met p ≡ y → ((q : Place) → Agree d e (looked d r n (met ++ p ∷ []) q) → chain_from e r n (met ++ p ∷ []) p q ≡ chain_from d r n (met ++ p ∷ []) p q) →
          chain_from e r (suc n) met from p ≡ chain_from d r (suc n) met from p
      go false f y g ih = rw f
      go true f true g ih = rw (f, g)
      go true f false g ih =
          let a' : Agree d e (p ∷ after (and_then (loaded d p) (link_of r p)) (onward (λ q. looked d r n (met ++ p ∷ []) q))) = rw (f, g) at a in
          let s = loaded_same p (a' p (among_first p _)) in
          rw (f, g, s) (read (loaded d p) (λ q h. a' q (among_rest p _ q h)))
        where
          linked : (b : List ℕ) (l : Result (Option Place) Refusal) → Agree d e (after l (onward (λ q. looked d r n (met ++ p ∷ []) q))) →
              and_then l (λ x. led x (met ++ p ∷ [], b) (λ q. chain_from e r n (met ++ p ∷ []) p q)) ≡ and_then l (λ x. led x (met ++ p ∷ [], b) (λ q. chain_from d r n (met ++ p ∷ []) p q))
          linked b (Err x) h = refl
          linked b (Ok None) h = refl
          linked b (Ok (Some q)) h = ih q h

          read : (v : Result (List ℕ) Refusal) → Agree d e (after (and_then v (link_of r p)) (onward (λ q. looked d r n (met ++ p ∷ []) q))) →
              and_then v (λ b. and_then (link_of r p b) (λ l. led l (met ++ p ∷ [], b) (λ q. chain_from e r n (met ++ p ∷ []) p q)))
              ≡ and_then v (λ b. and_then (link_of r p b) (λ l. led l (met ++ p ∷ [], b) (λ q. chain_from d r n (met ++ p ∷ []) p q)))
          read (Err x) h = refl
          read (Ok b) h = linked b (link_of r p b) h

  -- a chain that was followed to its end has the blocks that were looked at
  pub chain_looked : (r : Route) (n : ℕ) (met : List Place) (from p : Place) (f : Followed) → chain_from d r n met from p ≡ Ok f → f.0 ≡ met ++ looked d r n met p
  unfolding looked chain_from
  chain_looked r zero met from p f s = cc
  chain_looked r (suc n) met from p f s =
      let t = chain_step d r n met from p f s in
      let o = visited_on_route d r (among met p) from p t.0 t.1 in
      let u = visited_unmet d r (among met p) from p t.0 t.1 in
      let l = visited_loaded d r (among met p) from p t.0 t.1 in
      rw (o, u, l) (elim t.2 [
        | inl z ↦ rw z.0 (ap (λ (x : Followed). x.0) (sym z.1))
        | inr z ↦ rw z.1 (chain_looked r n (met ++ p ∷ []) p z.0 f z.2 ∙ append_assoc met (p ∷ []) (looked d r n (met ++ p ∷ []) z.0))
      ])

  all_same : (ps : List Place) → Agree d e ps → all_data e ps ≡ all_data d ps
  unfolding all_data block_data
  all_same [] a = refl
  all_same (p ∷ ps) a =
      let s = loaded_same p (a p (among_first p ps)) in
      let i = all_same ps (λ q h. a q (among_rest p ps q h)) in
      λ k. drop 2 (held (s k)) ++ i k

  located_same : (name : List ℕ) → Agree d e (after (named name) (λ n. looked d (Search n) 18 [] (18, 1))) → located e name ≡ located d name
  unfolding located
  located_same name a = go (named name) a
    where
      go : (v : Result (List ℕ) Refusal) → Agree d e (after v (λ n. looked d (Search n) 18 [] (18, 1))) → and_then v (entry_for e) ≡ and_then v (entry_for d)
      go (Err x) h = refl
      go (Ok n) h = ap (λ v. and_then v (λ f. found_in (last_of f.0) f.1 (slot_of f.1 n))) (chain_same (Search n) 18 [] (18, 0) (18, 1) h)

  chain_part : (p : Place) (x : Place) → Agree d e (looked d File 683 [] p) →
      and_then (chain_of e File x p) (λ f. Ok (bytes_of e f)) ≡ and_then (chain_of d File x p) (λ f. Ok (bytes_of d f))
  chain_part p x a = ap (λ v. and_then v (λ f. Ok (bytes_of e f))) (chain_same File 683 [] x p a) ∙ go (chain_of d File x p) refl
    where
      go : (v : Result Followed Refusal) → chain_of d File x p ≡ v → and_then v (λ f. Ok (bytes_of e f)) ≡ and_then v (λ f. Ok (bytes_of d f))
      go (Err z) s = refl
      go (Ok f) s =
          let l = chain_looked File 683 [] x p f s in
          let i = all_same f.0 (subst (Agree d e) (sym l) a) in
          λ k. Ok (take (size_of f) (i k))

  pub path_alone : (name : List ℕ) → Agree d e (path_of d name) → extracted e name ≡ extracted d name
  unfolding file_chain
  path_alone name a =
      let first = after (named name) (λ n. looked d (Search n) 18 [] (18, 1)) in
      let rest = after (and_then (located d name) (λ x. and_then (closed_at x) (λ _. Ok x.entry.first))) (λ p. looked d File 683 [] p) in
      let s = located_same name (agree_first first rest a) in
      ap (λ v. and_then (and_then v (λ x. and_then (closed_at x) (λ _. chain_of e File x.at x.entry.first))) (λ f. Ok (bytes_of e f))) s
      ∙ found (located d name) (agree_second first rest a)
    where
      shut : (x : Located) (v : Result Unit Refusal) → Agree d e (after (and_then v (λ _. Ok x.entry.first)) (λ p. looked d File 683 [] p)) →
          and_then (and_then v (λ _. chain_of e File x.at x.entry.first)) (λ f. Ok (bytes_of e f)) ≡ and_then (and_then v (λ _. chain_of d File x.at x.entry.first)) (λ f. Ok (bytes_of d f))
      shut x (Err z) h = refl
      shut x (Ok u) h = chain_part x.entry.first x.at h

      found : (v : Result Located Refusal) → Agree d e (after (and_then v (λ x. and_then (closed_at x) (λ _. Ok x.entry.first))) (λ p. looked d File 683 [] p)) →
          and_then (and_then v (λ x. and_then (closed_at x) (λ _. chain_of e File x.at x.entry.first))) (λ f. Ok (bytes_of e f))
          ≡ and_then (and_then v (λ x. and_then (closed_at x) (λ _. chain_of d File x.at x.entry.first))) (λ f. Ok (bytes_of d f))
      found (Err z) h = refl
      found (Ok x) h = shut x (closed_at x) h

pub path_only : PathOnly path_of
path_only d e name a = path_alone d e name a
