-- A disk that holds a sound volume is accepted, with the layout of that volume.
use Rattle.std.proofs.Common.{◌≡◌, ℕ, zero, suc, ◌+◌, ◌-◌, ◌*◌, ◌<◌, Bool, true, false, cond, eqb, ltb, List, [], length, get_or, Ok, Result, sym, refl, ap, ◌∙◌, inl, inr, arith}
use mathlib.Core.Path.{fun_ext}
use Rattle.std.proofs.lemmas.Bool.{eqb-true, eq-eqb, ne_eqb, true≢false, false≢true, cond-true, cond-false, cases_Bool, cases_eq, cases_lt, lt-ltb, le-ltb}
use Rattle.disk.specs.declared.refusal.Refusal.{Refusal}
use Rattle.disk.specs.Geometry.{Place}
use Rattle.sector.specs.Source.{Disk, and_then}
use Rattle.directory.specs.declared.kind.Status.{Status}
use Rattle.directory.specs.declared.kind.Status.TheVariants.{Empty, Unclosed, Closed, Foreign}
use Rattle.directory.specs.Kinds.{filled}
use Rattle.directory.specs.Entries.{is_of}
use Rattle.chains.specs.declared.route.Route.TheVariants.{File as FileRoute}
use Rattle.chains.specs.Sets.{among}
use Rattle.sound.specs.Owners.{Owners, first_owners}
use Rattle.sound.specs.Slots.{slot_place, slot_block, slot_entry, met_before, file_kept, by_type, slot_kept, slots_kept}
use Rattle.sound.specs.Layout.{File, Slot, file, Layout, chain_in, slot_chain, file_at, slot_of_type}
use Rattle.sound.specs.Check.{layout_of, checked_files, checked}
use Rattle.promises.specs.Soundness.{Sound}
use Rattle.promises.proofs.Claims.{given_all, claimed_goes, chain_apart}
use Rattle.promises.proofs.Slots.{slot_here, slot_past, met_none, named_is}
use Rattle.promises.proofs.Maps.{map_so}

-- of three owners the system's and the directory's are given first
first_below : (n : ℕ) → cond (eqb n 1) 1 (cond (eqb n 2) 2 0) ≡ cond (ltb n (3 + 0)) n 0
first_below zero = refl
first_below (suc zero) = refl
first_below (suc (suc zero)) = refl
first_below (suc (suc (suc n))) =
    rw (ne_eqb (suc (suc (suc n))) 1 (omega arith), ne_eqb (suc (suc (suc n))) 2 (omega arith), le-ltb (suc (suc (suc n))) (3 + 0) (omega arith))

-- the next owner is given too
more_below : (n b c : ℕ) → c ≡ b + 1 → cond (eqb n b) b (cond (ltb n b) n 0) ≡ cond (ltb n c) n 0
more_below n b c e = elim (cases_lt n b) [
  | inl l ↦ rw (ne_eqb n b (omega arith), lt-ltb n b l, lt-ltb n c (omega arith))
  | inr l ↦ elim (cases_eq n b) [
    | inl i ↦ rw (eq-eqb n b i, lt-ltb n c (omega arith)) (sym i)
    | inr i ↦ rw (ne_eqb n b i, le-ltb n b l, le-ltb n c (omega arith))
  ]
]

-- it keeps nothing
same_below : (n b c : ℕ) → c ≡ b + 1 → eqb n b ≡ false → cond (ltb n b) n 0 ≡ cond (ltb n c) n 0
same_below n b c e h = ap (λ (x : Bool). cond x b (cond (ltb n b) n 0)) (sym h) ∙ more_below n b c e

-- the owners of a layout, as they are once the slots before k are looked at
abbrev upto : Owners → ℕ → Owners
upto own k p = cond (ltb (own p) (3 + k)) (own p) 0

module _ (d : Disk) (L : Layout) (S : Sound d L) where
  slot_is : (k : ℕ) (s : Status) → k < 8 * length L.dirs → (slot_entry d L.dirs k).status ≡ s → L.slots k ≡ slot_of_type s d L.dirs k
  slot_is k s l e = S.slots k ∙ slot_here d L.dirs k s l e

  -- a filled slot holds a file of its name
  named_file : (j : ℕ) → j < 8 * length L.dirs → filled (slot_entry d L.dirs j).status ≡ true → (f : File) × (L.slots j ≡ file f) × (f.name ≡ (slot_entry d L.dirs j).name)
  named_file j l h = go (slot_entry d L.dirs j).status refl h
    where
      go : (s : Status) → (slot_entry d L.dirs j).status ≡ s → filled s ≡ true → (f : File) × (L.slots j ≡ file f) × (f.name ≡ (slot_entry d L.dirs j).name)
      go Empty e q = absurd (false≢true q)
      go (Foreign b) e q = absurd (S.ours j b l e)
      go (Unclosed kd) e q = (file_at d L.dirs j kd false, slot_is j (Unclosed kd) l e, refl)
      go (Closed kd) e q = (file_at d L.dirs j kd true, slot_is j (Closed kd) l e, refl)

  -- so no slot before it has the name of a file
  fresh : (k : ℕ) (f : File) → k < 8 * length L.dirs → L.slots k ≡ file f → f.name ≡ (slot_entry d L.dirs k).name → met_before d L.dirs (slot_entry d L.dirs k).name k ≡ false
  fresh k f l e n = met_none d L.dirs (slot_entry d L.dirs k).name k (λ j h. elim (cases_Bool (is_of (slot_block d L.dirs j) (slot_entry d L.dirs k).name j)) [
    | inl t ↦ (
        let q = named_is d L.dirs (slot_entry d L.dirs k).name j t in
        let g = named_file j (omega arith) q.0 in
        let i = S.names j k g.0 f g.1 e (g.2 ∙ q.1 ∙ sym n) in
        absurd (omega arith))
    | inr t ↦ t
  ])

  -- the blocks of the file of slot k are those whose owner it is
  mine : (k : ℕ) (f : File) → L.slots k ≡ file f → f.places ≡ (slot_chain d L.dirs k).0 → (q : Place) → eqb (L.own q) (3 + k) ≡ among (slot_chain d L.dirs k).0 q
  mine k f e p q = S.kept.files k q ∙ ap (λ (s : Slot). among (chain_in s) q) e ∙ ap (λ (ps : List Place). among ps q) p

  file_goes : (k : ℕ) (f : File) → L.slots k ≡ file f → f.places ≡ (slot_chain d L.dirs k).0 → file_kept d (slot_place L.dirs k) (slot_entry d L.dirs k) k (upto L.own k) ≡ Ok (upto L.own (k + 1))
  unfolding file_kept
  file_goes k f e p =
      let at = slot_place L.dirs k in
      let ps = (slot_chain d L.dirs k).0 in
      let c = S.chains k f e in
      let a = chain_apart d FileRoute 683 [] at (slot_entry d L.dirs k).first (slot_chain d L.dirs k) c tt in
      let g = claimed_goes (upto L.own k) ps at (3 + k) a (λ q m. unkept q m) in
      let n = eq-eqb (length ps) (slot_entry d L.dirs k).blocks (sym (S.counts k f e ∙ ap length p)) in
      rw (c, g, n) (ap (λ (o : Owners). Ok o) (fun_ext given))
    where
      unkept : (q : Place) → among (slot_chain d L.dirs k).0 q ≡ true → upto L.own k q ≡ 0
      unkept q m =
          let o = eqb-true (L.own q) (3 + k) (mine k f e p q ∙ m) in
          cond-false (ltb (L.own q) (3 + k)) (L.own q) 0 (le-ltb (L.own q) (3 + k) (omega arith))

      given : (q : Place) → given_all (upto L.own k) (slot_chain d L.dirs k).0 (3 + k) q ≡ upto L.own (k + 1) q
      given q = ap (λ (b : Bool). cond b (3 + k) (upto L.own k q)) (sym (mine k f e p q)) ∙ more_below (L.own q) (3 + k) (3 + (k + 1)) (omega arith)

  slot_goes : (k : ℕ) → k < 8 * length L.dirs → slot_kept d L.dirs k (upto L.own k) ≡ Ok (upto L.own (k + 1))
  unfolding slot_kept among
  slot_goes k l = go (slot_entry d L.dirs k).status refl
    where
      go : (s : Status) → (slot_entry d L.dirs k).status ≡ s → by_type s (slot_place L.dirs k) (met_before d L.dirs (slot_entry d L.dirs k).name k) (file_kept d (slot_place L.dirs k) (slot_entry d L.dirs k) k (upto L.own k)) (upto L.own k) ≡ Ok (upto L.own (k + 1))
      go Empty e = ap (λ (o : Owners). Ok o) (fun_ext (λ p. same_below (L.own p) (3 + k) (3 + (k + 1)) (omega arith) (S.kept.files k p ∙ ap (λ (s : Slot). among (chain_in s) p) (slot_is k Empty l e))))
      go (Foreign b) e = absurd (S.ours k b l e)
      go (Unclosed kd) e =
          let s = slot_is k (Unclosed kd) l e in
          cond-false _ _ _ (fresh k (file_at d L.dirs k kd false) l s refl) ∙ file_goes k (file_at d L.dirs k kd false) s refl
      go (Closed kd) e =
          let s = slot_is k (Closed kd) l e in
          cond-false _ _ _ (fresh k (file_at d L.dirs k kd true) l s refl) ∙ file_goes k (file_at d L.dirs k kd true) s refl

  slots_go : (n k : ℕ) → k + n ≡ 8 * length L.dirs → slots_kept d L.dirs n k (upto L.own k) ≡ Ok (upto L.own (8 * length L.dirs))
  unfolding slots_kept
  slots_go zero k e =
      let i : k ≡ 8 * length L.dirs = omega arith in
      ap (λ (j : ℕ). Ok (upto L.own j)) i
  slots_go (suc n) k e = ap (λ (r : Result Owners Refusal). and_then r (slots_kept d L.dirs n (k + 1))) (slot_goes k (omega arith)) ∙ slots_go n (k + 1) (omega arith)

  first_are : first_owners L.dirs ≡ upto L.own 0
  first_are = fun_ext (λ p. (λ i. cond (sym (S.kept.system p) i) 1 (cond (sym (S.kept.directory p) i) 2 0)) ∙ first_below (L.own p))

  -- past the last slot no owner is left
  all_are : upto L.own (8 * length L.dirs) ≡ L.own
  unfolding among
  all_are = fun_ext (λ p. elim (cases_lt (L.own p) (3 + 8 * length L.dirs)) [
    | inl l ↦ cond-true (ltb (L.own p) (3 + 8 * length L.dirs)) (L.own p) 0 (lt-ltb (L.own p) (3 + 8 * length L.dirs) l)
    | inr l ↦ (
        let t = eq-eqb (L.own p) (3 + (L.own p - 3)) (omega arith) in
        let s = S.slots (L.own p - 3) ∙ slot_past d L.dirs (L.own p - 3) (omega arith) in
        absurd (true≢false (sym t ∙ S.kept.files (L.own p - 3) p ∙ ap (λ (x : Slot). among (chain_in x) p) s)))
  ])

  layout_is : layout_of d L.title L.dirs L.own ≡ L
  layout_is = λ i. record { title = L.title; dirs = L.dirs; slots = sym (fun_ext S.slots) i; own = L.own }

  pub accepted_so : checked d ≡ Ok L
  unfolding checked checked_files
  accepted_so =
      let v = eq-eqb (get_or L.title 2 0) 65 S.version in
      let o = ap (slots_kept d L.dirs (8 * length L.dirs) 0) first_are ∙ slots_go (8 * length L.dirs) 0 (omega arith) ∙ ap (λ (x : Owners). Ok x) all_are in
      let m = map_so L.title L.own S.map.bits S.map.counts 35 (omega arith) in
      rw (S.title, v, S.directory, o, m) (ap (λ (x : Layout). Ok x) layout_is)
