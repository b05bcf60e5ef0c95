-- What an accepted check says of the disk.
use Rattle.std.proofs.Common.{◌≡◌, ℕ, zero, suc, ◌+◌, ◌*◌, ◌<◌, Bool, true, false, cond, eqb, List, [], length, get_or, Ok, Err, Result, sym, refl, ap, ◌∙◌, subst, inl, inr, arith}
use Rattle.std.proofs.lemmas.Bool.{eqb-true, eq-eqb, ne_eqb, true≢false, cases_eq, cases_lt}
use Rattle.disk.specs.declared.cause.Cause.TheVariants.{BadStructure, NotDos}
use Rattle.disk.specs.declared.refusal.Refusal.{Refusal}
use Rattle.disk.specs.Geometry.{Place, same_place, legal}
use Rattle.disk.specs.Refusals.{by_volume}
use Rattle.sector.specs.Source.{Disk, loaded}
use Rattle.directory.specs.declared.kind.Status.{Status}
use Rattle.directory.specs.declared.kind.Status.TheVariants.{Empty, Unclosed, Closed, Foreign}
use Rattle.chains.specs.declared.route.Route.TheVariants.{File as FileRoute, Directory}
use Rattle.chains.specs.Sets.{among}
use Rattle.chains.specs.Chains.{on_route, Followed, chain_of}
use Rattle.chains.proofs.Chains.{no_answer}
use Rattle.chains.proofs.Sets.{same_true}
use Rattle.files.proofs.Followed.{came_from}
use Rattle.sound.specs.Owners.{Owners, claimed, first_owners}
use Rattle.sound.specs.Maps.{map_agrees}
use Rattle.sound.specs.Slots.{slot_place, slot_entry, met_before, file_kept, by_type, slot_kept, slots_kept}
use Rattle.sound.specs.Layout.{File, Slot, file, Layout, chain_in, followed_or, slot_chain, slot_in}
use Rattle.sound.specs.Check.{dos, mapped, layout_of, checked_files, checked}
use Rattle.promises.specs.Soundness.{Kept, Sound}
use Rattle.promises.proofs.Claims.{given_all, claimed_gives, not_on_route}
use Rattle.promises.proofs.Slots.{slot_here, slot_past, Stands, Good, filed, met_each, is_named}
use Rattle.promises.proofs.Maps.{map_bits, map_counts}

-- a test that held
accepted : {X : Type 0} (b : Bool) (x : X) (e : Refusal) (y : X) → cond b (Ok x) (Err e) ≡ Ok y → (b ≡ true) × (x ≡ y)
accepted true x e y h = (refl, let z : x ≡ y = cc in z)
accepted false x e y h = absurd (no_answer h)

module _ (d : Disk) (dirs : List Place) where
  -- the owners once the slots before k are looked at
  record Upto (own : Owners) (k : ℕ) : Type 0 where
    below : (p : Place) → own p < 3 + k
    system : (p : Place) → eqb (own p) 1 ≡ same_place p (18, 0)
    directory : (p : Place) → eqb (own p) 2 ≡ among dirs p
    files : (j : ℕ) (p : Place) → j < k → eqb (own p) (3 + j) ≡ among (chain_in (slot_in d dirs j)) p
    good : (j : ℕ) → j < k → Good d dirs j (slot_entry d dirs j).status

  -- none of the directory's blocks is 18/0
  upto_first : among dirs (18, 0) ≡ false → Upto (first_owners dirs) 0
  upto_first m =
      record {
        below = λ p. low (same_place p (18, 0)) (among dirs p);
        system = λ p. first (same_place p (18, 0)) (among dirs p);
        directory = λ p. go p (same_place p (18, 0)) refl;
        files = λ j p l. absurd (omega arith);
        good = λ j l. absurd (omega arith);
      }
    where
      low : (a b : Bool) → cond a 1 (cond b 2 0) < 3 + 0
      low true b = omega arith
      low false true = omega arith
      low false false = omega arith

      first : (a b : Bool) → eqb (cond a 1 (cond b 2 0)) 1 ≡ a
      first true b = refl
      first false true = refl
      first false false = refl

      second : (b : Bool) → eqb (cond b 2 0) 2 ≡ b
      second true = refl
      second false = refl

      go : (p : Place) (a : Bool) → same_place p (18, 0) ≡ a → eqb (cond a 1 (cond (among dirs p) 2 0)) 2 ≡ among dirs p
      go p true e = sym (ap (among dirs) (same_true p (18, 0) e) ∙ m)
      go p false e = second (among dirs p)

  -- a slot without a file
  upto_empty : (own : Owners) (k : ℕ) (s : Status) → (slot_entry d dirs k).status ≡ s → chain_in (slot_in d dirs k) ≡ [] → Good d dirs k s → Upto own k → Upto own (suc k)
  unfolding among
  upto_empty own k s e c g U =
      record {
        below = λ p. (let b = U.below p in omega arith);
        system = U.system;
        directory = U.directory;
        files = λ j p l. elim (cases_eq j k) [
          | inl i ↦ subst (λ (x : ℕ). eqb (own p) (3 + x) ≡ among (chain_in (slot_in d dirs x)) p) (sym i)
              (ne_eqb (own p) (3 + k) (let b = U.below p in omega arith) ∙ ap (λ (ps : List Place). among ps p) (sym c))
          | inr i ↦ U.files j p (omega arith)
        ];
        good = λ j l. elim (cases_eq j k) [
          | inl i ↦ subst (λ (x : ℕ). Good d dirs x (slot_entry d dirs x).status) (sym i) (subst (Good d dirs k) (sym e) g)
          | inr i ↦ U.good j (omega arith)
        ];
      }

  -- a slot with a file, whose blocks nobody kept
  upto_file : (own own' : Owners) (k : ℕ) (s : Status) (ps : List Place) → (slot_entry d dirs k).status ≡ s → chain_in (slot_in d dirs k) ≡ ps → Good d dirs k s
      → ((q : Place) → own' q ≡ given_all own ps (3 + k) q) → ((q : Place) → among ps q ≡ true → own q ≡ 0) → Upto own k → Upto own' (suc k)
  upto_file own own' k s ps e c g is z U =
      record {
        below = λ p. subst (λ (x : ℕ). x < 3 + suc k) (sym (is p)) (low p (among ps p));
        system = λ p. ap (λ (x : ℕ). eqb x 1) (is p) ∙ other p 1 (among ps p) refl (omega arith) (omega arith) ∙ U.system p;
        directory = λ p. ap (λ (x : ℕ). eqb x 2) (is p) ∙ other p 2 (among ps p) refl (omega arith) (omega arith) ∙ U.directory p;
        files = λ j p l. elim (cases_eq j k) [
          | inl i ↦ subst (λ (x : ℕ). eqb (own' p) (3 + x) ≡ among (chain_in (slot_in d dirs x)) p) (sym i)
              (ap (λ (x : ℕ). eqb x (3 + k)) (is p) ∙ mine p (among ps p) ∙ ap (λ (qs : List Place). among qs p) (sym c))
          | inr i ↦ ap (λ (x : ℕ). eqb x (3 + j)) (is p) ∙ other p (3 + j) (among ps p) refl (omega arith) (omega arith) ∙ U.files j p (omega arith)
        ];
        good = λ j l. elim (cases_eq j k) [
          | inl i ↦ subst (λ (x : ℕ). Good d dirs x (slot_entry d dirs x).status) (sym i) (subst (Good d dirs k) (sym e) g)
          | inr i ↦ U.good j (omega arith)
        ];
      }
    where
      low : (p : Place) (b : Bool) → cond b (3 + k) (own p) < 3 + suc k
      low p true = omega arith
      low p false = let b = U.below p in omega arith

      -- another owner than this slot's
      other : (p : Place) (n : ℕ) (b : Bool) → among ps p ≡ b → 0 < n → n < 3 + k → eqb (cond b (3 + k) (own p)) n ≡ eqb (own p) n
      other p n true m l h = ne_eqb (3 + k) n (omega arith) ∙ sym (ne_eqb (own p) n (let o = z p m in omega arith))
      other p n false m l h = refl

      mine : (p : Place) (b : Bool) → eqb (cond b (3 + k) (own p)) (3 + k) ≡ b
      mine p true = eq-eqb (3 + k) (3 + k) refl
      mine p false = ne_eqb (own p) (3 + k) (let b = U.below p in omega arith)

  not_met : {X : Type 0} (m : Bool) (e : Refusal) (r : Result X Refusal) (y : X) → cond m (Err e) r ≡ Ok y → (m ≡ false) × (r ≡ Ok y)
  not_met true e r y h = absurd (no_answer h)
  not_met false e r y h = (refl, h)

  -- a slot with a file that was accepted
  stands_so : (own own' : Owners) (k : ℕ) → cond (met_before d dirs (slot_entry d dirs k).name k) (Err (by_volume BadStructure (slot_place dirs k))) (file_kept d (slot_place dirs k) (slot_entry d dirs k) k own) ≡ Ok own'
      → Stands d dirs k × ((q : Place) → own' q ≡ given_all own (slot_chain d dirs k).0 (3 + k) q) × ((q : Place) → among (slot_chain d dirs k).0 q ≡ true → own q ≡ 0)
  unfolding file_kept
  stands_so own own' k h =
      let at = slot_place dirs k in
      let e = slot_entry d dirs k in
      let m = not_met (met_before d dirs e.name k) (by_volume BadStructure at) (file_kept d at e k own) own' h in
      let c = came_from (chain_of d FileRoute at e.first) _ own' m.1 in
      let f = c.0 in
      let g = came_from (claimed own f.0 at (3 + k)) _ own' c.2 in
      let n = accepted (eqb (length f.0) e.blocks) g.0 (by_volume BadStructure at) own' g.2 in
      let s : slot_chain d dirs k ≡ f = ap followed_or c.1 in
      let q = claimed_gives own g.0 f.0 at (3 + k) g.1 in (
        record { chain = c.1 ∙ ap (λ (x : Followed). Ok x) (sym s); count = sym (eqb-true (length f.0) e.blocks n.0) ∙ ap (λ (x : Followed). length x.0) (sym s); fresh = m.0 },
        λ p. ap (λ (o : Owners). o p) (sym n.1) ∙ q.0 p ∙ ap (λ (x : Followed). given_all own x.0 (3 + k) p) (sym s),
        λ p a. q.1 p (ap (λ (x : Followed). among x.0 p) (sym s) ∙ a),
      )

  slot_step : (own own' : Owners) (k : ℕ) → slot_kept d dirs k own ≡ Ok own' → k < 8 * length dirs → Upto own k → Upto own' (suc k)
  unfolding slot_kept
  slot_step own own' k h l U = go (slot_entry d dirs k).status refl h
    where
      go : (s : Status) → (slot_entry d dirs k).status ≡ s → by_type s (slot_place dirs k) (met_before d dirs (slot_entry d dirs k).name k) (file_kept d (slot_place dirs k) (slot_entry d dirs k) k own) own ≡ Ok own' → Upto own' (suc k)
      go Empty e q = let z : own ≡ own' = cc in subst (λ (o : Owners). Upto o (suc k)) z (upto_empty own k Empty e (ap chain_in (slot_here d dirs k Empty l e)) tt U)
      go (Foreign b) e q = absurd (no_answer q)
      go (Unclosed kd) e q =
          let r = stands_so own own' k q in
          upto_file own own' k (Unclosed kd) (slot_chain d dirs k).0 e (ap chain_in (slot_here d dirs k (Unclosed kd) l e)) r.0 r.1 r.2 U
      go (Closed kd) e q =
          let r = stands_so own own' k q in
          upto_file own own' k (Closed kd) (slot_chain d dirs k).0 e (ap chain_in (slot_here d dirs k (Closed kd) l e)) r.0 r.1 r.2 U

  slots_step : (n k : ℕ) (own own' : Owners) → slots_kept d dirs n k own ≡ Ok own' → k + n ≡ 8 * length dirs → Upto own k → Upto own' (8 * length dirs)
  unfolding slots_kept
  slots_step zero k own own' h e U =
      let z : own ≡ own' = cc in
      let i : k ≡ 8 * length dirs = omega arith in
      subst (λ (o : Owners). Upto o (8 * length dirs)) z (subst (Upto own) i U)
  slots_step (suc n) k own own' h e U =
      let c = came_from (slot_kept d dirs k own) (slots_kept d dirs n (k + 1)) own' h in
      let V = slot_step own c.0 k c.1 (omega arith) U in
      slots_step n (k + 1) c.0 own' c.2 (omega arith) (subst (Upto c.0) (let i : suc k ≡ k + 1 = omega arith in i) V)

  -- all slots
  module _ (b : List ℕ) (own : Owners) (U : Upto own (8 * length dirs)) where
    kept_so : Kept (layout_of d b dirs own)
    unfolding among
    kept_so =
        record {
          system = U.system;
          directory = U.directory;
          files = λ k p. elim (cases_lt k (8 * length dirs)) [
            | inl l ↦ U.files k p l
            | inr l ↦ ne_eqb (own p) (3 + k) (let o = U.below p in omega arith) ∙ ap (λ (s : Slot). among (chain_in s) p) (sym (slot_past d dirs k l))
          ];
        }

    ours_so : (k n : ℕ) → k < 8 * length dirs → (slot_entry d dirs k).status ≡ Foreign n → ⊥
    ours_so k n l e = subst (Good d dirs k) e (U.good k l)

    stands_at : (k : ℕ) (f : File) → slot_in d dirs k ≡ file f → Stands d dirs k
    stands_at k f e = (filed d dirs k f e).good U.good

    names_apart : (j k : ℕ) (f g : File) → slot_in d dirs j ≡ file f → slot_in d dirs k ≡ file g → f.name ≡ g.name → j < k → ⊥
    names_apart j k f g e h n l =
        let F = filed d dirs j f e in
        let G = filed d dirs k g h in
        true≢false (sym (is_named d dirs (slot_entry d dirs k).name j F.filling (sym F.name ∙ n ∙ G.name)) ∙ met_each d dirs (slot_entry d dirs k).name k j (stands_at k g h).fresh l)

    names_so : (j k : ℕ) (f g : File) → slot_in d dirs j ≡ file f → slot_in d dirs k ≡ file g → f.name ≡ g.name → j ≡ k
    names_so j k f g e h n = elim (cases_eq j k) [
      | inl i ↦ i
      | inr i ↦ elim (cases_lt j k) [
        | inl l ↦ absurd (names_apart j k f g e h n l)
        | inr l ↦ absurd (names_apart k j g f h e (sym n) (omega arith))
      ]
    ]

off : on_route Directory (18, 0) ≡ false
unfolding legal
off = refl

-- 18/0 is none of the directory's blocks
not_title : (d : Disk) (f : Followed) → chain_of d Directory (18, 0) (18, 1) ≡ Ok f → among f.0 (18, 0) ≡ false
not_title d f e = not_on_route d Directory 18 (18, 0) (18, 1) f (18, 0) e off

pub accepts : (d : Disk) (L : Layout) → checked d ≡ Ok L → Sound d L
unfolding checked checked_files
accepts d L h =
    let b = came_from (loaded d (18, 0)) _ L h in
    let v = came_from (dos b.0) _ L b.2 in
    let f = came_from (chain_of d Directory (18, 0) (18, 1)) _ L v.2 in
    let dirs : List Place = f.0.0 in
    let o = came_from (slots_kept d dirs (8 * length dirs) 0 (first_owners dirs)) _ L f.2 in
    let m = came_from (mapped b.0 o.0) _ L o.2 in
    let U = slots_step d dirs (8 * length dirs) 0 (first_owners dirs) o.0 o.1 (omega arith) (upto_first d dirs (not_title d f.0 f.1)) in
    let z : layout_of d b.0 dirs o.0 ≡ L = (let y : layout_of d b.0 dirs o.0 ≡ L = cc in y) in
    let a = (accepted (map_agrees b.0 o.0 35) tt (by_volume BadStructure (18, 0)) tt m.1).0 in
    subst (Sound d) z
    (record {
      title = b.1;
      version = eqb-true (get_or b.0 2 0) 65 (accepted (eqb (get_or b.0 2 0) 65) tt (by_volume NotDos (18, 0)) tt v.1).0;
      last = f.0.1;
      directory = f.1;
      slots = λ k. refl;
      ours = ours_so d dirs b.0 o.0 U;
      chains = λ k g e. (stands_at d dirs b.0 o.0 U k g e).chain;
      counts = λ k g e. (stands_at d dirs b.0 o.0 U k g e).count ∙ ap length (sym (filed d dirs k g e).places);
      names = names_so d dirs b.0 o.0 U;
      kept = kept_so d dirs b.0 o.0 U;
      map = record { bits = map_bits b.0 o.0 a; counts = map_counts b.0 o.0 a };
    })
