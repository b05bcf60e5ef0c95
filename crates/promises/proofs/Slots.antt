-- Slots that were looked at: what is known of each.
use Rattle.std.proofs.Common.{◌≡◌, ℕ, zero, suc, ◌*◌, ◌<◌, ◌≤◌, true, false, ltb, List, [], length, Ok, sym, refl, ap, ◌∙◌, subst, inl, inr, arith}
use Rattle.std.specs.Str.{bytes_eq}
use Rattle.std.proofs.lemmas.Slice.Eq.{bytes_eq-Decides}
use Rattle.std.proofs.lemmas.Bool.{or_parts, or_from, and_parts, and_from, cond-true, cond-false, cases_eq, cases_lt, lt-ltb, le-ltb}
use Rattle.disk.specs.Geometry.{Place}
use Rattle.sector.specs.Source.{Disk}
use Rattle.directory.specs.declared.kind.Status.{Status}
use Rattle.directory.specs.declared.kind.Status.TheVariants.{Empty, Unclosed, Closed, Foreign}
use Rattle.directory.specs.Kinds.{filled}
use Rattle.directory.specs.Entries.{is_of}
use Rattle.chains.specs.declared.route.Route.TheVariants.{File as FileRoute}
use Rattle.chains.specs.Chains.{chain_of}
use Rattle.sound.specs.Slots.{slot_place, slot_block, slot_entry, met_before}
use Rattle.sound.specs.Layout.{File, none, file, slot_chain, file_at, slot_of_type, slot_in}

module _ (d : Disk) (dirs : List Place) where
  -- a slot of the directory, by its type
  pub slot_here : (k : ℕ) (s : Status) → k < 8 * length dirs → (slot_entry d dirs k).status ≡ s → slot_in d dirs k ≡ slot_of_type s d dirs k
  unfolding slot_in
  slot_here k s l e =
      cond-true (ltb k (8 * length dirs)) (slot_of_type (slot_entry d dirs k).status d dirs k) (none []) (lt-ltb k (8 * length dirs) l)
      ∙ ap (λ (x : Status). slot_of_type x d dirs k) e

  pub slot_past : (k : ℕ) → 8 * length dirs ≤ k → slot_in d dirs k ≡ none []
  unfolding slot_in
  slot_past k l = cond-false (ltb k (8 * length dirs)) (slot_of_type (slot_entry d dirs k).status d dirs k) (none []) (le-ltb k (8 * length dirs) l)

  -- a file of ours, whose chain can be followed to its end, has as many blocks as its entry says, and whose name was not met before
  pub record Stands (k : ℕ) : Type 0 where
    pub chain : chain_of d FileRoute (slot_place dirs k) (slot_entry d dirs k).first ≡ Ok (slot_chain d dirs k)
    pub count : (slot_entry d dirs k).blocks ≡ length (slot_chain d dirs k).0
    pub fresh : met_before d dirs (slot_entry d dirs k).name k ≡ false

  abbrev pub Good : ℕ → Status → Type 0
  Good k Empty = Unit {0}
  Good k (Foreign b) = ⊥
  Good k (Unclosed kd) = Stands k
  Good k (Closed kd) = Stands k

  -- where a slot holds a file
  pub record Filed (k : ℕ) (f : File) : Type 0 where
    pub here : k < 8 * length dirs
    pub filling : filled (slot_entry d dirs k).status ≡ true
    pub name : f.name ≡ (slot_entry d dirs k).name
    pub places : f.places ≡ (slot_chain d dirs k).0
    pub good : ((j : ℕ) → j < 8 * length dirs → Good j (slot_entry d dirs j).status) → Stands k

  pub filed : (k : ℕ) (f : File) → slot_in d dirs k ≡ file f → Filed k f
  filed k f e = elim (cases_lt k (8 * length dirs)) [
    | inl l ↦ go (slot_entry d dirs k).status refl l (sym (slot_here k (slot_entry d dirs k).status l refl) ∙ e)
    | inr l ↦ (let z : none [] ≡ file f = sym (slot_past k l) ∙ e in let y : ◌≡◌ {A = ℕ} 0 1 = cc in absurd (omega arith))
  ]
    where
      out : (g : File) → file g ≡ file f → g ≡ f
      out g h = cc

      go : (s : Status) → (slot_entry d dirs k).status ≡ s → k < 8 * length dirs → slot_of_type s d dirs k ≡ file f → Filed k f
      go Empty h l q = let y : ◌≡◌ {A = ℕ} 0 1 = cc in absurd (omega arith)
      go (Foreign b) h l q = let y : ◌≡◌ {A = ℕ} 0 1 = cc in absurd (omega arith)
      go (Unclosed kd) h l q =
          let g : file_at d dirs k kd false ≡ f = out (file_at d dirs k kd false) q in
          record { here = l; filling = ap filled h; name = sym (ap (λ (x : File). x.name) g); places = sym (ap (λ (x : File). x.places) g); good = λ all. subst (Good k) h (all k l) }
      go (Closed kd) h l q =
          let g : file_at d dirs k kd true ≡ f = out (file_at d dirs k kd true) q in
          record { here = l; filling = ap filled h; name = sym (ap (λ (x : File). x.name) g); places = sym (ap (λ (x : File). x.places) g); good = λ all. subst (Good k) h (all k l) }

  -- the names before k
  pub met_none : (n : List ℕ) (k : ℕ) → ((j : ℕ) → j < k → is_of (slot_block d dirs j) n j ≡ false) → met_before d dirs n k ≡ false
  unfolding met_before
  met_none n zero h = refl
  met_none n (suc k) h = or_from (is_of (slot_block d dirs k) n k) (met_before d dirs n k) (h k (omega arith)) (met_none n k (λ j l. h j (omega arith)))

  pub met_each : (n : List ℕ) (k j : ℕ) → met_before d dirs n k ≡ false → j < k → is_of (slot_block d dirs j) n j ≡ false
  unfolding met_before
  met_each n zero j e l = absurd (omega arith)
  met_each n (suc k) j e l =
      let h = or_parts (is_of (slot_block d dirs k) n k) (met_before d dirs n k) e in
      elim (cases_eq j k) [
        | inl i ↦ ap (λ (i : ℕ). is_of (slot_block d dirs i) n i) i ∙ h.0
        | inr i ↦ met_each n k j h.1 (omega arith)
      ]

  pub is_named : (n : List ℕ) (k : ℕ) → filled (slot_entry d dirs k).status ≡ true → (slot_entry d dirs k).name ≡ n → is_of (slot_block d dirs k) n k ≡ true
  unfolding is_of
  is_named n k f e =
      and_from (filled (slot_entry d dirs k).status) (bytes_eq (slot_entry d dirs k).name n) f ((bytes_eq-Decides (slot_entry d dirs k).name n).1 e)

  pub named_is : (n : List ℕ) (k : ℕ) → is_of (slot_block d dirs k) n k ≡ true → (filled (slot_entry d dirs k).status ≡ true) × ((slot_entry d dirs k).name ≡ n)
  unfolding is_of
  named_is n k e =
      let h = and_parts (filled (slot_entry d dirs k).status) (bytes_eq (slot_entry d dirs k).name n) e in
      (h.0, (bytes_eq-Decides (slot_entry d dirs k).name n).0 h.1)
