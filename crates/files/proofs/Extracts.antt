-- What is known of a file that was found, and of its bytes.
use Rattle.std.proofs.Common.{◌≡◌, ℕ, ◌*◌, ◌<◌, ◌≤◌, List, [], ◌++◌, length, take, drop, Ok, Err, sym, ap, ◌∙◌, arith}
use Rattle.std.specs.List.{AllByRecursion}
use Rattle.std.proofs.lemmas.List.{length-take-le}
use Rattle.std.proofs.lemmas.Bool.{lt-ltb, le-ltb}
use Rattle.disk.specs.declared.cause.Cause.TheVariants.{ShortBuffer}
use Rattle.disk.specs.Geometry.{Place}
use Rattle.disk.specs.Refusals.{by_caller}
use Rattle.sector.specs.Source.{Disk, Whole}
use Rattle.chains.specs.declared.chain.Chain.{Chain}
use Rattle.files.specs.declared.extract.Extent.{Extent}
use Rattle.chains.specs.declared.route.Route.TheVariants.{File}
use Rattle.chains.specs.Chains.{Followed}
use Rattle.files.specs.Found.{last_of, located, closed_at, file_chain}
use Rattle.files.specs.Files.{Readable, all_data, size_of, bytes_of, measured, extract_answer, extract_buffer, Fills}
use Rattle.files.proofs.Followed.{came_from, loaded_whole, Walked, chain_walked}
use Rattle.files.proofs.Files.{all_length}

module _ (d : Disk) (whole : (p : Place) → Whole (d p)) where
  pub file_walked : (name : List ℕ) (f : Followed) → file_chain d name ≡ Ok f → Walked d whole f
  unfolding file_chain
  file_walked name f e =
      let l = came_from (located d name) _ f e in
      let s = came_from (closed_at l.0) _ f l.2 in
      chain_walked d whole File 683 [] l.0.at l.0.entry.first f s.2 tt

  pub size_high : (f : Followed) → Walked d whole f → size_of f ≤ 254 * length f.0
  size_high f w =
      let b = loaded_whole d whole (last_of f.0) f.1 w.last in
      let s = w.some in
      omega (arith, b.1 1)

  pub bytes_length : (f : Followed) → Walked d whole f → length (bytes_of d f) ≡ size_of f
  bytes_length f w =
      let l = all_length d f.0 w.readable in
      let h = size_high f w in
      length-take-le (size_of f) (all_data d f.0) (omega arith)

-- a chain in memory that is the file of the name, and how many bytes the file has
pub record Held (d : Disk) (name : List ℕ) (c : Chain) (n : ℕ) : Type 0 where
  pub is : Ok (c.places.items, c.block) ≡ file_chain d name
  pub readable : AllByRecursion (Readable d) c.places.items
  pub size : n ≡ size_of (c.places.items, c.block)
  pub high : n ≤ 254 * length c.places.items
  pub many : n ≡ length (bytes_of d (c.places.items, c.block))

pub held : (d : Disk) (whole : (p : Place) → Whole (d p)) (name : List ℕ) (c : Chain) (n : ℕ) → Ok (c.places.items, c.block) ≡ file_chain d name → n ≡ size_of (c.places.items, c.block) → Held d name c n
held d whole name c n is e =
    let w = file_walked d whole name (c.places.items, c.block) (sym is) in
    let h = size_high d whole (c.places.items, c.block) w in
    record { is = is; readable = w.readable; size = e; high = omega arith; many = e ∙ sym (bytes_length d whole (c.places.items, c.block) w) }

module _ {d : Disk} {name : List ℕ} {c : Chain} {n : ℕ} (h : Held d name c n) where
  pub extent_is : (x : Extent) → x.bytes ≡ n → x.blocks ≡ length c.places.items → Ok x ≡ measured d name
  extent_is x b k =
      let m : measured d name ≡ Ok (record { bytes = length (bytes_of d (c.places.items, c.block)); blocks = length c.places.items }) = rw (sym h.is) in
      sym (m ∙ (λ i. Ok (record { bytes = sym (b ∙ h.many) i; blocks = sym k i })))

  pub fills : (old : List ℕ) → n ≤ length old → Fills d c (length (take n old))
  fills old l =
      let s = h.size in
      let k = length-take-le n old l in
      record { readable = h.readable; low = omega arith; high = omega (arith, h.high) }

  pub too_long : (room : ℕ) → room < n → Err (by_caller ShortBuffer) ≡ extract_answer d name room
  too_long room l =
      let t = lt-ltb room (length (bytes_of d (c.places.items, c.block))) (omega (arith, h.many)) in
      sym (rw (sym h.is, t))

  pub too_long_buffer : (old : List ℕ) → length old < n → old ≡ extract_buffer d name old
  too_long_buffer old l =
      let t = lt-ltb (length old) (length (bytes_of d (c.places.items, c.block))) (omega (arith, h.many)) in
      sym (rw (sym h.is, t))

  pub answered_so : (room : ℕ) → n ≤ room → Ok n ≡ extract_answer d name room
  answered_so room l =
      let t = le-ltb room (length (bytes_of d (c.places.items, c.block))) (omega (arith, h.many)) in
      ap (λ (k : ℕ). Ok k) h.many ∙ sym (rw (sym h.is, t))

  pub filled_so : (old part : List ℕ) → n ≤ length old → part ≡ take (length (take n old)) (all_data d c.places.items) → part ++ drop n old ≡ extract_buffer d name old
  filled_so old part l s =
      let t = le-ltb (length old) (length (bytes_of d (c.places.items, c.block))) (omega (arith, h.many)) in
      let k : length (take n old) ≡ size_of (c.places.items, c.block) = length-take-le n old l ∙ h.size in
      (λ i. (s ∙ ap (λ (j : ℕ). take j (all_data d c.places.items)) k) i ++ drop (h.many i) old) ∙ sym (rw (sym h.is, t))
