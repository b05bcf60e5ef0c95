-- The data of a chain's blocks, one after another, and a buffer that takes it up.
use Rattle.std.proofs.Common.{◌≡◌, ℕ, zero, suc, ◌+◌, ◌-◌, ◌*◌, ◌<◌, ◌≤◌, min, List, [], ◌∷◌, ◌++◌, length, get_or, take, drop, Ok, sym, refl, ap, ◌∙◌, arith}
use Rattle.std.proofs.Math.Seq.{take-add}
use Rattle.std.specs.List.{AllByRecursion}
use Rattle.std.proofs.ByRecursion.{All-get_or}
use Rattle.std.proofs.lemmas.List.{append_assoc, length-append, length-take-le, length-drop, drop-drop, drop_at, take_at, take-append-le, at_drop_more}
use Rattle.disk.specs.Geometry.{Place}
use Rattle.sector.specs.Source.{Disk, loaded}
use Rattle.files.specs.Files.{held, block_data, all_data, Readable}

-- a buffer that holds the first m bytes of `all`, and is written n further
taken_up : (all old buf : List ℕ) (m n : ℕ) → buf ≡ take m all ++ drop m old → m + n ≤ length all → m + n ≤ length old →
    take m buf ++ (take n (drop m all) ++ drop (m + n) buf) ≡ take (m + n) all ++ drop (m + n) old
taken_up all old buf m n e h l =
    let t = length-take-le m all (omega arith) in
    let a : take m buf ≡ take m all = ap (take m) e ∙ take_at (take m all) (drop m old) m t in
    let b : drop (m + n) buf ≡ drop (m + n) old =
    ap (drop (m + n)) e ∙ sym (drop-drop n m (take m all ++ drop m old)) ∙ ap (drop n) (drop_at (take m all) (drop m old) m t) ∙ drop-drop n m old in
    (λ i. a i ++ (take n (drop m all) ++ b i))
    ∙ sym (append_assoc (take m all) (take n (drop m all)) (drop (m + n) old))
    ∙ ap (λ (x : List ℕ). x ++ drop (m + n) old) (sym (take-add m n all))

module _ (d : Disk) where
  data_is : (p : Place) (b : List ℕ) → loaded d p ≡ Ok b → block_data d p ≡ drop 2 b
  unfolding block_data
  data_is p b e = ap (λ x. drop 2 (held x)) e

  data_length : (p : Place) → Readable d p → length (block_data d p) ≡ 254
  data_length p r =
      let l = length-drop 2 r.0 in
      let e = ap length (data_is p r.0 r.1) in
      omega (arith, r.2)

  pub all_length : (ps : List Place) → AllByRecursion (Readable d) ps → length (all_data d ps) ≡ 254 * length ps
  unfolding all_data
  all_length [] a = refl
  all_length (p ∷ ps) a =
      let i = all_length ps a.1 in
      let e = data_length p a.0 in
      length-append (block_data d p) (all_data d ps) ∙ (omega arith)

  all_drop : (k : ℕ) (ps : List Place) → AllByRecursion (Readable d) ps → k ≤ length ps → drop (254 * k) (all_data d ps) ≡ all_data d (drop k ps)
  unfolding all_data
  all_drop zero ps a h = refl
  all_drop (suc k) [] a h = absurd (omega arith)
  all_drop (suc k) (p ∷ ps) a h =
      let e : 254 * suc k ≡ 254 + 254 * k = omega arith in
      ap (λ (j : ℕ). drop j (block_data d p ++ all_data d ps)) e
      ∙ sym (drop-drop (254 * k) 254 (block_data d p ++ all_data d ps))
      ∙ ap (drop (254 * k)) (drop_at (block_data d p) (all_data d ps) 254 (data_length p a.0))
      ∙ all_drop k ps a.1 (omega arith)

  -- the k-th block has its data at 254 * k
  data_at : (k n : ℕ) (ps : List Place) (b : List ℕ) → AllByRecursion (Readable d) ps → k < length ps → n ≤ 254 → loaded d (get_or ps k (0, 0)) ≡ Ok b → take n (drop (254 * k) (all_data d ps)) ≡ take n (drop 2 b)
  unfolding all_data
  data_at k n ps b a h w e =
      let s = data_length (get_or ps k (0, 0)) (All-get_or (Readable d) ps k (0, 0) h a) in
      ap (take n) (all_drop k ps a (omega arith) ∙ at_drop_more (all_data d) ps k (0, 0) h)
      ∙ take-append-le n (block_data d (get_or ps k (0, 0))) (all_data d (drop (k + 1) ps)) (omega arith)
      ∙ ap (take n) (data_is (get_or ps k (0, 0)) b e)

  -- one more block is copied
  pub copied_more : (ps : List Place) (k : ℕ) (old buf b : List ℕ) → AllByRecursion (Readable d) ps → k < length ps → 254 * k ≤ length old → length old ≤ 254 * length ps → length buf ≡ length old → loaded d (get_or ps k (0, 0)) ≡ Ok b →
      buf ≡ take (min (254 * k) (length old)) (all_data d ps) ++ drop (min (254 * k) (length old)) old →
      take (254 * k) buf ++ (take (min (length buf - 254 * k) 254) (drop 2 b) ++ drop (254 * k + min (length buf - 254 * k) 254) buf) ≡ take (min (254 * (k + 1)) (length old)) (all_data d ps) ++ drop (min (254 * (k + 1)) (length old)) old
  copied_more ps k old buf b a h low high same e inv =
      let n : ℕ = min (length buf - 254 * k) 254 in
      let here : min (254 * k) (length old) ≡ 254 * k = omega arith in
      let next : min (254 * (k + 1)) (length old) ≡ 254 * k + min (length buf - 254 * k) 254 = omega arith in
      let l = all_length ps a in
      let small : min (length buf - 254 * k) 254 ≤ 254 = omega arith in
      let i : buf ≡ take (254 * k) (all_data d ps) ++ drop (254 * k) old = inv ∙ ap (λ (j : ℕ). take j (all_data d ps) ++ drop j old) here in
      ap (λ (x : List ℕ). take (254 * k) buf ++ (x ++ drop (254 * k + n) buf)) (sym (data_at k n ps b a h small e))
      ∙ taken_up (all_data d ps) old buf (254 * k) n i (omega arith) (omega arith)
      ∙ ap (λ (j : ℕ). take j (all_data d ps) ++ drop j old) (sym next)
