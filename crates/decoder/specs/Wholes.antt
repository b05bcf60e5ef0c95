-- A block that was read has 256 bytes.
use Rattle.std.specs.Prelude.{◌≡◌, ℕ, zero, suc, ◌+◌, ◌*◌, ◌/◌, ◌%◌, ◌<◌, Bool, true, false, cond, List, [], ◌∷◌, length, take, drop, Some, None, Ok, Err, Option, ◌==◌, nat_le, nat_lt, slice_index, refl}
use Rattle.std.proofs.Common.{arith, sym, ap, subst, ◌∙◌}
use Rattle.std.proofs.lemmas.List.{length-take-le}
use Rattle.std.proofs.lemmas.Bool.{cond-true, cond-false}
use Rattle.disk.specs.declared.cause.Cause.TheVariants.{NoData, BadChecksum, ShortFrame}
use Rattle.disk.specs.Bytes.{Bytes}
use Rattle.disk.proofs.ByteLists.{take_bytes}
use Rattle.sector.specs.Source.{Whole}
use Rattle.gcr.specs.Bits.{value}
use Rattle.gcr.specs.Codes.{find_from, nibble_of, codes, if_some, byte_of, coded, bytes_in}
use Rattle.gcr.specs.Sums.{xor_all}
use Rattle.track.specs.Circles.{frames}
use Rattle.track.specs.Headers.{byte_at}
use Rattle.track.specs.Reading.{Sought, at, missing, sought, summed, is_data, data_of, sought_data}
use Rattle.decoder.specs.Decoding.{reading_of, decoded}

none_some : {X : Type 0} {x : X} → ◌≡◌ {A = Option X} None (Some x) → ⊥
none_some h = let z : ◌≡◌ {A = ℕ} 0 1 = cc in omega arith

find_below : (i c n : ℕ) (xs : List ℕ) → find_from i c xs ≡ Some n → n < i + length xs
find_below i c n [] e = absurd (none_some e)
find_below i c n (x ∷ xs) e = go (c == x) refl (λ s. find_below (suc i) c n xs s)
  where
    go : (b : Bool) → (c == x) ≡ b → (find_from (suc i) c xs ≡ Some n → n < suc i + length xs) → n < i + suc (length xs)
    go true f ih = let s : ◌≡◌ {A = Option ℕ} (Some i) (Some n) = rw f at e in let q : i ≡ n = cc in omega arith
    go false f ih = let r = ih (rw f at e) in omega arith

nibble_small : (c n : ℕ) → nibble_of c ≡ Some n → n < 16
nibble_small c n e = find_below 0 c n codes e

byte_small : (c n : ℕ) → byte_of c ≡ Some n → n < 256
byte_small c n e = go (nibble_of (c / 32)) refl e
  where
    low : (h : ℕ) (o : Option ℕ) → h < 16 → nibble_of (c % 32) ≡ o → if_some o (λ l. Some (h * 16 + l)) ≡ Some n → n < 256
    low h None w f s = absurd (none_some s)
    low h (Some l) w f s = let v = nibble_small (c % 32) l f in let q : h * 16 + l ≡ n = cc in omega arith

    go : (o : Option ℕ) → nibble_of (c / 32) ≡ o → if_some o (λ h. if_some (nibble_of (c % 32)) (λ l. Some (h * 16 + l))) ≡ Some n → n < 256
    go None f s = absurd (none_some s)
    go (Some h) f s = low h (nibble_of (c % 32)) (nibble_small (c / 32) h f) refl s

coded_small : (f : List Bool) (n : ℕ) → coded f ≡ Some n → n < 256
coded_small f n e = go (nat_le 10 (length f)) refl
  where
    go : (b : Bool) → nat_le 10 (length f) ≡ b → n < 256
    go true t = byte_small (value (take 10 f)) n (sym (cond-true (nat_le 10 (length f)) (byte_of (value (take 10 f))) None t) ∙ e)
    go false t = absurd (none_some (sym (cond-false (nat_le 10 (length f)) (byte_of (value (take 10 f))) None t) ∙ e))

-- what holds of coded bytes in a row
Row : ℕ → List ℕ → Type 0
Row n bs = (length bs ≡ n) × Bytes bs

row_more : (n b : ℕ) (bs : List ℕ) → b < 256 → Row n bs → Row (suc n) (b ∷ bs)
unfolding Row
row_more n b bs h r = (ap suc r.0, go)
  where
    go : (k : ℕ) → slice_index (b ∷ bs) k < 256
    go zero = h
    go (suc k) = r.1 k

rows : (n : ℕ) (f : List Bool) (bs : List ℕ) → bytes_in n f ≡ Some bs → Row n bs
unfolding bytes_in Row
rows zero f bs e = let q : [] ≡ bs = cc in subst (Row 0) q (refl, λ k. omega arith)
rows (suc n) f bs e = go (coded f) refl e (λ cs s. rows n (drop 10 f) cs s)
  where
    more : (b : ℕ) (o : Option (List ℕ)) → b < 256 → if_some o (λ cs. Some (b ∷ cs)) ≡ Some bs → ((cs : List ℕ) → o ≡ Some cs → Row n cs) → Row (suc n) bs
    more b None h s ih = absurd (none_some s)
    more b (Some cs) h s ih = let q : b ∷ cs ≡ bs = cc in subst (Row (suc n)) q (row_more n b cs h (ih cs refl))

    go : (o : Option ℕ) → coded f ≡ o → if_some o (λ b. if_some (bytes_in n (drop 10 f)) (λ cs. Some (b ∷ cs))) ≡ Some bs → ((cs : List ℕ) → bytes_in n (drop 10 f) ≡ Some cs → Row n cs) → Row (suc n) bs
    go None t s ih = absurd (none_some s)
    go (Some b) t s ih = more b (bytes_in n (drop 10 f)) (coded_small f b t) s ih

front : (bs : List ℕ) → Row 257 bs → Row 256 (take 256 bs)
unfolding Row
front bs r =
    let l = length-take-le 256 bs (omega (arith, r.0)) in (
      l,
      take_bytes 256 bs r.1,
    )

summed_whole : (o : Option (List ℕ)) → ((bs : List ℕ) → o ≡ Some bs → Row 257 bs) → Whole (reading_of (summed o))
unfolding Row
summed_whole None h = tt
summed_whole (Some bs) h = elim (xor_all (take 256 bs) == slice_index bs 256) as (λ v. Whole (reading_of (cond v (Ok (take 256 bs)) (Err BadChecksum)))) [ true ↦ front bs (h bs refl) | false ↦ tt ]

data_whole : (f : List Bool) → Whole (reading_of (data_of f))
data_whole f =
    elim (is_data (byte_at f 0)) as (λ v. Whole (reading_of (cond v (cond (nat_lt (length f) 2600) (Err ShortFrame) (summed (bytes_in 257 (drop 10 f)))) (Err NoData)))) [
      | true ↦ (elim (nat_lt (length f) 2600) as (λ v. Whole (reading_of (cond v (Err ShortFrame) (summed (bytes_in 257 (drop 10 f)))))) [
        | true ↦ tt
        | false ↦ summed_whole (bytes_in 257 (drop 10 f)) (λ bs e. rows 257 (drop 10 f) bs e)
      ])
      | false ↦ tt
    ]

pub decoded_whole : (circle : ℕ → List Bool) (p : ℕ × ℕ) → Whole (decoded circle p)
unfolding decoded
decoded_whole circle p = go (sought (frames (circle p.0)) p.0 p.1)
  where
    go : (s : Sought) → Whole (reading_of (sought_data s))
    go (at f) = data_whole f
    go (missing c) = tt
