-- Fetching a track: what is answered, and what then stands in the buffer.
use Rattle.std.proofs.Common.{◌≡◌, ℕ, ◌≤◌, min, Bool, true, false, cond, ltb, leb, List, length, Ok, Err, Result, sym, refl, ap, ◌∙◌, arith}
use Rattle.std.proofs.lemmas.Bool.{cond-true, cond-false, le-ltb, le-leb, and_from}
use Rattle.disk.specs.declared.cause.Cause.TheVariants.{NoSuchBlock, ShortBuffer}
use Rattle.disk.specs.declared.layer.Layer.TheVariants.{Track}
use Rattle.disk.specs.declared.refusal.Refusal.{Refusal}
use Rattle.disk.specs.Refusals.{refusal, by_caller}
use Rattle.track.specs.Circles.{circle_of}
use Rattle.track.specs.Fetching.{pack, laid, on_disk, fetch_result, fetch_buffer}
use Rattle.track.proofs.Packs.{unpacked}

pub is_on_disk : (t : ℕ) → 1 ≤ t → t ≤ 35 → on_disk t ≡ true
is_on_disk t h g = and_from (leb 1 t) (leb t 35) (le-leb 1 t h) (le-leb t 35 g)

-- room enough: the answer hangs on the track alone
roomy : (c : ℕ → List Bool) (t m : ℕ) (r : Result ℕ Refusal) → 8192 ≤ m → r ≡ fetch_result c t m → r ≡ cond (on_disk t) (Ok (length (c t))) (Err (refusal NoSuchBlock Track (t, 0)))
roomy c t m r l e =
    e ∙ ap (λ (x : Result ℕ Refusal). cond (on_disk t) x (Err (refusal NoSuchBlock Track (t, 0)))) (cond-false (ltb m 8192) (Err (by_caller ShortBuffer)) (Ok (length (c t))) (le-ltb m 8192 l))

ok_on : (b : Bool) (n m : ℕ) (f : Refusal) → Ok n ≡ cond b (Ok m) (Err f) → b ≡ true
ok_on true n m f e = refl
ok_on false n m f e = absurd (let z : ◌≡◌ {A = ℕ} 0 1 = cc in omega arith)

err_off : (b : Bool) (m : ℕ) (f g : Refusal) → Err g ≡ cond b (Ok m) (Err f) → b ≡ false
err_off true m f g e = absurd (let z : ◌≡◌ {A = ℕ} 0 1 = cc in omega arith)
err_off false m f g e = refl

-- a fetch with room enough succeeds on the disk's tracks alone
pub fetched_on : (c : ℕ → List Bool) (t n m : ℕ) → 8192 ≤ m → Ok n ≡ fetch_result c t m → on_disk t ≡ true
fetched_on c t n m l e = ok_on (on_disk t) n (length (c t)) (refusal NoSuchBlock Track (t, 0)) (roomy c t m (Ok n) l e)

pub refused_off : (c : ℕ → List Bool) (t m : ℕ) (g : Refusal) → 8192 ≤ m → Err g ≡ fetch_result c t m → on_disk t ≡ false
refused_off c t m g l e = err_off (on_disk t) (length (c t)) (refusal NoSuchBlock Track (t, 0)) g (roomy c t m (Err g) l e)

pub fetched_bits : (c : ℕ → List Bool) (t n m : ℕ) → on_disk t ≡ true → 8192 ≤ m → Ok n ≡ fetch_result c t m → n ≡ length (c t)
fetched_bits c t n m d l e =
    let p : Ok n ≡ Ok (length (c t)) = e ∙ cond-true (on_disk t) _ _ d ∙ cond-false (ltb m 8192) _ _ (le-ltb m 8192 l) in
    cc

pub buffered : (c : ℕ → List Bool) (t : ℕ) (old : List ℕ) → on_disk t ≡ true → 8192 ≤ length old → fetch_buffer c t old ≡ laid (pack (c t)) old
buffered c t old d l = cond-true (on_disk t) _ _ d ∙ cond-false (ltb (length old) 8192) _ _ (le-ltb (length old) 8192 l)

-- what was fetched is the circle
pub fetched_circle : (c : ℕ → List Bool) (t n : ℕ) (old new : List ℕ) → on_disk t ≡ true → 8192 ≤ length old → length (c t) ≤ 65536 → n ≡ length (c t) → new ≡ fetch_buffer c t old → circle_of (min n 65536) new ≡ c t
fetched_circle c t n old new d l b q f =
    let r : new ≡ laid (pack (c t)) old = f ∙ buffered c t old d l in
    let k : min n 65536 ≡ length (c t) = omega arith in
    ap (λ (i : ℕ). circle_of i new) k ∙ ap (circle_of (length (c t))) r ∙ unpacked (c t) old

pub answered : (c : ℕ → List Bool) (t n m : ℕ) → on_disk t ≡ true → 8192 ≤ m → n ≡ length (c t) → Ok n ≡ fetch_result c t m
answered c t n m d l q =
    ap (λ (i : ℕ). Ok i) q ∙ sym (cond-true (on_disk t) _ _ d ∙ cond-false (ltb m 8192) _ _ (le-ltb m 8192 l))
