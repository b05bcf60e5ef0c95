use Rattle.std.proofs.Common.{◌≡◌, ℕ, zero, suc, ◌+◌, ◌-◌, ◌*◌, ◌<◌, ◌≤◌, Bool, false, cond, not, eqb, ltb, List, [], ◌∷◌, ◌++◌, length, get_or, drop, Some, None, Ok, Err, Option, sym, refl, ap, ◌∙◌, inl, inr, arith}
use Rattle.std.proofs.lemmas.List.{length-append, drop-drop, take_at, get_or_at, get_or_append_left}
use Rattle.std.proofs.lemmas.Bool.{cond-false, le-ltb, eqb-true, not-false, false≢true, cases_lt}
use Rattle.std.specs.Option.{option_eq}
use Rattle.track.specs.Headers.{byte_at}
use Rattle.track.specs.Reading.{summed, data_of, is_data}
use Rattle.gcr.specs.Codes.{bytes_in, if_some}
use Rattle.gcr.specs.Sums.{xor_all}
use Rattle.disk.specs.declared.cause.Cause.TheVariants.{BadChecksum, BadCode, NoData, ShortFrame}

pub bytes_some : (f : List Bool) (n m i j b : ℕ) → n ≡ suc m → j ≡ i * 10 + 10 → Some b ≡ byte_at f i
    → bytes_in n (drop (i * 10) f) ≡ if_some (bytes_in m (drop j f)) (λ bs. Some (b ∷ bs))
unfolding bytes_in byte_at
bytes_some f n m i j b e g h =
    ap (λ (k : ℕ). bytes_in k (drop (i * 10) f)) e
    ∙ ap (λ (o : Option ℕ). if_some o (λ x. if_some (bytes_in m (drop 10 (drop (i * 10) f))) (λ bs. Some (x ∷ bs)))) (sym h)
    ∙ ap (λ (l : List Bool). if_some (bytes_in m l) (λ bs. Some (b ∷ bs))) (drop-drop 10 (i * 10) f ∙ ap (λ (k : ℕ). drop k f) (sym g))

pub bytes_none : (f : List Bool) (n m i : ℕ) → n ≡ suc m → None ≡ byte_at f i → bytes_in n (drop (i * 10) f) ≡ None
unfolding bytes_in byte_at
bytes_none f n m i e h =
    ap (λ (k : ℕ). bytes_in k (drop (i * 10) f)) e
    ∙ ap (λ (o : Option ℕ). if_some o (λ x. if_some (bytes_in m (drop 10 (drop (i * 10) f))) (λ bs. Some (x ∷ bs)))) (sym h)

-- every byte stands for one
bytes_all : (f : List Bool) (i : ℕ) (ys : List ℕ) → ((k : ℕ) → k < length ys → Some (get_or ys k 0) ≡ byte_at f (i + k)) → bytes_in (length ys) (drop (i * 10) f) ≡ Some ys
unfolding bytes_in
bytes_all f i [] h = refl
bytes_all f i (y ∷ ys) h =
    bytes_some f (suc (length ys)) (length ys) i ((i + 1) * 10) y refl (omega arith) (h 0 (omega arith) ∙ ap (byte_at f) (let z : i + 0 ≡ i = omega arith in z))
    ∙ ap (λ (o : Option (List ℕ)). if_some o (λ bs. Some (y ∷ bs)))
    (bytes_all f (i + 1) ys (λ k l. h (suc k) (omega arith) ∙ ap (byte_at f) (let z : i + suc k ≡ i + 1 + k = omega arith in z)))

-- one stands for none
bytes_miss : (f : List Bool) (n i m : ℕ) → m < n → None ≡ byte_at f (i + m) → bytes_in n (drop (i * 10) f) ≡ None
unfolding bytes_in byte_at
bytes_miss f n i zero l e = bytes_none f n (n - 1) i (omega arith) (e ∙ ap (byte_at f) (let z : i + 0 ≡ i = omega arith in z))
bytes_miss f n i (suc m) l e =
    ap (λ (k : ℕ). bytes_in k (drop (i * 10) f)) (let z : n ≡ suc (n - 1) = omega arith in z)
    ∙ ap (λ (o : Option (List ℕ)). if_some (byte_at f i) (λ x. if_some o (λ bs. Some (x ∷ bs))))
    (ap (bytes_in (n - 1)) (drop-drop 10 (i * 10) f ∙ ap (λ (k : ℕ). drop k f) (let z : i * 10 + 10 ≡ (i + 1) * 10 = omega arith in z))
    ∙ bytes_miss f (n - 1) (i + 1) m (omega arith) (e ∙ ap (byte_at f) (let z : i + suc m ≡ i + 1 + m = omega arith in z)))
    ∙ none_then (byte_at f i)
  where
    none_then : (o : Option ℕ) → ◌≡◌ {A = Option (List ℕ)} (if_some o (λ x. None)) None
    none_then None = refl
    none_then (Some x) = refl

-- a block's bytes, and its checksum
bytes_read : (f : List Bool) (s : ℕ) (xs : List ℕ) → length xs ≡ 256 → ((k : ℕ) → k < 256 → Some (get_or xs k 0) ≡ byte_at f (k + 1)) → Some s ≡ byte_at f 257 → bytes_in 257 (drop 10 f) ≡ Some (xs ++ s ∷ [])
bytes_read f s xs n h e =
    let l = length-append xs (s ∷ []) in
    ap (λ (k : ℕ). bytes_in k (drop 10 f)) (let z : 257 ≡ length (xs ++ s ∷ []) = omega arith in z)
    ∙ bytes_all f 1 (xs ++ s ∷ [])
    (λ k g. elim (cases_lt k 256) [
      | inl a ↦ ap (λ (x : ℕ). Some x) (get_or_append_left xs (s ∷ []) 0 k (omega arith)) ∙ h k a ∙ ap (byte_at f) (let z : k + 1 ≡ 1 + k = omega arith in z)
      | inr a ↦ (let z : k ≡ 256 = omega arith in
          ap (λ (i : ℕ). Some (get_or (xs ++ s ∷ []) i 0)) z ∙ ap (λ (x : ℕ). Some x) (get_or_at xs s [] 0 256 n) ∙ e ∙ ap (λ (i : ℕ). byte_at f (1 + i)) (sym z))
    ])

pub summed_is : (xs : List ℕ) (s : ℕ) → length xs ≡ 256 → summed (Some (xs ++ s ∷ [])) ≡ cond (eqb (xor_all xs) s) (Ok xs) (Err BadChecksum)
summed_is xs s n =
    ap (λ (l : List ℕ). cond (eqb (xor_all l) (get_or (xs ++ s ∷ []) 256 0)) (Ok l) (Err BadChecksum)) (take_at xs (s ∷ []) 256 n)
    ∙ ap (λ (z : ℕ). cond (eqb (xor_all xs) z) (Ok xs) (Err BadChecksum)) (get_or_at xs s [] 0 256 n)

-- a byte that was compared with $07
pub is_seven : (o : Option ℕ) → false ≡ not (option_eq eqb o (Some 7)) → Some 7 ≡ o
is_seven None e = absurd (false≢true e)
is_seven (Some b) e = ap (λ (n : ℕ). Some n) (sym (eqb-true b 7 (not-false _ (sym e))))

pub data_long : (f : List Bool) (o : Option (List ℕ)) → Some 7 ≡ byte_at f 0 → 2600 ≤ length f → bytes_in 257 (drop 10 f) ≡ o → data_of f ≡ summed o
data_long f o e h v =
    ap (λ (p : Option ℕ). cond (is_data p) (cond (ltb (length f) 2600) (Err ShortFrame) (summed (bytes_in 257 (drop 10 f)))) (Err NoData)) (sym e)
    ∙ cond-false (ltb (length f) 2600) (Err ShortFrame) (summed (bytes_in 257 (drop 10 f))) (le-ltb (length f) 2600 h)
    ∙ ap summed v

-- a code among the 257 bytes stands for none
pub data_bad : (f : List Bool) (k : ℕ) → Some 7 ≡ byte_at f 0 → 2600 ≤ length f → k < 257 → None ≡ byte_at f (k + 1) → data_of f ≡ Err BadCode
data_bad f k m l h e = data_long f None m l (bytes_miss f 257 1 k h (e ∙ ap (byte_at f) (let z : k + 1 ≡ 1 + k = omega arith in z)))

-- all 257 stand for bytes
pub data_read : (f : List Bool) (s : ℕ) (xs : List ℕ) → Some 7 ≡ byte_at f 0 → 2600 ≤ length f → length xs ≡ 256 → ((k : ℕ) → k < 256 → Some (get_or xs k 0) ≡ byte_at f (k + 1)) → Some s ≡ byte_at f 257
    → data_of f ≡ cond (eqb (xor_all xs) s) (Ok xs) (Err BadChecksum)
data_read f s xs m l n h e = data_long f (Some (xs ++ s ∷ [])) m l (bytes_read f s xs n h e) ∙ summed_is xs s n
