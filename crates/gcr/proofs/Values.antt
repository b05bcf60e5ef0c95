-- The number that a number's bits write is that number, and what ten of them stand for.
use Rattle.std.proofs.Common.{◌≡◌, ℕ, zero, suc, ◌+◌, ◌*◌, ◌/◌, ◌%◌, ◌^◌, ◌<◌, Bool, cond, leb, List, [], ◌∷◌, ◌++◌, length, get_or, take, Some, None, fold, Option, sym, refl, ap, ◌∙◌, add_assoc, mod-eq_of_lt, mul_assoc, add-mul, arith}
use native.Mathlib.Nat.{pow-succ'}
use Rattle.std.proofs.lemmas.Nat.{mod-pow-add}
use Rattle.std.proofs.lemmas.Bool.{cond-true, le-leb}
use Rattle.std.proofs.lemmas.List.{length-append}
use Rattle.std.proofs.lemmas.Bool.Decides.{nat_tests}
use Rattle.gcr.specs.Bits.{bit, bits, and_bit, value}
use Rattle.gcr.specs.Codes.{if_some, byte_of, coded, bytes_in, Tens}

-- a bit as a number
bit_is : (k n : ℕ) → cond (bit k n) 1 0 ≡ n / 2 ^ k % 2
bit_is k n = let m : n / 2 ^ k % 2 < 2 = omega arith in grind (arith, nat_tests)

value_from : (k n acc : ℕ) → fold and_bit acc (bits k n) ≡ acc * 2 ^ k + n % 2 ^ k
value_from zero n acc = omega arith
value_from (suc k) n acc =
    let b : ℕ = cond (bit k n) 1 0 in
    let i = value_from k n (acc * 2 + cond (bit k n) 1 0) in
    let p = pow-succ' 2 k in
    let m : n % 2 ^ suc k ≡ (n / 2 ^ k % 2) * 2 ^ k + n % 2 ^ k = ap (λ (j : ℕ). n % 2 ^ j) (let e : suc k ≡ 1 + k = omega arith in e) ∙ mod-pow-add n 1 k in
    let q : (acc * 2 + cond (bit k n) 1 0) * 2 ^ k ≡ acc * 2 ^ suc k + (n / 2 ^ k % 2) * 2 ^ k =
    add-mul (acc * 2) (cond (bit k n) 1 0) (2 ^ k) ∙ (λ j. (mul_assoc acc 2 (2 ^ k) ∙ ap (λ (x : ℕ). acc * x) (sym p)) j + bit_is k n j * 2 ^ k) in
    i ∙ ap (λ (x : ℕ). x + n % 2 ^ k) q ∙ add_assoc (acc * 2 ^ suc k) ((n / 2 ^ k % 2) * 2 ^ k) (n % 2 ^ k) ∙ ap (λ (x : ℕ). acc * 2 ^ suc k + x) (sym m)

pub value_bits : (k n : ℕ) → n < 2 ^ k → value (bits k n) ≡ n
value_bits k n h = value_from k n 0 ∙ (let m = mod-eq_of_lt h in omega arith)

pub coded_bits : (n : ℕ) (rest : List Bool) → n < 1024 → coded (bits 10 n ++ rest) ≡ byte_of n
coded_bits n rest h =
    cond-true (leb 10 (length (bits 10 n ++ rest))) (byte_of (value (take 10 (bits 10 n ++ rest)))) None (le-leb 10 (length (bits 10 n ++ rest)) (omega (arith, length-append (bits 10 n) rest)))
    ∙ ap byte_of (value_bits 10 n h)

bytes_step : (m n : ℕ) (rest : List Bool) → n < 1024 → bytes_in (suc m) (bits 10 n ++ rest) ≡ if_some (byte_of n) (λ b. if_some (bytes_in m rest) (λ bs. Some (b ∷ bs)))
unfolding bytes_in
bytes_step m n rest h = ap (λ o. if_some o (λ b. if_some (bytes_in m rest) (λ bs. Some (b ∷ bs)))) (coded_bits n rest h)

four_some : (w x y z : Option ℕ) →
    if_some w (λ a. if_some (if_some x (λ b. if_some (if_some y (λ c. if_some (if_some z (λ d. if_some (Some []) (λ l. Some (d ∷ l)))) (λ l. Some (c ∷ l)))) (λ l. Some (b ∷ l)))) (λ l. Some (a ∷ l)))
    ≡ if_some w (λ a. if_some x (λ b. if_some y (λ c. if_some z (λ d. Some (a ∷ b ∷ c ∷ d ∷ [])))))
four_some None x y z = refl
four_some (Some a) None y z = refl
four_some (Some a) (Some b) None z = refl
four_some (Some a) (Some b) (Some c) None = refl
four_some (Some a) (Some b) (Some c) (Some d) = refl

pub four_coded : (ns : List ℕ) (f : List Bool) → Tens ns f →
    bytes_in 4 f ≡ if_some (byte_of (get_or ns 0 0)) (λ w. if_some (byte_of (get_or ns 1 0)) (λ x. if_some (byte_of (get_or ns 2 0)) (λ y. if_some (byte_of (get_or ns 3 0)) (λ z. Some (w ∷ x ∷ y ∷ z ∷ [])))))
unfolding bytes_in
four_coded ns f t =
    let a = get_or ns 0 0 in let b = get_or ns 1 0 in let c = get_or ns 2 0 in let d = get_or ns 3 0 in
    let s3 = bytes_step 0 d [] t.4 in
    let s2 = bytes_step 1 c (bits 10 d ++ []) t.3 ∙ ap (λ o. if_some (byte_of c) (λ y. if_some o (λ bs. Some (y ∷ bs)))) s3 in
    let s1 = bytes_step 2 b (bits 10 c ++ (bits 10 d ++ [])) t.2 ∙ ap (λ o. if_some (byte_of b) (λ y. if_some o (λ bs. Some (y ∷ bs)))) s2 in
    ap (bytes_in 4) t.0
    ∙ bytes_step 3 a (bits 10 b ++ (bits 10 c ++ (bits 10 d ++ []))) t.1 ∙ ap (λ o. if_some (byte_of a) (λ y. if_some o (λ bs. Some (y ∷ bs)))) s1
    ∙ four_some (byte_of a) (byte_of b) (byte_of c) (byte_of d)
