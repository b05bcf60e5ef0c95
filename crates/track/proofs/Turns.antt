use Rattle.std.proofs.Common.{◌≡◌, ℕ, zero, suc, ◌+◌, ◌-◌, ◌<◌, ◌≤◌, Bool, true, false, cond, ◌||◌, List, [], ◌∷◌, ◌++◌, length, take, drop, filter, sym, refl, ap, ◌∙◌, add-zero, suc-add, zero-add, arith, take-add}
use Rattle.std.proofs.lemmas.List.{append_assoc, append-nil, drop-drop, drop-append-le, take-append-le, take-take, take_at, drop_at, take-append-drop, length-drop, length-append, drop-take}
use Rattle.std.proofs.Math.Bool.{or_assoc, or_comm}
use Rattle.std.proofs.lemmas.List.Elements.{filter-append}
use Rattle.track.specs.Circles.{turned, start, before, frames_from, frames}
use Rattle.track.specs.Headers.{header, sound_head, unsound_head}
use Rattle.track.specs.Reading.{any, head_or, linked, from_hits, sought, sought_data}
use Rattle.track.specs.Laws.{Turning}
use Rattle.track.proofs.Circles.{length_turned}

-- turned twice, short of the seam
pub turned_turned : {X : Type 0} (i k : ℕ) (c : List X) → k + i ≤ length c → turned i (turned k c) ≡ turned (k + i) c
turned_turned i k c h =
    let l = length-drop k c in
    let m : i ≤ length (drop k c) = omega arith in
    let p : drop i (drop k c ++ take k c) ≡ drop (k + i) c ++ take k c = drop-append-le i (drop k c) (take k c) m ∙ ap (λ x. x ++ take k c) (drop-drop i k c) in
    let q : take i (drop k c ++ take k c) ≡ take i (drop k c) = take-append-le i (drop k c) (take k c) m in
    ap (λ x. x ++ take i (drop k c ++ take k c)) p ∙ ap (λ x. (drop (k + i) c ++ take k c) ++ x) q
    ∙ append_assoc (drop (k + i) c) (take k c) (take i (drop k c)) ∙ ap (λ x. drop (k + i) c ++ x) (sym (take-add k i c))

pub drop_in_take : {X : Type 0} (p k : ℕ) (c : List X) → p ≤ k → drop p (take k c) ++ drop k c ≡ drop p c
drop_in_take p k c h =
    ap (λ (n : ℕ). drop p (take n c) ++ drop n c) (let e : k ≡ p + (k - p) = omega arith in e)
    ∙ ap (λ x. x ++ drop (p + (k - p)) c) (drop-take p (k - p) c)
    ∙ ap (λ x. take (k - p) (drop p c) ++ x) (sym (drop-drop (k - p) p c))
    ∙ take-append-drop (k - p) (drop p c)

-- turned twice, past the seam
pub turned_past : {X : Type 0} (p k : ℕ) (c : List X) → p ≤ k → k ≤ length c → turned ((length c - k) + p) (turned k c) ≡ turned p c
turned_past p k c h g =
    let l = length-drop k c in
    let a : drop ((length c - k) + p) (turned k c) ≡ drop p (take k c) = sym (drop-drop p (length c - k) (turned k c)) ∙ ap (drop p) (drop_at (drop k c) (take k c) (length c - k) l) in
    let b : take ((length c - k) + p) (turned k c) ≡ drop k c ++ take p c =
    take-add (length c - k) p (turned k c)
    ∙ ap (λ x. x ++ take p (drop (length c - k) (turned k c))) (take_at (drop k c) (take k c) (length c - k) l)
    ∙ ap (λ x. drop k c ++ take p x) (drop_at (drop k c) (take k c) (length c - k) l)
    ∙ ap (λ x. drop k c ++ x) (take-take p k c h) in
    ap (λ x. x ++ take ((length c - k) + p) (turned k c)) a ∙ ap (λ x. drop p (take k c) ++ x) b
    ∙ sym (append_assoc (drop p (take k c)) (drop k c) (take p c))
    ∙ ap (λ x. x ++ take p c) (drop_in_take p k c h)

cond_append : {X : Type 0} (b : Bool) (x : X) (xs ys : List X) → cond b (x ∷ (xs ++ ys)) (xs ++ ys) ≡ cond b (x ∷ xs) xs ++ ys
cond_append true x xs ys = refl
cond_append false x xs ys = refl

pub frames_append : (c : List Bool) (p m n : ℕ) → frames_from c p (m + n) ≡ frames_from c p m ++ frames_from c (p + m) n
frames_append c p zero n =
    ap (frames_from c p) (zero-add n) ∙ ap (λ (q : ℕ). frames_from c q n) (sym (add-zero p))
frames_append c p (suc m) n =
    ap (frames_from c p) (suc-add m n)
    ∙ ap (λ (l : List (List Bool)). cond (start (turned p c)) (before (turned p c) ∷ l) l)
    (frames_append c (suc p) m n ∙ ap (λ (q : ℕ). frames_from c (suc p) m ++ frames_from c q n) (let e : suc p + m ≡ p + suc m = omega arith in e))
    ∙ cond_append (start (turned p c)) (before (turned p c)) (frames_from c (suc p) m) (frames_from c (p + suc m) n)

pub frames_shift : (d c : List Bool) (q p n : ℕ) → ((i : ℕ) → i < n → turned (q + i) d ≡ turned (p + i) c) → frames_from d q n ≡ frames_from c p n
frames_shift d c q p zero h = refl
frames_shift d c q p (suc n) h =
    let e : turned q d ≡ turned p c =
    ap (λ (k : ℕ). turned k d) (sym (add-zero q)) ∙ h 0 (omega arith) ∙ ap (λ (k : ℕ). turned k c) (add-zero p) in
    let r = frames_shift d c (suc q) (suc p) n
    (λ i l. ap (λ (k : ℕ). turned k d) (let z : suc q + i ≡ q + suc i = omega arith in z) ∙ h (suc i) (omega arith) ∙ ap (λ (k : ℕ). turned k c) (let z : p + suc i ≡ suc p + i = omega arith in z)) in
    ap (λ (a : List Bool). cond (start a) (before a ∷ frames_from d (suc q) n) (frames_from d (suc q) n)) e
    ∙ ap (λ (l : List (List Bool)). cond (start (turned p c)) (before (turned p c) ∷ l) l) r

pub frames_split : (k : ℕ) (c : List Bool) → k ≤ length c → frames c ≡ frames_from c 0 k ++ frames_from c k (length c - k)
frames_split k c h =
    ap (frames_from c 0) (let e : length c ≡ k + (length c - k) = omega arith in e)
    ∙ frames_append c 0 k (length c - k)
    ∙ ap (λ (q : ℕ). frames_from c 0 k ++ frames_from c q (length c - k)) (zero-add k)

pub frames_turned : (k : ℕ) (c : List Bool) → k ≤ length c → frames (turned k c) ≡ frames_from c k (length c - k) ++ frames_from c 0 k
frames_turned k c h =
    ap (frames_from (turned k c) 0) (length_turned k c ∙ (let e : length c ≡ (length c - k) + k = omega arith in e))
    ∙ frames_append (turned k c) 0 (length c - k) k
    ∙ ap (λ (l : List (List Bool)). l ++ frames_from (turned k c) (0 + (length c - k)) k)
    (frames_shift (turned k c) c 0 k (length c - k) (λ i l. ap (λ (j : ℕ). turned j (turned k c)) (zero-add i) ∙ turned_turned i k c (omega arith)))
    ∙ ap (λ (l : List (List Bool)). frames_from c k (length c - k) ++ l)
    (frames_shift (turned k c) c (0 + (length c - k)) 0 k
    (λ i l. ap (λ (j : ℕ). turned j (turned k c)) (let z : 0 + (length c - k) + i ≡ (length c - k) + i = omega arith in z)
    ∙ turned_past i k c (omega arith) h ∙ ap (λ (j : ℕ). turned j c) (sym (zero-add i))))

pub turned_swap : {X : Type 0} (xs ys : List X) → turned (length xs) (xs ++ ys) ≡ ys ++ xs
turned_swap xs ys =
    ap (λ z. z ++ take (length xs) (xs ++ ys)) (drop_at xs ys (length xs) refl) ∙ ap (λ z. ys ++ z) (take_at xs ys (length xs) refl)

-- pairs on a circle
pub linked_append : {X : Type 0} (first : X) (xs ys : List X) → linked first (xs ++ ys) ≡ linked (head_or first ys) xs ++ linked first ys
linked_append first [] ys = refl
linked_append first (x ∷ []) ys = refl
linked_append first (x ∷ y ∷ xs) ys = ap (λ l. (x, y) ∷ l) (linked_append first (y ∷ xs) ys)

hits_swap : (ps qs : List (List Bool × List Bool)) (u : Bool) → from_hits (ps ++ qs) u ≡ from_hits (qs ++ ps) u
hits_swap [] [] u = refl
hits_swap [] (q ∷ qs) u = ap (λ l. from_hits l u) (sym (append-nil (q ∷ qs)))
hits_swap (p ∷ ps) [] u = ap (λ l. from_hits l u) (append-nil (p ∷ ps))
hits_swap (p ∷ []) (q ∷ []) u = refl
hits_swap (p ∷ []) (q ∷ r ∷ qs) u = refl
hits_swap (p ∷ r ∷ ps) (q ∷ []) u = refl
hits_swap (p ∷ r ∷ ps) (q ∷ v ∷ qs) u = refl

any_swap : {X : Type 0} (p : X → Bool) (xs ys : List X) → any p (xs ++ ys) ≡ any p (ys ++ xs)
any_swap {X = X} p xs ys = any_append xs ys ∙ or_comm (any p xs) (any p ys) ∙ sym (any_append ys xs)
  where
    any_append : (xs ys : List X) → any p (xs ++ ys) ≡ (any p xs || any p ys)
    any_append [] ys = refl
    any_append (x ∷ xs) ys = ap (λ b. p x || b) (any_append xs ys) ∙ sym (or_assoc (p x) (any p xs) (any p ys))

sought_swap : (xs ys : List (List Bool)) (t s : ℕ) → sought (xs ++ ys) t s ≡ sought (ys ++ xs) t s
sought_swap [] ys t s = ap (λ (l : List (List Bool)). sought l t s) (sym (append-nil ys))
sought_swap (x ∷ xs) [] t s = ap (λ (l : List (List Bool)). sought l t s) (append-nil (x ∷ xs))
sought_swap (x ∷ xs) (y ∷ ys) t s =
    let P : List Bool × List Bool → Bool = λ p. sound_head t s (header p.0) in
    let A = filter P (linked y (x ∷ xs)) in
    let B = filter P (linked x (y ∷ ys)) in
    let U : List Bool → Bool = λ g. unsound_head t s (header g) in
    ap (λ l. from_hits (filter P l) (any U ((x ∷ xs) ++ (y ∷ ys)))) (linked_append x (x ∷ xs) (y ∷ ys))
    ∙ ap (λ l. from_hits l (any U ((x ∷ xs) ++ (y ∷ ys)))) (filter-append P (linked y (x ∷ xs)) (linked x (y ∷ ys)))
    ∙ hits_swap A B (any U ((x ∷ xs) ++ (y ∷ ys)))
    ∙ ap (from_hits (B ++ A)) (any_swap U (x ∷ xs) (y ∷ ys))
    ∙ ap (λ l. from_hits l (any U ((y ∷ ys) ++ (x ∷ xs)))) (sym (filter-append P (linked x (y ∷ ys)) (linked y (x ∷ xs))))
    ∙ ap (λ l. from_hits (filter P l) (any U ((y ∷ ys) ++ (x ∷ xs)))) (sym (linked_append y (y ∷ ys) (x ∷ xs)))

-- what is found does not hang on where the circle begins
pub sought_turned : (k : ℕ) (c : List Bool) → k ≤ length c → (t s : ℕ) → sought (frames (turned k c)) t s ≡ sought (frames c) t s
sought_turned k c h t s =
    ap (λ (l : List (List Bool)). sought l t s) (frames_turned k c h)
    ∙ sought_swap (frames_from c k (length c - k)) (frames_from c 0 k) t s
    ∙ ap (λ (l : List (List Bool)). sought l t s) (sym (frames_split k c h))

pub turning : Turning turned
turning k c h =
    let A = frames_from c 0 k in
    let B = frames_from c k (length c - k) in
    let e : frames (turned k c) ≡ B ++ A = frames_turned k c h in
    let f : frames c ≡ A ++ B = frames_split k c h in
    let l : length A ≤ length (frames c) = (let m = length-append A B in let n = ap length f in omega arith) in (
      (length A, l, e ∙ sym (turned_swap A B) ∙ ap (turned (length A)) (sym f)),
      λ t s. ap sought_data (sought_turned k c h t s),
    )
