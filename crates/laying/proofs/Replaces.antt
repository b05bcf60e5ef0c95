-- Other bits in the place of a frame: every sync and every other frame stays.
use Rattle.std.proofs.Common.{◌≡◌, ℕ, zero, suc, ◌+◌, ◌-◌, ◌<◌, ◌≤◌, Bool, true, false, List, [], ◌∷◌, ◌++◌, length, get_or, take, drop, sym, refl, ap, ◌∙◌, subst, ⊎_elim, arith}
use lib.Seq.{take-append-add}
use Rattle.std.proofs.lemmas.List.{append_assoc, append-nil, length-append, length-drop, length-take-le, drop_at, drop-drop, drop-append-le, take-append-le, take-append-drop, get_or-append_right, drop_more}
use Rattle.std.proofs.lemmas.Bool.{cases_lt, cases_eq, true≢false, false≢true}
use Rattle.track.specs.Circles.{turned, ones, start, before, frames, tens, cut}
use Rattle.track.specs.Fetching.{laid}
use Rattle.track.specs.Laying.{laid_on}
use Rattle.track.proofs.Circles.{length_turned}
use Rattle.track.proofs.Cuts.{ones_all, before_cut}
use Rattle.track.proofs.Starts.{turned_over, turned_not}
use Rattle.track.proofs.Turns.{turned_turned, turned_past}
use Rattle.laying.specs.Laws.{SameSyncs, Framed, Replacing}
use Rattle.laying.proofs.Fronts.{first_frame, opened, tail_same, start_same}
use Rattle.laying.proofs.Frames.{framed, framed_last, before_on, start_inside, start_behind}

-- what a circle that begins behind a sync ends with
ends_with : (b : Bool) (g w : List Bool) → 10 ≤ length w → start ((b ∷ g) ++ w) ≡ true → w ≡ take (length w - 10) w ++ tens
ends_with true g w h s = absurd (false≢true s)
ends_with false g w h s =
    let t : ones 10 (drop (length w - 10) w) ≡ true = ap (ones 10) (sym (tail_same (false ∷ g) w h)) ∙ s in
    let n : length (drop (length w - 10) w) ≡ 10 = length-drop (length w - 10) w ∙ (let z : length w - (length w - 10) ≡ 10 = omega arith in z) in
    sym (take-append-drop (length w - 10) w) ∙ ap (λ (z : List Bool). take (length w - 10) w ++ z) (ones_all 10 (drop (length w - 10) w) t n)

turned_inside : (i : ℕ) (h w : List Bool) → i ≤ length h → turned i (h ++ w) ≡ (drop i h ++ w) ++ take i h
turned_inside i h w l =
    ap (λ (z : List Bool). z ++ take i (h ++ w)) (drop-append-le i h w l) ∙ ap (λ (z : List Bool). (drop i h ++ w) ++ z) (take-append-le i h w l)

turned_beyond : (k : ℕ) (h w : List Bool) → turned (length h + k) (h ++ w) ≡ drop k w ++ (h ++ take k w)
turned_beyond k h w =
    ap (λ (z : List Bool). z ++ take (length h + k) (h ++ w)) (sym (drop-drop k (length h) (h ++ w)) ∙ ap (drop k) (drop_at h w (length h) refl))
    ∙ ap (λ (z : List Bool). drop k w ++ z) (take-append-add h w k)

ones_there : (n i : ℕ) (l : List Bool) → ones n l ≡ true → i < n → get_or l i false ≡ true
ones_there zero i l e h = absurd (omega arith)
ones_there (suc n) i [] e h = absurd (false≢true e)
ones_there (suc n) i (false ∷ l) e h = absurd (false≢true e)
ones_there (suc n) zero (true ∷ l) e h = refl
ones_there (suc n) (suc i) (true ∷ l) e h = ones_there n i l e (omega arith)

-- two circles at one place: a frame begins at both or at neither, and has as many bits
abbrev Alike : List Bool → List Bool → Type 0
Alike a b = (start b ≡ start a) × (start a ≡ true → length (before b) ≡ length (before a))

neither : (a b : List Bool) → start a ≡ false → start b ≡ false → Alike a b
neither a b e f = (f ∙ sym e, λ s. absurd (true≢false (sym s ∙ e)))

-- past the sync that follows a frame
opens : (h w : List Bool) (k : ℕ) → k < length w → drop k w ++ (h ++ take k w) ≡ (get_or w k false ∷ (drop (k + 1) w ++ h)) ++ take k w
opens h w k l = sym (append_assoc (drop k w) h (take k w)) ∙ ap (λ (z : List Bool). (z ++ h) ++ take k w) (drop_more w k false l)

later_begins : (g x w : List Bool) (k : ℕ) → 10 ≤ k → k < length w → start (drop k w ++ (x ++ take k w)) ≡ start (drop k w ++ (g ++ take k w))
later_begins g x w k h l =
    let n = length-take-le k w (omega arith) in
    ap start (opens x w k l)
    ∙ start_same (get_or w k false) (drop (k + 1) w ++ x) (drop (k + 1) w ++ g) (take k w) (omega arith)
    ∙ ap start (sym (opens g w k l))

later_ends : (g x v : List Bool) (k : ℕ) → k < length (v ++ tens) → start (drop k (v ++ tens) ++ (g ++ take k (v ++ tens))) ≡ true
    → length (before (drop k (v ++ tens) ++ (x ++ take k (v ++ tens)))) ≡ length (before (drop k (v ++ tens) ++ (g ++ take k (v ++ tens))))
later_ends g x v k l s =
    let w : List Bool = v ++ tens in
    ⊎_elim
    (λ m. absurd (true≢false (sym s ∙ ap start (opens g w k l)
    ∙ ap (λ (b : Bool). start ((b ∷ (drop (k + 1) w ++ g)) ++ take k w))
    (get_or-append_right v tens (length v) k false refl (omega arith) ∙ ones_there 10 (k - length v) tens refl (let e = length-append v tens in omega arith)))))
    (λ m. let e : drop k w ≡ drop k v ++ tens = drop-append-le k v tens m in
    ap (λ (z : List Bool). length (before (z ++ (x ++ take k w)))) e
    ∙ ap length (before_cut (drop k v) (x ++ take k w) ∙ sym (before_cut (drop k v) (g ++ take k w)))
    ∙ ap (λ (z : List Bool). length (before (z ++ (g ++ take k w)))) (sym e))
    (cases_lt (length v) k)

later : (g x w v : List Bool) (k : ℕ) → w ≡ v ++ tens → 10 ≤ k → k < length w → Alike (drop k w ++ (g ++ take k w)) (drop k w ++ (x ++ take k w))
later g x w v k e h l =
    subst (λ (z : List Bool). Alike (drop k z ++ (g ++ take k z)) (drop k z ++ (x ++ take k z))) (sym e)
    (let m : k < length (v ++ tens) = subst (λ (z : List Bool). k < length z) e l in
    (later_begins g x (v ++ tens) k h m, later_ends g x v k m))

-- the circles g ++ w and x ++ w, each beginning with a frame
pub record Swap (g x w : List Bool) : Type 0 where
  pub old : Framed g
  pub new : Framed x
  pub same : length x ≡ length g
  pub sync : 10 ≤ length w
  pub old_ends : before (g ++ w) ≡ g
  pub new_ends : before (x ++ w) ≡ x
  pub old_begins : start (g ++ w) ≡ true
  pub new_begins : start (x ++ w) ≡ true

tail_is : (g w : List Bool) → get_or g 0 true ≡ false → 10 ≤ length w → start (g ++ w) ≡ true → w ≡ take (length w - 10) w ++ tens
tail_is [] w n h s = absurd (true≢false n)
tail_is (b ∷ g) w n h s = ends_with b g w h s

moved : (a b c d : List Bool) → c ≡ a → d ≡ b → Alike a b → Alike c d
moved a b c d e f p = subst (λ (z : List Bool). Alike z d) (sym e) (subst (λ (z : List Bool). Alike a z) (sym f) p)

-- they are alike at every place
pub alike : (g x w : List Bool) (i : ℕ) → Swap g x w → i < length (g ++ w) → Alike (turned i (g ++ w)) (turned i (x ++ w))
alike g x w i S l =
    let n = length-append g w in
    let q = S.same in
    ⊎_elim
    (λ z. moved (g ++ w) (x ++ w) (turned i (g ++ w)) (turned i (x ++ w))
    (ap (λ (j : ℕ). turned j (g ++ w)) z ∙ turned_not (g ++ w)) (ap (λ (j : ℕ). turned j (x ++ w)) z ∙ turned_not (x ++ w))
    (S.new_begins ∙ sym S.old_begins, λ s. ap length S.new_ends ∙ S.same ∙ sym (ap length S.old_ends)))
    (λ z. ⊎_elim
    (λ m. neither (turned i (g ++ w)) (turned i (x ++ w))
    (ap start (turned_inside i g w (omega arith)) ∙ start_inside i g (drop i g ++ w) S.old (omega arith) (omega arith))
    (ap start (turned_inside i x w (omega arith)) ∙ start_inside i x (drop i x ++ w) S.new (omega arith) (omega arith)))
    (λ m. let k : ℕ = i - length g in
    let eg : turned i (g ++ w) ≡ drop k w ++ (g ++ take k w) = ap (λ (j : ℕ). turned j (g ++ w)) (let y : i ≡ length g + k = omega arith in y) ∙ turned_beyond k g w in
    let ex : turned i (x ++ w) ≡ drop k w ++ (x ++ take k w) = ap (λ (j : ℕ). turned j (x ++ w)) (let y : i ≡ length x + k = omega arith in y) ∙ turned_beyond k x w in
    let t = length-take-le k w (omega arith) in
    ⊎_elim
    (λ f. neither (turned i (g ++ w)) (turned i (x ++ w))
    (ap start eg ∙ start_behind g (drop k w) (take k w) S.old.ends (omega arith))
    (ap start ex ∙ start_behind x (drop k w) (take k w) S.new.ends (omega arith)))
    (λ f. moved (drop k w ++ (g ++ take k w)) (drop k w ++ (x ++ take k w)) (turned i (g ++ w)) (turned i (x ++ w)) eg ex
    (later g x w (take (length w - 10) w) k (tail_is g w S.old.begins S.sync S.old_begins) f (omega arith)))
    (cases_lt k 10))
    (cases_lt i (length g)))
    (cases_eq i 0)

-- a place of a circle is a place of the circle turned
place_turned : (p q : ℕ) (c : List Bool) → p ≤ length c → q < length c → (i : ℕ) × (i < length c) × ((d : List Bool) → length d ≡ length c → turned q d ≡ turned i (turned p d))
place_turned p q c h l =
    ⊎_elim
    (λ m. (
      (length c - p) + q,
      omega arith,
      λ d e.
          sym (turned_past q p d (omega arith) (omega arith)) ∙ ap (λ (j : ℕ). turned j (turned p d)) (let z : (length d - p) + q ≡ (length c - p) + q = omega arith in z),
    ))
    (λ m. (
      q - p,
      omega arith,
      λ d e.
          ap (λ (j : ℕ). turned j d) (let z : q ≡ p + (q - p) = omega arith in z) ∙ sym (turned_turned (q - p) p d (omega arith)),
    ))
    (cases_lt q p)

pub turned_back : {X : Type 0} (p n : ℕ) (x : List X) → length x ≡ n → p ≤ n → turned p (turned (n - p) x) ≡ x
turned_back p n x e h =
    ap (λ (k : ℕ). turned k (turned (n - p) x)) (let z : p ≡ (length x - (n - p)) + 0 = omega arith in z)
    ∙ turned_past 0 (n - p) x (omega arith) (omega arith) ∙ append-nil x

start_moved : (g x w : List Bool) → 10 ≤ length w → get_or g 0 true ≡ false → get_or x 0 true ≡ false → start (g ++ w) ≡ true → start (x ++ w) ≡ true
start_moved [] x w h n m s = absurd (true≢false n)
start_moved (true ∷ g) x w h n m s = absurd (true≢false n)
start_moved (false ∷ g) [] w h n m s = absurd (true≢false m)
start_moved (false ∷ g) (true ∷ x) w h n m s = absurd (true≢false m)
start_moved (false ∷ g) (false ∷ x) w h n m s = start_same false x g w h ∙ s

-- the circle turned to the frame, before and after: the frame, a sync, and the rest that stays
pub record Replaced (c x : List Bool) (p : ℕ) : Type 0 where
  pub frame : List Bool
  pub more : List Bool
  pub swap : Swap frame x (tens ++ more)
  pub before_it : turned p c ≡ frame ++ (tens ++ more)
  pub after_it : turned p (laid_on p x c) ≡ x ++ (tens ++ more)
  pub size : length (laid_on p x c) ≡ length c
  pub old_frames : frames (turned p c) ≡ frame ∷ cut true more
  pub new_frames : frames (turned p (laid_on p x c)) ≡ x ∷ cut true more

pub replaced : (c x : List Bool) (p : ℕ) → p ≤ length c → start (turned p c) ≡ true → Framed x → length x ≡ length (before (turned p c)) → Replaced c x p
replaced c x p h s X e =
    let d : List Bool = turned p c in
    let g : List Bool = before d in
    let o = opened d s in
    let w : List Bool = tens ++ o.0 in
    let bg : before (g ++ w) ≡ g = sym (ap before o.1) in
    let sg : start (g ++ w) ≡ true = sym (ap start o.1) ∙ s in
    let bx : before (x ++ w) ≡ x = before_on x w (framed_last x X.ends) X.holds ∙ append-nil x in
    let lw : 10 ≤ length w = (let k = length-append tens o.0 in omega arith) in
    let sx : start (x ++ w) ≡ true = start_moved g x w lw o.2 X.begins sg in
    let ex : laid x d ≡ x ++ w =
    ap (λ (z : List Bool). x ++ drop (length x) z) o.1 ∙ ap (λ (z : List Bool). x ++ z) (drop_at g w (length x) (sym e)) in
    let n : length (laid x d) ≡ length c = ap length ex ∙ length-append x w ∙ (let i = ap length o.1 in let j = length-append g w in let k = length_turned p c in omega arith) in
    let af : turned p (laid_on p x c) ≡ x ++ w = turned_back p (length c) (laid x d) n h ∙ ex in
    record {
      frame = g;
      more = o.0;
      swap = record { old = framed g o.0 o.2 bg; new = X; same = e; sync = lw; old_ends = bg; new_ends = bx; old_begins = sg; new_begins = sx };
      before_it = o.1;
      after_it = af;
      size = length_turned (length c - p) (laid x d) ∙ n;
      old_frames = ap frames o.1 ∙ first_frame g o.0 o.2 bg sg;
      new_frames = ap frames af ∙ first_frame x o.0 X.begins bx sx;
    }

-- alike at every place, past the end too
pub syncs_stay : (c x : List Bool) (p : ℕ) → p ≤ length c → Replaced c x p → SameSyncs c (laid_on p x c)
syncs_stay c x p h R =
    let d : List Bool = laid_on p x c in
    let n = R.size in
    let S = R.swap in
    let g : List Bool = R.frame in
    let w : List Bool = tens ++ R.more in
    let near : (q : ℕ) → q < length c → Alike (turned q c) (turned q d) = λ q l.
    (let t = place_turned p q c h l in
    let m : t.0 < length (g ++ w) = (let a = ap length R.before_it in let b = length_turned p c in let k = t.1 in omega arith) in
    moved (turned t.0 (g ++ w)) (turned t.0 (x ++ w)) (turned q c) (turned q d)
    (t.2 c refl ∙ ap (turned t.0) R.before_it) (t.2 d n ∙ ap (turned t.0) R.after_it) (alike g x w t.0 S m)) in
    let some : 0 < length c = (let a = ap length R.before_it in let b = length_turned p c in let k = length-append g w in let y = S.sync in omega arith) in
    let all : (q : ℕ) → Alike (turned q c) (turned q d) = λ q.
    ⊎_elim (near q)
    (λ l. moved (turned 0 c) (turned 0 d) (turned q c) (turned q d)
    (turned_over q c l ∙ sym (turned_not c)) (turned_over q d (omega arith) ∙ sym (turned_not d)) (near 0 some))
    (cases_lt q (length c)) in
    record { size = n; begins = λ q. (all q).0; ends = λ q s. (all q).1 s }

pub tail_of : {X : Type 0} (a b : X) (xs ys : List X) → a ∷ xs ≡ b ∷ ys → xs ≡ ys
tail_of a b xs ys e = cc

pub replacing : Replacing laid_on
replacing c x p h s X e =
    let R = replaced c x p h s X e in (
      syncs_stay c x p h R,
      λ f fs o. R.new_frames ∙ ap (λ (z : List (List Bool)). x ∷ z) (tail_of R.frame f (cut true R.more) fs (sym R.old_frames ∙ o)),
    )
