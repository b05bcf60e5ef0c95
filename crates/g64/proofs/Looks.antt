-- What `all` over a range of tracks answers.
use Rattle.std.proofs.Common.{◌≡◌, ℕ, suc, zero, ◌+◌, ◌-◌, ◌<◌, ◌≤◌, Bool, true, false, List, length, Option, refl, sym, ◌∙◌, subst, arith, ◌&&◌, ap}
use denote.Param.Members.{Mut}
use Rattle.std.proofs.iter.Yields.{nat_range_steps}
use Rattle.std.proofs.lemmas.Bool.{true≢false}
use Rattle.std.proofs.lemmas.Iterator.{cases_from_all, YieldsList-from_range}
use Rattle.std.proofs.lemmas.List.FromFn.{length-range_with_len, get_or-range_with_len}
use Rattle.std.specs.Bool.{MatchBool}
use Rattle.std.specs.Fn.{Called}
use Rattle.std.specs.Iterator.{YieldsThen}
use Rattle.std.specs.List.{AllWithin, HoldsAt, FoldsTo, range_with_len}
use Rattle.std.specs.Option.{MatchOption}
use Rattle.std.specs.declared.ops.Range.{Range}
use Rattle.g64.specs.Layout.{each}
use Rattle.g64.specs.Tracks.{each_one}

pub passed : (test : ℕ → Bool) (n a : ℕ) → ((i : ℕ) → a ≤ i → i < a + n → test i ≡ true) → each test n a ≡ true
unfolding each
passed test zero a h = refl
passed test (suc n) a h = rw (h a (omega arith) (omega arith)) (passed test n (a + 1) (λ i l u. h i (omega arith) (omega arith)))

failed : (test : ℕ → Bool) (n a i : ℕ) → a ≤ i → i < a + n → test i ≡ false → each test n a ≡ false
failed test n a i l u h = go (each test n a) refl
  where
    go : (r : Bool) → each test n a ≡ r → each test n a ≡ false
    go true e = absurd (true≢false (sym (each_one test n a i e l u) ∙ h))
    go false e = e

pub each_same : (p q : ℕ → Bool) (n a : ℕ) → ((i : ℕ) → p i ≡ q i) → each p n a ≡ each q n a
unfolding each
each_same p q zero a h = refl
each_same p q (suc n) a h = ap (λ (b : Bool). b && each p n (a + 1)) (h a) ∙ ap (λ (b : Bool). q a && b) (each_same p q n (a + 1) h)

by_each : (test : ℕ → Bool) (n a : ℕ) (r : Bool) → MatchBool r (AllWithin (λ x. test x ≡ true) (range_with_len a n) 0 (length (range_with_len a n))) ((k : ℕ) × (k < length (range_with_len a n)) × HoldsAt (λ x. test x ≡ false) (range_with_len a n) k) → r ≡ each test n a
by_each test n a true h =
    let len = length-range_with_len a n in
    sym (passed test n a (λ i l u.
    let k : a + (i - a) ≡ i = omega arith in
    let e = get_or-range_with_len a n (i - a) 0 (omega arith) ∙ k in
    subst (λ (x : ℕ). test x ≡ true) e (h (i - a) 0 (omega arith) (omega arith))))
by_each test n a false h =
    let len = length-range_with_len a n in
    let u : h.0 < n = omega (arith, h.1) in
    sym (failed test n a (a + h.0) (omega arith) (omega arith) (subst (λ (x : ℕ). test x ≡ false) (get_or-range_with_len a n h.0 0 u) (h.2 0)))

-- a closure that answers what the test does, asked of n tracks from a on
module _ {F : Type 0} {g : Mut F (ℕ × Unit {0}) Bool} {s : Range ℕ} (u : Range ℕ) (f : F) (test : ℕ → Bool) (n a : ℕ) (r : Bool)
    (ran : (xs : List ℕ) × (o : Option ℕ) × (j : F) × YieldsThen nat_range_steps s xs o u × FoldsTo (λ p x q. Called g p (x, tt) true q) f xs j × MatchOption o (r ≡ true) (λ x. (r ≡ false) × ((h : F) × Called g j (x, tt) false h)))
    (same : (x : ℕ) (b : Bool) (q : F) → Called g f (x, tt) b q → (q ≡ f) × (b ≡ test x)) where
  pub looked : s ≡ record { start = a; end = a + n } → r ≡ each test n a
  looked e =
      by_each test n a r
      (cases_from_all u f r (λ x. test x ≡ true) (λ x. test x ≡ false) ran (YieldsList-from_range a (a + n) n e (omega arith))
      (λ x q k. let t = same x true q k in (t.0, sym t.1)) (λ x q k. let t = same x false q k in sym t.1))
