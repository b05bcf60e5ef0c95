-- What a block's begin says of reading it and of writing it.
use Rattle.std.proofs.Common.{◌≡◌, ℕ, ◌+◌, ◌≤◌, Bool, true, false, cond, ◌&&◌, eqb, List, length, take, drop, Ok, Err, refl, arith}
use Rattle.std.proofs.lemmas.Bool.{eqb-true}
use Rattle.std.specs.Result.{result_map_both}
use Rattle.disk.specs.declared.cause.Cause.TheVariants.{NoHeader, NoSuchBlock, Protected}
use Rattle.disk.specs.declared.layer.Layer.TheVariants.{Sector}
use Rattle.disk.specs.Refusals.{refusal}
use Rattle.disk.specs.Geometry.{Place, legal}
use Rattle.disk.proofs.Places.{index_within}
use Rattle.sector.specs.Source.{bytes, fault, fault_at, reading, loaded}
use Rattle.sector.specs.Device.{free, barred, answering, allowed}
use Rattle.d64.specs.Image.{offset_of, block_at, answers_of, begin_of, writable_at}

module _ (xs : List ℕ) (p : Place) where
  pub loads : loaded (block_at xs) p ≡ result_map_both (λ n. take 256 (drop n xs)) (λ e. e) (begin_of xs p)
  unfolding begin_of loaded block_at
  loads = go (legal p) (eqb (length xs) 174848)
    where
      go : (a s : Bool) → cond a (reading p (cond a (cond s (bytes (take 256 (drop (offset_of p) xs))) (fault NoHeader)) (fault NoSuchBlock))) (Err (refusal NoSuchBlock Sector p))
          ≡ result_map_both (λ n. take 256 (drop n xs)) (λ e. e) (cond a (cond s (Ok (offset_of p)) (Err (fault_at NoHeader p))) (Err (fault_at NoSuchBlock p)))
      go true true = refl
      go true false = refl
      go false s = refl

  pub allows : (protected : Bool) → allowed (answers_of xs protected) p ≡ result_map_both (λ _. tt) (λ e. e) (writable_at xs protected p)
  unfolding begin_of writable_at allowed answers_of
  allows protected = go (legal p) protected (eqb (length xs) 174848)
    where
      go : (a b s : Bool) → cond a (answering p (cond a (cond b (barred Protected) (cond s free (barred NoHeader))) (barred NoSuchBlock))) (Err (refusal NoSuchBlock Sector p))
          ≡ result_map_both (λ _. tt) (λ e. e) (cond (b && a) (Err (fault_at Protected p)) (cond a (cond s (Ok (offset_of p)) (Err (fault_at NoHeader p))) (Err (fault_at NoSuchBlock p))))
      go true true s = refl
      go true false true = refl
      go true false false = refl
      go false true s = refl
      go false false s = refl

-- a block that begins there
pub record Begins (xs : List ℕ) (p : Place) (at : ℕ) : Type 0 where
  pub there : legal p ≡ true
  pub sized : length xs ≡ 174848
  pub begin : at ≡ offset_of p
  pub within : at + 256 ≤ length xs

pub begins : (xs : List ℕ) (p : Place) (at : ℕ) → begin_of xs p ≡ Ok at → Begins xs p at
unfolding begin_of
begins xs p at = go (legal p) refl (eqb (length xs) 174848) refl
  where
    go : (a : Bool) → legal p ≡ a → (s : Bool) → eqb (length xs) 174848 ≡ s → cond a (cond s (Ok (offset_of p)) (Err (fault_at NoHeader p))) (Err (fault_at NoSuchBlock p)) ≡ Ok at → Begins xs p at
    go true l true s e =
        let i = index_within p l in
        let n = eqb-true (length xs) 174848 s in
        let b : at ≡ offset_of p = cc in
        record { there = l; sized = n; begin = b; within = omega arith }
    go true l false s e = cc
    go false l s i e = cc

pub writable_begins : (xs : List ℕ) (protected : Bool) (p : Place) (at : ℕ) → writable_at xs protected p ≡ Ok at → Begins xs p at
unfolding writable_at
writable_begins xs protected p at = go (protected && legal p)
  where
    go : (b : Bool) → cond b (Err (fault_at Protected p)) (begin_of xs p) ≡ Ok at → Begins xs p at
    go true e = cc
    go false e = begins xs p at e
