-- The blocks of an image are blocks.
use Rattle.std.specs.Prelude.{◌≡◌, ℕ, ◌+◌, ◌≤◌, Bool, true, false, cond, List, length, take, drop, ◌==◌}
use Rattle.std.proofs.Common.{arith}
use Rattle.std.proofs.Math.Path.{refl}
use Rattle.std.proofs.lemmas.Bool.{eqb-true}
use Rattle.std.proofs.lemmas.List.{length-take-le, length-drop}
use Rattle.disk.specs.declared.cause.Cause.TheVariants.{NoHeader, NoSuchBlock}
use Rattle.disk.specs.Geometry.{Place, legal}
use Rattle.disk.proofs.Places.{index_within}
use Rattle.disk.specs.Bytes.{Bytes}
use Rattle.disk.proofs.ByteLists.{take_bytes, drop_bytes}
use Rattle.sector.specs.Source.{Whole, bytes, fault}
use Rattle.d64.specs.Image.{offset_of, block_at}

module _ (xs : List ℕ) (small : Bytes xs) where
  part_length : (n : ℕ) → n + 256 ≤ length xs → length (take 256 (drop n xs)) ≡ 256
  part_length n h = length-take-le 256 (drop n xs) (let l = length-drop n xs in omega arith)

  pub whole_block : (p : Place) → Whole (block_at xs p)
  unfolding block_at
  whole_block p = go (legal p) refl (length xs == 174848) refl
    where
      go : (a : Bool) → legal p ≡ a → (b : Bool) → (length xs == 174848) ≡ b → Whole (cond a (cond b (bytes (take 256 (drop (offset_of p) xs))) (fault NoHeader)) (fault NoSuchBlock))
      go false e b f = tt
      go true e false f = tt
      go true e true f =
          let w = index_within p e in
          let l = eqb-true (length xs) 174848 f in
          (part_length (offset_of p) (omega arith), take_bytes 256 (drop (offset_of p) xs) (drop_bytes (offset_of p) xs small))
