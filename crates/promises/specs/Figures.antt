-- Worked figures, and what each says of the definitions.
use Rattle.std.specs.Prelude.{◌≡◌, ℕ, Bool, true, false, List, [], ◌∷◌, ◌++◌, replicate, Some, None, Option}
use Rattle.std.specs.List.{flat_map}
use Rattle.disk.specs.Geometry.{Place, order_of, placed_at}
use Rattle.gcr.specs.Bits.{bits_of}
use Rattle.gcr.specs.Codes.{ten}
use Rattle.track.specs.Circles.{frames}
use Rattle.track.specs.Headers.{header}
use Rattle.d64.specs.Image.{offset_of}

pub data Figure : Type 0 where
  -- the number of a block in place order, and whether there is one
  numbered : Place → Option ℕ → Figure
  -- the block of a number
  standing : ℕ → Option Place → Figure
  -- the byte of a D64 image at which a block begins
  beginning : Place → ℕ → Figure
  -- bytes, and the bytes on the track that their codes are
  coding : List ℕ → List ℕ → Figure
  -- bytes whose codes are a sound header of a block
  heading : List ℕ → Place → Figure
  -- a circle, and its frames
  framing : List Bool → List (List Bool) → Figure

abbrev pub Holds : Figure → Type 0
Holds (numbered p n) = order_of p ≡ n
Holds (standing n p) = placed_at n ≡ p
Holds (beginning p n) = offset_of p ≡ n
Holds (coding bs cs) = flat_map ten bs ≡ bits_of cs
Holds (heading bs p) = header (flat_map ten bs) ≡ Some (true, p)
Holds (framing c fs) = frames c ≡ fs

abbrev pub figures : List Figure
figures =
    coding (0 ∷ 0 ∷ 0 ∷ 0 ∷ []) (0x52 ∷ 0x94 ∷ 0xa5 ∷ 0x29 ∷ 0x4a ∷ [])
    ∷ coding (0x08 ∷ 0x10 ∷ 0x00 ∷ 0x11 ∷ []) (0x52 ∷ 0x56 ∷ 0xa5 ∷ 0x29 ∷ 0x6b ∷ [])
    ∷ heading (0x08 ∷ 0x10 ∷ 0x00 ∷ 0x11 ∷ 0x31 ∷ 0x30 ∷ 0x0f ∷ 0x0f ∷ []) (17, 0)
    ∷ framing (replicate 9 true ++ false ∷ []) []
    ∷ framing (replicate 10 true ++ false ∷ []) ((false ∷ []) ∷ [])
    ∷ beginning (18, 0) 91392
    ∷ beginning (1, 0) 0
    ∷ beginning (35, 16) 174592
    ∷ numbered (1, 0) (Some 0)
    ∷ numbered (1, 20) (Some 20)
    ∷ numbered (1, 21) None
    ∷ numbered (17, 20) (Some 356)
    ∷ numbered (18, 0) (Some 357)
    ∷ numbered (25, 0) (Some 490)
    ∷ numbered (31, 0) (Some 598)
    ∷ numbered (35, 16) (Some 682)
    ∷ numbered (0, 0) None
    ∷ numbered (36, 0) None
    ∷ standing 357 (Some (18, 0))
    ∷ standing 682 (Some (35, 16))
    ∷ standing 683 None
    ∷ []
