-- Following blocks from link to link.
use Rattle.std.specs.Prelude.{ℕ, zero, suc, Bool, false, cond, not, ◌&&◌, List, [], ◌∷◌, ◌++◌, is_some, Some, None, Ok, Err, Option, Result, ◌==◌, slice_index}
use Rattle.disk.specs.declared.cause.Cause.{Cause}
use Rattle.disk.specs.declared.cause.Cause.TheVariants.{NoSuchBlock, BadStructure}
use Rattle.disk.specs.declared.refusal.Refusal.{Refusal}
use Rattle.disk.specs.Geometry.{Place, legal}
use Rattle.disk.specs.Refusals.{by_volume}
use Rattle.sector.specs.Source.{Disk, loaded, and_then}
use Rattle.chains.specs.declared.route.Route.{Route}
use Rattle.chains.specs.declared.route.Route.TheVariants.{File, Directory, Search}
use Rattle.directory.specs.Entries.{slot_of}
use Rattle.chains.specs.Sets.{among}

-- a file keeps off track 18, the directory has its sectors from 1 on
abbrev pub of_route : Route → Place → Bool
of_route File p = not (p.0 == 18)
of_route Directory p = p.0 == 18 && not (p.1 == 0)
of_route (Search n) p = p.0 == 18 && not (p.1 == 0)

abbrev pub on_route : Route → Place → Bool
on_route r p = legal p && of_route r p

-- why a link to any other block is refused
abbrev pub stray : Route → Cause
stray File = NoSuchBlock
stray Directory = BadStructure
stray (Search n) = BadStructure

-- the search for a name ends where a filled slot has it
abbrev pub halts : Route → List ℕ → Bool
halts File b = false
halts Directory b = false
halts (Search n) b = is_some (slot_of b n)

-- a last block at p: that of a file names its last used byte, never byte 0
abbrev pub ending : Route → Place → ℕ → Result (Option Place) Refusal
ending File p n = cond (n == 0) (Err (by_volume BadStructure p)) (Ok None)
ending Directory p n = Ok None
ending (Search s) p n = Ok None

-- where the block b, at p, leads: its first two bytes are track and sector, track 0 ends
unfoldable pub link_of : Route → Place → List ℕ → Result (Option Place) Refusal
link_of r p b = cond (halts r b) (Ok None) (cond (slice_index b 0 == 0) (ending r p (slice_index b 1)) (Ok (Some (slice_index b 0, slice_index b 1))))

-- the bytes of the block at p, to which the block at `from` leads
unfoldable pub visited : Disk → Route → Bool → Place → Place → Result (List ℕ) Refusal
visited d r met from p = cond (on_route r p) (cond met (Err (by_volume BadStructure from)) (loaded d p)) (Err (by_volume (stray r) from))

-- what was followed: the blocks in order, and the bytes of the last
abbrev pub Followed : Type 0
Followed = List Place × List ℕ

abbrev pub led : Option Place → Followed → (Place → Result Followed Refusal) → Result Followed Refusal
led None f k = Ok f
led (Some q) f k = k q

-- the blocks from p on, after those met; at most n more
unfoldable pub chain_from : Disk → Route → ℕ → List Place → Place → Place → Result Followed Refusal
chain_from d r zero met from p = Err (by_volume BadStructure from)
chain_from d r (suc n) met from p =
    and_then (visited d r (among met p) from p) (λ b.
    and_then (link_of r p b) (λ l.
    led l (met ++ p ∷ [], b) (λ q. chain_from d r n (met ++ p ∷ []) p q)))

-- how many blocks a route can have before one was met twice
abbrev pub most : Route → ℕ
most File = 683
most Directory = 18
most (Search n) = 18

-- the blocks from p on, to which the block at `from` leads
abbrev pub chain_of : Disk → Route → Place → Place → Result Followed Refusal
chain_of d r from p = chain_from d r (most r) [] from p
