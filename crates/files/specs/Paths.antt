-- Which blocks are looked at.
use Rattle.std.specs.Prelude.{◌≡◌, ℕ, zero, suc, true, cond, List, [], ◌∷◌, ◌++◌, Some, None, Option, Ok, Err, Result}
use Rattle.disk.specs.declared.refusal.Refusal.{Refusal}
use Rattle.disk.specs.Geometry.{Place}
use Rattle.sector.specs.Source.{Disk, loaded, and_then}
use Rattle.chains.specs.declared.route.Route.{Route}
use Rattle.chains.specs.declared.route.Route.TheVariants.{File, Search}
use Rattle.chains.specs.Sets.{among}
use Rattle.directory.specs.Names.{named}
use Rattle.chains.specs.Chains.{on_route, link_of}
use Rattle.files.specs.Found.{located, closed_at}

-- the places that follow an answer; none follow a refusal
abbrev pub after : {X : Type 0} → Result X Refusal → (X → List Place) → List Place
after (Ok x) k = k x
after (Err e) k = []

abbrev pub onward : (Place → List Place) → Option Place → List Place
onward k None = []
onward k (Some q) = k q

-- the blocks that following a route from p on reads, where those of `met` were read before
unfoldable pub looked : Disk → Route → ℕ → List Place → Place → List Place
looked d r zero met p = []
looked d r (suc n) met p =
    cond (on_route r p) (cond (among met p) []
    (p ∷ after (and_then (loaded d p) (link_of r p)) (onward (λ q. looked d r n (met ++ p ∷ []) q)))) []

-- the path of a name: the directory blocks from 18/1 to its slot, then the blocks of its chain
abbrev pub path_of : Disk → List ℕ → List Place
path_of d name =
    after (named name) (λ n. looked d (Search n) 18 [] (18, 1))
    ++ after (and_then (located d name) (λ e. and_then (closed_at e) (λ _. Ok e.entry.first))) (λ p. looked d File 683 [] p)

-- two disks have the same blocks at these places
abbrev pub Agree : Disk → Disk → List Place → Type 0
Agree d e ps = (p : Place) → among ps p ≡ true → e p ≡ d p
