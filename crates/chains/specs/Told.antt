-- What a chain in memory tells: its blocks, and the bytes of the last.
use Rattle.std.specs.Prelude.{Ok, Err, Result}
use Rattle.disk.specs.declared.refusal.Refusal.{Refusal}
use Rattle.chains.specs.declared.chain.Chain.{Chain}
use Rattle.chains.specs.Chains.{Followed}

abbrev pub told : Result Chain Refusal → Result Followed Refusal
told (Ok c) = Ok (c.places.items, c.block)
told (Err e) = Err e
