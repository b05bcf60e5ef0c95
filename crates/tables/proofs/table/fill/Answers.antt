use Rattle.std.proofs.Common.{ℕ, ◌<◌, length, replicate, arith, rules}
use Rattle.std.proofs.lemmas.List.{length-take, length-drop}
use Rattle.tables.proofs.Firsts.{firsts_made}
use Rattle.tables.proofs.table.fill.Goals as goal

pub offset_bounds-entry-items-entry-index : goal.offset_bounds-entry-items-entry-index
offset_bounds-entry-items-entry-index g c =
    let h : c.loop-entry.entry-index < length c.args.table.now = omega (arith, length-take {A = g.row.T.Denot}, length-drop {A = g.row.T.Denot}) in
    search rules

pub returns-clause-after : goal.returns-clause-after
returns-clause-after g c =
    firsts_made (λ (k : ℕ). replicate k c.args.value) c.args.table.now c.loop-entry.entry-items c.loop-entry.entry-index (search rules) (search rules) (omega arith) c.loop-entry.invariant
