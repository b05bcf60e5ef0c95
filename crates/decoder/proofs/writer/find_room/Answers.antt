use Rattle.std.proofs.Common.{◌≡◌, ℕ, Bool, true, false, List, replicate, Err, Result, MatchResult, sym, refl, ap, ◌∙◌, subst, rules}
use lib.ListN.{length-replicate}
use Rattle.disk.specs.declared.refusal.Refusal.{Refusal}
use Rattle.disk.specs.Geometry.{legal}
use Rattle.track.specs.Room.{FreeAt}
use Rattle.sector.specs.Device.{allowed}
use Rattle.decoder.specs.Writing.{decoder_answers}
use Rattle.decoder.proofs.Decodes.{fetched, mapped, placed_as, never_refused}
use Rattle.decoder.proofs.Devices.{off_disk, barred_all, no_room}
use Rattle.decoder.proofs.writer.find_room.Goals as goal

pub returns-then-not-exists : goal.returns-then-not-exists
returns-then-not-exists g c =
    ap (λ (r : Refusal). Err r) c.fault_at.ensures
    ∙ off_disk (decoder_answers (g.M.TrackMedium.protected c.args.medium.now) (g.M.TrackSource.circle c.args.medium.now)) c.args.place (sym c.if-not-exists.ensures)

pub returns-then-is_protected : goal.returns-then-is_protected
returns-then-is_protected g c =
    ap (λ (r : Refusal). Err r) c.fault_at-then-is_protected.ensures
    ∙ barred_all (g.M.TrackMedium.protected c.args.medium.now) (g.M.TrackSource.circle c.args.medium.now) c.args.place (sym c.if-not-exists.ensures) (sym c.if-is_protected.ensures)

pub returns-in_err-bits : goal.returns-in_err-bits
returns-in_err-bits g c =
    absurd (never_refused (g.M.TrackSource.circle c.args.medium.now) c.args.place 8192 c.in_err-bits.field-0.0 (sym c.if-not-exists.ensures) refl c.in_err-bits.ensures.answer)

pub returns : goal.returns
returns g c =
    let C : ℕ → List Bool = g.M.TrackSource.circle c.args.medium.now in
    let h : legal c.args.place ≡ true = sym c.if-not-exists.ensures in
    let k = c.new.ensures ∙ fetched C c.args.place c.in_ok-bits.bits (replicate 8192 0) c.fetch.new.buffer h (length-replicate {A = ℕ} 8192 0)
    (g.met.M.TrackSource.bounded c.args.medium.now c.args.place.0) c.in_ok-bits.ensures.answer c.in_ok-bits.ensures.buffer in
    let s : Bool = g.M.TrackMedium.protected c.args.medium.now in
    let m = mapped c.args.place _ c.data_start.result c.map_err.result (λ e f p. search rules) c.map_err.ensures.cases in
    subst (λ (r : Result ℕ Refusal). MatchResult r (λ p. (legal c.args.place ≡ true) × (s ≡ false) × FreeAt (C c.args.place.0) c.args.place.0 c.args.place.1 p) (λ e. Err e ≡ allowed (decoder_answers s C) c.args.place)) (sym m)
    (placed_as c.args.place _ _ _ _ c.data_start.result
    (λ x f. (h, sym c.if-is_protected.ensures, subst (λ (z : List Bool). FreeAt z c.args.place.0 c.args.place.1 x) k f))
    (λ e f. no_room s C c.args.place h (sym c.if-is_protected.ensures) _ e k f)
    c.data_start.ensures)
