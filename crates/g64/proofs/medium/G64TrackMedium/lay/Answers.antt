use Rattle.std.proofs.Common.{◌≡◌, ℕ, List, ◌++◌, length, take, drop, sym, ap, ◌∙◌, subst}
use Rattle.std.proofs.lemmas.List.{take_at}
use Rattle.disk.specs.Bytes.{Bytes}
use Rattle.track.specs.Laying.{fits}
use Rattle.g64.specs.Layout.{valid}
use Rattle.g64.specs.Image.{given, circle_on}
use Rattle.g64.proofs.Written.{accepted}
use Rattle.g64.specs.Stored.{is_given}
use Rattle.g64.proofs.medium.G64TrackMedium.lay.Goals as goal

pub lay_stored-requires : goal.lay_stored-requires
lay_stored-requires c =
    let f : List ℕ = c.args.self.now.image.items in
    let t : ℕ = c.args.track in
    let m : ℕ = length c.args.strip.bytes.now in
    let a = accepted c.args.self.now.protected f t c.args.start c.args.strip.count m c.bits_on-size.result c.bits_on-size.ensures c.in_ok-lay_check.ensures in
    let v = c.as_mut_slice.ensures.value in
    record {
      given = ap (λ (x : List ℕ). given x t) v ∙ a.has;
      fits = ap (λ (x : List ℕ). fits (length (circle_on x t)) c.args.start c.args.strip.count m) v ∙ a.fitting;
    }

-- the bytes of the Vec, after as many were lent and came back
lent : (n : ℕ) (new old given : List ℕ) → length new ≡ length given → length given ≡ n → take n (new ++ drop (length new) old) ≡ new
lent n new old given k l = take_at new (drop (length new) old) n (k ∙ l)

pub invariant_of-self : goal.invariant_of-self
invariant_of-self c =
    let f : List ℕ = c.args.self.now.image.items in
    let t : ℕ = c.args.track in
    let same = lent c.args.self.now.image.len c.lay_stored.new.file f c.as_mut_slice.result.now c.lay_stored.auto.file c.as_mut_slice.ensures.len in
    let a = accepted c.args.self.now.protected f t c.args.start c.args.strip.count (length c.args.strip.bytes.now) c.bits_on-size.result c.bits_on-size.ensures c.in_ok-lay_check.ensures in
    record {
      small = subst Bytes (sym same) c.lay_stored.ensures.small;
      known = c.args.self.now.known ∙ (is_given f t a.has).sound_file ∙ sym (ap valid same ∙ c.lay_stored.ensures.valid);
    }
