use Rattle.std.proofs.Common.{◌≡◌, ℕ, true, List, length, sym, ap, ◌∙◌, arith}
use Rattle.g64.specs.Layout.{valid}
use Rattle.g64.specs.Image.{stored_on}
use Rattle.g64.specs.Stored.{stored_none, stored_off, stored_small}
use Rattle.g64.proofs.Extents.{lies, none_lies, lies_within, lies_stored}
use Rattle.g64.proofs.image.G64.stored.Goals as goal
use Rattle.g64.proofs.image.G64.stored.Goals.{then-not-self-via-then-not-self, then-not-self-via-else-not-self+then-not-is_on_disk}

pub returns-then-not-self-clause-value : goal.returns-then-not-self-clause-value
returns-then-not-self-clause-value c =
    let f = c.args.self.now.image.items in
    elim c.then-not-self.branch [
      | then-not-self-via-then-not-self w ↦ sym (stored_none f c.args.track (sym c.args.self.now.known ∙ w.if-not-self.true))
      | then-not-self-via-else-not-self+then-not-is_on_disk w ↦ sym (stored_off f c.args.track (sym w.if-not-is_on_disk.ensures))
    ]

pub slice_bounds-result-end-in-Some : goal.slice_bounds-result-end-in-Some
slice_bounds-result-end-in-Some c =
    let f : List ℕ = c.as_slice-file.result.now in
    let v : valid f ≡ true = ap valid c.as_slice-file.ensures.value ∙ sym c.args.self.now.known ∙ c.if-not-self.false in
    let h = sym c.extent_of.ensures ∙ c.in-Some.is in
    let w = lies_within f c.args.track c.in-Some.extent v (sym c.if-not-is_on_disk.ensures) h in
    let l = lies f c.args.track c.in-Some.extent h in
    let a = l.begin in
    let e = l.after in
    omega arith

pub returns-in-Some : goal.returns-in-Some
returns-in-Some c =
    let f : List ℕ = c.as_slice-file.result.now in
    let i = c.as_slice-file.ensures.value in
    let v : valid f ≡ true = ap valid i ∙ sym c.args.self.now.known ∙ c.if-not-self.false in
    let s = lies_stored f c.args.track c.in-Some.extent v (sym c.if-not-is_on_disk.ensures) (sym c.extent_of.ensures ∙ c.in-Some.is) in
    let l = stored_small f c.args.track in
    let n = ap length s in
    record {
      value = s ∙ ap (λ (x : List ℕ). stored_on x c.args.track) i;
      small = omega arith;
    }

pub returns-in-None-clause-value : goal.returns-in-None-clause-value
returns-in-None-clause-value c = none_lies c.as_slice-file.result.now c.args.track (sym c.extent_of.ensures ∙ c.in-None.is) ∙ ap (λ (x : List ℕ). stored_on x c.args.track) c.as_slice-file.ensures.value
