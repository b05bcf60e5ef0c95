use Rattle.std.proofs.Common.{◌≡◌, true, vec_items, sym, ap, ◌∙◌}
use Rattle.g64.specs.declared.image.G64.{G64}
use Rattle.g64.specs.Image.{checked}
use Rattle.disk.proofs.Openings.{opened_ok}
use Rattle.image.specs.Kinds.{is_capture}
use Rattle.image.proofs.Captures.{captured}
use Rattle.image.proofs.image.Image.open.Goals as goal

pub returns-in_ok-capture : goal.returns-in_ok-capture
returns-in_ok-capture c =
    let k : is_capture (vec_items c.args.file) ≡ true = sym (c.is_capture.ensures ∙ ap is_capture c.as_slice.ensures.value) ∙ c.if-is_capture.true in
    let o = opened_ok (checked (vec_items c.args.file)) _ c.in_ok-capture.capture c.in_ok-capture.ensures in
    let n = c.new.ensures in
    let d = c.new-then-is_capture.ensures in
    let i : vec_items c.in_ok-capture.capture.image ≡ vec_items c.args.file = ap vec_items o.1.0 in
    let G = captured (vec_items c.args.file) c.args.protected c.new-then-is_capture.result k
    (ap (λ x. vec_items x.source.image) d ∙ ap (λ (x : G64). vec_items x.image) n.kept ∙ i)
    (ap (λ x. x.source.protected) d ∙ ap (λ (x : G64). x.protected) n.kept ∙ o.1.1) in
    rw (k, o.0) record {
      gives = G;
      blocks = G.blocks;
    }
