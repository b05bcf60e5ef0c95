use Rattle.std.proofs.Common.{◌≡◌, ℕ, List, Ok, length, ap, ◌∙◌, sym, arith, rules}
use Rattle.std.proofs.Math.Seq.{paste}
use Rattle.sector.specs.Device.{allowed}
use Rattle.d64.specs.Image.{answers_of, block_at}
use Rattle.d64.proofs.Begins.{allows, writable_begins}
use Rattle.d64.proofs.Writes.{unwritten, same_length, same_answers, written_so}
use Rattle.d64.proofs.image.D64SectorDevice.write.Goals as goal

pub returns-in_err-at-clause-contents : goal.returns-in_err-at-clause-contents
returns-in_err-at-clause-contents c = λ q. unwritten _ _ _ _ q c.in_err-at.field-0.0 (search (rules, allows))

pub put_block-requires : goal.put_block-requires
put_block-requires c =
    let b = (writable_begins _ _ _ _ (sym c.writable_at.ensures ∙ c.in_ok-at.was)).within in
    omega arith

pub returns : goal.returns
returns c =
    let xs = c.args.self.now.image.items in
    let b = c.args.block.now in
    let protected = c.args.self.now.protected in
    let w = writable_begins xs protected c.args.place c.in_ok-at.at (sym c.writable_at.ensures ∙ c.in_ok-at.was) in
    let e = c.put_block.ensures.items ∙ ap (λ (n : ℕ). paste xs n b 256) w.begin in
    let ok : Ok tt ≡ allowed (answers_of xs protected) c.args.place = search (rules, allows) in
    record {
      answer = ok;
      contents = λ q. ap (λ (f : List ℕ). block_at f q) e ∙ written_so xs b protected c.args.place c.in_ok-at.at ok w (omega arith) q;
      answers = λ q. same_answers xs c.put_block.new.image.items protected q (ap length e ∙ same_length xs b protected c.args.place c.in_ok-at.at ok w (omega arith));
    }
