use Rattle.std.proofs.Common.{◌≡◌, ℕ, ◌+◌, ◌-◌, ◌*◌, ◌/◌, length, List, take, sym, ap, ◌∙◌, arith}
use Rattle.std.specs.List.{flat_map}
use Rattle.std.proofs.lemmas.List.{take_all}
use Rattle.std.proofs.lemmas.Slice.{take-put_mid}
use borrow.Rule.Slice.PartMut.{same_len_mid}
use Rattle.gcr.specs.Bits.{bits_of}
use Rattle.gcr.specs.Codes.{ten}
use Rattle.decoder.specs.Writing.{data_bits}
use Rattle.decoder.proofs.Groups.{length_data, group_more, groups_all}
use Rattle.decoder.proofs.coder.data_block.Goals as goal

pub loop-k-preserved : goal.loop-k-preserved
loop-k-preserved c =
    let k : ℕ = c.loop-k.k in
    let o : List ℕ = c.loop-k.coded in
    let r : List ℕ = c.copy_from_slice.new.self in
    let n : ℕ = 5 * k + 5 - 5 * k in
    record {
      long = same_len_mid (5 * k) n o r c.copy_from_slice.ensures.len ∙ c.loop-k.invariant.long;
      begun = ap bits_of (take-put_mid (5 * k) n o r (5 * (k + 1)) (omega arith) (omega arith))
          ∙ group_more (take (5 * k) o) r c.as_chunks.result.0.now k c.loop-k-test.true c.loop-k.invariant.begun (ap bits_of c.copy_from_slice.ensures.after ∙ c.encode_group.ensures);
    }

pub returns : goal.returns
unfolding data_bits
returns c =
    let p : length c.plain_bytes-bytes.result ≡ 260 = ap length c.plain_bytes-bytes.ensures ∙ length_data c.args.block.now c.told-block in
    let f = c.loop-k-test.false in
    let l = c.as_chunks.ensures.front_len in
    let o = c.loop-k.invariant.long in
    ap bits_of (sym (take_all (5 * c.loop-k.k) c.loop-k.coded (omega arith)))
    ∙ c.loop-k.invariant.begun
    ∙ ap (flat_map (flat_map ten)) (take_all c.loop-k.k c.as_chunks.result.0.now f ∙ c.as_chunks.ensures.front)
    ∙ groups_all (length c.plain_bytes-bytes.result / 4) c.plain_bytes-bytes.result (omega arith)
    ∙ ap (flat_map ten) c.plain_bytes-bytes.ensures
