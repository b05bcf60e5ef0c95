use Rattle.std.proofs.Common.{◌≡◌, ℕ, ◌+◌, List, ◌++◌, length, drop, replicate, refl, ap, ◌∙◌, arith}
use borrow.Rule.Slice.PartMut.{put_mid}
use Rattle.std.proofs.lemmas.List.{drop-replicate}
use Rattle.std.proofs.lemmas.List.Edits.{paste_all}
use Rattle.std.proofs.lemmas.Slice.{put_mid-paste}
use Rattle.directory.specs.Names.{title}
use Rattle.directory.proofs.name.padded.Goals as goal

padded_so : (name last : List ℕ) → last ≡ name → put_mid 0 (length name) (replicate 16 160) last ≡ title name
unfolding title
padded_so name last e =
    let n = length name in
    let z : 0 + n ≡ n = omega arith in
    put_mid-paste 0 n (replicate 16 160) last name n e refl refl
    ∙ paste_all (replicate 16 160) 0 name n refl
    ∙ ap (λ (k : ℕ). name ++ drop k (replicate 16 160)) z
    ∙ ap (λ (t : List ℕ). name ++ t) (drop-replicate n 16 160)

pub returns : goal.returns
returns c = padded_so c.args.name.now c.copy_from_slice.new.self c.copy_from_slice.ensures.after
