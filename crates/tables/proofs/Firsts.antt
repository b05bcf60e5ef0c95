-- A table whose first 683 entries are made anew.
use Rattle.std.proofs.Common.{◌≡◌, ℕ, ◌≤◌, false, cond, ltb, List, ◌++◌, length, take, drop, sym, ap, ◌∙◌, arith}
use Rattle.std.proofs.lemmas.Bool.{le-ltb}
use Rattle.std.proofs.lemmas.List.{length-take, take_all}

-- after a loop over them, which makes `made i` of the first i
pub firsts_made : {X : Type 0} (made : ℕ → List X) (table firsts : List X) (i : ℕ) → 683 ≤ length table → length firsts ≡ length (take 683 table) → i ≡ length firsts →
    take i firsts ≡ made i → firsts ++ drop 683 table ≡ cond (ltb (length table) 683) table (made 683 ++ drop 683 table)
firsts_made made table firsts i room long all is =
    let e : ltb (length table) 683 ≡ false = le-ltb _ _ room in
    let n : i ≡ 683 = omega (arith, length-take 683 table) in
    rw e (ap (λ l. l ++ drop 683 table) (sym (take_all i firsts (omega arith)) ∙ is ∙ ap made n))
