use Rattle.std.proofs.Common.{◌+◌, Bool, false, List, get_or, drop, length, sym, ◌∙◌, arith, rules, tests}
use Rattle.std.proofs.lemmas.Bool.{lt-leb}
use Rattle.std.proofs.lemmas.List.{length-drop, get_or_past}
use Rattle.std.proofs.lemmas.Iterator.{YieldsList-from_range}
use Rattle.std.proofs.lemmas.Iterator.Search.{all_from_yields_List}
use Rattle.track.specs.Shown.{turned_bits}
use Rattle.track.proofs.Circles.{len, ones_range}
use Rattle.track.proofs.Cuts.{ones_false}
use Rattle.track.proofs.turned.Turned.ten_ones.Goals as goal

pub returns-then-i-self : goal.returns-then-i-self
returns-then-i-self c =
    let a : List Bool = turned_bits c.args.self.now in
    all_from_yields_List (λ k. get_or a k false) _ _ c.all.result c.all.ensures.ran (YieldsList-from_range c.args.i (c.args.i + 10) 10 (cc) (omega arith)) (λ x b q k. search (rules, tests))
    ∙ ones_range a c.args.i 10

pub returns-else-i-self : goal.returns-else-i-self
returns-else-i-self c =
    let a : List Bool = turned_bits c.args.self.now in
    let n = len c.args.self.now in
    let d = length-drop c.args.i a in
    lt-leb _ _ c.if-i-self.false
    ∙ sym (ones_false 10 (length (drop c.args.i a)) (drop c.args.i a) (omega arith) (get_or_past (drop c.args.i a) _ false (omega arith)))
