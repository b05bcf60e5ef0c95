use Rattle.std.proofs.Common.{◌≡◌, ◌+◌, Bool, List, length, drop, sym, ap, ◌∙◌, arith, rules, tests}
use Rattle.std.proofs.lemmas.Iterator.{YieldsList-from_range}
use Rattle.std.proofs.lemmas.Iterator.Search.{find_from_yields_List}
use Rattle.std.proofs.lemmas.Iterator.Adapters.{option_map_id}
use Rattle.std.specs.Option.{unwrap_or}
use Rattle.track.specs.Circles.{ones, before}
use Rattle.track.specs.Shown.{turned_bits}
use Rattle.track.proofs.Circles.{len, before_range}
use Rattle.track.proofs.turned.Turned.frame_bits.Goals as goal

pub returns : goal.returns
returns c =
    let a : List Bool = turned_bits c.args.self.now in
    let n = len c.args.self.now in
    let f = find_from_yields_List (λ k. ones 10 (drop k a)) _ _ c.find.result c.find.ensures.ran (YieldsList-from_range 0 c.args.self.now.circle.bits c.args.self.now.circle.bits (cc) (omega arith)) (λ x b q k. search (rules, tests)) in
    c.unwrap_or.ensures ∙ ap (λ o. unwrap_or o c.args.self.now.circle.bits) (sym (option_map_id c.find.result) ∙ f)
    ∙ before_range a 0 c.args.self.now.circle.bits c.args.self.now.circle.bits (omega arith) (omega arith)
    ∙ (let z : 0 + length (before a) ≡ length (before a) = omega arith in z)
