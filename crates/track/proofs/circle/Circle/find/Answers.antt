use Rattle.std.proofs.Common.{Bool, sym, ap, subst, Option}
use Rattle.track.specs.Shown.{said, circle_bits, GivesNext}
use Rattle.track.proofs.Finds.{Ahead, is_first, named_none, named_sound, named_unsound, named_other, ahead_start, ahead_found, ahead_other, ahead_unsound}
use Rattle.track.specs.declared.window.Window.{Window}
use Rattle.track.proofs.circle.Circle.find.Goals as goal
use Rattle.track.proofs.circle.Circle.find.Goals.{in-Sound+else-eq, in-Unsound, in-Unsound+else-eq-2}

pub loop-coming-init : goal.loop-coming-init
loop-coming-init c =
    ahead_start (circle_bits c.args.self.now) c.args.wanted.0 c.args.wanted.1 c.frames-frames.result c.next.new.self c.in_ok-first.first c.frames-frames.ensures.rest c.frames-frames.ensures.whole
    (subst (λ (x : Option Window). GivesNext c.frames-frames.result x c.next.new.self) c.in_ok-first.ensures.ok_part c.next.ensures.steps)

pub loop-coming-preserved-in_default-header : goal.loop-coming-preserved-in_default-header
loop-coming-preserved-in_default-header c =
    ahead_other c.loop-coming.invariant c.in-Some.is c.next-coming.ensures.steps (named_none c.args.wanted.0 c.args.wanted.1 c.in_default-header.ensures)

pub loop-coming-preserved-in-Sound : goal.loop-coming-preserved-in-Sound
loop-coming-preserved-in-Sound c =
    ahead_found c.loop-coming.invariant c.in-Some.is c.next-coming-in-Sound.ensures.steps c.unwrap_or.result
    (is_first (circle_bits c.args.self.now) c.frames-frames.result c.next.new.self c.in_ok-first.first c.next.result c.frames-frames.ensures.whole c.frames-frames.ensures.passed c.next.ensures.steps c.in_ok-first.ensures.ok_part)
    (named_sound c.args.wanted.0 c.args.wanted.1 c.in-Some-header.header c.in-Some-header.ensures (ap said c.in-Sound.is) c.in-Sound.place-is c.if-eq.ensures)
    c.if-is_some.ensures c.unwrap_or.ensures

pub loop-coming-preserved : goal.loop-coming-preserved
loop-coming-preserved c =
    elim c.match-header-2.branch [
      | in-Sound+else-eq w ↦ subst still (sym w.unsound-is)
          (ahead_other c.loop-coming.invariant c.in-Some.is c.next-coming-in-Some.ensures.steps
          (named_other c.args.wanted.0 c.args.wanted.1 c.in-Some-header.header c.in-Some-header.ensures (ap said w.in-Sound.is) w.in-Sound.place-is w.if-eq.ensures))
      | in-Unsound w ↦ subst still (sym w.unsound-is)
          (ahead_unsound c.loop-coming.invariant c.in-Some.is c.next-coming-in-Some.ensures.steps
          (named_unsound c.args.wanted.0 c.args.wanted.1 c.in-Some-header.header c.in-Some-header.ensures (ap said w.in-Unsound.is) w.in-Unsound.place-is w.if-eq-2.ensures))
      | in-Unsound+else-eq-2 w ↦ subst still (sym w.unsound-is)
          (ahead_other c.loop-coming.invariant c.in-Some.is c.next-coming-in-Some.ensures.steps
          (named_other c.args.wanted.0 c.args.wanted.1 c.in-Some-header.header c.in-Some-header.ensures (ap said w.in-Unsound.is) w.in-Unsound.place-is w.if-eq-2.ensures))
    ]
  where
    still : Bool → Type 0
    still u = Ahead (circle_bits c.args.self.now) c.args.wanted.0 c.args.wanted.1 c.in_ok-first.first c.loop-coming.data u c.next-coming-in-Some.result c.next-coming-in-Some.new.self
