use Rattle.std.proofs.Common.{◌≡◌, ◌+◌, ◌-◌, length, ◌∙◌, arith}
use Rattle.std.proofs.lemmas.Grind.{common_steps}
use Rattle.rm_base.specs.StreamLemmas.{Lasts-more}
use Rattle.http_endpoint.specs.Ahead.{ahead}
use Rattle.http_endpoint.proofs.BodyLemmas.{moved-on, moved-short, moved-long}
use Rattle.http_endpoint.proofs.body.move_bytes.Goals as goal

pub returns-then-not-branch-clause-answer : goal.returns-then-not-branch-clause-answer
returns-then-not-branch-clause-answer g c =
    let l = c.loop-left in
    let end = c.in_ok-has_more.ensures.at_end (grind (arith, c.if-not-branch.true)) in
    λ all is. moved-short (c.args.size - l.left) l.left c.args.size all c.args.body.now l.body c.has_more.new.self
    (g.S.Source.told c.has_more.new.from).left (ahead (g.S.Source.told l.from).left l.input)
    c.in_ok-has_more.ensures.kept
    (omega (arith, l.invariant.bound)) (omega (arith, c.loop-left-test.true)) end.0 end.1 (l.invariant.moved all is)

pub returns-then-len-gt-ENVELOPE_BYTES-clause-answer : goal.returns-then-len-gt-ENVELOPE_BYTES-clause-answer
returns-then-len-gt-ENVELOPE_BYTES-clause-answer g c =
    let l = c.loop-left in
    let moved = c.in_ok-count.ensures in
    let held = c.has_more.new.self in
    let mid_long : length c.move_to.new.body ≡ length l.body + c.in_ok-count.count =
    grind (arith, common_steps, moved.body, moved.count) in
    let counted = c.len-then-len-gt-ENVELOPE_BYTES.ensures in
    λ all is. (
      omega (
        arith,
        counted,
        c.min-room.ensures,
        moved.count,
        c.len.ensures,
        c.len-in-loop-left.ensures,
        mid_long,
        c.if-len-gt-ENVELOPE_BYTES.true,
      ),
      moved-long (c.args.size - l.left) c.in_ok-count.count l.left c.args.size all c.args.body.now l.body held
          (g.S.Source.told c.has_more.new.from).left (ahead (g.S.Source.told l.from).left l.input)
          c.in_ok-has_more.ensures.kept
          (omega (arith, l.invariant.bound)) (omega (arith, c.min-room.ensures, moved.count))
          (omega (arith, moved.count))
          (omega (arith, mid_long, c.len-in-loop-left.ensures, c.if-len-gt-ENVELOPE_BYTES.true))
          (l.invariant.moved all is),
    )

pub loop-left-preserved : goal.loop-left-preserved
loop-left-preserved g c =
    let l = c.loop-left in
    let moved = c.in_ok-count.ensures in
    let held = c.has_more.new.self in
    let mid_long : length c.move_to.new.body ≡ length l.body + c.in_ok-count.count =
    grind (arith, common_steps, moved.body, moved.count) in
    let rest_len : length c.move_to.new.self + c.in_ok-count.count ≡ length held =
    grind (arith, common_steps, moved.rest, moved.count) in
    record {
      grown = omega (arith, l.invariant.bound, l.invariant.grown, mid_long, c.min-room.ensures, moved.count);
      bound = omega (arith, l.invariant.bound);
      within = grind (arith, common_steps, c.if-len-gt-ENVELOPE_BYTES.false);
      moved = λ all is. moved-on (c.args.size - l.left) c.in_ok-count.count
          (c.args.size - (l.left - c.in_ok-count.count)) all
          c.args.body.now l.body c.move_to.new.body (g.S.Source.told c.has_more.new.from).left
          (ahead (g.S.Source.told l.from).left l.input)
          held c.move_to.new.self c.in_ok-has_more.ensures.kept (omega (arith, moved.count)) moved.body moved.rest
          (omega (arith, l.invariant.bound, c.min-room.ensures, moved.count))
          (omega (arith, c.len-in-loop-left.ensures, c.if-len-gt-ENVELOPE_BYTES.false)) (l.invariant.moved all is);
      used = omega (
        arith,
        l.invariant.used,
        l.invariant.bound,
        c.in_ok-has_more.ensures.taken,
        moved.count,
        rest_len,
        c.min-room.ensures,
      );
      stops = omega (
        arith,
        l.invariant.used,
        l.invariant.stops,
        l.invariant.bound,
        l.invariant.grown,
        c.has_more.ensures.stops,
        c.min-room.ensures,
        c.len.ensures,
      );
      keeps = c.has_more.ensures.keeps.held ∙ l.invariant.keeps;
      lasts = Lasts-more _ _ _ l.invariant.lasts c.has_more.ensures.keeps.lasts;
    }

pub returns-clause-answer : goal.returns-clause-answer
returns-clause-answer g c =
    let l = c.loop-left in
    let none : l.left ≡ 0 = omega (arith, c.loop-left-test.false) in
    let whole : c.args.size - l.left ≡ c.args.size = omega (arith, none) in
    λ all is. rw whole at (l.invariant.moved all is)
