use Rattle.std.proofs.Common.{[], take, drop, sym, ap, ◌≡◌, ◌++◌, ◌∙◌, arith}
use Rattle.std.proofs.lemmas.Grind.{common_steps}
use Rattle.std.proofs.lemmas.List.{take-append-drop}
use Rattle.http_endpoint.proofs.PartLemmas.{found, too_long, unfinished-none, refused-none}
use Rattle.http_endpoint.specs.Limits.{part_bytes}
use Rattle.http_endpoint.proofs.part.read_part.Goals as goal

pub returns-in-Found-clause-answer : goal.returns-in-Found-clause-answer
returns-in-Found-clause-answer g c =
    let held = c.loop-input.input in
    let text = c.as_slice-then-may_end.result.now in
    λ all is. found g.P.Part.reads g.P.Part.begun g.met.P.Part.grows (g.S.Source.told c.loop-input.from).left
    text [] held
    c.skip.new.self all c.in_ok-len.field-0 c.in-Found.len part_bytes c.in-Found.out
    (grind (arith, common_steps, c.as_slice-then-may_end.ensures))
    (grind (
      arith,
      common_steps,
      c.as_slice-then-may_end.ensures,
      c.loop-input-test.true,
      c.as_slice-in-loop-input.ensures,
    ))
    c.in-Found.is (c.in_ok-len.ensures) c.skip.ensures (c.loop-input.invariant.still all is)

pub returns-in-Found-3-clause-answer : goal.returns-in-Found-3-clause-answer
returns-in-Found-3-clause-answer g c =
    let held = c.loop-input.input in
    let text = c.split_at.result.0.now in
    let front : text ≡ take part_bytes held = c.split_at.ensures.front ∙ ap (take part_bytes) c.as_slice-2.ensures in
    λ all is. found g.P.Part.reads g.P.Part.begun g.met.P.Part.grows (g.S.Source.told c.loop-input.from).left text
    (drop part_bytes held) held
    c.skip-in-Found-3.new.self all c.in_ok-len-3.field-0 c.in-Found-3.len part_bytes c.in-Found-3.out
    (sym (take-append-drop part_bytes held) ∙ ap (λ l. l ++ drop part_bytes held) (sym front))
    (grind (arith, common_steps, front))
    c.in-Found-3.is (c.in_ok-len-3.ensures) c.skip-in-Found-3.ensures (c.loop-input.invariant.still all is)

pub returns-in-Unfinished-3-clause-answer : goal.returns-in-Unfinished-3-clause-answer
returns-in-Unfinished-3-clause-answer g c =
    let held = c.loop-input.input in
    let none = unfinished-none g.P.Part.reads g.P.Part.begun c.split_at.result.0.now (take part_bytes held)
    c.in_ok-len-3.field-0
    c.in-Unfinished-3.is (c.in_ok-len-3.ensures)
    (c.split_at.ensures.front ∙ ap (take part_bytes) c.as_slice-2.ensures) in
    λ all is. too_long g.P.Part.reads (g.S.Source.told c.loop-input.from).left held all part_bytes
    (grind (arith, common_steps, c.loop-input-test.false, c.as_slice.ensures))
    none (c.loop-input.invariant.still all is)

pub returns-in-Refused-3-clause-answer : goal.returns-in-Refused-3-clause-answer
returns-in-Refused-3-clause-answer g c =
    let held = c.loop-input.input in
    let none = refused-none g.P.Part.reads g.P.Part.begun c.split_at.result.0.now (take part_bytes held)
    c.in_ok-len-3.field-0
    c.in-Refused-3.is (c.in_ok-len-3.ensures) (c.split_at.ensures.front ∙ ap (take part_bytes) c.as_slice-2.ensures) in
    λ all is. too_long g.P.Part.reads (g.S.Source.told c.loop-input.from).left held all part_bytes
    (grind (arith, common_steps, c.loop-input-test.false, c.as_slice.ensures))
    none (c.loop-input.invariant.still all is)
