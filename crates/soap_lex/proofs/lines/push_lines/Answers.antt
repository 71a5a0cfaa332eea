use Rattle.std.proofs.Common.{ℕ, List, [], ◌∷◌, ◌++◌, length, take, ◌∙◌, ap, append_assoc, ◌≡◌, ◌+◌, true}
use Rattle.std.proofs.lemmas.List.{take_rest}
use Rattle.soap_lex.specs.Text.{with_line_ends, line_ends_after}
use Rattle.soap_lex.proofs.LineLemmas.{lines_step, lines_done, front_kept}
use Rattle.soap_lex.proofs.lines.push_lines.Goals as goal

pub loop-end-preserved : goal.loop-end-preserved
loop-end-preserved c =
    let run : List ℕ = take c.in-Some.end c.loop-end.rest.now in
    let pushed : c.push.new.self.items ≡ (c.loop-end.out.items ++ run) ++ 10 ∷ [] =
    c.in_ok-push.ensures.items ∙ ap (λ l. l ++ 10 ∷ []) c.in_ok-extend_from_slice.ensures.items in (
      ap (λ l. l ++ with_line_ends c.after_line_end-rest.result.now) pushed
          ∙ lines_step c.args.out.now.items c.loop-end.out.items c.loop-end.rest.now c.args.bytes.now
          c.after_line_end-rest.result.now c.in-Some.end
          c.loop-end.invariant.0 c.in-Some.ensures
          (c.after_line_end-rest.ensures.same
          ∙ ap (λ l. line_ends_after true l) (take_rest c.loop-end.rest.now (c.in-Some.end + 1))),
      ap (λ l. take (length c.args.out.now.items) l) (pushed ∙ append_assoc c.loop-end.out.items run (10 ∷ []))
          ∙ front_kept c.args.out.now.items c.loop-end.out.items (run ++ 10 ∷ []) c.loop-end.invariant.1,
    )

pub returns-clause-ok : goal.returns-clause-ok
returns-clause-ok c =
    c.in_ok-extend_from_slice-2.ensures.items
    ∙ lines_done c.args.out.now.items c.loop-end.out.items c.loop-end.rest.now c.args.bytes.now c.loop-end.invariant.0
    c.in_default.ensures
