use Rattle.std.proofs.Common.{◌≡◌, ◌<◌, ◌-◌, ℕ, List, ◌++◌, length, take, drop, ap, ◌∙◌}
use Rattle.soap_lex.proofs.EscapeLemmas.{Escaped-plain, Escaped-reference, Escaped-moved}
use Rattle.soap_lex.proofs.write.push_escaped.Goals.{in-Some+in_ok-extend_from_slice+in_ok-extend_from_slice-2}
use Rattle.soap_lex.proofs.write.push_escaped.Goals.{in_default}
use Rattle.soap_lex.proofs.write.push_escaped.Goals as goal

pub loop-i-preserved : goal.loop-i-preserved
loop-i-preserved c =
    let bytes : List ℕ = c.args.bytes.now in
    let old : List ℕ = c.args.out.now.items in
    let before : List ℕ = c.loop-i.out.items in
    let run : List ℕ = take (c.loop-i.i - c.loop-i.start) (drop c.loop-i.start bytes) in
    let within : c.loop-i.i < length bytes = c.loop-i-test.true in
    elim c.match-escape.branch [
      | in-Some+in_ok-extend_from_slice+in_ok-extend_from_slice-2 w ↦
          let pushed : c.match-escape.out.items ≡ (before ++ run) ++ w.in-Some.reference.now =
          ap (λ v. v.items) w.out-is ∙ w.in_ok-extend_from_slice-2.ensures.items
          ∙ ap (λ l. l ++ w.in-Some.reference.now) w.in_ok-extend_from_slice.ensures.items in
          Escaped-moved c.args.quoted old bytes pushed w.start-is
          (Escaped-reference c.args.quoted old bytes before w.in-Some.reference.now c.loop-i.start c.loop-i.i
          c.loop-i.invariant within
          w.in-Some.ensures.some)
      | in_default w ↦
          Escaped-moved c.args.quoted old bytes (ap (λ v. v.items) w.out-is) w.start-is
          (Escaped-plain c.args.quoted old bytes before c.loop-i.start c.loop-i.i c.loop-i.invariant within
          w.in_default.ensures.none)
    ]
