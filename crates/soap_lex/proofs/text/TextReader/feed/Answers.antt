use Rattle.std.proofs.Common.{List, ℕ, ◌<◌, ◌+◌, drop, length, ap, sym, ◌∙◌, arith}
use Rattle.soap_lex.specs.Readers.{text_state}
use Rattle.soap_lex.specs.TextMachine.{TextState, stops}
use Rattle.soap_lex.proofs.TextFed.{fed_none, fed_some, fed_halted, within}
use Rattle.soap_lex.proofs.text.TextReader.feed.Goals as goal

pub returns-in_default-clause-ok : goal.returns-in_default-clause-ok
returns-in_default-clause-ok c =
    let s = text_state c.args.self.now c.args.out.now.items in
    let bytes : List ℕ = c.args.piece.now in (
      omega arith,
      fed_none s bytes c.first_stop.result c.first_stop.ensures c.in_default.is
          ∙ ap (λ (t : List ℕ). (record s { token = t }, drop (length bytes) bytes))
          (sym c.in_ok-extend_from_slice.ensures.items),
    )

pub returns-then-halts-clause-ok : goal.returns-then-halts-clause-ok
returns-then-halts-clause-ok c =
    let text : List ℕ = c.args.out.now.items in (
      omega arith,
      fed_halted (text_state c.args.self.now text) c.args.piece.now c.first_stop.result
          c.first_stop.ensures c.in-Some.end c.in-Some.is (sym (c.if-halts.ensures text)),
    )

pub returns-clause-ok : goal.returns-clause-ok
returns-clause-ok c =
    let text : List ℕ = c.args.out.now.items in
    let s = text_state c.args.self.now text in
    let bytes : List ℕ = c.args.piece.now in
    let n = c.in-Some.end in
    let high : n < length bytes = within (stops s.mode) bytes c.first_stop.result c.first_stop.ensures n c.in-Some.is
    in (
      omega arith,
      fed_some s bytes c.first_stop.result c.first_stop.ensures n c.in-Some.is
          (sym (c.halts.ensures text) ∙ c.if-halts.false)
          ∙ ap (λ (t : TextState). (t, drop (n + 1) bytes)) (sym c.in_ok-at_token.ensures.ok),
    )
