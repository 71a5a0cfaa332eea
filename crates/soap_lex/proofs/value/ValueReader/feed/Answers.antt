use Rattle.std.proofs.Common.{◌≡◌, false, List, ℕ, ◌<◌, ◌+◌, drop, length, ap, sym, subst, ◌∙◌, arith}
use Rattle.memchr.specs.Find.{IsFirstByte}
use Rattle.soap_lex.specs.Readers.{value_state}
use Rattle.soap_lex.specs.ValueMachine.{ValueState, stops, halts}
use Rattle.soap_lex.proofs.TextFed.{within}
use Rattle.soap_lex.proofs.ValueFed.{fed_none, fed_some}
use Rattle.soap_lex.proofs.value.ValueReader.feed.Goals as goal
use Rattle.soap_lex.specs.ValueStops.{fed_halted}

pub returns-then-halts-clause-ok : goal.returns-then-halts-clause-ok
returns-then-halts-clause-ok c =
    let value : List ℕ = c.args.out.now.items in
    (omega arith, fed_halted (value_state c.args.self.now value) c.args.piece.now (sym (c.if-halts.ensures value)))

pub returns-in_default-clause-ok : goal.returns-in_default-clause-ok
returns-in_default-clause-ok c =
    let value : List ℕ = c.args.out.now.items in
    let s = value_state c.args.self.now value in
    let bytes : List ℕ = c.args.piece.now in
    let unended : halts s.mode ≡ false = sym (c.halts.ensures value) ∙ c.if-halts.false in
    let first : IsFirstByte (stops s.mode s.quote) bytes c.first_stop.result =
    subst (λ (q : ℕ). IsFirstByte (stops s.mode q) bytes c.first_stop.result) c.byte.ensures.is c.first_stop.ensures
    in (
      omega arith,
      fed_none s bytes c.first_stop.result first unended c.in_default.is
          ∙ ap (λ (t : List ℕ). (record s { token = t }, drop (length bytes) bytes))
          (sym c.in_ok-extend_from_slice.ensures.items),
    )

pub returns-clause-ok : goal.returns-clause-ok
returns-clause-ok c =
    let value : List ℕ = c.args.out.now.items in
    let s = value_state c.args.self.now value in
    let bytes : List ℕ = c.args.piece.now in
    let n = c.in-Some.end in
    let unended : halts s.mode ≡ false = sym (c.halts.ensures value) ∙ c.if-halts.false in
    let first : IsFirstByte (stops s.mode s.quote) bytes c.first_stop.result =
    subst (λ (q : ℕ). IsFirstByte (stops s.mode q) bytes c.first_stop.result) c.byte.ensures.is c.first_stop.ensures in
    let high : n < length bytes = within (stops s.mode s.quote) bytes c.first_stop.result first n c.in-Some.is in (
      omega arith,
      fed_some s bytes c.first_stop.result first unended n c.in-Some.is
          ∙ ap (λ (t : ValueState). (t, drop (n + 1) bytes)) (sym c.in_ok-at_token.ensures.ok),
    )
