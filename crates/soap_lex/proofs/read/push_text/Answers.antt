use Rattle.std.proofs.Common.{ℕ, ◌-◌, List, length, sym, subst, ◌∙◌}
use Rattle.std.proofs.lemmas.List.{take_rest}
use Rattle.std.proofs.lemmas.Result.{err_from_is_err_and}
use Rattle.soap_lex.specs.Cut.{IsTextFirst}
use Rattle.soap_lex.proofs.AnswerLemmas.{OnRefusal-weaker}
use Rattle.soap_lex.proofs.TextWhole.{left_within, text_found, text_only, text_refused}
use Rattle.soap_lex.proofs.read.push_text.Goals as goal

pub returns-in_err-left-clause-refused : goal.returns-in_err-left-clause-refused
returns-in_err-left-clause-refused c =
    let exit = err_from_is_err_and c.from_residual.result c.from_residual.ensures.1 in
    rw (exit.1, exit.2) (OnRefusal-weaker c.in_err-left.field-0.0 _ _
    (text_refused c.args.bytes.now c.args.out.now.items)
    c.in_err-left.ensures.refused)

pub overflow_sub-result : goal.overflow_sub-result
overflow_sub-result c =
    left_within c.args.out.now.items c.args.bytes.now c.run_text.new.out.items c.in_ok-left.left c.in_ok-left.ensures.ok

pub returns-clause-found : goal.returns-clause-found
returns-clause-found c =
    let bytes : List ℕ = c.args.bytes.now in
    let n : ℕ = c.in_ok-left.left in
    let found = text_found bytes c.args.out.now.items c.run_text.new.out.items n c.in_ok-left.ensures.ok in (
      found.0,
      found.1,
      subst (λ (l : List ℕ). IsTextFirst bytes found.0 l found.1) (sym (take_rest bytes (length bytes - n)))
          found.2,
      found.3,
    )

pub returns-clause-only : goal.returns-clause-only
returns-clause-only c = λ text rest meaning cut.
    let bytes : List ℕ = c.args.bytes.now in
    let n : ℕ = c.in_ok-left.left in
    text_only bytes c.args.out.now.items c.run_text.new.out.items n c.in_ok-left.ensures.ok text rest meaning cut
    ∙ sym (take_rest bytes (length bytes - n))
