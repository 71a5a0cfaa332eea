use Rattle.std.proofs.Common.{ℕ, ◌+◌, List, sym, ◌∙◌, subst}
use Rattle.soap_lex.proofs.NameLemmas.{NameSo, NameSo-step, NameSo-stopped, NameSo-ended, empty_rest}
use Rattle.soap_lex.proofs.read.name_chars_len.Goals as goal

pub loop-c-preserved : goal.loop-c-preserved
loop-c-preserved c =
    let P : ℕ → Type 0 = λ n. NameSo c.args.text.now c.next.new.self.rest.now (c.loop-c.end + n) in
    subst P (sym c.len_utf8-end.ensures.len)
    (NameSo-step c.args.text.now c.loop-c.characters.rest.now c.next.new.self.rest.now c.loop-c.end c.in-Some.c
    c.loop-c.invariant
    c.in-Some.ensures.steps.0 (sym c.is_name_char.ensures ∙ c.if-not-is_name_char.false))

pub returns-then-not-is_name_char : goal.returns-then-not-is_name_char
returns-then-not-is_name_char c =
    NameSo-stopped c.args.text.now c.loop-c.characters.rest.now c.next.new.self.rest.now c.loop-c.end c.in-Some.c
    c.loop-c.invariant
    c.in-Some.ensures.steps.0 (sym c.is_name_char.ensures ∙ c.if-not-is_name_char.true)

pub returns : goal.returns
returns c =
    let P : List ℕ → Type 0 = λ l. NameSo c.args.text.now l c.loop-c.end in
    NameSo-ended c.args.text.now c.loop-c.end
    (subst P (empty_rest c.loop-c.characters.rest.now c.in_default.ensures.steps.0.0) c.loop-c.invariant)
