use Rattle.std.proofs.Common.{codes, refl, sym, ◌∙◌}
use Rattle.soap_lex.specs.Readers.{text_state}
use Rattle.soap_lex.specs.TextMachine.{stay}
use Rattle.soap_lex.proofs.TextRead.{begins_at, comment_begins, cdata_begins}
use Rattle.soap_lex.proofs.text.TextReader.open.Goals as goal

pub returns-then-not-is_less-clause-takes : goal.returns-then-not-is_less-clause-takes
returns-then-not-is_less-clause-takes c = λ text. stay (text_state c.args.self.now text)

pub returns-then-begins_comment-clause-takes : goal.returns-then-begins_comment-clause-takes
returns-then-begins_comment-clause-takes c = λ text.
    begins_at text (text_state c.args.self.now text) _ _ (codes "!--") _ refl
    (sym (c.is_less.ensures text) ∙ c.if-not-is_less.false) (comment_begins text)
    (c.if-begins_comment.ensures.word refl) (c.begin.ensures text)

pub returns-then-begins_cdata-clause-takes : goal.returns-then-begins_cdata-clause-takes
returns-then-begins_cdata-clause-takes c = λ text.
    begins_at text (text_state c.args.self.now text) _ _ (codes "![CDATA[") _ refl
    (sym (c.is_less.ensures text) ∙ c.if-not-is_less.false) (cdata_begins text)
    (c.if-begins_cdata.ensures.word refl) (c.begin-then-begins_cdata.ensures text)

pub returns-clause-takes : goal.returns-clause-takes
returns-clause-takes c = λ text. stay (text_state c.args.self.now text)
