use Rattle.std.proofs.Common.{◌≡◌, ◌++◌, take, sym, ◌∙◌, ap}
use Rattle.std.specs.Prelude.{encode_utf8}
use Rattle.std.specs.List.{list_any}
use Rattle.std.proofs.lemmas.Str.{chars_past_char}
use Rattle.std.proofs.Math.Bool.{or-false}
use Rattle.xml_chars.specs.Classes.{is_name_start}
use Rattle.soap_lex.proofs.tokens.begins_name.Goals as goal

pub returns-in-Some : goal.returns-in-Some
returns-in-Some c =
    let split : c.args.text.now ≡ encode_utf8 c.in-Some.first ++ c.next.new.self.rest.now = sym c.chars.ensures.rest
    ∙ c.in-Some.ensures.steps.0 in
    c.is_name_start.ensures ∙ sym (or-false (is_name_start c.in-Some.first))
    ∙ sym (ap (λ cs. list_any is_name_start (take 1 cs))
    (chars_past_char c.args.text.now c.next.new.self.rest.now c.in-Some.first c.utf8.text split))
