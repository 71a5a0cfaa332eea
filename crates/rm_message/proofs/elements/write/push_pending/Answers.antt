use Rattle.std.proofs.Common.{◌∙◌, ◌++◌, ap, codes}
use Rattle.soap_writer.specs.Nodes.Node.{begin_text, note_text, plain}
use Rattle.rm_message.specs.Elements.Texts.{tag_of, flag_text}
use Rattle.rm_message.specs.declared.elements.tag.Tag.TheVariants as tags
use Rattle.rm_message.proofs.ElementsLemmas.NodeLemmas.{marked_text}
use Rattle.rm_message.proofs.elements.write.push_pending.Goals as goal

pub returns : goal.returns
returns c =
    let out = c.args.out.now.items in
    let mark = plain (codes "pending") (flag_text c.args.pending) in
    c.in_ok-push_bytes.ensures.ok
    ∙ ap (λ l. l ++ codes "/>") (c.in_ok-push_attribute.ensures.ok
    ∙ ap (λ v. c.push_begin.new.out.items ++ note_text (plain (codes "pending") v)) c.flag.ensures
    ∙ ap (λ l. l ++ note_text mark) (c.in_ok-push_begin.ensures.ok ∙ ap (λ n. out ++ begin_text n) c.name.ensures))
    ∙ marked_text out (tag_of tags.MessagePending) mark
