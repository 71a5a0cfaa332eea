-- Nodes before others.
use Rattle.std.proofs.Common.{◌≡◌, ◌&&◌, ◌++◌, Bool, true, false, if◌then◌else◌, ℕ, List, [], ◌∷◌, Option, Some}
use Rattle.std.proofs.Common.{None, nat_eq, codes, refl, sym, ap, ◌∙◌, append_assoc}
use Rattle.std.proofs.lemmas.List.{append-nil}
use Rattle.soap_writer.specs.Nodes.Node.{Tag, tag_name, Note, note_text, begin_text, Node, Nodes, void, nothing, more}
use Rattle.soap_writer.specs.Nodes.Node.{leaf}
use Rattle.soap_writer.specs.Nodes.Node.{each_node, node_text, nodes_text}
use Rattle.rm_message.specs.Elements.Texts.{tag_of, kind_nodes, range_node, nack_node, expires_before, lapse_text}
use Rattle.rm_message.specs.Elements.Texts.{address_before}
use Rattle.rm_message.specs.declared.elements.header.AckKind.{AckKind}
use Rattle.rm_message.specs.declared.elements.header.AckKind.TheVariants.{Ranges, Nothing, Nack}
use Rattle.rm_base.specs.declared.lapse.Lapse.{Lapse}
use Rattle.rm_message.specs.declared.elements.tag.Tag.TheVariants as tags

each_first : {A : Type 0} (f : A → Node) (xs : List A) (others : Nodes)
    → nodes_text (each_node f xs others) ≡ nodes_text (each_node f xs nothing) ++ nodes_text others
each_first f [] others = refl
each_first f (x ∷ xs) others =
    ap (λ l. node_text (f x) ++ l) (each_first f xs others)
    ∙ sym (append_assoc (node_text (f x)) (nodes_text (each_node f xs nothing)) (nodes_text others))

one_first : (n : Node) (others : Nodes) → nodes_text (more n others) ≡ nodes_text (more n nothing) ++ nodes_text others
one_first n others = ap (λ l. l ++ nodes_text others) (sym (append-nil (node_text n)))

pub kind_first : (kind : AckKind) (others : Nodes)
    → nodes_text (kind_nodes kind others) ≡ nodes_text (kind_nodes kind nothing) ++ nodes_text others
kind_first (Ranges ranges) others = each_first range_node ranges others
kind_first Nothing others = one_first (void (tag_of tags.NoRange) []) others
kind_first (Nack numbers) others = each_first nack_node numbers others

by_test : (test : Bool) (n : Node) (others : Nodes)
    → nodes_text (if test then others else more n others)
    ≡ nodes_text (if test then nothing else more n nothing) ++ nodes_text others
by_test true n others = refl
by_test false n others = one_first n others

pub expires_first : (lapse : Lapse) (others : Nodes)
    → nodes_text (expires_before lapse others) ≡ nodes_text (expires_before lapse nothing) ++ nodes_text others
expires_first lapse others =
    by_test (nat_eq lapse.months 0 && nat_eq lapse.ms 0) (leaf (tag_of tags.Expires) (lapse_text lapse)) others

pub address_first : (address : Option (List ℕ)) (others : Nodes)
    → nodes_text (address_before address others) ≡ nodes_text (address_before address nothing) ++ nodes_text others
address_first None others = refl
address_first (Some uri) others = one_first (leaf (tag_of tags.Address) uri) others

-- an empty element with one attribute, behind other bytes
pub marked_text : (out : List ℕ) (tag : Tag) (mark : Note)
    → ((out ++ begin_text (tag_name tag)) ++ note_text mark) ++ codes "/>" ≡ out ++ node_text (void tag (mark ∷ []))
marked_text out tag mark =
    let b = begin_text (tag_name tag) in
    let m = note_text mark in
    append_assoc (out ++ b) m (codes "/>") ∙ append_assoc out b (m ++ codes "/>")
    ∙ ap (λ l. out ++ (b ++ (l ++ codes "/>"))) (sym (append-nil m))
