-- The text of a message of SOAP 1.1 is an envelope.
use Rattle.std.proofs.Common.{ℕ, List, [], Option, Some, None, IfSome, codes, map, refl}
use Rattle.std.specs.Prelude.{option_map}
use Rattle.std.specs.Option.{option_to_list}
use Rattle.soap_envelope.specs.Envelope.{IsEnvelope}
use Rattle.soap_envelope.specs.Soap.{soap11_space}
use Rattle.soap_writer.specs.Frame.{frame_scope}
use Rattle.soap_writer.specs.Plain.{chars_from}
use Rattle.soap_writer.specs.ReadBack.{ContentReadsAs}
use Rattle.soap_envelope.specs.Frame.Framed.{MayBeSoap, framed_envelope}
use Rattle.soap_writer.specs.Nodes.Node.{node_tree}
use Rattle.rm_message.specs.Elements.Writable.{IsSequenceWritable}
use Rattle.rm_message.specs.declared.elements.header.Header.TheVariants as headers
use Rattle.rm_message.specs.declared.elements.header.SeqHeader.{SeqHeader}
use Rattle.rm_message.specs.declared.message.Body.{Body}
use Rattle.rm_message.specs.declared.message.Body.TheVariants as body
use Rattle.rm_message.specs.declared.message.Message.{Message}
use Rattle.message_writer.specs.Faults11.{fault11_node}
use Rattle.message_writer.specs.Rules.{IsBodyWritable, KeepsRules, header_rules}
use Rattle.message_writer.specs.Text11.{sequence_marked, ahead_of, header11_blocks, body11_text, message11_text}
use Rattle.message_writer.specs.Text11.{body11_parts}
use Rattle.message_writer.proofs.Framing.{Known, Fit, with_fit, around, alone, body_reads}
use Rattle.message_writer.proofs.GoodNodes11.{sequence11_good, ahead_good, fault11_good}

abbrev soap : List ℕ
soap = soap11_space

soap_may : MayBeSoap soap
soap_may = record { chars = chars_from soap refl; bindable = refl }

sequence11_fit : Known → (x : Option SeqHeader) → IfSome x IsSequenceWritable
    → Fit soap (option_to_list (option_map (sequence_marked (codes "1")) x))
sequence11_fit known None is = tt
sequence11_fit known (Some x) is = (sequence11_good soap x (known.header soap (headers.Sequence x) is), tt)

ahead_fit : (b : Body) → IsBodyWritable soap b → Fit soap (ahead_of b)
ahead_fit body.Empty rules = tt
ahead_fit (body.Payload p) rules = tt
ahead_fit (body.Lifecycle x) rules = tt
ahead_fit (body.Fault f) rules = ahead_good soap f.subcode f.detail rules.subcode rules.detail

body11_reads : Known → (b : Body) (rules : IsBodyWritable soap b) (at : ℕ)
    → ContentReadsAs 2 at (frame_scope soap) (body11_text b) (body11_parts b rules)
body11_reads known body.Empty rules at = body_reads known soap body.Empty rules at
body11_reads known (body.Payload p) rules at = body_reads known soap (body.Payload p) rules at
body11_reads known (body.Lifecycle x) rules at = body_reads known soap (body.Lifecycle x) rules at
body11_reads known (body.Fault f) rules at = alone known soap (fault11_node f) (fault11_good soap f rules) at

pub text11_envelope : Known → (m : Message) (rules : KeepsRules soap m)
    → IsEnvelope soap (message11_text m) (framed_envelope soap (map (node_tree soap) (header11_blocks m))
    (body11_text m.body) (body11_parts m.body rules.body))
text11_envelope known m rules =
    around known soap soap_may (header11_blocks m)
    (with_fit known soap (codes "1") m (ahead_of m.body) (header_rules soap m rules)
    (sequence11_fit known m.sequence rules.sequence) (ahead_fit m.body rules.body))
    (body11_text m.body) (body11_parts m.body rules.body) (body11_reads known m.body rules.body)
