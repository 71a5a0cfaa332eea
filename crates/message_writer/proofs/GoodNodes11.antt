-- The header blocks and Faults of SOAP 1.1 are nodes that may stand in a frame.
use Rattle.std.proofs.Common.{◌≡◌, ◌≢◌, ℕ, Bool, true, false, ◌||◌, if◌then◌else◌, List, [], ◌∷◌, ◌++◌, Option, Some}
use Rattle.std.proofs.Common.{None, IfSome, codes, refl, arith}
use Rattle.std.specs.List.{AllByRecursion}
use Rattle.std.specs.Str.{bytes_eq}
use Rattle.soap_lex.specs.Characters.{IsChars, IsName}
use Rattle.soap_lex.specs.Tests.{is_nil}
use Rattle.soap_document.specs.Profile.Namespaces.{xml_space, xmlns_space}
use Rattle.soap_document.specs.Profile.Tree.{Element}
use Rattle.soap_document.specs.declared.profile.name.Expanded.{Expanded}
use Rattle.soap_writer.specs.Frame.{frame_scope}
use Rattle.soap_writer.specs.Plain.{chars_from}
use Rattle.soap_writer.specs.Writable.{IsNameWritable, IsTextWritable}
use Rattle.soap_writer.specs.Nodes.Good.{IsTagGood, IsGood, AreGood}
use Rattle.soap_writer.specs.Nodes.Node.{tag_name, declared, bare}
use Rattle.rm_message.specs.Elements.Texts.{r, sequence_node}
use Rattle.rm_message.specs.declared.elements.header.SeqHeader.{SeqHeader}
use Rattle.rm_message.specs.declared.message.FaultBody.{FaultBody}
use Rattle.rm_message.specs.declared.message.FaultCode.{FaultCode}
use Rattle.rm_message.specs.declared.message.FaultCode.TheVariants.{VersionMismatch, MustUnderstand}
use Rattle.rm_message.specs.declared.message.FaultCode.TheVariants.{DataEncodingUnknown, Sender, Receiver}
use Rattle.message_writer.specs.declared.tag.Tag.TheVariants as tags
use Rattle.message_writer.specs.Faults11.{code11, code11_text, goes_ahead, plain_leaf, faultcode_of, faultcode_node}
use Rattle.message_writer.specs.Faults11.{is_told_ahead, held_in, detail11_nodes, fault11_node, sequence_fault_node}
use Rattle.message_writer.specs.Faults11.{ahead_nodes}
use Rattle.message_writer.specs.Rules.{IsSubcodeWritable, IsDetailWritable, IsFaultWritable}
use Rattle.message_writer.specs.Text11.{sequence_marked}
use Rattle.message_writer.proofs.GoodNodes.{plain_tag, chars-append, name_is_chars, qname_is_text, q_binds, words_good}
use Rattle.message_writer.proofs.GoodNodes.{elements_good}

-- ---- Sequence

pub sequence11_good : (soap : List ℕ) (x : SeqHeader) → IsGood soap 2 (frame_scope soap) (sequence_node x)
    → IsGood soap 2 (frame_scope soap) (sequence_marked (codes "1") x)
unfolding tag_name
sequence11_good soap x good =
    (record { named = refl; each = ((refl, chars_from (codes "1") refl), tt); resolved = refl }, good.1, good.2)

-- ---- SequenceFault

held_ahead : (soap : List ℕ) (es : List Element) → AllByRecursion IsDetailWritable es
    → AreGood soap 3 (frame_scope soap) (held_in (r (codes "Detail")) es)
unfolding tag_name
held_ahead soap [] all = tt
held_ahead soap (e ∷ es) all =
    ((record { named = refl; each = tt; resolved = refl }, omega arith, elements_good soap (e ∷ es) all), tt)

sequence_fault_good : (soap local : List ℕ) (es : List Element) → IsName local → AllByRecursion IsDetailWritable es
    → IsGood soap 2 (frame_scope soap) (sequence_fault_node local es)
unfolding tag_name
sequence_fault_good soap local es is all =
    let text : IsTextWritable (codes "r:" ++ local) = record {
      some = λ e. cc;
      chars = chars-append (codes "r:") local (chars_from (codes "r:") refl) (name_is_chars local is);
    } in (
      record { named = refl; each = tt; resolved = refl },
      omega arith,
      ((record { named = refl; each = tt; resolved = refl }, omega arith, text), held_ahead soap es all),
    )

ahead_at : (soap : List ℕ) (name : Expanded) (es : List Element) (t : Bool) → IsName name.local
    → AllByRecursion IsDetailWritable es
    → AllByRecursion (IsGood soap 2 (frame_scope soap)) (if t then sequence_fault_node name.local es ∷ [] else [])
ahead_at soap name es true is all = (sequence_fault_good soap name.local es is all, tt)
ahead_at soap name es false is all = tt

pub ahead_good : (soap : List ℕ) (subcode : Option Expanded) (es : List Element) → IfSome subcode IsSubcodeWritable
    → AllByRecursion IsDetailWritable es
    → AllByRecursion (IsGood soap 2 (frame_scope soap)) (ahead_nodes subcode es)
ahead_good soap None es is all = tt
ahead_good soap (Some name) es is all = ahead_at soap name es (goes_ahead name) is.writable.local all

-- ---- Fault

plain_code : (soap : List ℕ) (code : FaultCode)
    → IsGood soap 3 (frame_scope soap) (plain_leaf (codes "faultcode") (code11_text (code11 code)))
unfolding tag_name
plain_code soap VersionMismatch = (
  record { named = refl; each = tt; resolved = refl },
  omega arith,
  words_good soap 4 (frame_scope soap) (codes "s:VersionMismatch") (chars_from (codes "s:VersionMismatch") refl),
)
plain_code soap MustUnderstand = (
  record { named = refl; each = tt; resolved = refl },
  omega arith,
  words_good soap 4 (frame_scope soap) (codes "s:MustUnderstand") (chars_from (codes "s:MustUnderstand") refl),
)
plain_code soap DataEncodingUnknown = (record { named = refl; each = tt; resolved = refl }, omega arith, tt)
plain_code soap Sender = (
  record { named = refl; each = tt; resolved = refl },
  omega arith,
  words_good soap 4 (frame_scope soap) (codes "s:Client") (chars_from (codes "s:Client") refl),
)
plain_code soap Receiver = (
  record { named = refl; each = tt; resolved = refl },
  omega arith,
  words_good soap 4 (frame_scope soap) (codes "s:Server") (chars_from (codes "s:Server") refl),
)

named_by : (soap space : List ℕ) (none xml : Bool) → is_nil space ≡ none → bytes_eq space xml_space ≡ xml
    → space ≢ xmlns_space → IsChars space
    → IsTagGood soap (frame_scope soap) (bare (codes "faultcode"))
    (if none || xml then [] else declared (codes "q") space ∷ [])
unfolding tag_name
named_by soap space true xml e f differs chars = record { named = refl; each = tt; resolved = refl }
named_by soap space false true e f differs chars = record { named = refl; each = tt; resolved = refl }
named_by soap space false false e f differs chars = record {
  named = refl;
  each = ((refl, chars), tt);
  resolved = rw (q_binds space e f differs) refl;
}

faultcode_at : (soap : List ℕ) (code : FaultCode) (name : Expanded) (t : Bool) → IsNameWritable name
    → IsGood soap 3 (frame_scope soap) (faultcode_of code name t)
faultcode_at soap code name true is = plain_code soap code
faultcode_at soap code name false is = (
  named_by soap name.space (is_nil name.space) (bytes_eq name.space xml_space) refl refl is.no_xmlns is.space,
  omega arith,
  qname_is_text name is,
)

faultcode_good : (soap : List ℕ) (code : FaultCode) (subcode : Option Expanded) → IfSome subcode IsSubcodeWritable
    → IsGood soap 3 (frame_scope soap) (faultcode_node code subcode)
faultcode_good soap code None is = plain_code soap code
faultcode_good soap code (Some name) is = faultcode_at soap code name (goes_ahead name) is.writable

faultstring_good : (soap reason : List ℕ) → IsChars reason
    → IsGood soap 3 (frame_scope soap) (plain_leaf (codes "faultstring") reason)
unfolding tag_name
faultstring_good soap reason chars = (
  record { named = refl; each = tt; resolved = refl },
  omega arith,
  words_good soap 4 (frame_scope soap) reason chars,
)

held_plain : (soap : List ℕ) (es : List Element) → AllByRecursion IsDetailWritable es
    → AreGood soap 3 (frame_scope soap) (held_in (bare (codes "detail")) es)
unfolding tag_name
held_plain soap [] all = tt
held_plain soap (e ∷ es) all =
    ((record { named = refl; each = tt; resolved = refl }, omega arith, elements_good soap (e ∷ es) all), tt)

detail11_good : (soap : List ℕ) (t : Bool) (es : List Element) → AllByRecursion IsDetailWritable es
    → AreGood soap 3 (frame_scope soap) (detail11_nodes t es)
detail11_good soap true es all = tt
detail11_good soap false es all = held_plain soap es all

pub fault11_good : (soap : List ℕ) (f : FaultBody) → IsFaultWritable f
    → IsGood soap 2 (frame_scope soap) (fault11_node f)
fault11_good soap f is = (
  plain_tag soap tags.Fault,
  omega arith,
  (
    faultcode_good soap f.code f.subcode is.subcode,
    (
      faultstring_good soap f.reason is.reason,
      detail11_good soap (is_told_ahead f.subcode) f.detail is.detail,
    ),
  ),
)
