-- Names in values, header blocks and Faults are nodes that may stand in a frame.
use Rattle.std.proofs.Common.{◌≡◌, ◌≢◌, ◌<◌, ℕ, suc, inl, inr, Bool, true, false, ◌&&◌, ◌||◌, nat_le, if◌then◌else◌}
use Rattle.std.proofs.Common.{List, [], ◌∷◌, ◌++◌, Option, Some, None, IfSome, codes, refl, sym, ap, ◌∙◌, arith}
use Rattle.std.specs.Prelude.{IsTrue, encode_utf8_all, length}
use Rattle.std.proofs.lemmas.Str.{encodes-append, length-le-encodes}
use Rattle.std.specs.List.{AllByRecursion, list_all}
use Rattle.std.specs.Str.{bytes_eq}
use Rattle.std.proofs.lemmas.Bool.{and_parts, or_cases}
use Rattle.std.proofs.lemmas.Bool.Decides.{nat_tests}
use Rattle.std.proofs.lemmas.Slice.Eq.{bytes_eq-Decides}
use Rattle.xml_chars.specs.Classes.{is_within, is_char, is_name_start, is_name_char, name_start_ranges}
use Rattle.xml_chars.specs.Classes.{name_more_ranges}
use Rattle.rm_base.specs.declared.message.Binding.{Binding}
use Rattle.soap_lex.specs.Characters.{IsChars, IsName}
use Rattle.soap_lex.specs.Scalars.{name_each}
use Rattle.soap_document.specs.Grammar.{max_depth}
use Rattle.soap_lex.specs.Tests.{is_nil}
use Rattle.soap_document.specs.Profile.Namespaces.{xml_space, xmlns_space, may_bind}
use Rattle.soap_document.specs.Profile.Tree.{Element}
use Rattle.soap_document.specs.declared.profile.name.Expanded.{Expanded}
use Rattle.soap_writer.specs.Frame.{frame_scope}
use Rattle.soap_writer.specs.Plain.{chars_from}
use Rattle.soap_writer.specs.Writable.{IsNameWritable, IsTextWritable}
use Rattle.soap_writer.specs.Nodes.Good.{IsTagGood, IsGood, AreGood}
use Rattle.soap_writer.specs.Nodes.Node.{tag_name, plain, declared, Nodes, nothing}
use Rattle.wsa_headers.specs.Texts.{params_nodes}
use Rattle.rm_message.specs.declared.message.FaultBody.{FaultBody}
use Rattle.rm_message.specs.declared.message.FaultCode.{FaultCode}
use Rattle.rm_message.specs.declared.message.FaultCode.TheVariants.{VersionMismatch, MustUnderstand}
use Rattle.rm_message.specs.declared.message.FaultCode.TheVariants.{DataEncodingUnknown, Sender, Receiver}
use Rattle.message_writer.specs.declared.tag.Tag.{Tag}
use Rattle.message_writer.specs.declared.tag.Tag.TheVariants as tags
use Rattle.message_writer.specs.Rules.{IsSubcodeWritable, IsDetailWritable, IsFaultWritable}
use Rattle.message_writer.specs.Text.{tag_of, qname, not_understood_node, code_text, value_node, subcode_nodes}
use Rattle.message_writer.specs.Text.{code_node, words_of, reason_node, detail_nodes, fault_node}

pub plain_tag : (soap : List ℕ) (t : Tag) → IsTagGood soap (frame_scope soap) (tag_of t) []
unfolding tag_name
plain_tag soap tags.NotUnderstood = record { named = refl; each = tt; resolved = refl }
plain_tag soap tags.Fault = record { named = refl; each = tt; resolved = refl }
plain_tag soap tags.Code = record { named = refl; each = tt; resolved = refl }
plain_tag soap tags.Value = record { named = refl; each = tt; resolved = refl }
plain_tag soap tags.Subcode = record { named = refl; each = tt; resolved = refl }
plain_tag soap tags.Reason = record { named = refl; each = tt; resolved = refl }
plain_tag soap tags.Text = record { named = refl; each = tt; resolved = refl }
plain_tag soap tags.Detail = record { named = refl; each = tt; resolved = refl }

-- ---- the characters of names

-- a range of characters of XML
abbrev has_chars : (ℕ × ℕ) → Bool
has_chars range =
    (nat_le 0x20 range.0 && nat_le range.1 0xD7FF) || (nat_le 0xE000 range.0 && nat_le range.1 0xFFFD)
    || (nat_le 0x10000 range.0 && nat_le range.1 0x10FFFF)

char_in : (low high c : ℕ)
    → ((nat_le 0x20 low && nat_le high 0xD7FF) || (nat_le 0xE000 low && nat_le high 0xFFFD)
    || (nat_le 0x10000 low && nat_le high 0x10FFFF)) ≡ true
    → (nat_le low c && nat_le c high) ≡ true → is_char c ≡ true
char_in low high c fits within = grind (arith, nat_tests)

char_within : (ranges : List (ℕ × ℕ)) (c : ℕ) → list_all has_chars ranges ≡ true → is_within ranges c ≡ true
    → is_char c ≡ true
char_within [] c fits within = cc
char_within (range ∷ ranges) c fits within =
    let (here, later) = and_parts (has_chars range) (list_all has_chars ranges) fits in
    elim (or_cases (nat_le range.0 c && nat_le c range.1) (is_within ranges c) within) [
      | inl now ↦ char_in range.0 range.1 c here now
      | inr behind ↦ char_within ranges c later behind
    ]

name_char : (c : ℕ) → is_name_char c ≡ true → is_char c ≡ true
name_char c h =
    elim (or_cases (is_name_start c) (is_within name_more_ranges c) h) [
      | inl starts ↦ char_within name_start_ranges c refl starts
      | inr others ↦ char_within name_more_ranges c refl others
    ]

name_chars : (cs : List ℕ) → AllByRecursion (λ c. is_name_char c ≡ true) cs
    → AllByRecursion (λ c. IsTrue (is_char c)) cs
name_chars [] all = tt
name_chars (c ∷ cs) all = (name_char c all.0, name_chars cs all.1)

each-append : (xs ys : List ℕ) → AllByRecursion (λ c. IsTrue (is_char c)) xs
    → AllByRecursion (λ c. IsTrue (is_char c)) ys → AllByRecursion (λ c. IsTrue (is_char c)) (xs ++ ys)
each-append [] ys a b = b
each-append (x ∷ xs) ys a b = (a.0, each-append xs ys a.1 b)

pub chars-append : (xs ys : List ℕ) → IsChars xs → IsChars ys → IsChars (xs ++ ys)
chars-append xs ys a b = record {
  characters = a.characters ++ b.characters;
  each = each-append a.characters b.characters a.each b.each;
  coded = ap (λ l. l ++ ys) a.coded ∙ ap (λ l. encode_utf8_all a.characters ++ l) b.coded
      ∙ sym (encodes-append a.characters b.characters);
}

pub name_is_chars : (local : List ℕ) → IsName local → IsChars local
name_is_chars local is =
    let each = name_chars (is.first ∷ is.others) (name_each local is) in
    record { characters = is.first ∷ is.others; each = each; coded = is.coded }

coded_more : (c : ℕ) (cs : List ℕ) → encode_utf8_all (c ∷ cs) ≡ [] → ⊥
coded_more c cs e = absurd (omega (arith, length-le-encodes (c ∷ cs), ap length e))

name_is_text : (local : List ℕ) → IsName local → IsTextWritable local
name_is_text local is =
    record { some = λ e. coded_more is.first is.others (sym is.coded ∙ e); chars = name_is_chars local is }

-- ---- names in values

-- by the two tests that decide how it is written
written_text : (bare xml : Bool) (local : List ℕ) → IsName local
    → IsTextWritable (if bare then local else if xml then codes "xml:" ++ local else codes "q" ++ (codes ":" ++ local))
written_text true xml local is = name_is_text local is
written_text false true local is = record {
  some = λ e. cc;
  chars = chars-append (codes "xml:") local (chars_from (codes "xml:") refl) (name_is_chars local is);
}
written_text false false local is = record {
  some = λ e. cc;
  chars = chars-append (codes "q:") local (chars_from (codes "q:") refl) (name_is_chars local is);
}

pub qname_is_text : (name : Expanded) → IsNameWritable name → IsTextWritable (qname name)
qname_is_text name is = written_text (is_nil name.space) (bytes_eq name.space xml_space) name.local is.local

-- its prefix may be bound to its namespace, where it is written
other_bytes : (b : Bool) (xs ys : List ℕ) → bytes_eq xs ys ≡ b → xs ≢ ys → b ≡ false
other_bytes true xs ys e other = absurd (other ((bytes_eq-Decides xs ys).0 e))
other_bytes false xs ys e other = refl

pub q_binds : (space : List ℕ) → is_nil space ≡ false → bytes_eq space xml_space ≡ false → space ≢ xmlns_space
    → may_bind (codes "q") space ≡ true
q_binds space some other differs = rw (some, other, other_bytes _ space xmlns_space refl differs) refl

-- a tag NotUnderstood and a tag Value with a name, by the two tests
not_understood_by : (soap space value : List ℕ) (bare xml : Bool) → is_nil space ≡ bare
    → bytes_eq space xml_space ≡ xml → space ≢ xmlns_space → IsChars space → IsChars value
    → IsTagGood soap (frame_scope soap) (tag_of tags.NotUnderstood)
    (plain (codes "qname") value ∷ (if bare || xml then [] else declared (codes "q") space ∷ []))
unfolding tag_name
not_understood_by soap space value true xml e f differs chars text =
    record { named = refl; each = ((refl, text), tt); resolved = refl }
not_understood_by soap space value false true e f differs chars text =
    record { named = refl; each = ((refl, text), tt); resolved = refl }
not_understood_by soap space value false false e f differs chars text = record {
  named = refl;
  each = ((refl, text), ((refl, chars), tt));
  resolved = rw (q_binds space e f differs) refl;
}

value_by : (soap space : List ℕ) (bare xml : Bool) → is_nil space ≡ bare → bytes_eq space xml_space ≡ xml
    → space ≢ xmlns_space → IsChars space
    → IsTagGood soap (frame_scope soap) (tag_of tags.Value)
    (if bare || xml then [] else declared (codes "q") space ∷ [])
unfolding tag_name
value_by soap space true xml e f differs chars = record { named = refl; each = tt; resolved = refl }
value_by soap space false true e f differs chars = record { named = refl; each = tt; resolved = refl }
value_by soap space false false e f differs chars = record {
  named = refl;
  each = ((refl, chars), tt);
  resolved = rw (q_binds space e f differs) refl;
}

pub not_understood_good : (soap : List ℕ) (name : Expanded) → IsNameWritable name
    → IsGood soap 2 (frame_scope soap) (not_understood_node name)
not_understood_good soap name is = (
  not_understood_by soap name.space (qname name) (is_nil name.space) (bytes_eq name.space xml_space) refl refl
      is.no_xmlns is.space (qname_is_text name is).chars,
  omega arith,
)

value_good : (soap : List ℕ) (depth : ℕ) (name : Expanded) → IsNameWritable name → depth < max_depth
    → IsGood soap depth (frame_scope soap) (value_node name)
value_good soap depth name is room = (
  value_by soap name.space (is_nil name.space) (bytes_eq name.space xml_space) refl refl is.no_xmlns is.space,
  room,
  qname_is_text name is,
)

-- ---- Faults

code_is_text : (code : FaultCode) → IsTextWritable (code_text code)
code_is_text VersionMismatch = record { some = λ e. cc; chars = chars_from (codes "s:VersionMismatch") refl }
code_is_text MustUnderstand = record { some = λ e. cc; chars = chars_from (codes "s:MustUnderstand") refl }
code_is_text DataEncodingUnknown = record { some = λ e. cc; chars = chars_from (codes "s:DataEncodingUnknown") refl }
code_is_text Sender = record { some = λ e. cc; chars = chars_from (codes "s:Sender") refl }
code_is_text Receiver = record { some = λ e. cc; chars = chars_from (codes "s:Receiver") refl }

subcode_good : (soap : List ℕ) (depth : ℕ) (name : Option Expanded) (inner : Nodes) → IfSome name IsSubcodeWritable
    → suc depth < max_depth → AreGood soap (suc depth) (frame_scope soap) inner
    → AreGood soap depth (frame_scope soap) (subcode_nodes name inner)
subcode_good soap depth None inner is room good = tt
subcode_good soap depth (Some name) inner is room good =
    ((plain_tag soap tags.Subcode, omega arith, (value_good soap (suc depth) name is.writable room, good)), tt)

code_good : (soap : List ℕ) (f : FaultBody) → IsFaultWritable f → IsGood soap 3 (frame_scope soap) (code_node f)
code_good soap f is = (
  plain_tag soap tags.Code,
  omega arith,
  (
    (plain_tag soap tags.Value, omega arith, code_is_text f.code),
    subcode_good soap 4 f.subcode (subcode_nodes f.inner nothing) is.subcode (omega arith)
        (subcode_good soap 5 f.inner nothing is.inner (omega arith) tt),
  ),
)

pub words_good : (soap : List ℕ) (depth : ℕ) (scope : List Binding) (bytes : List ℕ) → IsChars bytes
    → AreGood soap depth scope (words_of bytes)
words_good soap depth scope [] chars = tt
words_good soap depth scope (byte ∷ bytes) chars = record { some = λ e. cc; chars = chars }

reason_good : (soap reason : List ℕ) → IsChars reason → IsGood soap 3 (frame_scope soap) (reason_node reason)
unfolding tag_name
reason_good soap reason chars = (
  plain_tag soap tags.Reason,
  omega arith,
  (
    (
      record { named = refl; each = ((refl, chars_from (codes "en") refl), tt); resolved = refl },
      omega arith,
      words_good soap 5 (frame_scope soap) reason chars,
    ),
    tt,
  ),
)

pub elements_good : (soap : List ℕ) (es : List Element) → AllByRecursion IsDetailWritable es
    → AreGood soap 4 (frame_scope soap) (params_nodes false es)
elements_good soap [] all = tt
elements_good soap (e ∷ es) all = (
  record { writable = all.0.writable; shallow = omega (arith, all.0.shallow); no_default = refl; mark = tt },
  elements_good soap es all.1,
)

detail_good : (soap : List ℕ) (es : List Element) → AllByRecursion IsDetailWritable es
    → AreGood soap 3 (frame_scope soap) (detail_nodes es)
detail_good soap [] all = tt
detail_good soap (e ∷ es) all =
    ((plain_tag soap tags.Detail, omega arith, elements_good soap (e ∷ es) all), tt)

pub fault_good : (soap : List ℕ) (f : FaultBody) → IsFaultWritable f → IsGood soap 2 (frame_scope soap) (fault_node f)
fault_good soap f is = (
  plain_tag soap tags.Fault,
  omega arith,
  (code_good soap f is, (reason_good soap f.reason is.reason, detail_good soap f.detail is.detail)),
)
