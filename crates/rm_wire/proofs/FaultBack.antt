-- A fault is read back as it was written.
use Rattle.std.proofs.Common.{◌≡◌, ℕ, true, false, List, [], ◌∷◌, ◌++◌, Option, Some, None, codes, map, refl}
use Rattle.std.proofs.Common.{sym, ap, ◌∙◌, IfSome}
use Rattle.std.specs.Prelude.{IsSome}
use Rattle.std.specs.List.{AllByRecursion, flat_map}
use Rattle.std.proofs.lemmas.List.{append-nil}
use Rattle.rm_base.specs.declared.message.Binding.{Binding}
use Rattle.soap_lex.specs.Facts.{equal, not_nil}
use Rattle.soap_document.specs.Profile.Tree.{Element, element, Parts, child, decls_of, children_of}
use Rattle.soap_document.specs.Profile.Tree.{without_declarations}
use Rattle.soap_document.specs.declared.profile.name.Expanded.{Expanded}
use Rattle.soap_document.specs.declared.profile.tree.Attr.{Attr}
use Rattle.soap_envelope.specs.Frame.Framed.{sorted_scope}
use Rattle.soap_writer.specs.Nodes.Node.{Nodes, nothing, more, leaf, full, node_tree, nodes_tree}
use Rattle.soap_writer.specs.Values.Children.{name_in, has_name, text_among}
use Rattle.soap_writer.specs.Values.QNames.{within, qname_in}
use Rattle.soap_writer.specs.Values.Values.{trimmed, trimmed_text}
use Rattle.soap_writer.specs.Plain.{is_plain_name, name_from}
use Rattle.wsa_headers.specs.Texts.{params_nodes}
use Rattle.rm_message.specs.declared.message.FaultBody.{FaultBody}
use Rattle.rm_message.specs.declared.message.FaultCode.{FaultCode}
use Rattle.rm_message.specs.declared.message.FaultCode.TheVariants.{VersionMismatch, MustUnderstand}
use Rattle.rm_message.specs.declared.message.FaultCode.TheVariants.{DataEncodingUnknown, Sender, Receiver}
use Rattle.message_reader.specs.Faults.{first_named, value_name, code_named, subcode_name, inner_name, codes_with}
use Rattle.message_reader.specs.Faults.{code_called, codes_below, codes_in, codes_or_receiver, reason_in, or_empty}
use Rattle.message_reader.specs.Faults.{stripped_in, detail_in, fault_with, fault_in}
use Rattle.message_writer.specs.Rules.{IsSubcodeWritable, IsDetailWritable, IsFaultWritable}
use Rattle.message_writer.specs.Text.{tag_of, qname, code_text, value_node, subcode_nodes, code_node, words_of}
use Rattle.message_writer.specs.Text.{text_node, reason_node, detail_nodes, fault_node}
use Rattle.message_writer.specs.declared.tag.Tag.TheVariants as tags
use Rattle.rm_wire.proofs.Known.{KnowsTrees}
use Rattle.rm_wire.proofs.Names.{declared_with, name_again, name_trimmed, soap_name_again}

-- ---- children by name

pub here : (soap local : List ℕ) (name : Expanded) (decls : List Binding) (attrs : List Attr) (e : Element) (parts :
    Parts)
    → has_name (name_in soap local) e ≡ true
    → first_named soap local (element name decls attrs (child e parts)) ≡ Some e
here soap local name decls attrs e parts is = rw is refl

pub later : (soap local : List ℕ) (name : Expanded) (decls : List Binding) (attrs : List Attr) (e : Element) (parts :
    Parts)
    → has_name (name_in soap local) e ≡ false
    → first_named soap local (element name decls attrs (child e parts))
    ≡ first_named soap local (element name decls attrs parts)
later soap local name decls attrs e parts is = rw is refl

-- ---- a Value

value_from : (soap : List ℕ) (scope : List Binding) (holder : Element) (outer : List Element) (value : Element)
    (bytes : List ℕ) (name : Expanded) → first_named soap (codes "Value") holder ≡ Some value
    → trimmed_text value ≡ Some bytes → qname_in (within (value ∷ holder ∷ outer) scope) bytes ≡ Some name
    → value_name soap scope holder outer ≡ Some name
unfolding value_name
value_from soap scope holder outer value bytes name a b c = rw (a, b, c) refl

-- ---- subcodes

-- an element without declarations around those within it
abbrev DeclareNone : List Element → Type 0
DeclareNone outer = flat_map decls_of outer ≡ []

-- the tree of a Subcode
abbrev subcode_tree : List ℕ → Expanded → Nodes → Element
subcode_tree soap name inner = node_tree soap (full (tag_of tags.Subcode) [] (more (value_node name) inner))

value_text : (soap : List ℕ) (name : Expanded) → IsSubcodeWritable name
    → trimmed_text (node_tree soap (value_node name)) ≡ Some (qname name)
value_text soap name is =
    ap (λ l. Some (trimmed l)) (append-nil (qname name)) ∙ ap Some (name_trimmed name is.writable)

within_none : (ds : List Binding) (outer : List Element) (scope : List Binding) → DeclareNone outer
    → (ds ++ flat_map decls_of outer) ++ scope ≡ ds ++ scope
within_none ds outer scope none = ap (λ l. (ds ++ l) ++ scope) none ∙ ap (λ l. l ++ scope) (append-nil ds)

subcode_value : (soap : List ℕ) (name : Expanded) (inner : Nodes) (outer : List Element) → DeclareNone outer
    → IsSubcodeWritable name → value_name soap (sorted_scope soap) (subcode_tree soap name inner) outer ≡ Some name
subcode_value soap name inner outer none is =
    let same = equal soap soap refl in
    let value = node_tree soap (value_node name) in
    let found : first_named soap (codes "Value") (subcode_tree soap name inner) ≡ Some value =
    here soap (codes "Value") (name_in soap (codes "Subcode")) [] [] value (nodes_tree soap inner) (rw same refl) in
    value_from soap (sorted_scope soap) (subcode_tree soap name inner) outer value (qname name) name found
    (value_text soap name is)
    (ap (λ (l : List Binding). qname_in l (qname name))
    (within_none (declared_with name) outer (sorted_scope soap) none)
    ∙ name_again soap name is.writable)

subcode_back : (soap : List ℕ) (name : Expanded) (inner : Nodes) (outer : List Element) → DeclareNone outer
    → IsSubcodeWritable name → subcode_name soap (sorted_scope soap) (subcode_tree soap name inner) outer ≡ Some name
unfolding subcode_name
subcode_back soap name inner outer none is =
    let named = subcode_value soap name inner outer none is in
    let some = not_nil name.space is.spaced in
    rw (named, some) refl

no_inner : (soap : List ℕ) (name : Expanded) (outer : List Element)
    → inner_name soap (sorted_scope soap) (subcode_tree soap name nothing) outer ≡ None
unfolding inner_name
no_inner soap name outer = refl

inner_from : (soap : List ℕ) (scope : List Binding) (subcode : Element) (outer : List Element) (inner : Element)
    (name : Option Expanded) → first_named soap (codes "Subcode") subcode ≡ Some inner
    → subcode_name soap scope inner (subcode ∷ outer) ≡ name → inner_name soap scope subcode outer ≡ name
unfolding inner_name
inner_from soap scope subcode outer inner name a b = rw a b

inner_back : (soap : List ℕ) (name : Expanded) (inner : Option Expanded) (outer : List Element) → DeclareNone outer
    → IfSome inner IsSubcodeWritable
    → inner_name soap (sorted_scope soap) (subcode_tree soap name (subcode_nodes inner nothing)) outer ≡ inner
inner_back soap name None outer none is = no_inner soap name outer
inner_back soap name (Some within) outer none is =
    let same = equal soap soap refl in
    let nodes = subcode_nodes (Some within) nothing in
    let holder = subcode_tree soap name nodes in
    let found : first_named soap (codes "Subcode") holder ≡ Some (subcode_tree soap within nothing) =
    later soap (codes "Subcode") (name_in soap (codes "Subcode")) [] [] (node_tree soap (value_node name))
    (nodes_tree soap nodes) refl
    ∙ here soap (codes "Subcode") (name_in soap (codes "Subcode")) [] [] (subcode_tree soap within nothing)
    (nodes_tree soap nothing) (rw same refl) in
    inner_from soap (sorted_scope soap) holder outer (subcode_tree soap within nothing) (Some within) found
    (subcode_back soap within nothing (holder ∷ outer) none is)

-- ---- a Code

-- its tree
abbrev code_tree : List ℕ → FaultBody → Element
code_tree soap f = node_tree soap (code_node f)

-- the name in its Value
record IsCodeFound (soap : List ℕ) (code : FaultCode) (local : List ℕ) : Type 0 where
  text : trimmed_text (node_tree soap (leaf (tag_of tags.Value) (code_text code))) ≡ Some (codes "s:" ++ local)
  name : is_plain_name local ≡ true
  called : code_called local ≡ Some code

-- the local name of a code
abbrev local_of : FaultCode → List ℕ
local_of VersionMismatch = codes "VersionMismatch"
local_of MustUnderstand = codes "MustUnderstand"
local_of DataEncodingUnknown = codes "DataEncodingUnknown"
local_of Sender = codes "Sender"
local_of Receiver = codes "Receiver"

code_found : (soap : List ℕ) (code : FaultCode) → IsCodeFound soap code (local_of code)
code_found soap VersionMismatch = record { text = refl; name = refl; called = refl }
code_found soap MustUnderstand = record { text = refl; name = refl; called = refl }
code_found soap DataEncodingUnknown = record { text = refl; name = refl; called = refl }
code_found soap Sender = record { text = refl; name = refl; called = refl }
code_found soap Receiver = record { text = refl; name = refl; called = refl }

code_named_by : (soap local : List ℕ) (code : FaultCode) → code_called local ≡ Some code
    → code_named soap (name_in soap local) ≡ Some code
code_named_by soap local code called = let same = equal soap soap refl in rw same called

-- what is below it
below_back : (soap : List ℕ) (code : FaultCode) (subcode inner : Option Expanded) (holder : Element)
    (outer : List Element)
    → DeclareNone outer → IfSome subcode IsSubcodeWritable → IfSome inner IsSubcodeWritable
    → (IsSome inner → IsSome subcode)
    → first_named soap (codes "Subcode") (element (name_in soap (codes "Code")) [] []
    (nodes_tree soap (subcode_nodes subcode (subcode_nodes inner nothing)))) ≡ first_named soap (codes "Subcode") holder
    → codes_below soap (sorted_scope soap) code (first_named soap (codes "Subcode") holder) outer
    ≡ codes_with code subcode inner
below_back soap code None None holder outer none is also within at = rw (sym at) refl
below_back soap code None (Some inner) holder outer none is also within at = absurd (cc (within refl))
below_back soap code (Some name) inner holder outer none is also within at =
    let same = equal soap soap refl in
    let nodes = subcode_nodes inner nothing in
    let found : first_named soap (codes "Subcode") holder ≡ Some (subcode_tree soap name nodes) =
    sym at ∙ here soap (codes "Subcode") (name_in soap (codes "Code")) [] [] (subcode_tree soap name nodes)
    (nodes_tree soap nothing) (rw same refl) in
    let first = subcode_back soap name nodes outer none is in
    let second = inner_back soap name inner outer none also in
    ap (λ o. codes_below soap (sorted_scope soap) code o outer) found
    ∙ ap (λ o. codes_with code o (inner_name soap (sorted_scope soap) (subcode_tree soap name nodes) outer)) first
    ∙ ap (codes_with code (Some name)) second

codes_from : (soap : List ℕ) (scope : List Binding) (fault holder : Element) (name : Expanded) (code : FaultCode)
    → first_named soap (codes "Code") fault ≡ Some holder → value_name soap scope holder (fault ∷ []) ≡ Some name
    → code_named soap name ≡ Some code → codes_in soap scope fault
    ≡ Some (codes_below soap scope code (first_named soap (codes "Subcode") holder) (holder ∷ fault ∷ []))
unfolding codes_in
codes_from soap scope fault holder name code a b c = rw (a, b, c) refl

codes_back : (soap : List ℕ) (f : FaultBody) → IsFaultWritable f
    → codes_in soap (sorted_scope soap) (node_tree soap (fault_node f))
    ≡ Some (codes_with f.code f.subcode f.inner)
codes_back soap f is =
    let same = equal soap soap refl in
    let fault = node_tree soap (fault_node f) in
    let holder = code_tree soap f in
    let value = node_tree soap (leaf (tag_of tags.Value) (code_text f.code)) in
    let below = subcode_nodes f.subcode (subcode_nodes f.inner nothing) in
    let code = code_found soap f.code in
    let local = local_of f.code in
    let name = name_in soap local in
    let found : first_named soap (codes "Code") fault ≡ Some holder =
    here soap (codes "Code") (name_in soap (codes "Fault")) [] [] holder
    (nodes_tree soap (more (reason_node f.reason) (detail_nodes f.detail))) (rw same refl) in
    let valued : first_named soap (codes "Value") holder ≡ Some value =
    here soap (codes "Value") (name_in soap (codes "Code")) [] [] value (nodes_tree soap below) (rw same refl) in
    codes_from soap (sorted_scope soap) fault holder name f.code found
    (value_from soap (sorted_scope soap) holder (fault ∷ []) value (codes "s:" ++ local) name valued code.text
    (soap_name_again soap local (name_from local code.name)))
    (code_named_by soap local f.code code.called)
    ∙ ap Some (below_back soap f.code f.subcode f.inner holder (holder ∷ fault ∷ []) refl is.subcode is.inner is.within
    refl)

-- ---- a Reason

reason_from : (soap : List ℕ) (fault reason text : Element) (bytes : List ℕ)
    → first_named soap (codes "Reason") fault ≡ Some reason → first_named soap (codes "Text") reason ≡ Some text
    → trimmed_text text ≡ Some bytes → reason_in soap fault ≡ Some bytes
unfolding reason_in
reason_from soap fault reason text bytes a b c = rw (a, b, c) refl

pub words_back : (soap bytes : List ℕ) → text_among (nodes_tree soap (words_of bytes)) ≡ Some bytes
words_back soap [] = refl
words_back soap (b ∷ bytes) = ap (λ l. Some (b ∷ l)) (append-nil bytes)

reason_back : (soap : List ℕ) (f : FaultBody) → IsFaultWritable f
    → reason_in soap (node_tree soap (fault_node f)) ≡ Some f.reason
reason_back soap f is =
    let same = equal soap soap refl in
    let fault = node_tree soap (fault_node f) in
    let reason = node_tree soap (reason_node f.reason) in
    let text = node_tree soap (text_node f.reason) in
    let found : first_named soap (codes "Reason") fault ≡ Some reason =
    later soap (codes "Reason") (name_in soap (codes "Fault")) [] [] (code_tree soap f)
    (nodes_tree soap (more (reason_node f.reason) (detail_nodes f.detail))) refl
    ∙ here soap (codes "Reason") (name_in soap (codes "Fault")) [] [] reason (nodes_tree soap (detail_nodes f.detail))
    (rw same refl) in
    let within : first_named soap (codes "Text") reason ≡ Some text =
    here soap (codes "Text") (name_in soap (codes "Reason")) [] [] text (nodes_tree soap nothing) (rw same refl) in
    let words = words_back soap f.reason in
    let read : trimmed_text text ≡ Some f.reason = rw words (ap Some is.ends) in
    reason_from soap fault reason text f.reason found within read

-- ---- Detail

pub elements_back : KnowsTrees → (soap : List ℕ) (es : List Element) → AllByRecursion IsDetailWritable es
    → map without_declarations (children_of (nodes_tree soap (params_nodes false es))) ≡ es
elements_back known soap [] all = refl
elements_back known soap (e ∷ es) all = rw (known e all.0.writable, elements_back known soap es all.1) refl

detail_at : KnowsTrees → (soap : List ℕ) (es : List Element) → AllByRecursion IsDetailWritable es
    → stripped_in (first_named soap (codes "Detail") (element (name_in soap (codes "Fault")) [] []
    (nodes_tree soap (detail_nodes es)))) ≡ es
detail_at known soap [] all = refl
detail_at known soap (e ∷ es) all =
    let same = equal soap soap refl in
    let detail = node_tree soap (full (tag_of tags.Detail) [] (params_nodes false (e ∷ es))) in
    ap stripped_in (here soap (codes "Detail") (name_in soap (codes "Fault")) [] [] detail (nodes_tree soap nothing)
    (rw same refl))
    ∙ elements_back known soap (e ∷ es) all

detail_back : KnowsTrees → (soap : List ℕ) (f : FaultBody) → IsFaultWritable f
    → detail_in soap (node_tree soap (fault_node f)) ≡ f.detail
detail_back known soap f is =
    let details = nodes_tree soap (detail_nodes f.detail) in
    ap stripped_in (later soap (codes "Detail") (name_in soap (codes "Fault")) [] [] (code_tree soap f)
    (nodes_tree soap (more (reason_node f.reason) (detail_nodes f.detail))) refl
    ∙ later soap (codes "Detail") (name_in soap (codes "Fault")) [] [] (node_tree soap (reason_node f.reason)) details
    refl)
    ∙ detail_at known soap f.detail is.detail

-- ---- the fault

whole : (code : FaultCode) (subcode inner : Option Expanded) (reason : List ℕ) (detail : List Element)
    → (IsSome inner → IsSome subcode) → fault_with (codes_with code subcode inner) reason detail
    ≡ record { code = code; subcode = subcode; inner = inner; reason = reason; detail = detail }
whole code None None reason detail within = refl
whole code None (Some inner) reason detail within = absurd (cc (within refl))
whole code (Some name) inner reason detail within = refl

pub fault_back : KnowsTrees → (soap : List ℕ) (f : FaultBody) → IsFaultWritable f
    → fault_in soap (sorted_scope soap) (node_tree soap (fault_node f)) ≡ f
fault_back known soap f is =
    let fault = node_tree soap (fault_node f) in
    ap (λ o. fault_with (codes_or_receiver o) (or_empty (reason_in soap fault)) (detail_in soap fault))
    (codes_back soap f is)
    ∙ ap (λ o. fault_with (codes_with f.code f.subcode f.inner) (or_empty o) (detail_in soap fault))
    (reason_back soap f is)
    ∙ ap (fault_with (codes_with f.code f.subcode f.inner) f.reason) (detail_back known soap f is)
    ∙ whole f.code f.subcode f.inner f.reason f.detail is.within
