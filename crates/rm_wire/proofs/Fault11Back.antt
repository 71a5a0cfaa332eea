-- A fault that is written in SOAP 1.1 is read back, with its SequenceFault or without.
use Rattle.std.proofs.Common.{◌≡◌, ℕ, Bool, true, false, if◌then◌else◌, List, [], ◌∷◌, ◌++◌, Option, Some, None, codes}
use Rattle.std.proofs.Common.{refl, sym, ap, ◌∙◌, IfSome}
use Rattle.std.specs.Prelude.{IsSome}
use Rattle.std.specs.List.{AllByRecursion}
use Rattle.std.specs.Str.{bytes_eq}
use Rattle.std.proofs.lemmas.List.{append-nil}
use Rattle.rm_base.specs.declared.message.Binding.{Binding}
use Rattle.soap_lex.specs.Characters.{IsName}
use Rattle.soap_document.specs.Profile.Tree.{Element, element, parts_of}
use Rattle.soap_document.specs.declared.profile.name.Expanded.{Expanded}
use Rattle.soap_envelope.specs.Soap.{soap11_space}
use Rattle.soap_envelope.specs.Frame.Framed.{sorted_scope}
use Rattle.soap_writer.specs.Frame.{addressing_space, messaging_space, connection_space}
use Rattle.soap_writer.specs.Plain.{is_plain_name, name_from}
use Rattle.soap_writer.specs.Writable.{IsNameWritable}
use Rattle.wsa_headers.specs.Addressing.{first_of}
use Rattle.wsa_headers.specs.Texts.{params_nodes}
use Rattle.rm_message.specs.Elements.Outcome.{rm}
use Rattle.rm_message.specs.Elements.Texts.{r}
use Rattle.soap_writer.specs.Nodes.Node.{Node, Nodes, nothing, words, more, full, bare, node_tree, nodes_tree}
use Rattle.soap_writer.specs.Values.Children.{name_in, has_name, children_named}
use Rattle.soap_writer.specs.Values.Outcome.{single, optional}
use Rattle.soap_writer.specs.Values.QNames.{within, qname_in}
use Rattle.soap_writer.specs.Values.Values.{trimmed, trimmed_text}
use Rattle.rm_message.specs.declared.message.FaultBody.{FaultBody}
use Rattle.rm_message.specs.declared.message.FaultCode.{FaultCode}
use Rattle.rm_message.specs.declared.message.FaultCode.TheVariants.{VersionMismatch, MustUnderstand}
use Rattle.rm_message.specs.declared.message.FaultCode.TheVariants.{DataEncodingUnknown, Sender, Receiver}
use Rattle.message_reader.specs.Faults.{first_named, or_empty, stripped_in, fault_with}
use Rattle.message_reader.specs.Faults11.{faultcode_in, codes11, both, faultstring_in, detail11}
use Rattle.message_reader.specs.Faults11.{fault11_in, Told, CodesOf}
use Rattle.message_reader.specs.Headers.{fault_code_name, sequence_fault_of}
use Rattle.message_writer.specs.Faults11.{code11, code11_text, plain_leaf, faultcode_of, faultcode_node, ahead_nodes}
use Rattle.message_writer.specs.Faults11.{detail11_nodes, fault11_node, sequence_fault_node, is_told_ahead}
use Rattle.message_writer.specs.Faults11.{Tells, plainly, ahead, of_addressing, of_connection, of_create, IsFault11}
use Rattle.message_writer.specs.Rules.{IsSubcodeWritable, IsDetailWritable, IsFaultWritable}
use Rattle.message_writer.specs.Text.{tag_of, qname}
use Rattle.message_writer.specs.declared.tag.Tag.TheVariants as tags
use Rattle.rm_wire.specs.Told.{told_by}
use Rattle.rm_wire.proofs.FaultBack.{here, later, words_back, elements_back}
use Rattle.rm_wire.proofs.Known.{KnowsTrees}
use Rattle.rm_wire.proofs.Names.{declared_with, last_not, name_again, name_trimmed, soap_name_again}
use Rattle.rm_wire.proofs.Names.{messaging_name_again, messaging_name_trimmed}

-- the namespace of SOAP, and the bindings of a frame
abbrev soap : List ℕ
soap = soap11_space

abbrev scope : List Binding
scope = sorted_scope soap

-- ---- a SequenceFault

code_from : (e code : Element) (bytes : List ℕ) (name : Expanded)
    → single (children_named (rm (codes "FaultCode")) (parts_of e)) ≡ Some code → trimmed_text code ≡ Some bytes
    → qname_in (within (code ∷ e ∷ []) scope) bytes ≡ Some name → fault_code_name scope e ≡ Some name
unfolding fault_code_name
code_from e code bytes name a b c = rw (a, b, c) refl

told_from : (e : Element) (local : List ℕ) (detail : Option Element)
    → fault_code_name scope e ≡ Some (name_in messaging_space local)
    → optional (children_named (rm (codes "Detail")) (parts_of e)) ≡ Some detail
    → sequence_fault_of scope e
    ≡ Some (record { subcode = Some (name_in messaging_space local); detail = stripped_in detail })
unfolding sequence_fault_of
told_from e local detail a b = rw (a, b) refl

-- its FaultCode
abbrev fault_code_tree : List ℕ → Element
fault_code_tree local = node_tree soap (full (r (codes "FaultCode")) [] (words (codes "r:" ++ local)))

code_text : (local : List ℕ) → IsName local → trimmed_text (fault_code_tree local) ≡ Some (codes "r:" ++ local)
code_text local is =
    ap (λ l. Some (trimmed l)) (append-nil (codes "r:" ++ local)) ∙ ap Some (messaging_name_trimmed local is)

pub sequence_fault_back : KnowsTrees → (local : List ℕ) (detail : List Element) → IsName local
    → AllByRecursion IsDetailWritable detail
    → sequence_fault_of scope (node_tree soap (sequence_fault_node local detail))
    ≡ Some (record { subcode = Some (name_in messaging_space local); detail = detail })
sequence_fault_back known local [] is all =
    let e = node_tree soap (sequence_fault_node local []) in
    told_from e local None
    (code_from e (fault_code_tree local) (codes "r:" ++ local) (name_in messaging_space local) refl
    (code_text local is) (messaging_name_again soap local is)) refl
sequence_fault_back known local (d ∷ ds) is all =
    let e = node_tree soap (sequence_fault_node local (d ∷ ds)) in
    let holder = node_tree soap (full (r (codes "Detail")) [] (params_nodes false (d ∷ ds))) in
    told_from e local (Some holder)
    (code_from e (fault_code_tree local) (codes "r:" ++ local) (name_in messaging_space local) refl
    (code_text local is) (messaging_name_again soap local is)) refl
    ∙ ap (λ l. Some (record { subcode = Some (name_in messaging_space local); detail = l }))
    (elements_back known soap (d ∷ ds) all)

-- ---- the Fault

faultcode_from : (fault holder : Element) (bytes : List ℕ) (name : Expanded)
    → first_named [] (codes "faultcode") fault ≡ Some holder → trimmed_text holder ≡ Some bytes
    → qname_in (within (holder ∷ fault ∷ []) scope) bytes ≡ Some name → faultcode_in scope fault ≡ Some name
unfolding faultcode_in
faultcode_from fault holder bytes name a b c = rw (a, b, c) refl

-- a fault with this faultcode, reason and detail
abbrev tree_of : Node → List ℕ → Nodes → Element
tree_of code reason details =
    node_tree soap (full (tag_of tags.Fault) [] (more code (more (plain_leaf (codes "faultstring") reason) details)))

-- what a fault says, part by part
whole : (told : Option Told) (e : Element) (name : Option Expanded) (c : CodesOf) (reason : List ℕ)
    (detail : List Element) → faultcode_in scope e ≡ name → codes11 soap told name ≡ c
    → faultstring_in e ≡ Some reason → detail11 told e ≡ detail
    → fault11_in soap told scope e ≡ fault_with c reason detail
whole told e name c reason detail a b g h =
    ap (λ n. fault_with (codes11 soap told n) (or_empty (faultstring_in e)) (detail11 told e)) a
    ∙ ap (λ k. fault_with k (or_empty (faultstring_in e)) (detail11 told e)) b
    ∙ ap (λ o. fault_with c (or_empty o) (detail11 told e)) g ∙ ap (fault_with c reason) h

-- ---- faultcode

-- a code is read of it
record IsCodeRead (code : FaultCode) (fault : Element) : Type 0 where
  name : Option Expanded
  read : faultcode_in scope fault ≡ name
  alone : codes11 soap None name ≡ both code None
  told : (t : Told) → codes11 soap (Some t) name ≡ both code t.subcode

plain_code : (fault holder : Element) (local : List ℕ) → is_plain_name local ≡ true
    → first_named [] (codes "faultcode") fault ≡ Some holder → trimmed_text holder ≡ Some (codes "s:" ++ local)
    → within (holder ∷ fault ∷ []) scope ≡ scope → faultcode_in scope fault ≡ Some (name_in soap local)
plain_code fault holder local plain found text none =
    faultcode_from fault holder (codes "s:" ++ local) (name_in soap local) found text
    (ap (λ (l : List Binding). qname_in l (codes "s:" ++ local)) none
    ∙ soap_name_again soap local (name_from local plain))

-- the tree of one
abbrev code_tree : FaultCode → Element
code_tree code = node_tree soap (plain_leaf (codes "faultcode") (code11_text (code11 code)))

-- a fault with it
abbrev coded : FaultCode → List ℕ → Nodes → Element
coded code reason details = tree_of (plain_leaf (codes "faultcode") (code11_text (code11 code))) reason details

code_read : (code : FaultCode) → IsSome (code11 code) → (reason : List ℕ) (details : Nodes)
    → IsCodeRead code (coded code reason details)
code_read VersionMismatch some reason details = record {
  name = Some (name_in soap (codes "VersionMismatch"));
  read = plain_code (coded VersionMismatch reason details) (code_tree VersionMismatch) (codes "VersionMismatch") refl
      refl refl refl;
  alone = refl;
  told = λ t. refl;
}
code_read MustUnderstand some reason details = record {
  name = Some (name_in soap (codes "MustUnderstand"));
  read = plain_code (coded MustUnderstand reason details) (code_tree MustUnderstand) (codes "MustUnderstand") refl refl
      refl refl;
  alone = refl;
  told = λ t. refl;
}
code_read DataEncodingUnknown some reason details = cc some
code_read Sender some reason details = record {
  name = Some (name_in soap (codes "Client"));
  read = plain_code (coded Sender reason details) (code_tree Sender) (codes "Client") refl refl refl refl;
  alone = refl;
  told = λ t. refl;
}
code_read Receiver some reason details = record {
  name = Some (name_in soap (codes "Server"));
  read = plain_code (coded Receiver reason details) (code_tree Receiver) (codes "Server") refl refl refl refl;
  alone = refl;
  told = λ t. refl;
}

-- a subcode is read of it
name_read : (code : FaultCode) (name : Expanded) → IsNameWritable name → (reason : List ℕ) (details : Nodes)
    → faultcode_in scope (tree_of (faultcode_of code name false) reason details) ≡ Some name
name_read code name is reason details =
    faultcode_from (tree_of (faultcode_of code name false) reason details)
    (node_tree soap (faultcode_of code name false)) (qname name) name refl
    (ap (λ l. Some (trimmed l)) (append-nil (qname name)) ∙ ap Some (name_trimmed name is))
    (ap (λ (l : List Binding). qname_in (l ++ scope) (qname name)) (append-nil (declared_with name))
    ∙ name_again soap name is)

-- ---- faultstring and detail, behind a faultcode

reason_from : (fault holder : Element) (bytes : List ℕ) → first_named [] (codes "faultstring") fault ≡ Some holder
    → trimmed_text holder ≡ Some bytes → faultstring_in fault ≡ Some bytes
unfolding faultstring_in
reason_from fault holder bytes a b = rw (a, b) refl

reason_read : (code : Node) (reason : List ℕ) (details : Nodes)
    → has_name (name_in [] (codes "faultstring")) (node_tree soap code) ≡ false → trimmed reason ≡ reason
    → faultstring_in (tree_of code reason details) ≡ Some reason
reason_read code reason details other ends =
    let holder = node_tree soap (plain_leaf (codes "faultstring") reason) in
    let behind = nodes_tree soap (more (plain_leaf (codes "faultstring") reason) details) in
    let text = words_back soap reason in
    reason_from (tree_of code reason details) holder reason
    (later [] (codes "faultstring") (name_in soap (codes "Fault")) [] [] (node_tree soap code) behind other
    ∙ here [] (codes "faultstring") (name_in soap (codes "Fault")) [] [] holder (nodes_tree soap details) refl)
    (rw text (ap Some ends))

held_read : KnowsTrees → (es : List Element) → AllByRecursion IsDetailWritable es
    → stripped_in (first_named [] (codes "detail") (element (name_in soap (codes "Fault")) [] []
    (nodes_tree soap (detail11_nodes false es)))) ≡ es
held_read known [] all = refl
held_read known (e ∷ es) all =
    let holder = node_tree soap (full (bare (codes "detail")) [] (params_nodes false (e ∷ es))) in
    ap stripped_in (here [] (codes "detail") (name_in soap (codes "Fault")) [] [] holder (nodes_tree soap nothing) refl)
    ∙ elements_back known soap (e ∷ es) all

detail_read : KnowsTrees → (code : Node) (reason : List ℕ) (es : List Element)
    → has_name (name_in [] (codes "detail")) (node_tree soap code) ≡ false → AllByRecursion IsDetailWritable es
    → detail11 None (tree_of code reason (detail11_nodes false es)) ≡ es
detail_read known code reason es other all =
    let holder = node_tree soap (plain_leaf (codes "faultstring") reason) in
    let details = detail11_nodes false es in
    let behind = nodes_tree soap (more (plain_leaf (codes "faultstring") reason) details) in
    ap stripped_in (later [] (codes "detail") (name_in soap (codes "Fault")) [] [] (node_tree soap code) behind other
    ∙ later [] (codes "detail") (name_in soap (codes "Fault")) [] [] holder (nodes_tree soap details) refl)
    ∙ held_read known es all

-- ---- the fault

-- the code of a subcode that is told by a faultcode
above_addressing : (local : List ℕ) → codes11 soap None (Some (name_in addressing_space local))
    ≡ both Sender (Some (name_in addressing_space local))
above_addressing local =
    ap (λ (b : Bool). both (if b then Receiver else Sender) (Some (name_in addressing_space local)))
    (last_not (bytes_eq local (codes "CreateSequenceRefused")))

fault_read : KnowsTrees → (code : FaultCode) (subcode : Option Expanded) (reason : List ℕ) (detail : List Element)
    → Tells code subcode → IsSome (code11 code) → IfSome subcode IsSubcodeWritable → trimmed reason ≡ reason
    → AllByRecursion IsDetailWritable detail
    → fault11_in soap (told_by subcode detail) scope
    (tree_of (faultcode_node code subcode) reason (detail11_nodes (is_told_ahead subcode) detail))
    ≡ fault_with (both code subcode) reason detail
fault_read known _ _ reason detail (plainly code) some is ends all =
    let c = code_read code some reason (detail11_nodes false detail) in
    let node = plain_leaf (codes "faultcode") (code11_text (code11 code)) in
    whole None (coded code reason (detail11_nodes false detail)) c.name (both code None) reason detail c.read c.alone
    (reason_read node reason (detail11_nodes false detail) refl ends) (detail_read known node reason detail refl all)
fault_read known _ _ reason detail (ahead code local go) some is ends all =
    let c = code_read code some reason nothing in
    let node = plain_leaf (codes "faultcode") (code11_text (code11 code)) in
    let told : Told = record { subcode = Some (name_in messaging_space local); detail = detail } in
    rw go (whole (Some told) (coded code reason nothing) c.name (both code (Some (name_in messaging_space local)))
    reason detail c.read (c.told told) (reason_read node reason nothing refl ends) refl)
fault_read known _ _ reason detail (of_addressing local) some is ends all =
    let name = name_in addressing_space local in
    let node = faultcode_of Sender name false in
    let details = detail11_nodes false detail in
    whole None (tree_of node reason details) (Some name) (both Sender (Some name)) reason detail
    (name_read Sender name is.writable reason details) (above_addressing local)
    (reason_read node reason details refl ends) (detail_read known node reason detail refl all)
fault_read known _ _ reason detail (of_connection local) some is ends all =
    let name = name_in connection_space local in
    let node = faultcode_of Receiver name false in
    let details = detail11_nodes false detail in
    whole None (tree_of node reason details) (Some name) (both Receiver (Some name)) reason detail
    (name_read Receiver name is.writable reason details) refl
    (reason_read node reason details refl ends) (detail_read known node reason detail refl all)
fault_read known _ _ reason detail of_create some is ends all =
    let name = name_in messaging_space (codes "CreateSequenceRefused") in
    let node = faultcode_of Receiver name false in
    let details = detail11_nodes false detail in
    whole None (tree_of node reason details) (Some name) (both Receiver (Some name)) reason detail
    (name_read Receiver name is.writable reason details) refl
    (reason_read node reason details refl ends) (detail_read known node reason detail refl all)

inner_same : (f : FaultBody) → f.inner ≡ None → fault_with (both f.code f.subcode) f.reason f.detail ≡ f
inner_same f none =
    ap (λ inner. record { code = f.code; subcode = f.subcode; inner = inner; reason = f.reason; detail = f.detail })
    (sym none)

-- a fault is read back, with what its header told
pub fault11_back : KnowsTrees → (f : FaultBody) → IsFaultWritable f → IsFault11 f
    → fault11_in soap (told_by f.subcode f.detail) scope (node_tree soap (fault11_node f)) ≡ f
fault11_back known f is fits =
    fault_read known f.code f.subcode f.reason f.detail fits.tells fits.code is.subcode is.ends is.detail
    ∙ inner_same f fits.inner

ahead_of : KnowsTrees → (code : FaultCode) (subcode : Option Expanded) (detail : List Element) → Tells code subcode
    → IfSome subcode IsSubcodeWritable → AllByRecursion IsDetailWritable detail
    → IfSome (first_of (ahead_nodes subcode detail))
    (λ node. sequence_fault_of scope (node_tree soap node) ≡ told_by subcode detail)
ahead_of known _ _ detail (plainly code) is all = tt
ahead_of known _ _ detail (ahead code local go) is all =
    rw go (sequence_fault_back known local detail is.writable.local all)
ahead_of known _ _ detail (of_addressing local) is all = tt
ahead_of known _ _ detail (of_connection local) is all = tt
ahead_of known _ _ detail of_create is all = tt

-- and what its header tells is read of its header
pub ahead_back : KnowsTrees → (f : FaultBody) → IsFaultWritable f → IsFault11 f
    → IfSome (first_of (ahead_nodes f.subcode f.detail))
    (λ node. sequence_fault_of scope (node_tree soap node) ≡ told_by f.subcode f.detail)
ahead_back known f is fits = ahead_of known f.code f.subcode f.detail fits.tells is.subcode is.detail
