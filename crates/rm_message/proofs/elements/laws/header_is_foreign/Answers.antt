use Rattle.std.proofs.Common.{◌≡◌, ℕ, Bool, true, false, ◌&&◌, List, None, Ok, codes, refl}
use Rattle.std.specs.Str.{bytes_eq}
use Rattle.soap_document.specs.Profile.Tree.{Element, name_of}
use Rattle.soap_writer.specs.Nodes.Node.{node_tree}
use Rattle.soap_writer.specs.Frame.{addressing_space, messaging_space, connection_space}
use Rattle.wsa_headers.specs.Writable.{IsForeign}
use Rattle.rm_message.specs.Elements.Headers.{header_of}
use Rattle.rm_message.specs.Elements.Texts.{header_node}
use Rattle.rm_message.specs.declared.elements.header.Header.{Header}
use Rattle.rm_message.specs.declared.elements.header.Header.TheVariants as headers
use Rattle.rm_message.proofs.elements.laws.header_is_foreign.Goals as goal

foreign : (soap : List ℕ) (h : Header) → IsForeign (node_tree soap (header_node h))
foreign soap (headers.Sequence x) = record { unmarked = refl; space = refl }
foreign soap (headers.Ack x) = record { unmarked = refl; space = refl }
foreign soap (headers.Ask ident) = record { unmarked = refl; space = refl }
foreign soap (headers.Pending pending) = record { unmarked = refl; space = refl }

last_not : (a b : Bool) → b ≡ false → (a && b) ≡ false
last_not true b h = h
last_not false b h = refl

no_header : (e : Element) → (name_of e).space ≡ addressing_space → header_of e ≡ Ok None
no_header e is =
    let local = (name_of e).local in
    let space = (name_of e).space in
    let messaging : bytes_eq space messaging_space ≡ false = rw is refl in
    let connection : bytes_eq space connection_space ≡ false = rw is refl in
    let a = last_not (bytes_eq local (codes "Sequence")) (bytes_eq space messaging_space) messaging in
    let b = last_not (bytes_eq local (codes "SequenceAcknowledgement")) (bytes_eq space messaging_space) messaging in
    let c = last_not (bytes_eq local (codes "AckRequested")) (bytes_eq space messaging_space) messaging in
    let d = last_not (bytes_eq local (codes "MessagePending")) (bytes_eq space connection_space) connection in
    rw (a, b, c, d) refl

pub returns-clause-foreign : goal.returns-clause-foreign
returns-clause-foreign c = foreign

pub returns-clause-no_header : goal.returns-clause-no_header
returns-clause-no_header c = no_header
