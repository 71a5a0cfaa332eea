-- Body elements are nodes that may stand in a frame.
use Rattle.std.proofs.Common.{ℕ, suc, ◌≤◌, ◌<◌, Bool, true, false, ◌&&◌, if◌then◌else◌, List, refl, arith, Option}
use Rattle.std.proofs.Common.{Some, None, codes, decimal, nat_eq}
use Rattle.std.specs.Prelude.{IfSome}
use Rattle.rm_base.specs.Text.{IsText}
use Rattle.rm_base.specs.declared.message.Behaviour.{Behaviour}
use Rattle.rm_base.specs.declared.message.Behaviour.TheVariants.{NoDiscard, EntireSequence, FollowingFirstGap}
use Rattle.rm_base.specs.declared.message.Binding.{Binding}
use Rattle.soap_writer.specs.Frame.{frame_scope}
use Rattle.soap_writer.specs.Plain.{chars_from}
use Rattle.soap_writer.specs.Writable.{IsTextWritable}
use Rattle.soap_writer.specs.Nodes.Good.{IsGood, AreGood}
use Rattle.soap_writer.specs.Nodes.Node.{Node, Nodes, leaf, more, nothing}
use Rattle.wsa_headers.specs.TextLaws.{text_writable}
use Rattle.wsa_headers.specs.Texts.{epr_nodes}
use Rattle.wsa_headers.specs.Writable.{IsEprWritable}
use Rattle.wsa_headers.specs.declared.endpoint.Epr.{Epr}
use Rattle.rm_message.specs.Elements.Texts.{tag_of, lapse_text, expires_before, behaviour_text, behaviour_node}
use Rattle.rm_message.specs.Elements.Texts.{epr_node}
use Rattle.rm_message.specs.Elements.Texts.{offer_nodes, create_node, accept_nodes, response_node, last_nodes}
use Rattle.rm_message.specs.Elements.Texts.{finish_node}
use Rattle.rm_message.specs.Elements.Texts.{ident_node, other_nodes, address_before, lifecycle_node}
use Rattle.rm_message.specs.Elements.Writable.{IsNumber, IsLapseWritable, IsOfferWritable, IsCreateWritable}
use Rattle.rm_message.specs.Elements.Writable.{IsResponseWritable, IsFinishWritable, IsLifecycleWritable}
use Rattle.rm_base.specs.declared.lapse.Lapse.{Lapse}
use Rattle.rm_message.specs.declared.elements.lifecycle.CreateResponse.{CreateResponse}
use Rattle.rm_message.specs.declared.elements.lifecycle.CreateSequence.{CreateSequence}
use Rattle.rm_message.specs.declared.elements.lifecycle.Finish.{Finish}
use Rattle.rm_message.specs.declared.elements.lifecycle.Lifecycle.{Lifecycle}
use Rattle.rm_message.specs.declared.elements.lifecycle.Lifecycle.TheVariants as bodies
use Rattle.rm_message.specs.declared.elements.lifecycle.Offer.{Offer}
use Rattle.rm_message.specs.declared.elements.tag.Tag.{Tag}
use Rattle.rm_message.specs.declared.elements.tag.Tag.TheVariants as tags
use Rattle.rm_message.proofs.ElementsLemmas.HeaderGood.{plain_tag}
use Rattle.rm_message.proofs.ElementsLemmas.PlainTexts.{number_writable, lapse_writable}

-- what is known of endpoint references
abbrev pub Known : Type 0
Known = (soap : List ℕ) (x : Epr) (depth : ℕ) → IsEprWritable x → depth ≤ 9
    → AreGood soap depth (frame_scope soap) (epr_nodes x)

leaf_good : (soap : List ℕ) (depth : ℕ) (t : Tag) (bytes : List ℕ) → depth < 100 → IsTextWritable bytes
    → IsGood soap depth (frame_scope soap) (leaf (tag_of t) bytes)
leaf_good soap depth t bytes low is = (plain_tag soap t, omega (arith, low), is)

reference_good : Known → (soap : List ℕ) (depth : ℕ) (t : Tag) (x : Epr) → depth ≤ 8 → IsEprWritable x
    → IsGood soap depth (frame_scope soap) (epr_node t x)
reference_good known soap depth t x low is =
    (plain_tag soap t, omega (arith, low), known soap x (suc depth) is (omega (arith, low)))

good_unless : (soap : List ℕ) (depth : ℕ) (scope : List Binding) (test : Bool) (n : Node) (others : Nodes)
    → IsGood soap depth scope n → AreGood soap depth scope others
    → AreGood soap depth scope (if test then others else more n others)
good_unless soap depth scope true n others good all = all
good_unless soap depth scope false n others good all = (good, all)

expires_good : (soap : List ℕ) (depth : ℕ) (lapse : Lapse) (others : Nodes) → depth < 100 → IsLapseWritable lapse
    → AreGood soap depth (frame_scope soap) others → AreGood soap depth (frame_scope soap) (expires_before lapse others)
expires_good soap depth lapse others low is all =
    good_unless soap depth (frame_scope soap) (nat_eq lapse.months 0 && nat_eq lapse.ms 0)
    (leaf (tag_of tags.Expires) (lapse_text lapse)) others
    (leaf_good soap depth tags.Expires (lapse_text lapse) low (lapse_writable lapse is)) all

behaviour_writable : (b : Behaviour) → IsTextWritable (behaviour_text b)
behaviour_writable NoDiscard = record { some = λ e. cc; chars = chars_from (codes "NoDiscard") refl }
behaviour_writable EntireSequence = record { some = λ e. cc; chars = chars_from (codes "DiscardEntireSequence") refl }
behaviour_writable FollowingFirstGap =
    record { some = λ e. cc; chars = chars_from (codes "DiscardFollowingFirstGap") refl }

offer_good : Known → (soap : List ℕ) (offer : Option Offer) → IfSome offer IsOfferWritable
    → AreGood soap 3 (frame_scope soap) (offer_nodes offer)
offer_good known soap None is = tt
offer_good known soap (Some o) is = (
  (
    plain_tag soap tags.Offer,
    omega arith,
    (
      leaf_good soap 4 tags.Identifier o.ident (omega arith) (text_writable 512 o.ident is.ident),
      (
        reference_good known soap 4 tags.Endpoint o.endpoint (omega arith) is.endpoint,
        expires_good soap 4 o.expires (more (behaviour_node o.behaviour) nothing) (omega arith) is.expires (
          leaf_good soap 4 tags.IncompleteSequenceBehavior (behaviour_text o.behaviour) (omega arith)
              (behaviour_writable o.behaviour),
          tt,
        ),
      ),
    ),
  ),
  tt,
)

create_good : Known → (soap : List ℕ) (x : CreateSequence) → IsCreateWritable x
    → IsGood soap 2 (frame_scope soap) (create_node x)
create_good known soap x is = (
  plain_tag soap tags.CreateSequence,
  omega arith,
  (
    reference_good known soap 3 tags.AcksTo x.acks_to (omega arith) is.acks_to,
    expires_good soap 3 x.expires (offer_nodes x.offer) (omega arith) is.expires
        (offer_good known soap x.offer is.offer),
  ),
)

accept_good : Known → (soap : List ℕ) (accept : Option Epr) → IfSome accept IsEprWritable
    → AreGood soap 3 (frame_scope soap) (accept_nodes accept)
accept_good known soap None is = tt
accept_good known soap (Some x) is = (
  (plain_tag soap tags.Accept, omega arith, (reference_good known soap 4 tags.AcksTo x (omega arith) is, tt)),
  tt,
)

response_good : Known → (soap : List ℕ) (x : CreateResponse) → IsResponseWritable x
    → IsGood soap 2 (frame_scope soap) (response_node x)
response_good known soap x is = (
  plain_tag soap tags.CreateSequenceResponse,
  omega arith,
  (
    leaf_good soap 3 tags.Identifier x.ident (omega arith) (text_writable 512 x.ident is.ident),
    expires_good soap 3 x.expires (more (behaviour_node x.behaviour) (accept_nodes x.accept)) (omega arith) is.expires (
      leaf_good soap 3 tags.IncompleteSequenceBehavior (behaviour_text x.behaviour) (omega arith)
          (behaviour_writable x.behaviour),
      accept_good known soap x.accept is.accept,
    ),
  ),
)

last_good : (soap : List ℕ) (last : Option ℕ) → IfSome last IsNumber
    → AreGood soap 3 (frame_scope soap) (last_nodes last)
last_good soap None is = tt
last_good soap (Some n) is =
    (leaf_good soap 3 tags.LastMsgNumber (decimal n) (omega arith) (number_writable n is), tt)

finish_good : (soap : List ℕ) (t : Tag) (x : Finish) → IsFinishWritable x
    → IsGood soap 2 (frame_scope soap) (finish_node t x)
finish_good soap t x is = (
  plain_tag soap t,
  omega arith,
  (
    leaf_good soap 3 tags.Identifier x.ident (omega arith) (text_writable 512 x.ident is.ident),
    last_good soap x.last_number is.last_number,
  ),
)

ident_good : (soap : List ℕ) (t : Tag) (ident : List ℕ) → IsText 512 ident
    → IsGood soap 2 (frame_scope soap) (ident_node t ident)
ident_good soap t ident is = (
  plain_tag soap t,
  omega arith,
  (leaf_good soap 3 tags.Identifier ident (omega arith) (text_writable 512 ident is), tt),
)

other_good : (soap : List ℕ) (other : Bool) → AreGood soap 3 (frame_scope soap) (other_nodes other)
other_good soap true = ((plain_tag soap tags.Other, omega arith), tt)
other_good soap false = tt

address_good : (soap : List ℕ) (address : Option (List ℕ)) (other : Bool) → IfSome address (IsText 2048)
    → AreGood soap 3 (frame_scope soap) (address_before address (other_nodes other))
address_good soap None other is = other_good soap other
address_good soap (Some uri) other is =
    (leaf_good soap 3 tags.Address uri (omega arith) (text_writable 2048 uri is), other_good soap other)

pub lifecycle_good : Known → (soap : List ℕ) (l : Lifecycle) → IsLifecycleWritable l
    → IsGood soap 2 (frame_scope soap) (lifecycle_node l)
lifecycle_good known soap (bodies.Create x) is = create_good known soap x is
lifecycle_good known soap (bodies.CreateResponse x) is = response_good known soap x is
lifecycle_good known soap (bodies.Close x) is = finish_good soap tags.CloseSequence x is
lifecycle_good known soap (bodies.CloseResponse ident) is = ident_good soap tags.CloseSequenceResponse ident is
lifecycle_good known soap (bodies.Terminate x) is = finish_good soap tags.TerminateSequence x is
lifecycle_good known soap (bodies.TerminateResponse ident) is = ident_good soap tags.TerminateSequenceResponse ident is
lifecycle_good known soap (bodies.Make x) is =
    (plain_tag soap tags.MakeConnection, omega arith, address_good soap x.address x.other is)
