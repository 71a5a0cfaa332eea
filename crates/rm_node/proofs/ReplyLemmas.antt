-- Of all that is said to a message, one goes back on the connection at most, and it comes first.
use Rattle.std.proofs.Common.{◌≡◌, ◌∙◌, ℕ, Bool, true, false, cond, List, [], ◌∷◌, ◌++◌, Option, Some, None, Result}
use Rattle.std.proofs.Common.{Ok, Err, refl, sym, ap, subst}
use Rattle.std.specs.Prelude.{not}
use Rattle.std.specs.List.{AllByRecursion, filter}
use Rattle.std.proofs.lemmas.Slice.Eq.{bytes_eq-Decides}
use Rattle.soap_envelope.specs.Soap.{soap_space}
use Rattle.message_writer.specs.Text.{message_text}
use Rattle.rm_base.specs.declared.message.Behaviour.{Behaviour}
use Rattle.record_batch.specs.Fact.{Fact}
use Rattle.rm_message.specs.declared.elements.lifecycle.Lifecycle.{Lifecycle}
use Rattle.rm_message.specs.declared.elements.lifecycle.Lifecycle.TheVariants as life
use Rattle.rm_message.specs.declared.message.Body.{Body}
use Rattle.rm_message.specs.declared.message.Body.TheVariants as body
use Rattle.rm_message.specs.declared.message.Message.{Message}
use Rattle.rm_message.specs.declared.refusal.FaultKind.{FaultKind}
use Rattle.rm_message.specs.declared.refusal.Refusal.{Refusal}
use Rattle.wsa_headers.specs.declared.addressing.Addressing.{Addressing}
use Rattle.wsa_headers.specs.declared.endpoint.Epr.{Epr}
use Rattle.record_batch.specs.Sequences.Makers.{Maker, Outgoing, Offered, Incoming, Taken, maker}
use Rattle.record_batch.specs.Sequences.Words.{Text}
use Rattle.rm_protocol.specs.Addresses.{Nowhere, Waits, Out as GoesOut, anonymous, is_anonymous}
use Rattle.rm_protocol.specs.Addresses.{is_nowhere, is_polled, place_of, reply_endpoint}
use Rattle.rm_protocol.specs.Calls.{Answer, Fetched, judged, receive}
use Rattle.rm_protocol.specs.Messages.{ack_message}
use Rattle.rm_protocol.specs.Polls.{awaited, blocks_back, fetches, goes_back, selected}
use Rattle.rm_protocol.specs.Rows.{rows}
use Rattle.rm_protocol.specs.Said.{Ack, acks_said, answered, back_blocks, back_message, create_response}
use Rattle.rm_protocol.specs.Said.{find_grant_of, finish_response, grant_response, leaves, own_messages, responses}
use Rattle.rm_protocol.specs.Said.{with_blocks}
use Rattle.rm_protocol.specs.Terms.{Terms}
use Rattle.rm_protocol.specs.Verdict.{verdict}
use Rattle.node_laws.specs.Answers.Answers.{wish_seen}
use Rattle.rm_node.specs.Asked.{Asked, Asks, answer_to, is_connected}
use Rattle.rm_node.specs.Keeping.{Keeping}
use Rattle.rm_node.specs.Packets.{IsReplyFirst, back_text, fetched_packet, outs_of, packet_of, packets_of}
use Rattle.rm_node.specs.Packets.{reply_packet}
use Rattle.rm_node.specs.declared.call.Call.{Call}
use Rattle.rm_node.specs.declared.call.Call.TheVariants as call
use Rattle.rm_node.specs.declared.packets.Out.{Out}
use Rattle.rm_node.proofs.ComesLemmas.{ask-done, close-done, consume-done, create-done, end-done, nack-done}
use Rattle.rm_node.proofs.ComesLemmas.{poll-done, send-done, tick-done}
use Rattle.rm_node.proofs.PacketLemmas.{leaves-first, stays-out}

-- ---- lists of messages

-- none of these messages is for whoever is at the other end of the connection
abbrev NoneBack : List Message → Type 0
NoneBack ms = AllByRecursion (λ (m : Message). is_anonymous m.addressing.to ≡ false) ms

-- none but the first is
abbrev FirstBack : List Message → Type 0
FirstBack [] = Unit {0}
FirstBack (m ∷ ms) = NoneBack ms

-- what goes back is the first of what leaves
abbrev IsFirst : List Message → Type 0
IsFirst ms = reply_packet (back_text ms) ++ outs_of ms ≡ packets_of true ms

-- one that isn't leaves with a connection where it leaves without
leaves-same : (to : Text) → is_anonymous to ≡ false → leaves true (place_of to) ≡ leaves false (place_of to)
leaves-same to e = rw e (by-place (is_nowhere to) (is_polled to))
  where
    by-place : (n p : Bool)
        → leaves true (cond n Nowhere (cond p Waits GoesOut)) ≡ leaves false (cond n Nowhere (cond p Waits GoesOut))
    by-place true p = refl
    by-place false true = refl
    by-place false false = refl

packets-first : (connected : Bool) (m : Message) (ms : List Message) (b : Bool)
    → leaves connected (place_of m.addressing.to) ≡ b
    → packets_of connected (m ∷ ms) ≡ cond b (packet_of m ∷ packets_of connected ms) (packets_of connected ms)
packets-first connected m ms true e = leaves-first connected m ms e
packets-first connected m ms false e = stays-out connected m ms e

none-text : (ms : List Message) → NoneBack ms → back_text ms ≡ None
none-text [] h = refl
none-text (m ∷ ms) h = rw h.0 (none-text ms h.1)

none-more : (ms : List Message) → NoneBack ms → packets_of true ms ≡ packets_of false ms
none-more [] h = refl
none-more (m ∷ ms) h =
    let b = leaves false (place_of m.addressing.to) in
    packets-first true m ms b (leaves-same m.addressing.to h.0)
    ∙ ap (λ (ps : List Out). cond b (packet_of m ∷ ps) ps) (none-more ms h.1) ∙ sym (packets-first false m ms b refl)

-- the first is the reply
back-comes : (m : Message) (ms : List Message) → NoneBack ms → is_anonymous m.addressing.to ≡ true
    → IsFirst (m ∷ ms)
back-comes m ms h e =
    let text = message_text soap_space m in
    let packet : record { address = anonymous; bytes = text } ≡ packet_of m =
    ap (λ (to : Text). record { address = to; bytes = text })
    (sym ((bytes_eq-Decides m.addressing.to anonymous).0 e)) in
    let reply : back_text (m ∷ ms) ≡ Some text = rw e refl in
    let goes : leaves true (place_of m.addressing.to) ≡ true = rw e refl in
    let stays : leaves false (place_of m.addressing.to) ≡ false = rw e refl in
    ap (λ (t : Option Text). reply_packet t ++ outs_of (m ∷ ms)) reply
    ∙ ap (λ (o : Out). o ∷ outs_of (m ∷ ms)) packet
    ∙ ap (λ (ps : List Out). packet_of m ∷ ps) (stays-out false m ms stays ∙ sym (none-more ms h))
    ∙ sym (leaves-first true m ms goes)

-- there is none
none-comes : (ms : List Message) → NoneBack ms → IsFirst ms
none-comes ms h =
    ap (λ (t : Option Text). reply_packet t ++ outs_of ms) (none-text ms h) ∙ sym (none-more ms h)

ordered : (ms : List Message) → FirstBack ms → IsFirst ms
ordered [] h = refl
ordered (m ∷ ms) h =
    elim (is_anonymous m.addressing.to) as (λ (b : Bool). is_anonymous m.addressing.to ≡ b
    → IsFirst (m ∷ ms)) [
      | true ↦ λ e. back-comes m ms h e
      | false ↦ λ e. none-comes (m ∷ ms) (e, h)
    ] refl

-- ---- acknowledgements

own-none : (acks : List Ack) → NoneBack (own_messages acks)
own-none [] = tt
own-none (ack ∷ acks) = chosen (is_anonymous ack.0.address) refl (own-none acks)
  where
    chosen : (b : Bool) → is_anonymous ack.0.address ≡ b → NoneBack (own_messages acks)
        → NoneBack (cond b (own_messages acks) (ack_message ack.0 (ack.1 ∷ []) ∷ own_messages acks))
    chosen true e h = h
    chosen false e h = (e, h)

first-none : (ms : List Message) → NoneBack ms → FirstBack ms
first-none [] h = tt
first-none (m ∷ ms) h = h.1

back-first : (acks : List Ack) (ms : List Message) → NoneBack ms → FirstBack (back_message acks ++ ms)
back-first [] ms h = first-none ms h
back-first (ack ∷ acks) ms h = chosen (is_anonymous ack.0.address) (back-first acks ms h)
  where
    chosen : (b : Bool) → FirstBack (back_message acks ++ ms)
        → FirstBack (cond b (ack_message ack.0 (ack.1 ∷ back_blocks acks) ∷ []) (back_message acks) ++ ms)
    chosen true z = h
    chosen false z = z

-- ---- responses

-- there is one message at most
abbrev AtMostOne : List Message → Type 0
AtMostOne [] = Unit {0}
AtMostOne (m ∷ ms) = ms ≡ []

grant-one : (r : List Fact) (to : Epr) (t : Text) (s : ℕ) (m : Option Maker) → AtMostOne (grant_response r to t s m)
grant-one r to t s None = tt
grant-one r to t s (Some (Outgoing ticket at via lapse)) = tt
grant-one r to t s (Some (Taken message_id ident endpoint)) = tt
grant-one r to t s (Some (Offered ticket counter at behaviour)) = tt
grant-one r to t s (Some (Incoming counter message_id acks_to behaviour deadline lapse)) = refl

create-one : (r : List Fact) (to : Epr) (t : Option Text) (s : Option ℕ) → AtMostOne (create_response r to t s)
create-one r to None s = tt
create-one r to (Some t) None = tt
create-one r to (Some t) (Some s) = grant-one r to t s (maker r s)

finish-one : (r : List Fact) (now : ℕ) (a : Addressing) (q name : Text) (content : Lifecycle) (s : Option ℕ)
    → AtMostOne (finish_response r now a q name content s)
finish-one r now a q name content None = tt
finish-one r now a q name content (Some s) = refl

responses-one : (r : List Fact) (now : ℕ) (a : Addressing) (b : Body) → AtMostOne (responses r now a b)
responses-one r now a body.Empty = tt
responses-one r now a (body.Payload p) = tt
responses-one r now a (body.Fault f) = tt
responses-one r now a (body.Lifecycle (life.Create c)) =
    create-one r (reply_endpoint a) a.message_id (find_grant_of r a.message_id)
responses-one r now a (body.Lifecycle (life.CreateResponse c)) = tt
responses-one r now a (body.Lifecycle (life.Close f)) = finish-one r now a f.ident _ _ _
responses-one r now a (body.Lifecycle (life.CloseResponse q)) = tt
responses-one r now a (body.Lifecycle (life.Terminate f)) = finish-one r now a f.ident _ _ _
responses-one r now a (body.Lifecycle (life.TerminateResponse q)) = tt
responses-one r now a (body.Lifecycle (life.Make x)) = tt

-- ---- all that is said

answered-first : (ms : List Message) (acks : List Ack) → AtMostOne ms → FirstBack (answered ms acks)
answered-first [] acks one = back-first acks (own_messages acks) (own-none acks)
answered-first (m ∷ ms) acks one =
    subst (λ (l : List Message). FirstBack (answered (m ∷ l) acks)) (sym one)
    (chosen (is_anonymous m.addressing.to) refl)
  where
    chosen : (b : Bool) → is_anonymous m.addressing.to ≡ b
        → FirstBack (cond b (with_blocks m (back_blocks acks) ∷ [] ++ own_messages acks)
        (back_message acks ++ (m ∷ [] ++ own_messages acks)))
    chosen true e = own-none acks
    chosen false e = back-first acks (m ∷ own_messages acks) (e, own-none acks)

judged-first : (terms : Terms) (r : List Fact) (now : ℕ) (granted : Behaviour) (m : Message) (v : Option FaultKind)
    → FirstBack (judged terms r now granted m v).outs
judged-first terms r now granted m None =
    let after = r ++ rows terms now granted m r in
    answered-first (responses after now m.addressing m.body) (acks_said after now m)
    (responses-one after now m.addressing m.body)
judged-first terms r now granted m (Some kind) = tt

receive-first : (terms : Terms) (r : List Fact) (place now : ℕ) (granted : Behaviour)
    (content : Result Message Refusal) → FirstBack (receive terms r place now granted content).outs
receive-first terms r place now granted (Ok m) =
    judged-first terms r now granted m (verdict terms r place now granted m)
receive-first terms r place now granted (Err refusal) = tt

-- ---- what is fetched

-- none of what is said beside a message that was fetched
filtered-none : (ms : List Message) → NoneBack (filter (λ (m : Message). not (goes_back m)) ms)
filtered-none [] = tt
filtered-none (m ∷ ms) =
    let rest = filter (λ (x : Message). not (goes_back x)) ms in
    elim (is_anonymous m.addressing.to) as (λ (b : Bool). is_anonymous m.addressing.to ≡ b
    → NoneBack (cond (not b) (m ∷ rest) rest)) [
      | true ↦ λ e. filtered-none ms
      | false ↦ λ e. (e, filtered-none ms)
    ] refl

-- a message that was fetched is the reply
fetches-first : (t : Option Fetched) (a : Answer) → FirstBack a.outs → IsReplyFirst true (fetches t a)
fetches-first None a h = ordered a.outs h
fetches-first (Some t) a h =
    let reply = with_blocks t.message (blocks_back a.outs) in
    let rest = filter (λ (m : Message). not (goes_back m)) a.outs in
    ap (λ (ps : List Out). record { address = anonymous; bytes = message_text soap_space reply } ∷ ps)
    (sym (none-more rest (filtered-none a.outs)))

-- ---- whatever is asked for

-- a call that fetches nothing, without a connection
alone-first : (asked x : Asked) (answer : Asked → Answer) → asked ≡ x → (answer x).fetched ≡ None
    → IsReplyFirst false (answer asked)
alone-first asked x answer is none =
    subst (λ (y : Asked). IsReplyFirst false (answer y)) (sym is)
    (ap (λ (t : Option Fetched). fetched_packet t ++ outs_of (answer x).outs) (sym none))

-- the reply comes first
pub comes-first : (terms : Terms) (r : List Fact) (place now : ℕ) (kept : Keeping) (call : Call) (asked : Asked)
    → Asks call asked → IsReplyFirst (is_connected call) (answer_to terms r place now kept asked)
comes-first terms r place now kept (call.Create wish) asked is =
    alone-first asked _ (answer_to terms r place now kept) is (create-done terms r place (wish_seen wish)).alone
comes-first terms r place now kept (call.Send seq payload) asked is =
    alone-first asked _ (answer_to terms r place now kept) is (send-done terms r place seq payload).alone
comes-first terms r place now kept (call.Close seq) asked is =
    alone-first asked _ (answer_to terms r place now kept) is (close-done terms r place seq now).alone
comes-first terms r place now kept (call.End seq) asked is =
    alone-first asked _ (answer_to terms r place now kept) is (end-done terms r place seq).alone
comes-first terms r place now kept (call.AskAck seq) asked is =
    alone-first asked _ (answer_to terms r place now kept) is (ask-done r seq).alone
comes-first terms r place now kept (call.NackMissing seq) asked is =
    alone-first asked _ (answer_to terms r place now kept) is (nack-done r seq now).alone
comes-first terms r place now kept (call.Consume seq upto) asked is =
    alone-first asked _ (answer_to terms r place now kept) is (consume-done terms r place seq upto).alone
comes-first terms r place now kept (call.Tick moment) asked is =
    alone-first asked _ (answer_to terms r place now kept) is
    (tick-done terms r place moment kept.time kept.waits).alone
comes-first terms r place now kept (call.Poll to) asked is =
    alone-first asked _ (answer_to terms r place now kept) is (poll-done r to).alone
comes-first terms r place now kept (call.Receive bytes) asked is =
    let answer = receive terms r place now kept.granted is.content in
    subst (λ (x : Asked). IsReplyFirst true (answer_to terms r place now kept x)) (sym is.is)
    (fetches-first (awaited kept.polled (selected answer.outcome is.content)) answer
    (receive-first terms r place now kept.granted is.content))
