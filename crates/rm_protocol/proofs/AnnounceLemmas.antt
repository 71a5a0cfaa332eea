-- What a node announces for sequences stays, whatever else befalls it.
use Rattle.std.proofs.Common.{◌≡◌, ℕ, ◌+◌, ◌&&◌, not, nat_lt, cond, Bool, true, false, List, [], ◌∷◌, ◌++◌, refl, inl}
use Rattle.std.proofs.Common.{inr, sym, subst, ◌∙◌}
use Rattle.std.specs.Prelude.{Option, Some, None, Result, Ok, Err}
use Rattle.std.specs.List.{AllByRecursion}
use Rattle.rm_base.specs.Limits.{window}
use Rattle.rm_base.specs.NumberSet.{has_number}
use Rattle.rm_base.specs.declared.message.Behaviour.{Behaviour}
use Rattle.rm_base.specs.declared.message.Cause.TheVariants.{Peer, NotTaken}
use Rattle.rm_base.specs.declared.message.Payload.{Payload}
use Rattle.rm_message.specs.declared.elements.header.AckBlock.{AckBlock}
use Rattle.rm_message.specs.declared.elements.header.SeqHeader.{SeqHeader}
use Rattle.rm_message.specs.declared.elements.lifecycle.CreateResponse.{CreateResponse}
use Rattle.rm_message.specs.declared.elements.lifecycle.CreateSequence.{CreateSequence}
use Rattle.rm_message.specs.declared.elements.lifecycle.Lifecycle.TheVariants as life
use Rattle.rm_sides.specs.declared.source.phase.OutPhase.{OutPhase}
use Rattle.rm_sides.specs.declared.source.phase.OutPhase.TheVariants as out
use Rattle.rm_message.specs.declared.message.Body.{Body}
use Rattle.rm_message.specs.declared.message.Body.TheVariants as body
use Rattle.rm_message.specs.declared.message.Message.{Message}
use Rattle.wsa_headers.specs.declared.endpoint.Epr.{Epr}
use Rattle.record_batch.specs.Fact.{Fact, Acked, Received, ClosedOut, Closed, Ended, Granted}
use Rattle.record_batch.specs.Sequences.Words.{Text}
use Rattle.record_batch.specs.Sequences.Makers.{maker}
use Rattle.record_batch.specs.Sequences.Sources.{acked, is_sending, phase}
use Rattle.record_batch.specs.Sequences.Destinations.{held, front, has_end, is_ended, is_over}
use Rattle.record_batch.specs.Sequences.Find.{find_incoming, find_outgoing, find_grant, find_creating, is_offered}
use Rattle.rm_sides.specs.Ranges.Changes.{covers_all, united}
use Rattle.soap_document.specs.Profile.Tree.{Element}
use Rattle.soap_document.specs.declared.profile.name.Expanded.{Expanded}
use Rattle.rm_protocol.specs.Detail.{named_in}
use Rattle.rm_protocol.specs.Rows.{then_row, ranges_of, last_of, ack_at, ack_row, final_at, final_row, ack_rows}
use Rattle.rm_protocol.specs.Rows.{data_row_at, data_row, create_at, create_row, drop_at, drop_unless, response_at}
use Rattle.rm_protocol.specs.Rows.{response_row, close_at, terminate_at, closed_in, ended_in, closed_at, ended_at}
use Rattle.rm_protocol.specs.Rows.{refused_at, refused_row, failed_in, failed_at, shut_at, is_fault, fault_row}
use Rattle.rm_protocol.specs.Rows.{body_row, rows}
use Rattle.rm_protocol.specs.Terms.{Terms}
use Rattle.rm_protocol.proofs.ListLemmas.{All-append, All-weaker}
use Rattle.rm_message.specs.declared.refusal.FaultKind.{FaultKind}
use Rattle.rm_message.specs.declared.refusal.Refusal.{Refusal}
use Rattle.rm_protocol.specs.Announced.{AnnouncesOnly, AnnouncesStill, IsGrantedSo}
use Rattle.rm_protocol.specs.Calls.{Answer, Wish, judged}
use Rattle.rm_protocol.specs.Compact.{compacted_by, may_compact, rewritten, stops_compacting, with_list}
use Rattle.rm_protocol.specs.Node.{Node, State, Up, Writing, Compacting, after, after_by, goes_down, is_short}
use Rattle.rm_protocol.specs.Node.{node_end, records, with_batch, with_moves, with_polled, written}
use Rattle.rm_protocol.specs.Pair.{Act, Creates, Grants, Sends, Ticks, Closes, Ends, AsksAck, NacksMissing, Polls}
use Rattle.rm_protocol.specs.Pair.{Consumes, Receives, Compacts, Arms, Crashes, AreBrought, Brings, Gained, IsQuiet}
use Rattle.rm_protocol.specs.Pair.{IsWished}
use Rattle.rm_protocol.specs.Verdict.{verdict}
use Rattle.rm_protocol.specs.World.{received_by, with_clock}
use Rattle.rm_protocol.proofs.GainLemmas.{gains}

abbrev AreSo : Behaviour → List Fact → Type 0
AreSo y d = AllByRecursion (IsGrantedSo y) d

-- ---- the rows of a message

if_so : (y : Behaviour) (b : Bool) (rec : Fact) → IsGrantedSo y rec → AreSo y (cond b (rec ∷ []) [])
if_so y true rec e = (e, tt)
if_so y false rec e = tt

unless_so : (y : Behaviour) (b : Bool) (rec : Fact) → IsGrantedSo y rec → AreSo y (cond b [] (rec ∷ []))
unless_so y true rec e = tt
unless_so y false rec e = (e, tt)

one_row-so : (y : Behaviour) (k : AckBlock) (r : List Fact) → AreSo y (then_row (ack_row k) (final_row k) r)
one_row-so y k r =
    All-append (IsGrantedSo y) (ack_row k r) (final_row k (r ++ ack_row k r)) (by_found (find_outgoing r k.ident))
    (by_final (r ++ ack_row k r) (find_outgoing (r ++ ack_row k r) k.ident) k.last)
  where
    by_found : (x : Option ℕ) → AreSo y (ack_at x (ranges_of k.kind) r)
    by_found None = tt
    by_found (Some s) =
        unless_so y (covers_all (united [] (acked r s)) (ranges_of k.kind)) (Acked s (united [] (ranges_of k.kind))) tt

    by_final : (z : List Fact) (x : Option ℕ) (b : Bool) → AreSo y (final_at x b z)
    by_final z (Some s) true = if_so y (is_sending (phase z s)) (ClosedOut s) tt
    by_final z _ _ = tt

ack_rows-so : (y : Behaviour) (ks : List AckBlock) (r : List Fact) → AreSo y (ack_rows ks r)
ack_rows-so y [] r = tt
ack_rows-so y (k ∷ ks) r =
    let one = then_row (ack_row k) (final_row k) r in
    All-append (IsGrantedSo y) one (ack_rows ks (r ++ one)) (one_row-so y k r) (ack_rows-so y ks (r ++ one))

data_row-so : (y : Behaviour) (now : ℕ) (h : Option SeqHeader) (p : Payload) (r : List Fact)
    → AreSo y (data_row now h p r)
data_row-so y now None p r = tt
data_row-so y now (Some h) p r = by_found (find_incoming r h.ident)
  where
    chosen : (s : ℕ) (a b c : Bool) → AreSo y (cond a [] (cond b [] (cond c [] (Received s h.number p ∷ []))))
    chosen s false false false = (tt, tt)
    chosen s _ _ _ = tt

    by_found : (x : Option ℕ) → AreSo y (data_row_at now x h.number p r)
    by_found None = tt
    by_found (Some s) =
        chosen s (has_number (held r s) h.number) (is_over r s now) (nat_lt (front r s + window) h.number)

-- the one row that grants
create_row-so : (terms : Terms) (now : ℕ) (y : Behaviour) (t : Option Text) (c : CreateSequence) (r : List Fact)
    → AreSo y (create_row terms now y t c r)
create_row-so terms now y None c r = tt
create_row-so terms now y (Some t) c r = by_found (find_grant r t)
  where
    by_found : (x : Option ℕ) → AreSo y (create_at terms now y x t c r)
    by_found None = (refl, tt)
    by_found (Some s) = tt

drop_at-so : (y : Behaviour) (s : ℕ) (r : List Fact) → AreSo y (drop_at s r)
drop_at-so y s r = if_so y (is_offered (maker r (s + 1)) && not (has_end r (s + 1))) (Ended (s + 1) NotTaken 0) tt

drop_unless-so : (y : Behaviour) (x : Option Epr) (s : ℕ) (r : List Fact) → AreSo y (drop_unless x s r)
drop_unless-so y None s r = drop_at-so y s r
drop_unless-so y (Some endpoint) s r = tt

response_row-so : (y : Behaviour) (t : Option Text) (c : CreateResponse) (r : List Fact) → AreSo y (response_row t c r)
response_row-so y None c r = tt
response_row-so y (Some t) c r = by_found (find_creating r t) (find_outgoing r c.ident)
  where
    by_found : (a b : Option ℕ) → AreSo y (response_at a b c r)
    by_found (Some s) None = (tt, drop_unless-so y c.accept s r)
    by_found (Some s) (Some z) = tt
    by_found None b = tt

close_at-so : (y : Behaviour) (now : ℕ) (x : Option ℕ) (n : ℕ) (r : List Fact) → AreSo y (close_at now x n r)
close_at-so y now None n r = tt
close_at-so y now (Some s) n r = unless_so y (is_over r s now) (Closed s Peer n) tt

terminate_at-so : (y : Behaviour) (now : ℕ) (x : Option ℕ) (n : ℕ) (r : List Fact) → AreSo y (terminate_at now x n r)
terminate_at-so y now None n r = tt
terminate_at-so y now (Some s) n r = unless_so y (is_ended r s now) (Ended s Peer n) tt

closed_at-so : (y : Behaviour) (x : Option ℕ) (r : List Fact) → AreSo y (closed_at x r)
closed_at-so y None r = tt
closed_at-so y (Some s) r = by_phase (phase r s)
  where
    by_phase : (p : OutPhase) → AreSo y (closed_in s p)
    by_phase out.Closing = (tt, tt)
    by_phase _ = tt

ended_at-so : (y : Behaviour) (x : Option ℕ) (r : List Fact) → AreSo y (ended_at x r)
ended_at-so y None r = tt
ended_at-so y (Some s) r = by_phase (phase r s)
  where
    by_phase : (p : OutPhase) → AreSo y (ended_in s p)
    by_phase out.Ending = (tt, tt)
    by_phase _ = tt

refused_row-so : (y : Behaviour) (t : Option Text) (r : List Fact) → AreSo y (refused_row t r)
refused_row-so y None r = tt
refused_row-so y (Some t) r = by_found (find_creating r t)
  where
    by_found : (x : Option ℕ) → AreSo y (refused_at x r)
    by_found None = tt
    by_found (Some s) = (tt, drop_at-so y s r)

failed_at-so : (y : Behaviour) (fault : ℕ) (x : Option ℕ) (r : List Fact) → AreSo y (failed_at fault x r)
failed_at-so y fault None r = tt
failed_at-so y fault (Some s) r = by_phase (phase r s)
  where
    by_phase : (p : OutPhase) → AreSo y (failed_in fault s p)
    by_phase out.Ending = (tt, tt)
    by_phase out.Open = (tt, tt)
    by_phase out.Closing = (tt, tt)
    by_phase out.Closed = (tt, tt)
    by_phase _ = tt

shut_at-so : (y : Behaviour) (x : Option ℕ) (r : List Fact) → AreSo y (shut_at x r)
shut_at-so y None r = tt
shut_at-so y (Some s) r = if_so y (is_sending (phase r s)) (ClosedOut s) tt

fault_row-so : (y : Behaviour) (t : Option Text) (subcode : Option Expanded) (detail : List Element) (r : List Fact)
    → AreSo y (fault_row t subcode detail r)
fault_row-so y t subcode detail r =
    chosen (is_fault _ subcode) (is_fault _ subcode) (is_fault _ subcode) (is_fault _ subcode) (is_fault _ subcode)
  where
    chosen : (v w a b c : Bool) → AreSo y (cond v (refused_row t r) (cond w (failed_at 14 (named_in r detail) r)
        (cond a (failed_at 13 (named_in r detail) r)
        (cond b (failed_at 11 (named_in r detail) r) (cond c (shut_at (named_in r detail) r) [])))))
    chosen true w a b c = refused_row-so y t r
    chosen false true a b c = failed_at-so y 14 (named_in r detail) r
    chosen false false true b c = failed_at-so y 13 (named_in r detail) r
    chosen false false false true c = failed_at-so y 11 (named_in r detail) r
    chosen false false false false true = shut_at-so y (named_in r detail) r
    chosen false false false false false = tt

body_row-so : (terms : Terms) (now : ℕ) (y : Behaviour) (m : Message) (content : Body) (r : List Fact)
    → AreSo y (body_row terms now y m content r)
body_row-so terms now y m (body.Payload p) r = data_row-so y now m.sequence p r
body_row-so terms now y m (body.Lifecycle (life.Create x)) r =
    create_row-so terms now y m.addressing.message_id x r
body_row-so terms now y m (body.Lifecycle (life.CreateResponse x)) r = response_row-so y m.addressing.relates x r
body_row-so terms now y m (body.Lifecycle (life.Close x)) r =
    close_at-so y now (find_incoming r x.ident) (last_of x.last_number) r
body_row-so terms now y m (body.Lifecycle (life.Terminate x)) r =
    terminate_at-so y now (find_incoming r x.ident) (last_of x.last_number) r
body_row-so terms now y m (body.Lifecycle (life.CloseResponse q)) r = closed_at-so y (find_outgoing r q) r
body_row-so terms now y m (body.Lifecycle (life.TerminateResponse q)) r = ended_at-so y (find_outgoing r q) r
body_row-so terms now y m (body.Fault x) r = fault_row-so y m.addressing.relates x.subcode x.detail r
body_row-so terms now y m (body.Lifecycle (life.Make x)) r = tt
body_row-so terms now y m body.Empty r = tt

rows-so : (terms : Terms) (now : ℕ) (y : Behaviour) (m : Message) (r : List Fact) → AreSo y (rows terms now y m r)
rows-so terms now y m r =
    let acks = ack_rows m.acks r in
    All-append (IsGrantedSo y) acks (body_row terms now y m m.body (r ++ acks)) (ack_rows-so y m.acks r)
    (body_row-so terms now y m m.body (r ++ acks))

received-so : (terms : Terms) (x : Node) (content : Result Message Refusal)
    → AreSo x.granted (received_by terms x content).delta
received-so terms x (Err refusal) = tt
received-so terms x (Ok m) = by_verdict (verdict terms (records x) (node_end terms x) x.clock x.granted m)
  where
    by_verdict : (v : Option FaultKind) → AreSo x.granted (judged terms (records x) x.clock x.granted m v).delta
    by_verdict (Some kind) = tt
    by_verdict None = rows-so terms x.clock x.granted m (records x)

-- ---- a step

quiet-so : (y : Behaviour) (rec : Fact) → IsQuiet rec → IsGrantedSo y rec
quiet-so y (Granted drawn message_id acks_to behaviour deadline lapse offer) h = absurd h
quiet-so y _ h = tt

wished-so : (y : Behaviour) (wish : Wish) (rec : Fact) → IsWished wish rec → IsGrantedSo y rec
wished-so y wish (Granted drawn message_id acks_to behaviour deadline lapse offer) h = absurd h
wished-so y wish _ h = tt

all-quiet : (y : Behaviour) (d : List Fact) → AllByRecursion IsQuiet d → AreSo y d
all-quiet y d h = All-weaker IsQuiet (IsGrantedSo y) (quiet-so y) d h

sent-so : (y : Behaviour) (s : ℕ) (text : Text) (d : List Fact) → AreBrought (Sends s text) d → AreSo y d
sent-so y s text d (inl e) = subst (AreSo y) (sym e) tt
sent-so y s text d (inr e) = subst (AreSo y) (sym e) (tt, tt)

-- what was added, and what is writing
gained-so : (y : Behaviour) (act : Act) (x z : Node) → Gained act x z → z.granted ≡ x.granted
    → ((d : List Fact) → AreBrought act d → AreSo y d) → AnnouncesOnly y x → AnnouncesOnly y z
gained-so y act x z g same f h = record {
  granted_ = same ∙ h.granted_;
  records_ = subst (AreSo y) (sym g.is) (All-append (IsGrantedSo y) x.whole g.delta h.records_ (elim g.from [
    | inl brought ↦ f g.delta brought
    | inr writing ↦ h.writes g.delta writing
  ]));
  writes = λ d e. elim (g.next d e).1 [ inl brought ↦ f d brought | inr writing ↦ h.writes d writing ];
}

after-granted : (x : Node) (z : State) (answer : Answer) → (after_by x z answer).granted ≡ x.granted
after-granted x Up answer = by_delta answer.delta
  where
    by_delta : (delta : List Fact) → (written x delta).granted ≡ x.granted
    by_delta [] = refl
    by_delta (rec ∷ delta) = elim (is_short 4 x.fuse) as (λ b.
        (cond b (goes_down x (rec ∷ delta)) (with_batch x (rec ∷ delta))).granted ≡ x.granted) [
          | true ↦ refl
          | false ↦ refl
        ]
after-granted x (Writing delta) answer = refl
after-granted x (Compacting start) answer = refl

compacted-granted : (terms : Terms) (x : Node) (z : State) → (compacted_by terms x z).granted ≡ x.granted
compacted-granted terms x Up = elim (may_compact terms x) as (λ b.
    (cond b (rewritten terms x) x).granted ≡ x.granted) [
      | true ↦ elim (is_short 5 x.fuse) as (λ b.
          (cond b (stops_compacting terms x) (with_list terms x)).granted ≡ x.granted) [
            | true ↦ refl
            | false ↦ refl
          ]
      | false ↦ refl
    ]
compacted-granted terms x (Writing delta) = refl
compacted-granted terms x (Compacting start) = refl

-- what is received
taken-so : (x : Node) (answer : Answer) (y : Behaviour) → AreSo y answer.delta → AnnouncesOnly y x
    → AnnouncesOnly y (after x answer)
taken-so x answer y so h = by_state x.state refl
  where
    by_delta : (delta : List Fact) → answer.delta ≡ delta → x.state ≡ Up
        → AnnouncesOnly y (with_moves x answer (with_polled x answer (written x delta)))
    by_delta [] e up = record { granted_ = h.granted_; records_ = h.records_; writes = λ d k. h.writes d k }
    by_delta (rec ∷ delta) e up =
        elim (is_short 4 x.fuse) as (λ z. AnnouncesOnly y (with_moves x answer (with_polled x answer
        (cond z (goes_down x (rec ∷ delta)) (with_batch x (rec ∷ delta)))))) [
          | true ↦ record {
            granted_ = h.granted_;
            records_ = h.records_;
            writes = λ d k. let same : rec ∷ delta ≡ d = cc in subst (AreSo y) (e ∙ same) so;
          }
          | false ↦ record {
            granted_ = h.granted_;
            records_ = All-append (IsGrantedSo y) x.whole (rec ∷ delta) h.records_ (subst (AreSo y) e so);
            writes = λ d k. h.writes d k;
          }
        ]

    by_state : (z : State) → x.state ≡ z → AnnouncesOnly y (after_by x z answer)
    by_state Up e = by_delta answer.delta refl e
    by_state (Writing delta) e = h
    by_state (Compacting start) e = h

pub announces-still : AnnouncesStill
announces-still terms y x (Creates wish) n h = gained-so y _ x _ (gains terms x (Creates wish))
    (after-granted x x.state _) (λ d b. All-weaker (IsWished wish) (IsGrantedSo y) (wished-so y wish) d b) h
announces-still terms y x (Grants behaviour) n h = absurd n
announces-still terms y x (Sends seq text) n h = gained-so y _ x _ (gains terms x (Sends seq text))
    (after-granted x x.state _) (sent-so y seq text) h
announces-still terms y x (Ticks now) n h = gained-so y _ x _ (gains terms x (Ticks now))
    (after-granted (with_clock x now) x.state _) (all-quiet y) h
announces-still terms y x (Closes seq) n h = gained-so y _ x _ (gains terms x (Closes seq))
    (after-granted x x.state _) (all-quiet y) h
announces-still terms y x (Ends seq) n h = gained-so y _ x _ (gains terms x (Ends seq))
    (after-granted x x.state _) (all-quiet y) h
announces-still terms y x (AsksAck seq) n h = gained-so y _ x _ (gains terms x (AsksAck seq))
    (after-granted x x.state _) (all-quiet y) h
announces-still terms y x (NacksMissing seq) n h = gained-so y _ x _ (gains terms x (NacksMissing seq))
    (after-granted x x.state _) (all-quiet y) h
announces-still terms y x (Polls to) n h = gained-so y _ x _ (gains terms x (Polls to))
    (after-granted x x.state _) (all-quiet y) h
announces-still terms y x (Consumes seq upto) n h = gained-so y _ x _ (gains terms x (Consumes seq upto))
    (after-granted x x.state _)
    (λ d b. All-weaker (Brings (Consumes seq upto)) (IsGrantedSo y) (λ rec e. subst (IsGrantedSo y) (sym e) tt) d b) h
announces-still terms y x (Receives content) n h =
    taken-so x (received_by terms x content) y
    (subst (λ z. AreSo z (received_by terms x content).delta) h.granted_ (received-so terms x content)) h
announces-still terms y x Compacts n h = gained-so y _ x _ (gains terms x Compacts)
    (compacted-granted terms x x.state) (all-quiet y) h
announces-still terms y x (Arms calls) n h = gained-so y _ x _ (gains terms x (Arms calls)) refl (all-quiet y) h
announces-still terms y x (Crashes kept) n h = gained-so y _ x _ (gains terms x (Crashes kept)) refl (all-quiet y) h
