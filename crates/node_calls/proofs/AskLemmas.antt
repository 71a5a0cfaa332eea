-- Calls that ask a peer come to what is said with nothing ahead.
use Rattle.std.proofs.Common.{◌≡◌, ℕ, Bool, true, false, cond, List, [], ◌∷◌, ◌++◌, sym, ap, ◌∙◌, append-nil, Option}
use Rattle.std.proofs.Common.{Some, None}
use Rattle.std.specs.Option.{option_to_list}
use Rattle.rm_message.specs.declared.message.Message.{Message}
use Rattle.record_batch.specs.Fact.{Fact}
use Rattle.record_batch.specs.Sequences.Makers.{Maker, maker}
use Rattle.record_batch.specs.Sequences.Sources.{out_ident, phase}
use Rattle.record_batch.specs.Sequences.Destinations.{is_over}
use Rattle.record_batch.specs.Sequences.Find.{peer}
use Rattle.rm_protocol.specs.Calls.{Answer, Cause, NotOpen, adds, ask_out, ask_to, made_by, may_end, nack_by, nack_in}
use Rattle.rm_protocol.specs.Calls.{on_outgoing, refusal}
use Rattle.rm_protocol.specs.Polls.{make_message, poll}
use Rattle.record_batch.specs.Sequences.Words.{Text}
use Rattle.tables_ahead.specs.Known.{KnownRecords, all_records}
use Rattle.node_calls.specs.Causes.{side_cause, unless_refused}
use Rattle.node_calls.specs.Comes.{done}
use Rattle.node_calls.proofs.CauseLemmas.{on_outgoing-is}

-- nothing is ahead
pub bare : (k : KnownRecords) → k.delta ≡ [] → all_records k ≡ k.records
bare k nothing = ap (λ (ds : List Fact). k.records ++ ds) nothing ∙ append-nil k.records

comes : (r : List Fact) (k : KnownRecords) (o : Option Message) (said : List Fact → List Message)
    → k ≡ record { records = r; delta = [] } → option_to_list o ≡ said (all_records k)
    → done k.delta (option_to_list o) ≡ adds r [] said
comes r k o said is e =
    ap (λ (ms : List Message). done k.delta ms) e
    ∙ ap (λ (x : KnownRecords). done x.delta (said (all_records x))) is

-- a request for an acknowledgement
pub ask-comes : (r : List Fact) (s : ℕ) (k : KnownRecords) (o : Option Message)
    → k ≡ record { records = r; delta = [] } → may_end (phase r s) ≡ true
    → option_to_list o ≡ ask_to (peer (all_records k) s) (out_ident (all_records k) s)
    → done k.delta (option_to_list o) ≡ ask_out r s
ask-comes r s k o is may e =
    let said = λ (after : List Fact). ask_to (peer after s) (out_ident after s) in
    comes r k o said is e ∙ sym (ap (λ (b : Bool). cond b (adds r [] said) (refusal NotOpen)) may)

-- a Nack
pub nack-comes : (r : List Fact) (s now : ℕ) (k : KnownRecords) (o : Option Message)
    → k ≡ record { records = r; delta = [] } → is_over r s now ≡ false
    → option_to_list o ≡ nack_by (all_records k) s (made_by (all_records k) (maker (all_records k) s))
    → done k.delta (option_to_list o) ≡ nack_in r s now
nack-comes r s now k o is opens e =
    let said = λ (after : List Fact). nack_by after s (made_by after (maker after s)) in
    comes r k o said is e ∙ sym (ap (λ (b : Bool). cond b (refusal NotOpen) (adds r [] said)) opens)

-- a MakeConnection
pub poll-comes : (r : List Fact) (to : Text) (k : KnownRecords) (m : Message)
    → k ≡ record { records = r; delta = [] } → m ≡ make_message (all_records k) to
    → done k.delta (option_to_list (Some m)) ≡ poll r to
poll-comes r to k m is e =
    comes r k (Some m) (λ (after : List Fact). make_message after to ∷ []) is
    (ap (λ (x : Message). x ∷ []) e)

-- a call for an outgoing sequence is refused by its side, or isn't
pub refused-side : (m : Option Maker) (a : Answer) (cause : Cause) → Some cause ≡ side_cause m
    → refusal cause ≡ on_outgoing m a
refused-side m a cause is = ap (λ (o : Option Cause). unless_refused o a) is ∙ sym (on_outgoing-is m a)

pub right-side : (m : Option Maker) (a : Answer) → None ≡ side_cause m → a ≡ on_outgoing m a
right-side m a is = ap (λ (o : Option Cause). unless_refused o a) is ∙ sym (on_outgoing-is m a)
