-- No call fetches what waits, but for what the receiving of a message is given besides (`polls`).
use Rattle.std.proofs.Common.{◌≡◌, ℕ, Bool, true, false, cond, max, List, Option, Some, None, refl, []}
use Rattle.std.specs.Prelude.{Result, Ok, Err}
use Rattle.rm_base.specs.declared.message.Behaviour.{Behaviour}
use Rattle.timers.specs.Keys.Waits.{Wait, first_due}
use Rattle.rm_message.specs.declared.message.Message.{Message}
use Rattle.rm_message.specs.declared.refusal.FaultKind.{FaultKind}
use Rattle.rm_message.specs.declared.refusal.Refusal.{Refusal}
use Rattle.record_batch.specs.Fact.{Fact}
use Rattle.record_batch.specs.Sequences.Destinations.{is_over}
use Rattle.record_batch.specs.Sequences.Makers.{Maker, Outgoing, Offered, Incoming, Taken, maker, makers}
use Rattle.record_batch.specs.Sequences.Sources.{phase}
use Rattle.record_batch.specs.Sequences.Words.{Text}
use Rattle.rm_protocol.specs.Calls.{Answer, Cause, Wish, ask_ack, ask_out, close, close_by, close_in, close_out}
use Rattle.rm_protocol.specs.Calls.{consume, consume_in, create}
use Rattle.rm_protocol.specs.Calls.{end, end_out, if_room, may_end, nack_in, nack_missing, on_incoming, on_outgoing}
use Rattle.rm_protocol.specs.Calls.{expired_from, judged, receive, refusal, send, send_out, tick, ticked}
use Rattle.rm_protocol.specs.Terms.{Terms}
use Rattle.rm_protocol.specs.Verdict.{has_room, verdict}

-- nothing is fetched
pub record IsAlone (a : Answer) : Type 0 where
  pub none : a.fetched ≡ None

refused : (cause : Cause) → IsAlone (refusal cause)
refused cause = record { none = refl }

chosen : (b : Bool) (x y : Answer) → IsAlone x → IsAlone y → IsAlone (cond b x y)
chosen true x y p q = p
chosen false x y p q = q

-- records are added, where there is room
fits : (terms : Terms) (place : ℕ) (a : Answer) → a.fetched ≡ None → IsAlone (if_room terms place a)
fits terms place a none = chosen (has_room terms place a.delta) a _ (record { none = none }) (refused _)

outgoing : (m : Option Maker) (a : Answer) → IsAlone a → IsAlone (on_outgoing m a)
outgoing None a alone = refused _
outgoing (Some (Outgoing ticket to via lapse)) a alone = alone
outgoing (Some (Taken message_id ident endpoint)) a alone = alone
outgoing (Some (Offered ticket counter to behaviour)) a alone = refused _
outgoing (Some (Incoming counter message_id acks_to behaviour deadline lapse)) a alone = refused _

pub create-alone : (terms : Terms) (r : List Fact) (place : ℕ) (wish : Wish) → IsAlone (create terms r place wish)
create-alone terms r place wish = search (chosen, refused, fits)

send_out-alone : (terms : Terms) (r : List Fact) (place s : ℕ) (payload : Text)
    → IsAlone (send_out terms r place s payload)
send_out-alone terms r place s payload = search (chosen, refused, fits) depth 12

pub send-alone : (terms : Terms) (r : List Fact) (place s : ℕ) (payload : Text)
    → IsAlone (send terms r place s payload)
send-alone terms r place s payload =
    outgoing (maker r s) (send_out terms r place s payload) (send_out-alone terms r place s payload)

close_out-alone : (terms : Terms) (r : List Fact) (place s : ℕ) → IsAlone (close_out terms r place s)
close_out-alone terms r place s = search (chosen, refused, fits)

close_in-alone : (terms : Terms) (r : List Fact) (place s now : ℕ) → IsAlone (close_in terms r place s now)
close_in-alone terms r place s now = search (chosen, refused, fits)

close-by : (terms : Terms) (r : List Fact) (place s now : ℕ) (m : Option Maker)
    → IsAlone (close_by terms r place s now m)
close-by terms r place s now None = refused _
close-by terms r place s now (Some (Outgoing ticket to via lapse)) = close_out-alone terms r place s
close-by terms r place s now (Some (Taken message_id ident endpoint)) = close_out-alone terms r place s
close-by terms r place s now (Some (Offered ticket counter to behaviour)) = close_in-alone terms r place s now
close-by terms r place s now (Some (Incoming counter message_id acks_to behaviour deadline lapse)) =
    close_in-alone terms r place s now

pub close-alone : (terms : Terms) (r : List Fact) (place s now : ℕ) → IsAlone (close terms r place s now)
close-alone terms r place s now = close-by terms r place s now (maker r s)

end_out-alone : (terms : Terms) (r : List Fact) (place s : ℕ) → IsAlone (end_out terms r place s)
end_out-alone terms r place s = search (chosen, refused, fits)

pub end-alone : (terms : Terms) (r : List Fact) (place s : ℕ) → IsAlone (end terms r place s)
end-alone terms r place s = outgoing (maker r s) (end_out terms r place s) (end_out-alone terms r place s)

pub tick-alone : (terms : Terms) (r : List Fact) (place now time : ℕ) (waits : List Wait)
    → IsAlone (tick terms r place now time waits)
tick-alone terms r place now time waits =
    let ended = expired_from r now 0 (makers r) in
    let keys = first_due (max time now) waits in
    chosen (has_room terms place ended) (ticked r now keys ended) (ticked r now keys []) (record { none = refl })
    (record { none = refl })

pub ask-alone : (r : List Fact) (s : ℕ) → IsAlone (ask_ack r s)
ask-alone r s =
    outgoing (maker r s) (ask_out r s) (chosen (may_end (phase r s)) _ _ (record { none = refl }) (refused _))

nack_in-alone : (r : List Fact) (s now : ℕ) → IsAlone (nack_in r s now)
nack_in-alone r s now = chosen (is_over r s now) _ _ (refused _) (record { none = refl })

incoming : (m : Option Maker) (a : Answer) → IsAlone a → IsAlone (on_incoming m a)
incoming None a alone = refused _
incoming (Some (Outgoing ticket to via lapse)) a alone = refused _
incoming (Some (Taken message_id ident endpoint)) a alone = refused _
incoming (Some (Offered ticket counter to behaviour)) a alone = alone
incoming (Some (Incoming counter message_id acks_to behaviour deadline lapse)) a alone = alone

pub nack-alone : (r : List Fact) (s now : ℕ) → IsAlone (nack_missing r s now)
nack-alone r s now = incoming (maker r s) (nack_in r s now) (nack_in-alone r s now)

consume_in-alone : (terms : Terms) (r : List Fact) (place s upto : ℕ) → IsAlone (consume_in terms r place s upto)
consume_in-alone terms r place s upto = search (chosen, refused, fits)

pub consume-alone : (terms : Terms) (r : List Fact) (place s upto : ℕ) → IsAlone (consume terms r place s upto)
consume-alone terms r place s upto =
    incoming (maker r s) (consume_in terms r place s upto) (consume_in-alone terms r place s upto)

judged-by : (terms : Terms) (r : List Fact) (now : ℕ) (behaviour : Behaviour) (m : Message) (fault : Option FaultKind)
    → IsAlone (judged terms r now behaviour m fault)
judged-by terms r now behaviour m None = record { none = refl }
judged-by terms r now behaviour m (Some kind) = record { none = refl }

pub receive-alone : (terms : Terms) (r : List Fact) (place now : ℕ) (behaviour : Behaviour)
    (content : Result Message Refusal) → IsAlone (receive terms r place now behaviour content)
receive-alone terms r place now behaviour (Ok m) =
    judged-by terms r now behaviour m (verdict terms r place now behaviour m)
receive-alone terms r place now behaviour (Err refusal) = record { none = refl }
