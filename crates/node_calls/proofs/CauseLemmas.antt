-- A call is refused for the first reason that holds.
use Rattle.std.proofs.Common.{◌≡◌, ℕ, ◌<◌, ◌≤◌, arith, Bool, true, false, cond, List, length, refl, ap}
use Rattle.std.proofs.Common.{◌∙◌, Option, Some}
use Rattle.std.proofs.Common.{None}
use Rattle.std.specs.Prelude.{not, nat_le, nat_lt}
use Rattle.std.specs.Option.{option_or}
use Rattle.std.proofs.lemmas.Bool.Decides.{nat_tests}
use Rattle.rm_base.specs.Limits.{most_sequences, most_unacked, payload_bytes, window}
use Rattle.rm_base.specs.Message.{max_number}
use Rattle.record_batch.specs.Fact.{Fact}
use Rattle.record_batch.specs.Sequences.Words.{Text}
use Rattle.record_batch.specs.Sequences.Makers.{Maker, Outgoing, Offered, Incoming, Taken, maker}
use Rattle.record_batch.specs.Sequences.Sources.{accepted_count, all_unacked, phase, unacked}
use Rattle.rm_protocol.specs.Calls.{Answer, Cause, PayloadTooLong, BadPayload, NotOpen, WindowFull, NodeFull, Rollover}
use Rattle.rm_protocol.specs.Calls.{if_room, is_open, on_outgoing, refusal, send, send_out}
use Rattle.rm_protocol.specs.Terms.{Terms}
use Rattle.node_calls.specs.Causes.{payload_cause, send_cause, side_cause, unless_refused, window_cause}
use Rattle.node_calls.specs.Comes.{sent}

pub on_outgoing-is : (m : Option Maker) (a : Answer) → on_outgoing m a ≡ unless_refused (side_cause m) a
on_outgoing-is None a = refl
on_outgoing-is (Some (Outgoing ticket to via lapse)) a = refl
on_outgoing-is (Some (Taken message_id ident endpoint)) a = refl
on_outgoing-is (Some (Offered ticket counter to behaviour)) a = refl
on_outgoing-is (Some (Incoming counter message_id acks_to behaviour deadline lapse)) a = refl

unless_refused-or : (x y : Option Cause) (a : Answer)
    → unless_refused x (unless_refused y a) ≡ unless_refused (option_or x y) a
unless_refused-or None y a = refl
unless_refused-or (Some cause) y a = refl

send_out-is : (terms : Terms) (r : List Fact) (place s : ℕ) (p : Text) → send_out terms r place s p
    ≡ unless_refused (option_or (payload_cause terms p) (window_cause r s)) (if_room terms place (sent r s p))
send_out-is terms r place s p =
    tested (nat_lt payload_bytes (length p)) (not (terms.is_content p)) (not (is_open (phase r s)))
    (nat_le window (unacked r s)) (nat_le most_unacked (all_unacked r)) (nat_le max_number (accepted_count r s))
  where
    tested : (a b c d e f : Bool) → cond a (refusal (PayloadTooLong (length p))) (cond b (refusal BadPayload)
        (cond c (refusal NotOpen) (cond d (refusal (WindowFull (unacked r s)))
        (cond e (refusal (NodeFull (all_unacked r))) (cond f (refusal Rollover) (if_room terms place (sent r s p)))))))
        ≡ unless_refused (option_or (cond a (Some (PayloadTooLong (length p))) (cond b (Some BadPayload) None))
        (cond c (Some NotOpen) (cond d (Some (WindowFull (unacked r s)))
        (cond e (Some (NodeFull (all_unacked r))) (cond f (Some Rollover) None)))))
        (if_room terms place (sent r s p))
    tested true b c d e f = refl
    tested false true c d e f = refl
    tested false false true d e f = refl
    tested false false false true e f = refl
    tested false false false false true f = refl
    tested false false false false false true = refl
    tested false false false false false false = refl

pub send-is : (terms : Terms) (r : List Fact) (place s : ℕ) (p : Text) → send terms r place s p
    ≡ unless_refused (send_cause terms r s p) (if_room terms place (sent r s p))
send-is terms r place s p =
    on_outgoing-is (maker r s) (send_out terms r place s p)
    ∙ ap (unless_refused (side_cause (maker r s))) (send_out-is terms r place s p)
    ∙ unless_refused-or (side_cause (maker r s)) (option_or (payload_cause terms p) (window_cause r s)) _

-- too many messages of the node wait
pub node-full : (r : List Fact) (s all : ℕ) → is_open (phase r s) ≡ true → unacked r s < window → all ≡ all_unacked r
    → most_unacked ≤ all → Some (NodeFull all) ≡ window_cause r s
node-full r s all opens few is many =
    let a : not (is_open (phase r s)) ≡ false = ap not opens in
    let b : nat_le window (unacked r s) ≡ false = grind (arith, nat_tests) in
    let d : nat_le most_unacked (all_unacked r) ≡ true = grind (arith, nat_tests) in
    tested (not (is_open (phase r s))) (nat_le window (unacked r s)) (nat_le most_unacked (all_unacked r)) a b d
  where
    tested : (x y z : Bool) → x ≡ false → y ≡ false → z ≡ true → Some (NodeFull all)
        ≡ cond x (Some NotOpen) (cond y (Some (WindowFull (unacked r s))) (cond z (Some (NodeFull (all_unacked r)))
        (cond (nat_le max_number (accepted_count r s)) (Some Rollover) None)))
    tested false false true e f g = ap (λ (n : ℕ). Some (NodeFull n)) is
    tested true y z e f g = absurd (cc)
    tested false true z e f g = absurd (cc)
    tested false false false e f g = absurd (cc)

pub few-enough : (n : ℕ) → n ≤ most_sequences → nat_lt most_sequences n ≡ false
few-enough n h = grind (arith, nat_tests)
