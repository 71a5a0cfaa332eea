use Rattle.std.proofs.Common.{◌≡◌, ◌≤◌, ◌+◌, ◌++◌, ◌∷◌, [], arith, codes, subst, sym, ap, ◌∙◌, Bool, Option, Some}
use Rattle.std.proofs.lemmas.Result.{IfOk-weaker}
use Rattle.rm_message.specs.declared.elements.lifecycle.Lifecycle.TheVariants as life
use Rattle.rm_message.specs.declared.message.Message.{Message}
use Rattle.wsa_headers.specs.declared.endpoint.Epr.{Epr}
use Rattle.record_batch.specs.Sequences.Find.{is_taken}
use Rattle.record_batch.specs.Sequences.Idents.{issue}
use Rattle.record_batch.specs.Sequences.Makers.{Maker, counter, maker, number}
use Rattle.rm_protocol.specs.Addresses.{reply_endpoint}
use Rattle.rm_protocol.specs.Messages.{response_of}
use Rattle.rm_protocol.specs.Said.{accept_by, grant_response}
use Rattle.receive_replies.proofs.DrawnLemmas.{granted-drawn}
use Rattle.receive_replies.proofs.responses.granted.Goals as goal
use Rattle.tables_ahead.specs.Known.{all_records}

pub grant_response-requires-clause-counter : goal.grant_response-requires-clause-counter
grant_response-requires-clause-counter c =
    let k = c.args.ahead.now in
    let there = rw c.in-Some-Granted.field-0-is at c.in-Some-Granted.ensures in
    let le : c.in-Some-Granted.counter ≤ counter (all_records k) =
    granted-drawn k.records k.delta c.args.seq _ c.len-sound.ensures.sound c.requires.fit (sym there) in
    omega (arith, le, c.requires.drawn)

pub returns-in_ok-response-in-Some-Granted : goal.returns-in_ok-response-in-Some-Granted
returns-in_ok-response-in-Some-Granted c =
    let r = all_records c.args.ahead.now in
    let s = c.args.seq in
    let t = c.args.message_id.now in
    let to = reply_endpoint c.args.addressing.now in
    let made = c.in-Some-Granted in
    let said = λ (to : Epr) (b : Bool). response_of to (Some t) (codes "CreateSequenceResponse")
    (life.CreateResponse (record {
      ident = issue (number r) made.counter;
      expires = made.lapse;
      behaviour = made.behaviour;
      accept = accept_by r b;
    })) [] in
    let there = rw made.field-0-is at made.ensures in
    IfOk-weaker c.one.result (λ ms. ms.items ≡ c.in_ok-response-in-Some-Granted.response ∷ [])
    (λ ms. ms.items ≡ grant_response r to t s (maker r s))
    (λ ms e. e
    ∙ ap (λ (m : Message). m ∷ []) (c.in_ok-response-in-Some-Granted.ensures r c.home.ensures.home
    ∙ ap (λ (e : Epr). said e c.is_taken.result) c.in_ok-reply_endpoint-in-Some-Granted.ensures
    ∙ ap (λ (b : Bool). said to b) c.is_taken.ensures)
    ∙ ap (λ (o : Option Maker). grant_response r to t s o) there)
    c.one.ensures
