use Rattle.std.proofs.Common.{◌≡◌, ap, ◌∙◌, ◌+◌, subst}
use Rattle.std.specs.Prelude.{IfOk}
use Rattle.rm_protocol.specs.Calls.{Answer, offer_of}
use Rattle.node_laws.specs.Answers.Answers.{seen, wish_seen}
use Rattle.node_calls.proofs.ComesLemmas.{comes-asked, with-pushed}
use Rattle.node_calls.proofs.requests.asked.Goals as goal

pub returns-clause-is : goal.returns-clause-is
returns-clause-is c =
    let r = c.args.tables.now.records in
    let drawn = c.counter-drawn.ensures in
    let is = with-pushed r _ c.new-ahead.result c.push.new.self c.new-ahead.ensures c.push.ensures.records
    c.in_ok-push.ensures.ok in
    let said = c.in_ok-request.ensures _ c.home.ensures.home in
    let comes = comes-asked r (wish_seen c.args.wish) c.push.new.self c.in_ok-request.request _ _ _
    c.requires.serving.fit is (ap (λ n. n + 1) drawn) c.in_ok-again.ensures.is
    (c.own_offer-offer.ensures ∙ ap (λ n. offer_of n c.args.wish.offer) drawn) said in
    subst (λ (x : Answer). IfOk c.added.result (λ a. seen a ≡ x)) comes c.added.ensures
