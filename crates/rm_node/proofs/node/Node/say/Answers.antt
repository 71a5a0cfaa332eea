use Rattle.std.proofs.Common.{◌≡◌, ◌∙◌, ℕ, Bool, List, map, ap, sym, subst}
use Rattle.rm_disk.specs.Journal.JournalState.{end_of}
use Rattle.record_batch.specs.Fact.{Fact, fact_of}
use Rattle.rm_protocol.specs.Terms.{Terms}
use Rattle.node_laws.specs.OwnTerms.{AreOwn}
use Rattle.node_laws.specs.Records.{IsKept}
use Rattle.node_laws.specs.Answers.Answers.{MayBeStored}
use Rattle.rm_node.specs.Asked.{Asked, Asks, answer_to}
use Rattle.rm_node.specs.Fetching.{whole}
use Rattle.rm_node.specs.Keeping.{Keeping, Keeps}
use Rattle.rm_node.specs.Noded.{Noded}
use Rattle.rm_node.specs.Packets.{reply_of}
use Rattle.rm_node.specs.Timed.{begun_with}
use Rattle.rm_node.proofs.SayLemmas.{inside_keeps, may_be_written}
use Rattle.rm_node.proofs.StepLemmas.{some_terms}
use Rattle.rm_node.proofs.node.Node.say.Goals as goal

pub begun_with_call-begun-requires : goal.begun_with_call-begun-requires
begun_with_call-begun-requires c =
    subst IsKept (sym c.tables_and_end-place.ensures.records) c.tables_and_end-place.ensures.runs.records

pub returns-clause-says : goal.returns-clause-says
returns-clause-says c =
    let n = c.args.self.now in
    let now = c.args.now in
    let at = c.tables_and_end-place.result in
    let same = c.tables_and_end-place.ensures in
    let a = c.in_ok-answered.answered in
    let delta = map fact_of a.answer.batch.items in
    let own = some_terms c.there_are_own_terms.ensures in
    let kept = same.runs.keeping in
    let asked = c.in_ok-answered.ensures.asked in
    let stored = subst (λ (r : List Fact). MayBeStored r (end_of n.stored.journal) delta) same.records
    (subst (λ (p : ℕ). MayBeStored at.0.now.records p delta) same.place c.in_ok-answered.ensures.stored) in
    let is : (terms : Terms) → AreOwn terms → (k : Keeping) → Keeps n.kept k → (x : Asked) → Asks c.args.call x
    → whole a ≡ answer_to terms n.stored.records (end_of n.stored.journal) now k x =
    λ terms owns k keeps x asks. c.in_ok-answered.ensures.is terms owns k
    (inside_keeps c.self.inside.kept k (subst (λ (m : Noded). Keeps m.kept k) (sym c.self.view_is) keeps)) x asks
    ∙ ap (λ (r : List Fact). answer_to terms r at.1 now k x) same.records
    ∙ ap (λ (p : ℕ). answer_to terms n.stored.records p now k x) same.place in
    record {
      up = c.in_ok-check_up.ensures.up;
      asked = asked;
      is = is;
      may = may_be_written c.what_is_read_may_be_written.ensures c.a_refusal_may_be_answered.ensures.refusal
          c.each_call_keeps_the_records.ensures c.only_what_was_heard_is_recorded.ensures
          c.what_begins_waits.ensures own.0 own.1 n.stored.records (end_of n.stored.journal) now kept.0 c.args.call
          asked.0 (whole a) c.begun_with_call-begun.result same.runs.records
          c.requires asked.1 stored
          (is own.0 own.1 kept.0 kept.1 asked.0 asked.1)
          (c.begun_with_call-begun.ensures asked.0 asked.1
          ∙ ap (λ (r : List Fact). begun_with r asked.0) same.records);
      reply = c.in_ok-handed.ensures.reply
          ∙ ap (λ (b : Bool). reply_of b (whole a)) c.is_connected-connected.ensures;
      outs = c.in_ok-handed.ensures.outs;
    }
