use Rattle.std.proofs.Common.{◌≡◌, ◌<◌, ap, sym, ◌∙◌, length, arith, rules}
use Rattle.std.specs.Prelude.{Some, None}
use Rattle.std.proofs.lemmas.List.{get_or_default}
use Rattle.timers.specs.Pending.Table.{front_of, queue_at}
use Rattle.timers.proofs.PendingLemmas.TableLemmas.{first-front, first-is, none-is}
use Rattle.timers.proofs.pending.queues.Queues.first.Goals as goal

pub index-requires : goal.index-requires
index-requires g c =
    let s = c.self.inside in
    let x = first-is s.packets.items s.links c.args.queue c.in-Some.slot c.self.invariant c.requires.queue
    c.in-Some.ensures in
    let lt : c.in-Some.slot < 16384 = x.0 in
    let all : length s.packets.items ≡ 16384 = c.self.invariant.places in search rules

pub returns-in-Some-as_ref-clause-some : goal.returns-in-Some-as_ref-clause-some
returns-in-Some-as_ref-clause-some g c =
    let s = c.self.inside in
    let q = queue_at c.args.self.now c.args.queue in
    let x = first-is s.packets.items s.links c.args.queue c.in-Some.slot c.self.invariant c.requires.queue
    c.in-Some.ensures in
    let lt : c.in-Some.slot < 16384 = x.0 in
    let all : length s.packets.items ≡ 16384 = c.self.invariant.places in
    first-front q (Some c.in-Some-as_ref.packet.now) (sym (c.in-Some-as_ref.ensures.value ∙ c.index.ensures
    ∙ get_or_default s.packets.items c.in-Some.slot c.index.result.now None (omega arith)
    ∙ x.1 ∙ ap (λ v. front_of (queue_at v c.args.queue)) c.self.view_is))
    ∙ ap (λ b. Some (c.in-Some-as_ref.packet.now, b)) (sym c.has-more.ensures)

pub returns-in-None-as_ref-clause-none : goal.returns-in-None-as_ref-clause-none
returns-in-None-as_ref-clause-none g c =
    let s = c.self.inside in
    let x = first-is s.packets.items s.links c.args.queue c.in-Some.slot c.self.invariant c.requires.queue
    c.in-Some.ensures in
    let lt : c.in-Some.slot < 16384 = x.0 in
    let all : length s.packets.items ≡ 16384 = c.self.invariant.places in
    first-front (queue_at c.args.self.now c.args.queue) None (sym (c.in-None-as_ref.ensures.value ∙ c.index.ensures
    ∙ get_or_default s.packets.items c.in-Some.slot c.index.result.now None (omega arith)
    ∙ x.1 ∙ ap (λ v. front_of (queue_at v c.args.queue)) c.self.view_is))

pub returns-in-None-clause-none : goal.returns-in-None-clause-none
returns-in-None-clause-none g c =
    let s = c.self.inside in
    first-front (queue_at c.args.self.now c.args.queue) None
    (sym (ap (λ v. front_of (queue_at v c.args.queue)) c.self.view_is)
    ∙ none-is s.packets.items s.links.lists c.args.queue c.in-None.ensures)
