use Rattle.std.proofs.Common.{◌≡◌, ◌<◌, ap, sym, ◌∙◌, drop, length, arith}
use Rattle.std.specs.Prelude.{None, option_map, slice_set}
use Rattle.std.proofs.lemmas.List.{get_or_default}
use Rattle.timers.specs.Pending.Table.{front_of, queue_at}
use Rattle.timers.proofs.PendingLemmas.TableLemmas.{first-front, take-contents, take-kept, take-packet, take-slot}
use Rattle.timers.proofs.pending.queues.Queues.take.Goals as goal

pub invariant_of-self : goal.invariant_of-self
invariant_of-self g c =
    let s = c.self.inside in
    rw (c.take.ensures.after) (take-kept s.packets.items s.links c.take_first.new.links c.args.queue c.in-Some.slot
    c.self.invariant c.requires.queue c.in-Some.ensures.some)

pub returns-in-Some-clause-first : goal.returns-in-Some-clause-first
returns-in-Some-clause-first g c =
    let s = c.self.inside in
    let q = queue_at c.args.self.now c.args.queue in
    let lt : c.in-Some.slot < 16384 =
    take-slot s.packets.items s.links c.take_first.new.links c.args.queue c.in-Some.slot c.self.invariant
    c.requires.queue c.in-Some.ensures.some in
    let all : length s.packets.items ≡ 16384 = c.self.invariant.places in
    let front : c.take.result ≡ front_of q =
    c.take.ensures.value ∙ c.index_mut.ensures.value
    ∙ get_or_default s.packets.items c.in-Some.slot c.index_mut.result.now None (omega arith)
    ∙ take-packet s.packets.items s.links c.take_first.new.links c.args.queue c.in-Some.slot c.self.invariant
    c.requires.queue c.in-Some.ensures.some ∙ ap (λ v. front_of (queue_at v c.args.queue)) c.self.view_is in
    c.with_more.ensures ∙ ap (λ b. option_map (λ p. (p, b)) c.take.result) c.has-more.ensures
    ∙ sym (first-front q c.take.result (sym front))

pub returns-in-Some-clause-taken : goal.returns-in-Some-clause-taken
returns-in-Some-clause-taken g c =
    let s = c.self.inside in
    rw (c.take.ensures.after) (take-contents s.packets.items s.links c.take_first.new.links c.args.queue c.in-Some.slot
    c.self.invariant c.requires.queue c.in-Some.ensures.some
    ∙ ap (λ v. slice_set v c.args.queue (drop 1 (queue_at v c.args.queue))) c.self.view_is)
