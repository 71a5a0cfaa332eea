use Rattle.std.proofs.Common.{◌≡◌, ◌-◌, ◌+◌, ℕ, sym, ap, ◌∙◌, arith, List}
use Rattle.timers.specs.declared.links.nodes.Node.{Node}
use Rattle.timers.specs.Links.Nodes.{stepped, next_of}
use Rattle.timers.proofs.LinksLemmas.WalkLemmas.{stepped_more, stepped_out}
use Rattle.timers.proofs.links.nodes.step_on.Goals as goal

pub loop-init : goal.loop-init
loop-init g c = record {
  place = (let e : c.args.k - 0 ≡ c.args.k = omega arith in
      ap (λ (m : ℕ). stepped c.args.nodes.now.items c.args.slots m c.args.at) e);
  cost = omega arith;
}

pub returns-then-here-slots-clause-place : goal.returns-then-here-slots-clause-place
returns-then-here-slots-clause-place g c =
    sym (stepped_out c.args.nodes.now.items c.args.slots (c.args.k - c.loop.counter) c.loop.here c.if-here-slots.true)
    ∙ c.loop.invariant.place

pub loop-preserved : goal.loop-preserved
loop-preserved g c =
    let next : c.read-here.result.next ≡ next_of c.args.nodes.now.items c.loop.here =
    ap (λ (v : Node). v.next) c.read-here.ensures.node
    ∙ ap (λ (n : List Node). next_of n c.loop.here) c.deref.ensures.value in
    record {
      place = ap (λ (a : ℕ). stepped c.args.nodes.now.items c.args.slots (c.args.k - (c.loop.counter + 1)) a) next
          ∙ sym (stepped_more c.args.nodes.now.items c.args.slots c.args.k c.loop.counter c.loop.here
          c.if-here-slots.false
          c.loop-test.true)
          ∙ c.loop.invariant.place;
      cost = omega (arith, c.loop.invariant.cost);
    }

pub returns-clause-place : goal.returns-clause-place
returns-clause-place g c =
    let e : 0 ≡ c.args.k - c.loop.counter = omega arith in
    ap (λ (m : ℕ). stepped c.args.nodes.now.items c.args.slots m c.loop.here) e ∙ c.loop.invariant.place
