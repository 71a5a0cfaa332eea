use Rattle.std.proofs.Common.{◌≡◌, ap, ◌∙◌, arith}
use Rattle.std.specs.Prelude.{None, replicate}
use Rattle.timers.proofs.pending.queues.blank_places.Goals as goal

pub returns : goal.returns
returns g c =
    let all : c.loop.counter ≡ 16384 = omega (arith, c.loop-test.false, c.loop.auto.counter-end) in
    c.loop.invariant ∙ ap (λ z. replicate z None) all
