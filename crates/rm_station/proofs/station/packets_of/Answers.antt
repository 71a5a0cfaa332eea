use Rattle.std.proofs.Common.{◌∷◌, ◌++◌, [], ◌∙◌, ap}
use Rattle.rm_station.proofs.OutLemmas.{pushed}
use Rattle.rm_station.proofs.station.packets_of.Goals as goal

pub loop-out-preserved : goal.loop-out-preserved
loop-out-preserved c =
    pushed c.loop-out.packets _ _ _ _ c.in-Some.out c.in-Some.ensures.items
    (c.in_ok-push.ensures.ok ∙ ap (λ p. c.loop-out.packets ++ p ∷ []) c.packet_of.ensures) c.loop-out.invariant
