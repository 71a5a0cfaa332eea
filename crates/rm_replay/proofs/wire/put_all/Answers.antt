use Rattle.std.proofs.Common.{◌≡◌, ◌∙◌, ◌+◌, ◌∷◌, ◌++◌, List, ℕ, take, sym, ap, arith, []}
use Rattle.std.proofs.lemmas.List.{take_more}
use Rattle.rm_node.specs.declared.packets.Out.{Out}
use Rattle.rm_base.specs.Wire.Wire.{with_packet}
use Rattle.rm_replay.specs.Happening.{with_all}
use Rattle.rm_replay.proofs.PutLemmas.{with_all_push}
use Rattle.rm_replay.proofs.wire.put_all.Goals as goal

pub loop-out-preserved : goal.loop-out-preserved
loop-out-preserved g c =
    let k = c.loop-out.out-index in
    let outs = c.args.outs.now in
    let to = c.args.to in
    let old = g.W.Wire.packets c.args.wire.now in
    let out = c.out-item.result in
    let more : take (k + 1) outs ≡ take k outs ++ out ∷ [] =
    take_more outs k out (omega (arith, c.loop-out-test.true))
    ∙ ap (λ (x : Out). take k outs ++ x ∷ []) (sym c.out-item.is) in
    c.in_ok-put.ensures.ok
    ∙ ap (λ (bytes : List ℕ). with_packet (g.W.Wire.packets c.loop-out.wire) to bytes) c.as_slice.ensures
    ∙ ap (λ (packets : List (ℕ × List ℕ)). with_packet packets to out.bytes) c.loop-out.invariant
    ∙ sym (with_all_push old to (take k outs) out)
    ∙ ap (λ (these : List Out). with_all old to these) (sym more)
