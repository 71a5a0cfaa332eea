use Rattle.std.proofs.Common.{◌≡◌, ◌∙◌, ◌+◌, ◌∷◌, ◌++◌, List, ℕ, [], map, take, sym, ap, arith, Some, None, Option}
use Rattle.std.proofs.lemmas.List.{map-append, take_more}
use Rattle.std.proofs.lemmas.Result.{err_from_is_err_and}
use Rattle.rm_node.specs.declared.packets.Out.{Out}
use Rattle.rm_relay.specs.declared.word.station.Station.{Station}
use Rattle.rm_relay.specs.Putting.{Going, Net, goes_by, going_of, net_of, with_all, with_any}
use Rattle.rm_relay.proofs.PutLemmas.{put_nowhere, put_so_far, put_some, with_all_push}
use Rattle.rm_relay.proofs.wire.put_all.Goals as goal
use Rattle.rm_relay.proofs.wire.put_all.Goals.{in-Some+in_ok-put, in_default}

pub loop-out-preserved : goal.loop-out-preserved
loop-out-preserved g c =
    let k : ℕ = c.loop-out.out-index in
    let outs : List Out = c.args.outs.now in
    let out : Out = c.out-item.result in
    let from : Station = c.args.from in
    let go : Out → Going = going_of c.args.back in
    let first : Net = net_of g.W.Wire.packets c.args.wire.now c.args.senders.now.items in
    let here : Net = net_of g.W.Wire.packets c.loop-out.wire c.loop-out.senders.items in
    let new : Net = net_of g.W.Wire.packets c.match-goes_to.wire c.match-goes_to.senders.items in
    let more : take (k + 1) outs ≡ take k outs ++ out ∷ [] =
    take_more outs k out (omega (arith, c.loop-out-test.true))
    ∙ ap (λ (x : Out). take k outs ++ x ∷ []) (sym c.out-item.is) in
    let asked : c.goes_to.result ≡ goes_by c.args.back out.address =
    c.goes_to.ensures ∙ ap (λ (at : List ℕ). goes_by c.args.back at) c.as_slice.ensures.bytes in
    let step : new ≡ with_any here from (goes_by c.args.back out.address) out.bytes =
    elim c.match-goes_to.branch [
      | in-Some+in_ok-put w ↦
          let same : new ≡ net_of g.W.Wire.packets w.put.new.wire w.put.new.senders.items =
          cc (w.wire-is, w.senders-is) in
          put_some here new from w.in-Some.to (goes_by c.args.back out.address) w.as_slice-in-Some.result.now out.bytes
          (sym asked ∙ w.in-Some.is) w.as_slice-in-Some.ensures (same ∙ w.in_ok-put.ensures.ok)
      | in_default w ↦
          let same : new ≡ here = cc (w.wire-is, w.senders-is) in
          put_nowhere here new from (goes_by c.args.back out.address) out.bytes (sym asked ∙ w.in_default.is) same
    ] in
    step
    ∙ ap (λ (n : Net). with_any n from (go out).to (go out).bytes) c.loop-out.invariant
    ∙ sym (with_all_push first from (map go (take k outs)) (go out))
    ∙ ap (λ (gs : List Going). with_all first from gs)
    (sym (map-append go (take k outs) (out ∷ [])) ∙ ap (map go) (sym more))

pub returns-in_err-put-clause-err : goal.returns-in_err-put-clause-err
returns-in_err-put-clause-err g c =
    let p = err_from_is_err_and c.from_residual.result c.from_residual.ensures.1 in
    rw p.1 (put_so_far (net_of g.W.Wire.packets c.args.wire.now c.args.senders.now.items)
    (net_of g.W.Wire.packets c.loop-out.wire c.loop-out.senders.items)
    (net_of g.W.Wire.packets c.put.new.wire c.put.new.senders.items) c.args.from (going_of c.args.back)
    c.args.outs.now c.loop-out.out-index c.in_err-put.ensures.err c.loop-out.invariant)
