-- A call that adds no records, says nothing and moves no keys keeps what is kept.
use Rattle.std.proofs.Common.{◌≡◌, ◌∙◌, ℕ, Bool, true, cond, List, [], ◌∷◌, max, refl, ap, ap₂, arith}
use Rattle.std.specs.List.{AllByRecursion}
use Rattle.std.proofs.lemmas.List.{append-nil}
use Rattle.timers.specs.Keys.Waits.{Wait}
use Rattle.record_batch.specs.Fact.{Fact}
use Rattle.rm_protocol.specs.Calls.{Outcome}
use Rattle.rm_protocol.specs.Exact.{AreExactly}
use Rattle.rm_protocol.specs.WaitLemmas.{all-wait}
use Rattle.rm_protocol.specs.Waiting.{is_waiting, still}
use Rattle.rm_node.specs.Keeping.{Keeping, kept_after}
use Rattle.rm_replay.proofs.ActorLemmas.QuietLemmas.{silent}

still-all : (r : List Fact) (waits : List Wait) → AllByRecursion (λ (w : Wait). is_waiting r w.key ≡ true) waits
    → still r waits ≡ waits
still-all r [] h = refl
still-all r (w ∷ waits) h =
    ap (λ (b : Bool). cond b (w ∷ still r waits) (still r waits)) h.0
    ∙ ap (λ (ws : List Wait). w ∷ ws) (still-all r waits h.1)

-- where exactly those wait that do so by the records
pub quiet-kept : (r : List Fact) (outcome : Outcome) (kept : Keeping) → AreExactly r kept.waits
    → kept_after r (silent outcome) kept ≡ kept
quiet-kept r outcome kept exact =
    let all = all-wait r kept.waits exact in
    let time : max kept.time 0 ≡ kept.time = omega arith in
    ap₂ (λ (ws : List Wait) (t : ℕ). record kept { waits = ws; time = t })
    (ap (λ (l : List Fact). still l kept.waits) (append-nil r) ∙ still-all r kept.waits all) time
