use Rattle.std.proofs.Common.{◌≡◌, List, [], ℕ, sym, subst}
use Rattle.rm_policy.specs.Alternatives.Sending.{Goes}
use Rattle.rm_policy.proofs.AlternativesLemmas.SendLemmas.{goes_flushed, goes_more, goes_written}
use Rattle.rm_policy.proofs.alternatives.write.begin.Goals as goal

pub returns-in-Err : goal.returns-in-Err
returns-in-Err g c =
    let told = g.K.Sink.told in
    let wants = g.K.Sink.wants_memory in
    let old = told c.args.out.now in
    let mid = told c.write_all.new.out in
    let new = told c.write_all-in-Err.new.out in
    let before = c.args.block.now.items in
    let bytes = c.args.bytes.now in
    let last = c.write_all-in-Err.ensures in
    let none : c.try_extend_from_slice.new.self.items ≡ [] = cc (c.in-Err.ensures.err, c.clear.ensures) in
    subst (λ (l : List ℕ). Goes wants old new before bytes l c.write_all-in-Err.result) (sym none)
    (goes_more wants old mid new before [] bytes [] [] c.write_all-in-Err.result
    (goes_flushed wants old mid before (rw c.as_slice.ensures.value at c.in_ok-write_all.ensures.ok)
    c.write_all.ensures.lasts)
    (goes_written wants mid new bytes c.write_all-in-Err.result last.ok last.err last.failed last.memory last.lasts))
