use Rattle.std.proofs.Common.{ℕ, cond, slice_index, sym, ◌∙◌, ap, take, get_or, arith}
use Rattle.rm_disk.specs.Call.{is_within, is_written}
use Rattle.rm_disk.specs.RangeLemmas.{is_written-more, cond_or}
use Rattle.rm_disk.proofs.patch.patch_slice.Goals as goal

pub loop-at-preserved : goal.loop-at-preserved
loop-at-preserved c i low =
    let k = c.loop-at.at-index in
    let ranges = c.args.ranges.now in
    let now = is_within i (get_or ranges k (0, 0)) in
    c.copy_range.ensures i (omega arith)
    ∙ ap (λ (b : ℕ). cond now (slice_index c.args.source.now i) b) (c.loop-at.invariant i low)
    ∙ cond_or (is_written (take k ranges) i) now (slice_index c.args.source.now i) (slice_index c.args.target.now i)
    ∙ sym (ap (λ b. cond b (slice_index c.args.source.now i) (slice_index c.args.target.now i))
    (is_written-more ranges k i c.loop-at-test.true))
