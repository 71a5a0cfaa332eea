use Rattle.std.proofs.Common.{◌≡◌, ℕ, ◌<◌, length, take, slice_index, if◌then◌else◌}
use Rattle.rm_disk.specs.Call.{is_written}
use Rattle.rm_disk.proofs.patch.patch_slice.Given as goal

abbrev pub invariant-loop-at : goal.invariant-loop-at
invariant-loop-at l =
    (i : ℕ) → i < length l.initial.target →
    slice_index l.target i ≡ (if is_written (take l.at-index l.ranges) i then slice_index l.source i else slice_index
    l.initial.target i)
