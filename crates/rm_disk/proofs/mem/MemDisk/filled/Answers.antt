use Rattle.std.proofs.Common.{◌≡◌, ◌∙◌, ℕ, List, ◌-◌, cond, slice_index, vec_len, length, take, sym, ap, arith}
use Rattle.std.proofs.Common.{length-take}
use Rattle.std.proofs.lemmas.List.{get_or-take, get_or-replicate}
use Rattle.rm_disk.specs.Call.{is_written}
use Rattle.rm_disk.specs.MemDisk.{state_of}
use Rattle.rm_disk.proofs.History.{kept_sound, filled_is}
use Rattle.rm_disk.proofs.mem.MemDisk.filled.Goals as goal

pub slice_bounds-from_slice-end : goal.slice_bounds-from_slice-end
slice_bounds-from_slice-end c =
    let self = c.args.self.now in
    let low = (kept_sound self.notes.items self.wrote.items _ self.content).low_seen in
    rw c.deref.ensures.value (omega (arith, length-take self.low self.file.items))

pub returns : goal.returns
returns c =
    let self = c.args.self.now in
    let low = (kept_sound self.notes.items self.wrote.items _ self.content).low_seen in
    let left = c.in_ok-left.left.items in
    let is : left ≡ take self.low self.file.items = rw (← c.deref.ensures.value) c.in_ok-left.ensures.items in
    let size : length left ≡ self.low = omega (arith, ap length is, length-take self.low self.file.items) in
    let len : vec_len c.patch.new.target ≡ self.low = c.patch.ensures.len ∙ c.in_ok-left.ensures.len
    ∙ ap length (sym c.in_ok-left.ensures.items) ∙ size in
    c.in_ok-resize.ensures.items
    ∙ filled_is (state_of self) c.args.byte c.args.len
    (c.args.len - vec_len c.patch.new.target) c.patch.new.target.items (omega (arith, len))
    (c.patch.ensures.length ∙ size) λ i inside.
    let source : slice_index c.deref-3.result.now i ≡ c.args.byte =
    ap (λ (l : List ℕ). slice_index l i) (c.deref-3.ensures.value
    ∙ c.in_ok-source.ensures.items_if_clones_equal λ y e. e) ∙ get_or-replicate self.low i c.args.byte 0 inside in
    let file : slice_index left i ≡ slice_index self.file.items i = ap (λ (l : List ℕ). slice_index l i) is
    ∙ get_or-take self.low self.file.items i 0 inside in
    c.patch.ensures.each i (omega (arith, size))
    ∙ ap (λ (r : List (ℕ × ℕ)). cond (is_written r i) (slice_index c.deref-3.result.now i)
    (slice_index left i)) c.deref-2.ensures.value
    ∙ ap (λ (b : ℕ). cond (is_written self.ranges.items i) b (slice_index left i)) source
    ∙ ap (λ (b : ℕ). cond (is_written self.ranges.items i) c.args.byte b) file
