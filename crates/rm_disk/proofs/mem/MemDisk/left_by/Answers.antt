use Rattle.std.proofs.Common.{arith}
use Rattle.rm_disk.proofs.History.{kept_sound}
use Rattle.rm_disk.proofs.mem.MemDisk.left_by.Goals as goal

pub filled-requires : goal.filled-requires
filled-requires c =
    let self = c.args.self.now in
    let sound = kept_sound self.notes.items self.wrote.items _ self.content in
    omega (arith, sound.low_seen, sound.seen_high)
