-- What contracts see of a disk in memory.
use Rattle.std.specs.Prelude.{ℕ, List, Option}
use Rattle.rm_disk.specs.Call.{Call, State}
use Rattle.rm_disk.specs.Spare.{Spare}
use Rattle.rm_disk.specs.Told.{Told}
use Rattle.rm_disk.specs.Mem.{calls_of, content}
use Rattle.rm_disk.specs.declared.mem.MemDisk.{MemDisk}

-- its calls, newest first
abbrev pub past_of : MemDisk → List Call
past_of d = calls_of d.notes.items d.wrote.items

-- the device calls left up to the first that fails
abbrev pub fuse_of : MemDisk → Option ℕ
fuse_of d = d.fuse

-- how often a device call has failed
abbrev pub faults_of : MemDisk → ℕ
faults_of d = d.faults

-- what it tells
abbrev pub told_of : MemDisk → Told
told_of d = record { past = past_of d; fuse = fuse_of d; faults = faults_of d }

-- the room that is there
abbrev pub spare_of : MemDisk → Spare
spare_of d = record { calls = d.spare_calls; bytes = d.spare_bytes }

-- what its calls come to
abbrev pub state_of : MemDisk → State
state_of d = content d.file.items d.synced.items d.low d.high d.ranges.items
