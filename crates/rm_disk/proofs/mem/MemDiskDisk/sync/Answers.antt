use Rattle.std.proofs.Common.{refl}
use Rattle.rm_disk.specs.declared.note.Note.TheVariants.{Sync, FailedSync}
use Rattle.rm_disk.proofs.History.{calls_of-note, state-note, used-note, kept_sound}
use Rattle.rm_disk.proofs.mem.MemDiskDisk.sync.Goals as goal

pub invariant_of-self-clause-content : goal.invariant_of-self-clause-content
invariant_of-self-clause-content c =
    let self = c.args.self.now in
    rw c.push.ensures.items (state-note self.notes.items self.wrote.items FailedSync _ self.all_used self.content)

pub invariant_of-self-clause-all_used : goal.invariant_of-self-clause-all_used
invariant_of-self-clause-all_used c =
    let self = c.args.self.now in
    rw c.push.ensures.items (used-note self.notes.items self.wrote.items FailedSync self.all_used refl)

pub returns-in-Err-clause-past : goal.returns-in-Err-clause-past
returns-in-Err-clause-past c tells =
    let self = c.args.self.now in
    rw c.push.ensures.items (calls_of-note self.notes.items self.wrote.items FailedSync self.all_used)

pub settle-requires-clause-file : goal.settle-requires-clause-file
settle-requires-clause-file c =
    let self = c.args.self.now in
    rw c.deref.ensures.value (kept_sound self.notes.items self.wrote.items _ self.content).low_seen

pub settle-requires-clause-synced : goal.settle-requires-clause-synced
settle-requires-clause-synced c = let self = c.args.self.now in
    (kept_sound self.notes.items self.wrote.items _ self.content).low_synced

pub settle-requires-clause-alike : goal.settle-requires-clause-alike
settle-requires-clause-alike c =
    let self = c.args.self.now in
    rw (c.deref.ensures.value, c.deref-2.ensures.value)
    (kept_sound self.notes.items self.wrote.items _ self.content).same

pub invariant_of-self-2-clause-content : goal.invariant_of-self-2-clause-content
invariant_of-self-2-clause-content c =
    let self = c.args.self.now in
    rw (
      c.push-2.ensures.items,
      c.settle.ensures.bytes,
      c.clear.ensures.items,
      c.len-self.ensures,
      c.len-self-2.ensures,
      ← c.deref.ensures.len,
      c.deref.ensures.value,
    ) (
    state-note self.notes.items self.wrote.items Sync _ self.all_used self.content)

pub invariant_of-self-2-clause-all_used : goal.invariant_of-self-2-clause-all_used
invariant_of-self-2-clause-all_used c =
    let self = c.args.self.now in
    rw c.push-2.ensures.items (used-note self.notes.items self.wrote.items Sync self.all_used refl)

pub returns-clause-past : goal.returns-clause-past
returns-clause-past c tells =
    let self = c.args.self.now in
    rw c.push-2.ensures.items (calls_of-note self.notes.items self.wrote.items Sync self.all_used)
