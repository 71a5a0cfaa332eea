use Rattle.std.proofs.Common.{length, refl}
use Rattle.rm_disk.specs.declared.note.Note.TheVariants.{Write, FailedWrite}
use Rattle.rm_disk.proofs.Notes.{used-push}
use Rattle.rm_disk.proofs.History.{calls_of-note, calls_of-write, state-note, state-write, used-note}
use Rattle.rm_disk.proofs.mem.MemDiskDisk.write_at.Goals as goal

pub invariant_of-self-clause-content : goal.invariant_of-self-clause-content
invariant_of-self-clause-content c =
    let self = c.args.self.now in
    rw (c.push-in-Err.ensures.items, c.push.ensures.items, c.max-self.ensures) (
    state-note self.notes.items self.wrote.items
    (FailedWrite c.args.at (length c.args.bytes.now)) _ self.all_used self.content)

pub invariant_of-self-clause-all_used : goal.invariant_of-self-clause-all_used
invariant_of-self-clause-all_used c =
    let self = c.args.self.now in
    rw c.push-in-Err.ensures.items (used-note self.notes.items self.wrote.items (FailedWrite c.args.at
    (length c.args.bytes.now)) self.all_used refl)

pub returns-in-Err-clause-past : goal.returns-in-Err-clause-past
returns-in-Err-clause-past c tells =
    let self = c.args.self.now in
    rw c.push-in-Err.ensures.items (calls_of-note self.notes.items self.wrote.items (FailedWrite c.args.at
    (length c.args.bytes.now)) self.all_used)

pub invariant_of-self-2-clause-content : goal.invariant_of-self-2-clause-content
invariant_of-self-2-clause-content c =
    let self = c.args.self.now in
    rw (
      c.push-2.ensures.items,
      c.push.ensures.items,
      c.append.ensures.items,
      c.overwrite.ensures.bytes,
      c.max-self.ensures,
    ) (
    state-write self.notes.items self.wrote.items c.args.at c.args.bytes.now _ self.all_used self.content)

pub invariant_of-self-2-clause-all_used : goal.invariant_of-self-2-clause-all_used
invariant_of-self-2-clause-all_used c =
    let self = c.args.self.now in
    rw (c.push-2.ensures.items, c.append.ensures.items) (
    used-push self.notes.items self.wrote.items
    (Write c.args.at (length c.args.bytes.now)) c.args.bytes.now self.all_used refl)

pub returns-clause-past : goal.returns-clause-past
returns-clause-past c tells =
    let self = c.args.self.now in
    rw (c.push-2.ensures.items, c.append.ensures.items)
    (calls_of-write self.notes.items self.wrote.items c.args.at c.args.bytes.now self.all_used)
