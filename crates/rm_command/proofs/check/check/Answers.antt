use Rattle.std.proofs.Common.{Err, ap}
use Rattle.rm_command.specs.Check.{IsTextOf, RefusesMessage}
use Rattle.rm_command.specs.Edge.{edge_of}
use Rattle.rm_command.proofs.ReadingLemmas.{reading_of, read_all}
use Rattle.rm_command.specs.RunLemmas.{writing_ends}
use Rattle.rm_command.proofs.check.check.Goals as goal

pub text_of-requires : goal.text_of-requires
text_of-requires g c =
    let all = c.in-Ok.ensures.read in record {
      bytes = all.bytes;
      reading =
          reading_of all.bytes c.finish.result (c.finish.ensures.reads all.bytes all.fed c.in-Ok.ensures.short);
      fits = all.fits;
    }

pub returns-in-Ok-text_of-clause-ends : goal.returns-in-Ok-text_of-clause-ends
returns-in-Ok-text_of-clause-ends g c =
    let all = c.in-Ok.ensures.read in
    let reading = reading_of all.bytes c.finish.result (c.finish.ensures.reads all.bytes all.fed
    c.in-Ok.ensures.short) in
    writing_ends 2097152 (Unit {0}) IsTextOf (λ _. ⊥) RefusesMessage (edge_of g.S.Source.told g.K.Sink.told
    g.K.Sink.wants_memory c.args.input.now c.read_pieces.new.input c.args.out.now c.write_text.new.out)
    c.write_text.result all.bytes c.in-Ok-text_of.text (read_all _ _ c.in-Ok.reader all)
    (c.in-Ok-text_of.ensures.text all.bytes reading)
    (rw (c.in-Ok.ensures.silent, c.as_slice.ensures) at c.write_text.ensures.ends)

pub returns-in-Err-Faulty-clause-ends : goal.returns-in-Err-Faulty-clause-ends
returns-in-Err-Faulty-clause-ends g c =
    let all = c.in-Ok.ensures.read in
    let reading = reading_of all.bytes c.finish.result (c.finish.ensures.reads all.bytes all.fed
    c.in-Ok.ensures.short) in
    let has = c.in-Err-Faulty.ensures.faulty all.bytes c.in-Err-Faulty.fault reading
    (ap Err c.in-Err-Faulty.field-0-is) in
    rw c.refuse.ensures.same (record {
      bytes = all.bytes;
      read = read_all _ _ c.in-Ok.reader all;
      refuses = has;
      said = rw (c.in-Ok.ensures.silent, c.line.ensures) at c.refuse.ensures.said;
    })
