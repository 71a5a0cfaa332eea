use Rattle.std.proofs.Common.{List, ℕ, Err, Ok, subst}
use Rattle.std.specs.Prelude.{OnErr, OnOk}
use Rattle.std.specs.Io.KnownBytes.{Appends}
use Rattle.rm_base.specs.Outside.{AppendsFront}
use Rattle.rm_host.specs.Doings.{Tells}
use Rattle.rm_host.specs.Runs.{outside_of}
use Rattle.rm_host.specs.Texts.{line_of}
use Rattle.rm_host.proofs.DoingLemmas.{lost, writes}
use Rattle.rm_host.proofs.RunLemmas.{complete, printed, refused}
use Rattle.rm_host.proofs.program.run.Goals as goal

pub returns-in-Ok-clause-status : goal.returns-in-Ok-clause-status
returns-in-Ok-clause-status g c =
    let outside = outside_of g.S.Source.told g.K.Sink.told g.D.Disk.told g.L.Link.told in
    printed c.args.words.now (outside c.args.input.now c.args.out.now c.args.host.now)
    (outside c.obey.new.input c.print_text.new.out c.obey.new.host) (g.K.Sink.told c.obey.new.out) c.in-Ok.text
    c.print_text.result c.in-Ok.ensures.obeys c.in-Ok.ensures.reason c.print_text.ensures.at

pub returns-in-Err-clause-status : goal.returns-in-Err-clause-status
returns-in-Err-clause-status g c =
    let outside = outside_of g.S.Source.told g.K.Sink.told g.D.Disk.told g.L.Link.told in
    rw c.status.ensures (refused c.args.words.now (outside c.args.input.now c.args.out.now c.args.host.now)
    (outside c.obey.new.input c.write_all.new.out c.obey.new.host) (g.K.Sink.told c.obey.new.out) c.in-Err.end
    c.in-Err.ensures.obeys c.write_all.ensures.lasts.never_falls c.in-Err.ensures.reason)

pub returns-in-Ok-clause-complete : goal.returns-in-Ok-clause-complete
returns-in-Ok-clause-complete g c = complete c.args.words.now _ _ _ (returns-in-Ok-clause-status g c)

pub returns-in-Err-clause-complete : goal.returns-in-Err-clause-complete
returns-in-Err-clause-complete g c = complete c.args.words.now _ _ _ (returns-in-Err-clause-status g c)

pub returns-in-Ok-clause-obeyed : goal.returns-in-Ok-clause-obeyed
returns-in-Ok-clause-obeyed g c = record {
  printed = g.K.Sink.told c.obey.new.out;
  result = Ok c.in-Ok.text;
  does = c.in-Ok.ensures.does;
  said = subst (λ (text : List ℕ). Tells g.K.Sink.wants_memory (g.K.Sink.told c.obey.new.out)
      (g.K.Sink.told c.print_text.new.out) (Ok text) c.print_text.result) c.as_slice.ensures
      c.print_text.ensures.tells;
}

pub returns-in-Err-clause-obeyed : goal.returns-in-Err-clause-obeyed
returns-in-Err-clause-obeyed g c =
    let old = g.K.Sink.told c.obey.new.out in
    let new = g.K.Sink.told c.write_all.new.out in
    let did = c.write_all.ensures in
    record {
      printed = old;
      result = Err c.in-Err.end;
      does = c.in-Err.ensures.does;
      said = (
        c.write_all.result,
        writes g.K.Sink.wants_memory old new (line_of c.in-Err.end) c.write_all.result
            (subst (λ (line : List ℕ). OnOk c.write_all.result (Appends old.held new.held line)) c.line.ensures did.ok)
            (subst (λ (line : List ℕ). OnErr c.write_all.result (AppendsFront old.held new.held line)) c.line.ensures
            did.err)
            did.failed did.memory,
        c.status.ensures,
      );
    }

pub returns-in-Ok-clause-lost : goal.returns-in-Ok-clause-lost
returns-in-Ok-clause-lost g c = lost _ _ _ _ _ _ (returns-in-Ok-clause-obeyed g c)

pub returns-in-Err-clause-lost : goal.returns-in-Err-clause-lost
returns-in-Err-clause-lost g c = lost _ _ _ _ _ _ (returns-in-Err-clause-obeyed g c)
