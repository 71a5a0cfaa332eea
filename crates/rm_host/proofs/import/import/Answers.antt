use Rattle.std.proofs.Common.{ℕ, List, refl, subst}
use Rattle.rm_base.specs.Limits as limits
use Rattle.rm_host.specs.Importation.{ImportsBytes}
use Rattle.rm_host.proofs.ImportationLemmas.{some-bytes}
use Rattle.rm_host.proofs.RunLemmas.{took-inner, whole}
use Rattle.rm_host.proofs.import.import.Goals as goal

pub returns-in-Ok-clause-imports : goal.returns-in-Ok-clause-imports
returns-in-Ok-clause-imports g c =
    let told = g.D.Disk.told in
    record {
      bytes = c.in-Ok.bytes;
      whole = c.in-Ok.ensures.whole;
      does = subst (λ (b : List ℕ). ImportsBytes g.D.Disk.tells (told c.args.host.now.disk)
          (told c.import_bytes.new.host.disk) b c.import_bytes.result) c.as_slice.ensures
          c.import_bytes.ensures.imports;
    }

pub returns-in-Ok-clause-took : goal.returns-in-Ok-clause-took
returns-in-Ok-clause-took g c =
    took-inner limits.journal_bytes (g.S.Source.told c.args.input.now) (g.S.Source.told c.read_up_to.new.input)
    c.import_bytes.result
    (whole limits.journal_bytes (g.S.Source.told c.args.input.now).left c.in-Ok.bytes c.in-Ok.ensures.within
    c.in-Ok.ensures.whole)
    c.import_bytes.ensures.inner

pub returns-in-Err-Failed-clause-imports : goal.returns-in-Err-Failed-clause-imports
returns-in-Err-Failed-clause-imports g c =
    let some = some-bytes (g.S.Source.told c.args.input.now).left in
    record { bytes = some.0; whole = some.1; does = refl }

pub returns-in-Err-TooLong-clause-imports : goal.returns-in-Err-TooLong-clause-imports
returns-in-Err-TooLong-clause-imports g c =
    let some = some-bytes (g.S.Source.told c.args.input.now).left in
    record { bytes = some.0; whole = some.1; does = refl }

pub returns-in-Err-Memory-clause-imports : goal.returns-in-Err-Memory-clause-imports
returns-in-Err-Memory-clause-imports g c =
    let some = some-bytes (g.S.Source.told c.args.input.now).left in
    record { bytes = some.0; whole = some.1; does = tt }
