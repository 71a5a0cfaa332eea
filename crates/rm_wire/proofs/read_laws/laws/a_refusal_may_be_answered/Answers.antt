use Rattle.std.proofs.Common.{None}
use Rattle.rm_wire.proofs.ReadLawsLemmas.WholeMessages.{refused}
use Rattle.rm_wire.proofs.read_laws.laws.a_refusal_may_be_answered.Goals as goal

pub returns : goal.returns
returns c =
    let writable = refused c.elements_may_be_written.ensures c.names_may_be_written.ensures in
    record {
      refusal = writable;
      fault = λ soap bytes refusal is.
          c.a_fault_keeps_the_rules.ensures soap refusal None (writable soap bytes refusal is);
    }
