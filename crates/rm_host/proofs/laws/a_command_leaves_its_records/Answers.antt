use Rattle.rm_host.proofs.laws.a_command_leaves_its_records.Goals as goal

pub returns : goal.returns
returns c = λ tells terms first granted x z steps t own found makes.
    let finds = found.finds t in
    record {
      found = finds;
      leaves = c.calls_leave_their_records.ensures tells terms x z steps finds.batches t found.up.up finds.has.holds
          (makes terms own);
    }
