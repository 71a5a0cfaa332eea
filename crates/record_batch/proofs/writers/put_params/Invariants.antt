use Rattle.std.proofs.Common.{◌≡◌, ◌++◌, take, map}
use Rattle.std.specs.List.{flat_map}
use Rattle.soap_document.specs.Profile.View.{element_view}
use Rattle.record_batch.specs.Parts.{param}
use Rattle.record_batch.proofs.writers.put_params.Given as goal

-- those so far were written
abbrev pub invariant-loop-param : goal.invariant-loop-param
invariant-loop-param l = l.out.items ≡ l.fn.out.items ++ flat_map param.written (map element_view
    (take l.param-index l.params))
