use Rattle.std.proofs.Common.{◌≡◌, ◌++◌, drop}
use Rattle.std.specs.List.{flat_map}
use Rattle.soap_writer.specs.Values.Steps.{lent_trees}
use Rattle.message_reader.specs.Headers.{listed, told_name}
use Rattle.message_reader.proofs.headers.read_each_told.Given as goal

-- those so far, and those of what is left
abbrev pub invariant-loop-block : goal.invariant-loop-block
invariant-loop-block l =
    l.names ++ flat_map (λ e. listed (told_name l.scope e)) (lent_trees (drop l.block-index l.found))
    ≡ flat_map (λ e. listed (told_name l.scope e)) (lent_trees l.found)
