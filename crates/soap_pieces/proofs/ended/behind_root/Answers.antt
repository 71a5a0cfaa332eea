use Rattle.std.proofs.Common.{arith}
use Rattle.soap_document.specs.Machine.{start}
use Rattle.soap_pieces.proofs.Depths.{nothing_counted}
use Rattle.soap_pieces.proofs.ended.behind_root.Goals as goal

pub returns-clause-sees : goal.returns-clause-sees
returns-clause-sees c =
    c.in_ok-feed.ensures.sees start (c.new-reader.ensures.sees (nothing_counted c.new-depth.result
    c.new-depth.ensures.open c.new-depth.ensures.ended))
