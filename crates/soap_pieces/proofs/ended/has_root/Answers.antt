use Rattle.std.proofs.Common.{sym, ◌∙◌}
use Rattle.soap_document.specs.Machine.{run, start}
use Rattle.soap_pieces.proofs.Depths.{nothing_counted}
use Rattle.soap_pieces.proofs.ended.has_root.Goals as goal

pub returns-in-Some : goal.returns-in-Some
returns-in-Some c = λ e missing.
    let sees = c.in_ok-feed.ensures.sees start (c.new-reader.ensures.sees (nothing_counted c.new-depth.result
    c.new-depth.ensures.open c.new-depth.ensures.ended)) in
    let found = c.in-Some.ensures (run start c.args.bytes.now) sees in
    found.1.after e (sym found.0 ∙ missing)
