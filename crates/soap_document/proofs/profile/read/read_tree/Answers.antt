use Rattle.std.proofs.Common.{[]}
use Rattle.soap_document.specs.Profile.Fed.{WasFed}
use Rattle.soap_document.proofs.profile.read.read_tree.Goals as goal

pub returns-clause-found : goal.returns-clause-found
returns-clause-found c =
    let fed : WasFed c.feed.new.self c.args.bytes.now = c.in_ok-feed.ensures.fed [] c.in_ok-reader.ensures.fed in
    c.finish.ensures.found c.args.bytes.now fed

pub returns-clause-utf8 : goal.returns-clause-utf8
returns-clause-utf8 c =
    let fed : WasFed c.feed.new.self c.args.bytes.now = c.in_ok-feed.ensures.fed [] c.in_ok-reader.ensures.fed in
    c.finish.ensures.utf8 c.args.bytes.now fed

pub returns-clause-none : goal.returns-clause-none
returns-clause-none c =
    let fed : WasFed c.feed.new.self c.args.bytes.now = c.in_ok-feed.ensures.fed [] c.in_ok-reader.ensures.fed in
    c.finish.ensures.none c.args.bytes.now fed
