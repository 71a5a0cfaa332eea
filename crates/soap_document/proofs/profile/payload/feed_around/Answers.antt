use Rattle.std.proofs.Common.{OnOk, codes, sym, subst}
use Rattle.soap_document.specs.Machine.{run, start, State}
use Rattle.soap_document.specs.Seen.{Sees}
use Rattle.soap_document.specs.Profile.Resolving.{Stands}
use Rattle.soap_document.proofs.profile.payload.feed_around.Goals as goal

pub returns : goal.returns
returns c = λ h.
    let a = run start (codes "<a>") in
    subst (λ (s : State). OnOk c.feed-3.result (Sees Stands c.feed-3.new.self s)) (sym (c.pieces_are_joined.ensures a
    c.args.bytes.now (codes "</a>"))) (c.feed-3.ensures.sees _ (c.in_ok-feed-2.ensures.sees a
    (c.in_ok-feed.ensures.sees start h)))
