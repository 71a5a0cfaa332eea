use Rattle.std.proofs.Common.{sym, subst}
use Rattle.std.proofs.lemmas.Result.{on_ok_weaker}
use Rattle.soap_document.specs.Machine.{run, start}
use Rattle.soap_document.specs.Seen.{Sees}
use Rattle.soap_document.specs.Profile.Resolving.{Stands}
use Rattle.soap_document.proofs.profile.document.DocumentReader.feed.Goals as goal

pub returns-clause-fed : goal.returns-clause-fed
returns-clause-fed c = λ bytes h.
    on_ok_weaker c.feed.result (λ sees. subst (Sees Stands _) (sym (c.pieces_are_joined.ensures start bytes
    c.args.piece.now)) sees) (c.feed.ensures.sees (run start bytes) h)
