use Rattle.std.proofs.Common.{length, subst}
use Rattle.std.specs.Prelude.{IfSome}
use Rattle.soap_pieces.specs.Stage.{HasEnded, IsSoundBehind}
use Rattle.soap_pieces.proofs.stage.again.Goals as goal

pub returns-in-Some-clause-come : goal.returns-in-Some-clause-come
returns-in-Some-clause-come c =
    subst (λ o. IfSome o (λ ended. HasEnded ended c.args.bytes.now)) c.in-Some.is c.in_ok-whole.ensures.ended

pub returns-in-Some-clause-sound : goal.returns-in-Some-clause-sound
returns-in-Some-clause-sound c =
    subst (λ o. IfSome o (λ ended. IsSoundBehind ended (length c.args.bytes.now))) c.in-Some.is
    c.in_ok-whole.ensures.sound
