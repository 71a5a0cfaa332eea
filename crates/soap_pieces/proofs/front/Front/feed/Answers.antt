use Rattle.std.proofs.Common.{subst, ◌∙◌}
use Rattle.soap_pieces.specs.Front.{IsFront}
use Rattle.soap_pieces.proofs.Fronts.{front_stays, front_joined}
use Rattle.soap_pieces.proofs.front.Front.feed.Goals as goal

pub returns-in_default-clause-is : goal.returns-in_default-clause-is
returns-in_default-clause-is c = λ bytes h. front_stays c.args.self.now bytes c.args.piece.now c.in_default.is h

pub returns-clause-is : goal.returns-clause-is
returns-clause-is c = λ bytes h.
    front_joined c.args.self.now c.in_ok-next.next c.in-Some.tail bytes c.args.piece.now c.in-Some.is h
    (subst (IsFront c.in_ok-next.next) (c.as_slice.ensures ∙ c.in_ok-joined.ensures) c.in_ok-next.ensures.is)
