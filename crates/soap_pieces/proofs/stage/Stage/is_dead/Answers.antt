use Rattle.std.proofs.Common.{[], refl, subst}
use Rattle.soap_pieces.specs.Hopeless.{IsHopeless, none, refused, too_long}
use Rattle.soap_pieces.specs.Stage.{HasCome}
use Rattle.soap_pieces.proofs.Stages.{nothing_in_root, root_alive}
use Rattle.soap_pieces.proofs.stage.Stage.is_dead.Goals as goal

pub returns-in-Before-clause-dead : goal.returns-in-Before-clause-dead
returns-in-Before-clause-dead c = λ bytes h e. (
  λ t. absurd (cc),
  λ d. absurd (root_alive c.pieces_are_joined.ensures c.document_is_read.ensures [] [] nothing_in_root
      (subst IsHopeless (subst (λ s. HasCome s bytes) c.in-Before.is h) d)),
)

pub returns-in-Root-clause-dead : goal.returns-in-Root-clause-dead
returns-in-Root-clause-dead c = λ bytes h e. (
  λ t. absurd (cc),
  λ d. absurd (root_alive c.pieces_are_joined.ensures c.document_is_read.ensures _ bytes
      (subst (λ s. HasCome s bytes) c.in-Root.is h) d),
)

pub returns-in-Behind-clause-dead : goal.returns-in-Behind-clause-dead
returns-in-Behind-clause-dead c = λ bytes h e.
    c.is_other.ensures bytes (subst (λ s. HasCome s bytes) c.in-Behind.is h)

pub returns-in-Refused-clause-dead : goal.returns-in-Refused-clause-dead
returns-in-Refused-clause-dead c = λ bytes h e. (
  λ t. none (refused (subst (λ s. HasCome s bytes) c.in-Refused.is h).refuses),
  λ d. refl,
)

pub returns-in-TooLong-clause-dead : goal.returns-in-TooLong-clause-dead
returns-in-TooLong-clause-dead c = λ bytes h e. (
  λ t. none (too_long (subst (λ s. HasCome s bytes) c.in-TooLong.is h)),
  λ d. refl,
)
