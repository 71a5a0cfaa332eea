use Rattle.std.proofs.Common.{refl}
use Rattle.soap_pieces.proofs.Ends.{ended_alive, ended_dead}
use Rattle.soap_pieces.proofs.ended.Ended.is_other.Goals as goal

pub returns-in-Ok : goal.returns-in-Ok
returns-in-Ok c = λ bytes h. (
  λ t. absurd (cc),
  λ d. absurd (ended_alive c.pieces_are_joined.ensures c.document_is_read.ensures c.content_stands_between.ensures
      c.args.self.now bytes h _ c.in-Ok.is d),
)

pub returns-in-Err : goal.returns-in-Err
returns-in-Err c = λ bytes h. (
  λ t. ended_dead c.document_is_utf8.ensures (record {
    version = c.one_answer.ensures.version;
    outline = c.one_answer.ensures.outline;
  }) c.args.self.now bytes h _ c.in-Err.is,
  λ d. refl,
)
