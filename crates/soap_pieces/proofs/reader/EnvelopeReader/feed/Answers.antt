use Rattle.std.proofs.Common.{◌+◌, ◌++◌, length, sym, subst, arith, length-append}
use Rattle.soap_pieces.specs.Stage.{HasCome}
use Rattle.soap_pieces.proofs.Stages.{kept_little, rests}
use Rattle.soap_pieces.proofs.reader.EnvelopeReader.feed.Goals as goal

pub returns-clause-spent : goal.returns-clause-spent
returns-clause-spent c = λ bytes h dead.
    let all = bytes ++ c.args.piece.now in
    kept_little c.pieces_are_joined.ensures c.document_is_read.ensures c.content_stands_between.ensures
    c.in_ok-next.next all _ (c.in_ok-next.ensures.come bytes (subst (λ s. HasCome s bytes)
    (sym c.replace-stage.ensures.value) h.stage) h.len) c.in_ok-next.ensures.sound dead

pub returns-clause-idle : goal.returns-clause-idle
returns-clause-idle c = λ bytes h none.
    rests c.in_ok-next.next (bytes ++ c.args.piece.now) (c.in_ok-next.ensures.come bytes (subst (λ s. HasCome s bytes)
    (sym c.replace-stage.ensures.value) h.stage) h.len) none

pub returns-clause-fed : goal.returns-clause-fed
returns-clause-fed c = λ bytes h. record {
  len = omega (arith, h.len, length-append bytes c.args.piece.now);
  stage = c.in_ok-next.ensures.come bytes (subst (λ s. HasCome s bytes) (sym c.replace-stage.ensures.value) h.stage)
      h.len;
}
