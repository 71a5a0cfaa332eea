use Rattle.std.proofs.Common.{◌≡◌, Err, List, ℕ, drop, arith, refl}
use Rattle.httparse.specs.Grammar.{MayBecomeChunkLine, MayBecomeSection}
use Rattle.http_endpoint.specs.Ahead.{ahead}
use Rattle.http_endpoint.specs.Limits.{part_bytes}
use Rattle.http_endpoint.specs.Part.{Stage, part}
use Rattle.http_endpoint.specs.Parts.{ReadsSize, ReadsTrailer, ReadsBreak, IsHalfBreak}
use Rattle.http_endpoint.specs.Body.{IsChunk, EndsBehind, EndsChunks, last, unbroken, ended_by}
use Rattle.http_endpoint.proofs.ChunkFacts.{IfTold-map, handed-on, stage-stops, behind-line, data-stops, ended-long}
use Rattle.http_endpoint.proofs.ChunkFacts.{ended-well}
use Rattle.http_endpoint.proofs.body.read_chunk.Goals as goal

pub returns-in_err-size-clause-answer : goal.returns-in_err-size-clause-answer
returns-in_err-size-clause-answer g c = λ all is.
    let e = c.in_err-size.field-0.0 in
    let body = c.args.body.now in
    let after = ahead (g.S.Source.told c.read_part.new.from).left c.read_part.new.input in
    handed-on c.from_residual.result e (λ r. IsChunk all body r body after) c.from_residual.ensures.1
    (stage-stops (List ℕ) part_bytes ReadsSize MayBecomeChunkLine all e after
    (λ size behind. EndsBehind (Err e) body size behind)
    (c.in_err-size.ensures.answer all is))

pub returns-in_err-count-clause-answer : goal.returns-in_err-count-clause-answer
returns-in_err-count-clause-answer g c = λ all is.
    let e = c.in_err-count.field-0.0 in
    let body = c.args.body.now in
    let line = c.in_ok-size.ensures.answer all is in
    let read = c.read_part-then-size-eq0.new in
    let after = ahead (g.S.Source.told read.from).left read.input in
    let stops = stage-stops (List ℕ) part_bytes ReadsTrailer MayBecomeSection line.0 e after
    (λ count rest. Err e ≡ ended_by count body)
    (c.in_err-count.ensures.answer line.0 line.1) in
    handed-on c.from_residual-in_err-count.result e (λ r. IsChunk all body r body after)
    c.from_residual-in_err-count.ensures.1
    (IfTold-map {A = List ℕ} (Err e) (Stage part_bytes ReadsTrailer MayBecomeSection line.0 (Err e)
    (λ count rest. Err e ≡ ended_by count body))
    (EndsChunks (Err e) body all)
    (λ s. behind-line body all c.in_ok-size.size line.0 (Err e) line.2 (last c.if-size-eq0.true s)) stops)

pub returns-then-count-gt-FIELD_LIMIT-clause-answer : goal.returns-then-count-gt-FIELD_LIMIT-clause-answer
returns-then-count-gt-FIELD_LIMIT-clause-answer g c = λ all is.
    let line = c.in_ok-size.ensures.answer all is in
    let trailer = c.in_ok-count.ensures.answer line.0 line.1 in
    part c.in_ok-size.size line.0 line.2 (last c.if-size-eq0.true (part c.in_ok-count.count trailer.0 trailer.2
    (ended-long c.in_ok-count.count c.args.body.now (omega (arith, c.if-count-gt-FIELD_LIMIT.true)))))

pub returns-then-size-eq0-clause-answer : goal.returns-then-size-eq0-clause-answer
returns-then-size-eq0-clause-answer g c = λ all is.
    let line = c.in_ok-size.ensures.answer all is in
    let trailer = c.in_ok-count.ensures.answer line.0 line.1 in (
      refl,
      part c.in_ok-size.size line.0 line.2 (last c.if-size-eq0.true (part c.in_ok-count.count trailer.0 trailer.2
          (ended-well c.in_ok-count.count c.args.body.now (omega (arith, c.if-count-gt-FIELD_LIMIT.false))))),
    )

pub returns-in_err-move_bytes-clause-answer : goal.returns-in_err-move_bytes-clause-answer
returns-in_err-move_bytes-clause-answer g c = λ all is.
    let e = c.in_err-move_bytes.field-0.0 in
    let line = c.in_ok-size.ensures.answer all is in
    let new = c.move_bytes.new in
    let after = ahead (g.S.Source.told new.from).left new.input in
    handed-on c.from_residual-in_err-move_bytes.result e (λ r. IsChunk all c.args.body.now r new.body after)
    c.from_residual-in_err-move_bytes.ensures.1
    (data-stops c.args.body.now new.body all c.in_ok-size.size line.0 e after (omega (arith, c.if-size-eq0.false))
    line.2
    (c.in_err-move_bytes.ensures.answer line.0 line.1))

pub returns-in_err-read_part-clause-answer : goal.returns-in_err-read_part-clause-answer
returns-in_err-read_part-clause-answer g c = λ all is.
    let e = c.in_err-read_part.field-0.0 in
    let body = c.args.body.now in
    let size = c.in_ok-size.size in
    let line = c.in_ok-size.ensures.answer all is in
    let moved = c.in_ok-move_bytes.ensures.answer line.0 line.1 in
    let behind = drop size line.0 in
    let after = ahead (g.S.Source.told c.read_part-2.new.from).left c.read_part-2.new.input in
    let stops = stage-stops (List ℕ) part_bytes ReadsBreak IsHalfBreak behind e after (λ _ _. ⊥)
    (c.in_err-read_part.ensures.answer behind moved.after_is) in
    handed-on c.from_residual-in_err-read_part.result e (λ r. IsChunk all body r c.move_bytes.new.body after)
    c.from_residual-in_err-read_part.ensures.1
    (IfTold-map {A = List ℕ} (Err e) (Stage part_bytes ReadsBreak IsHalfBreak behind (Err e) (λ _ _. ⊥))
    (EndsChunks (Err e) body all)
    (λ s. behind-line body all size line.0 (Err e) line.2
    (unbroken (omega (arith, c.if-size-eq0.false)) moved.inside moved.within s)) stops)
