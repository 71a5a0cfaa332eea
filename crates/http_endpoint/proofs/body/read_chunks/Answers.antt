use Rattle.std.proofs.Common.{◌∙◌, subst, sym, ap, Err, Ok, List, ℕ, [], arith, true, false}
use Rattle.rm_base.specs.StreamLemmas.{Lasts-more}
use Rattle.http_endpoint.specs.Ahead.{ahead}
use Rattle.http_endpoint.specs.Part.{IfTold}
use Rattle.http_endpoint.specs.Body.{IsChunk, IsChunked, EndsChunks, ends, chunk}
use Rattle.http_endpoint.proofs.ChunkFacts.{handed-on, chunk-stops}
use Rattle.http_endpoint.proofs.body.read_chunks.Goals as goal

pub returns-in_err-read_chunk-clause-answer : goal.returns-in_err-read_chunk-clause-answer
returns-in_err-read_chunk-clause-answer g c = λ all is.
    let e = c.in_err-read_chunk.field-0.0 in
    let at = c.loop-body.invariant.chunks (Err e) all is in
    let new = c.read_chunk.new in
    handed-on c.from_residual.result e (λ r. IfTold r (IsChunked r [] all)) c.from_residual.ensures.1
    (chunk-stops all c.loop-body.body at.0 new.body e (ahead (g.S.Source.told new.from).left new.input)
    (c.in_err-read_chunk.ensures.answer at.0 at.1) at.2)

pub loop-body-preserved : goal.loop-body-preserved
loop-body-preserved g c =
    let l = c.loop-body in
    let new = c.read_chunk.new in
    record {
      within = c.in_ok-read_chunk.ensures.within;
      chunks = λ result all is.
          let at = l.invariant.chunks result all is in
          let taken : IsChunk at.0 l.body (Ok true) new.body (ahead (g.S.Source.told new.from).left new.input) =
          rw c.if-branch.true at (c.in_ok-read_chunk.ensures.answer at.0 at.1) in
          (taken.0, taken.1, λ later. at.2 (chunk new.body taken.0 taken.2 later));
      stops = omega (
        arith,
        l.invariant.stops,
        l.invariant.used,
        c.read_chunk.ensures.stops,
        c.in_ok-read_chunk.ensures.grown (ap Ok c.if-branch.true),
      );
      used = omega (arith, l.invariant.used, c.in_ok-read_chunk.ensures.used (ap Ok c.if-branch.true));
      keeps = c.read_chunk.ensures.keeps.held ∙ l.invariant.keeps;
      lasts = Lasts-more _ _ _ l.invariant.lasts c.read_chunk.ensures.keeps.lasts;
    }

pub returns-clause-answer : goal.returns-clause-answer
returns-clause-answer g c = λ all is.
    let l = c.loop-body in
    let new = c.read_chunk.new in
    let at = l.invariant.chunks (Ok new.body) all is in
    let last : IsChunk at.0 l.body (Ok false) new.body (ahead (g.S.Source.told new.from).left new.input) =
    rw c.if-branch.false at (c.in_ok-read_chunk.ensures.answer at.0 at.1) in
    at.2 (ends (subst (λ (b : List ℕ). EndsChunks (Ok b) l.body at.0) (sym last.0) last.1))
