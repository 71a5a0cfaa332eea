use Rattle.std.proofs.Common.{◌++◌, take, arith}
use Rattle.std.proofs.lemmas.Grind.{common_steps}
use Rattle.rm_base.proofs.KnownBytes.{Consumes-more}
use Rattle.rm_base.proofs.transfer.read_up_to.Goals as goal

pub returns-in_err-push_all-clause-front : goal.returns-in_err-push_all-clause-front
returns-in_err-push_all-clause-front g c =
    let told = g.S.Source.told in
    let l = c.loop-piece in
    let k = c.in_ok-count in
    let piece = take k.count c.read.new.buf in (
      l.bytes ++ piece,
      grind (arith, common_steps, k.ensures.bound),
      Consumes-more (told c.args.input.now).left (told l.input).left (told c.read.new.self).left
          l.bytes piece l.invariant.left k.ensures.moved.0,
    )
