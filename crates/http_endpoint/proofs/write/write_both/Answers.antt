use Rattle.std.proofs.Common.{◌++◌}
use Rattle.rm_base.specs.Outside.{AppendsFront}
use Rattle.http_endpoint.proofs.WriteFacts.{appends-front, on-err}
use Rattle.http_endpoint.proofs.write.write_both.Goals as goal

pub returns-in_err-write_all-2-clause-err : goal.returns-in_err-write_all-2-clause-err
returns-in_err-write_all-2-clause-err g c =
    let told = g.K.Sink.told in
    let old = (told c.args.out.now).held in
    let mid = (told c.write_all.new.out).held in
    let new = (told c.write_all-2.new.out).held in
    on-err c.from_residual-in_err-write_all-2.result (AppendsFront old new (c.args.head.now ++ c.args.body.now))
    (appends-front old mid new c.args.head.now c.args.body.now c.in_ok-write_all.ensures.ok
    c.in_err-write_all-2.ensures.err)
