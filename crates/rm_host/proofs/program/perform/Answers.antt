use Rattle.rm_base.specs.Limits as limits
use Rattle.rm_host.proofs.RunLemmas.{silent-inner, silent-took}
use Rattle.rm_host.proofs.program.perform.Goals as goal

pub returns-in-Make-clause-prints : goal.returns-in-Make-clause-prints
returns-in-Make-clause-prints g c = silent-inner (g.K.Sink.told c.args.out.now) c.make.result c.make.ensures.inner

pub returns-in-Serve-clause-prints : goal.returns-in-Serve-clause-prints
returns-in-Serve-clause-prints g c = silent-inner (g.K.Sink.told c.args.out.now) c.serve.result c.serve.ensures.inner

pub returns-in-Push-clause-prints : goal.returns-in-Push-clause-prints
returns-in-Push-clause-prints g c = silent-inner (g.K.Sink.told c.args.out.now) c.push.result c.push.ensures.inner

pub returns-in-Close-clause-prints : goal.returns-in-Close-clause-prints
returns-in-Close-clause-prints g c = silent-inner (g.K.Sink.told c.args.out.now) c.close.result c.close.ensures.inner

pub returns-in-Finish-clause-prints : goal.returns-in-Finish-clause-prints
returns-in-Finish-clause-prints g c = silent-inner (g.K.Sink.told c.args.out.now) c.end.result c.end.ensures.inner

pub returns-in-Inbox-clause-prints : goal.returns-in-Inbox-clause-prints
returns-in-Inbox-clause-prints g c = silent-inner (g.K.Sink.told c.args.out.now) c.inbox.result c.inbox.ensures.inner

pub returns-in-Compact-clause-prints : goal.returns-in-Compact-clause-prints
returns-in-Compact-clause-prints g c =
    silent-inner (g.K.Sink.told c.args.out.now) c.compact.result c.compact.ensures.inner

pub returns-in-Send-clause-prints : goal.returns-in-Send-clause-prints
returns-in-Send-clause-prints g c =
    silent-took limits.payload_bytes (g.S.Source.told c.args.input.now) (g.S.Source.told c.send.new.input)
    (g.K.Sink.told c.args.out.now) c.send.result c.send.ensures.took

pub returns-in-Import-clause-prints : goal.returns-in-Import-clause-prints
returns-in-Import-clause-prints g c =
    silent-took limits.journal_bytes (g.S.Source.told c.args.input.now) (g.S.Source.told c.import.new.input)
    (g.K.Sink.told c.args.out.now) c.import.result c.import.ensures.took
