use Rattle.std.proofs.Common.{◌≡◌, ◌∙◌, ◌⊎◌, Err, [], ap, refl, sym, subst}
use Rattle.std.proofs.lemmas.Result.{err_from_is_err_and}
use Rattle.rm_base.specs.declared.message.Behaviour.TheVariants.{FollowingFirstGap}
use Rattle.rm_serve.specs.Steps.{Place, place_of}
use Rattle.rm_host.proofs.RecordLemmas.{acted-so}
use Rattle.rm_host.proofs.RowLemmas.{no-step}
use Rattle.rm_host.specs.Ends.{faults_of}
use Rattle.rm_host.specs.HostSteps.{Commands, unfound}
use Rattle.rm_host.specs.Makings.{TellsInbox}
use Rattle.rm_host.specs.Sequences.{inbox_answer}
use Rattle.rm_host.specs.declared.end.End.TheVariants.{Memory}
use Rattle.rm_host.proofs.EndLemmas.{ends}
use Rattle.rm_host.proofs.commands.inbox.Goals as goal

pub returns-clause-reason : goal.returns-clause-reason
returns-clause-reason g c =
    let seen = faults_of g.D.Disk.told g.L.Link.told in
    ends (seen c.args.host.now) (seen c.mount.new.host) c.inbox_text.result c.in_ok-node.ensures.reason
    c.inbox_text.ensures.disk c.inbox_text.ensures.link

pub returns-in_err-node-clause-does : goal.returns-in_err-node-clause-does
returns-in_err-node-clause-does g c =
    let p = err_from_is_err_and c.from_residual.result c.from_residual.ensures.1 in
    let why = c.in_err-node.ensures.unfound in
    subst (λ x. Commands g.D.Disk.tells (g.D.Disk.told c.args.host.now.disk) (g.D.Disk.told c.mount.new.host.disk)
    (g.L.Link.told c.args.host.now.link) (g.L.Link.told c.mount.new.host.link) FollowingFirstGap
    (λ (x z : Place). TellsInbox c.args.seq x z (g.L.Link.told c.args.host.now.link)
    (g.L.Link.told c.mount.new.host.link)) x)
    (sym ((p.1 ∙ ap Err p.2) ∙ ap Err why.1)) (unfound why.0 why.2 c.in_err-node.ensures.link)

pub returns-clause-does : goal.returns-clause-does
returns-clause-does g c =
    let x = place_of (g.D.Disk.told c.mount.new.host.disk) c.in_ok-node.node in
    acted-so c.a_command_leaves_its_records.ensures x x [] c.inbox_text.result c.in_ok-node.ensures.mounted refl
    (no-step g.D.Disk.tells x x (record { node = refl; told = λ t. refl }))
    (record {
      none = refl;
      same = refl;
      told = subst (λ r. (c.inbox_text.result ≡ Err Memory) ⊎ (c.inbox_text.result ≡ inbox_answer r c.args.seq))
          c.tables.ensures c.inbox_text.ensures.is;
      link = c.in_ok-node.ensures.link;
    })
