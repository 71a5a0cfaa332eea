use Rattle.rm_command.specs.Status.{status_of}
use Rattle.rm_command.proofs.AlternativesLemmas.{finding_status}
use Rattle.rm_command.proofs.CheckLemmas.{check_status, replay_status}
use Rattle.rm_command.proofs.KeptLemmas.{keeps_word}
use Rattle.rm_command.proofs.PolicyLemmas.{policy_status}
use Rattle.rm_command.proofs.SoakLemmas.{soak_status}
use Rattle.rm_command.proofs.StatusLemmas.{status_by, usage_by}
use Rattle.rm_policy.specs.Alternatives.Finds.{FindsCommon, FindsNormal}
use Rattle.rm_command.proofs.command.run.Goals as goal

pub returns-clause-status : goal.returns-clause-status
returns-clause-status g c = record {
  usage = rw c.status.ensures (usage_by c.args.words.now c.obey.result _ _ _ c.obey.ensures);
  bytes =
      rw c.status.ensures (status_by c.args.words.now (g.S.Source.told c.args.input.now).left (status_of c.obey.result)
      (λ asked. replay_status c.no_bad_line.ensures (c.obey.ensures.replay asked))
      (λ asked. soak_status asked.0 c.obey.result _ _ _ (c.obey.ensures.soak asked.0 asked.1))
      (λ asked. check_status c.a_message_is_not_refused.ensures (c.obey.ensures.check asked))
      (λ asked. policy_status c.one_reading.ensures (c.obey.ensures.policy asked))
      (λ asked. finding_status FindsNormal c.what_is_found_is_not_refused.ensures.normal _ _
      (c.obey.ensures.normal asked).ends)
      (λ asked. finding_status FindsCommon c.what_is_found_is_not_refused.ensures.common _ _
      (c.obey.ensures.intersect asked).ends));
}

pub returns-clause-word : goal.returns-clause-word
returns-clause-word g c asked =
    rw c.status.ensures (keeps_word c.args.words.now c.obey.result _ _ _ c.obey.ensures asked)
