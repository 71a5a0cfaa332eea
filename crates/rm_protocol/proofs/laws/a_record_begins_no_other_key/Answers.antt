use Rattle.rm_protocol.specs.FitInduction.{creating-accepts-none}
use Rattle.rm_protocol.proofs.WaitingLemmas.{one-begins}
use Rattle.rm_protocol.proofs.laws.a_record_begins_no_other_key.Goals as goal

pub returns : goal.returns
returns c r f k h fit w = one-begins r f k h fit (λ s. creating-accepts-none r s h) w
