use Rattle.std.proofs.Common.{refl, arith}
use Rattle.record_batch.specs.Sequences.IdentTexts.{marks-text}
use Rattle.node_messages.proofs.name.application_action.Goals as goal

pub returns-clause-is_text : goal.returns-clause-is_text
returns-clause-is_text c = marks-text 2048 _ (omega arith) (omega arith) refl
