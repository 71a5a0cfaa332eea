use Rattle.rm_message.proofs.ElementsLemmas.Digits.{all_digits}
use Rattle.rm_message.proofs.elements.duration.split_digits.Goals as goal

pub returns-clause-all : goal.returns-clause-all
returns-clause-all c = rw c.cut_digits.ensures.digits (all_digits c.args.bytes.now)
