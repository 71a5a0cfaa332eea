use Rattle.rm_base.specs.TextLemmas.{is_text-IsText, IsText-is_text}
use Rattle.rm_base.proofs.laws.texts_are_tested.Goals as goal

pub returns : goal.returns
returns c = λ limit bytes. (is_text-IsText limit bytes, IsText-is_text limit bytes)
