use Rattle.std.proofs.Common.{◌≡◌, Ok}
use Rattle.std.proofs.lemmas.Result.{IfOk-weaker}
use Rattle.rm_policy.specs.Reading.{ReadsAs}
use Rattle.rm_policy.specs.Texts.{assertion_text}
use Rattle.rm_policy.proofs.write.write_assertion.Goals as goal

pub returns-clause-back : goal.returns-clause-back
returns-clause-back c =
    let a = c.args.assertion.now in
    IfOk-weaker c.text_of.result (λ text. text ≡ assertion_text a) (λ text. ReadsAs text (Ok a))
    (λ text is. rw is (c.assertion_is_read_back.ensures a c.requires)) c.text_of.ensures
