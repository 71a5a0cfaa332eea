-- What a message fetches, as the protocol has it.
use Rattle.std.proofs.Common.{◌≡◌, ◌∙◌, Option, refl, ap}
use Rattle.std.specs.Prelude.{Ok}
use Rattle.timers.specs.Pending.Waiting.{Waiting}
use Rattle.rm_message.specs.declared.message.Message.{Message}
use Rattle.record_batch.specs.Sequences.Words.{Text}
use Rattle.rm_protocol.specs.Calls.{Answer, Outcome, Done, Judged, Refused}
use Rattle.rm_protocol.specs.Polls.{awaited, fetches, polls, selected, selected_by}
use Rattle.rm_node.specs.Fetching.{if_taken}

taken-selected : (o : Outcome) (m : Message) (at : Option Text) → at ≡ selected_by m.body
    → if_taken o at ≡ selected o (Ok m)
taken-selected Done m at e = e
taken-selected (Refused cause) m at e = refl
taken-selected (Judged fault) m at e = refl

-- what the answer to a message fetches
pub polls-by : (w : Waiting Message) (m : Message) (at : Option Text) (a b : Answer) → at ≡ selected_by m.body → a ≡ b
    → fetches (awaited w (if_taken a.outcome at)) a ≡ polls w (Ok m) b
polls-by w m at a b e same =
    ap (λ (o : Option Text). fetches (awaited w o) a) (taken-selected a.outcome m at e)
    ∙ ap (λ (x : Answer). polls w (Ok m) x) same
