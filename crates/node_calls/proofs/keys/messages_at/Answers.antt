use Rattle.std.proofs.Common.{◌+◌, ◌<◌, ◌++◌, drop, get_or, length, rules, sym, ap, ◌∙◌, append_assoc}
use Rattle.std.specs.Option.{option_to_list}
use Rattle.std.proofs.lemmas.List.{at_drop_more}
use Rattle.rm_message.specs.declared.message.Message.{Message}
use Rattle.rm_protocol.specs.Calls.{message_at, messages_at}
use Rattle.rm_protocol.specs.Waiting.{key as key_of}
use Rattle.timers.specs.declared.slots.timers.Key.{Key}
use Rattle.std.specs.Prelude.{List}
use Rattle.tables_ahead.specs.Known.{all_records}
use Rattle.node_calls.proofs.keys.messages_at.Goals as goal

pub loop-key-preserved : goal.loop-key-preserved
loop-key-preserved c =
    let r = all_records c.args.ahead.now in
    let keys = c.args.keys.now in
    let i = c.loop-key.key-index in
    let key = get_or keys i (key_of 0 0) in
    let outs = c.loop-key.outs.items in
    let rest = messages_at r (drop (i + 1) keys) in
    let lt : i < length keys = search rules in
    ap (λ (ms : List Message). ms ++ rest) c.in_ok-push_message.ensures
    ∙ append_assoc outs (option_to_list (message_at r key.seq key.number)) rest
    ∙ sym (at_drop_more (λ (ks : List Key). outs ++ messages_at r ks) keys i (key_of 0 0) lt)
    ∙ c.loop-key.invariant
