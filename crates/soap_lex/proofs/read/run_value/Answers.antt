use Rattle.std.proofs.Common.{ℕ, List, drop, sym, ap, ◌∙◌}
use Rattle.std.proofs.lemmas.List.{take_rest}
use Rattle.soap_lex.specs.Readers.{quote_byte, value_state}
use Rattle.soap_lex.specs.ValueMachine.{run}
use Rattle.soap_lex.proofs.TextWhole.{front_whole, front_then}
use Rattle.soap_lex.proofs.ValueFed.{run_fed}
use Rattle.soap_lex.proofs.ValueWhole.{whole_some, whole_none}
use Rattle.soap_lex.proofs.read.run_value.Goals as goal

pub loop-reader-init : goal.loop-reader-init
loop-reader-init c = record {
  front = front_whole c.args.out.now.items;
  meaning = ap (λ s. run s c.args.bytes.now) (c.new-reader.ensures c.args.out.now.items);
}

pub loop-reader-preserved : goal.loop-reader-preserved
loop-reader-preserved c =
    let s = value_state c.loop-reader.reader c.loop-reader.out.items in
    let t = value_state c.feed.new.self c.feed.new.out.items in
    let rest : List ℕ = c.loop-reader.rest.now in
    record {
      front = front_then c.args.out.now.items c.loop-reader.out.items c.feed.new.out.items
          c.loop-reader.invariant.front c.in_ok-taken.ensures.front;
      meaning = ap (run t) (take_rest rest c.in_ok-taken.taken)
          ∙ sym (run_fed s t rest (drop c.in_ok-taken.taken rest) c.in_ok-taken.ensures.ok.1)
          ∙ c.loop-reader.invariant.meaning;
    }

pub returns-in_err-taken-clause-front : goal.returns-in_err-taken-clause-front
returns-in_err-taken-clause-front c =
    front_then c.args.out.now.items c.loop-reader.out.items c.feed.new.out.items
    c.loop-reader.invariant.front c.in_err-taken.ensures.front

pub returns-then-is_closed-clause-ok : goal.returns-then-is_closed-clause-ok
returns-then-is_closed-clause-ok c =
    let s = value_state c.loop-reader.reader c.loop-reader.out.items in
    let t = value_state c.feed.new.self c.feed.new.out.items in
    whole_some (quote_byte c.args.quote) c.in_ok-taken.taken c.args.out.now.items c.args.bytes.now
    c.loop-reader.rest.now s t c.loop-reader.invariant.meaning c.in_ok-taken.ensures.ok.1 c.if-taken-eq0.true
    (sym (c.is_closed.ensures c.feed.new.out.items) ∙ c.if-is_closed.true)

pub returns-then-taken-eq0-clause-refused : goal.returns-then-taken-eq0-clause-refused
returns-then-taken-eq0-clause-refused c =
    let s = value_state c.loop-reader.reader c.loop-reader.out.items in
    let t = value_state c.feed.new.self c.feed.new.out.items in
    whole_none (quote_byte c.args.quote) c.in_ok-taken.taken c.args.out.now.items c.args.bytes.now
    c.loop-reader.rest.now s t c.loop-reader.invariant.meaning c.in_ok-taken.ensures.ok.1 c.if-taken-eq0.true
    (sym (c.is_closed.ensures c.feed.new.out.items) ∙ c.if-is_closed.false)
