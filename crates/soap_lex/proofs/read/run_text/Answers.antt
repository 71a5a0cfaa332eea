use Rattle.std.proofs.Common.{◌≡◌, ◌+◌, ◌≤◌, ℕ, List, Some, None, option_map, length, drop, sym, ap, ◌∙◌, arith}
use Rattle.std.proofs.lemmas.List.{take_rest}
use Rattle.soap_lex.specs.Readers.{text_state}
use Rattle.soap_lex.specs.TextMachine.{run, counted, ended}
use Rattle.soap_lex.proofs.TextFed.{run_fed}
use Rattle.soap_lex.proofs.TextWhole.{whole_some, whole_none, left_within, front_whole, front_then}
use Rattle.soap_lex.proofs.read.run_text.Goals as goal

pub loop-reader-init : goal.loop-reader-init
loop-reader-init c = record {
  front = front_whole c.args.out.now.items;
  meaning = ap (λ s. run s c.args.bytes.now) (c.new-reader.ensures c.args.out.now.items);
}

pub overflow_add-result : goal.overflow_add-result
overflow_add-result c =
    let text : List ℕ = c.args.out.now.items in
    let bytes : List ℕ = c.args.bytes.now in
    let rest : List ℕ = c.loop-reader.rest.now in
    let s = text_state c.loop-reader.reader c.loop-reader.out.items in
    let t = text_state c.feed.new.self c.feed.new.out.items in
    let ends : counted (ended t) ≡ Some (c.finish.new.out.items, c.in-Some.held) = c.in_ok-held.ensures.ok
    ∙ ap (option_map (λ n. (c.finish.new.out.items, n))) c.in-Some.is in
    let whole = whole_some text bytes rest s t c.in_ok-taken.taken c.loop-reader.invariant.meaning
    c.in_ok-taken.ensures.ok.1 c.if-taken-eq0.true c.finish.new.out.items c.in-Some.held ends in
    let short : c.in-Some.held + length rest ≤ length bytes = left_within text bytes c.finish.new.out.items
    (c.in-Some.held + length rest) whole in
    omega (arith, short)

pub returns-in-Some-clause-ok : goal.returns-in-Some-clause-ok
returns-in-Some-clause-ok c =
    let s = text_state c.loop-reader.reader c.loop-reader.out.items in
    let t = text_state c.feed.new.self c.feed.new.out.items in
    let ends : counted (ended t) ≡ Some (c.finish.new.out.items, c.in-Some.held) = c.in_ok-held.ensures.ok
    ∙ ap (option_map (λ n. (c.finish.new.out.items, n))) c.in-Some.is in
    whole_some c.args.out.now.items c.args.bytes.now c.loop-reader.rest.now s t c.in_ok-taken.taken
    c.loop-reader.invariant.meaning c.in_ok-taken.ensures.ok.1 c.if-taken-eq0.true c.finish.new.out.items
    c.in-Some.held ends

pub returns-in-None-clause-refused : goal.returns-in-None-clause-refused
returns-in-None-clause-refused c =
    let s = text_state c.loop-reader.reader c.loop-reader.out.items in
    let t = text_state c.feed.new.self c.feed.new.out.items in
    let ends : counted (ended t) ≡ None = c.in_ok-held.ensures.ok
    ∙ ap (option_map (λ n. (c.finish.new.out.items, n))) c.in-None.is in
    whole_none c.args.out.now.items c.args.bytes.now c.loop-reader.rest.now s t c.in_ok-taken.taken
    c.loop-reader.invariant.meaning c.in_ok-taken.ensures.ok.1 c.if-taken-eq0.true ends

pub loop-reader-preserved : goal.loop-reader-preserved
loop-reader-preserved c =
    let s = text_state c.loop-reader.reader c.loop-reader.out.items in
    let t = text_state c.feed.new.self c.feed.new.out.items in
    let rest : List ℕ = c.loop-reader.rest.now in
    record {
      front = front_then c.args.out.now.items c.loop-reader.out.items c.feed.new.out.items
          c.loop-reader.invariant.front c.in_ok-taken.ensures.front;
      meaning = ap (run t) (take_rest rest c.in_ok-taken.taken)
          ∙ sym (run_fed s t rest (drop c.in_ok-taken.taken rest) c.in_ok-taken.ensures.ok.1)
          ∙ c.loop-reader.invariant.meaning;
    }
