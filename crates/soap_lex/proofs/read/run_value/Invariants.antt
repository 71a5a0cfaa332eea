use Rattle.std.proofs.Common.{◌≡◌, length, take}
use Rattle.soap_lex.specs.Readers.{quote_byte, value_state}
use Rattle.soap_lex.specs.ValueMachine.{begun, run}
use Rattle.soap_lex.proofs.read.run_value.Given as goal

abbrev pub invariant-loop-reader : goal.invariant-loop-reader
invariant-loop-reader l = record {
  front : take (length l.initial.out.items) l.out.items ≡ l.initial.out.items;
  meaning : run (value_state l.reader l.out.items) l.rest ≡ run (begun
      (quote_byte l.fn.quote) l.initial.out.items) l.bytes;
}

abbrev pub decreases-loop-reader : goal.decreases-loop-reader
decreases-loop-reader l = length l.rest
