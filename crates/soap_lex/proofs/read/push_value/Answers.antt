use Rattle.std.proofs.Common.{List, ℕ, get_or}
use Rattle.soap_lex.specs.Readers.{quote_byte}
use Rattle.soap_lex.proofs.ValueWhole.{found_ok, only_ok, refused_err, quote_kind, first_byte}
use Rattle.soap_lex.proofs.read.push_value.Goals as goal

pub returns-in-Some-clause-found : goal.returns-in-Some-clause-found
returns-in-Some-clause-found c =
    let bytes : List ℕ = c.args.bytes.now in
    found_ok (quote_byte c.in-Some.quote) (get_or bytes 0 0) bytes _ c.args.out.now.items c.in-Some.ensures.some
    (first_byte bytes c.in-len1-up.len_at_least)
    (quote_kind c.in-Some.quote) c.run_value.new.out.items c.run_value.result c.run_value.ensures.ok

pub returns-in-Some-clause-only : goal.returns-in-Some-clause-only
returns-in-Some-clause-only c =
    let bytes : List ℕ = c.args.bytes.now in
    only_ok (quote_byte c.in-Some.quote) (get_or bytes 0 0) bytes _ c.args.out.now.items c.in-Some.ensures.some
    (first_byte bytes c.in-len1-up.len_at_least) c.run_value.new.out.items c.run_value.result c.run_value.ensures.ok

pub returns-in-Some-clause-refused : goal.returns-in-Some-clause-refused
returns-in-Some-clause-refused c =
    let bytes : List ℕ = c.args.bytes.now in
    refused_err (quote_byte c.in-Some.quote) (get_or bytes 0 0) bytes _ c.args.out.now.items c.in-Some.ensures.some
    (first_byte bytes c.in-len1-up.len_at_least) c.run_value.result c.run_value.ensures.refused
