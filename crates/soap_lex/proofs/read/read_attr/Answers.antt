use Rattle.std.proofs.Common.{ℕ, List, subst}
use Rattle.std.proofs.lemmas.List.{take_rest}
use Rattle.soap_lex.specs.Cut.{IsValueFirst}
use Rattle.soap_lex.proofs.PlaceLemmas.{reads_value}
use Rattle.soap_lex.proofs.read.read_attr.Goals as goal

pub returns-in-Ok-clause-found : goal.returns-in-Ok-clause-found
returns-in-Ok-clause-found c =
    let found = c.in-Ok.ensures.found in
    let P : List ℕ → Type 0 = λ l. IsValueFirst l found.0 c.in-Ok.rest.now found.1 in
    reads_value c.args.bytes.now c.args.at found.0 c.in-Ok.rest.now found.1 c.args.out.now.items
    c.push_value.new.out.items c.requires
    (subst P (take_rest c.args.bytes.now c.args.at) found.2) found.3
