use Rattle.std.proofs.Common.{◌+◌, take, drop, ap, sym, arith}
use Rattle.std.proofs.lemmas.List.{take_rest, take_all, drop_all}
use Rattle.rm_script.proofs.SoakLemmas.CutLemmas.{position-some, position-none}
use Rattle.rm_script.proofs.soak.cut.cut.Goals as goal

pub returns-in-Some-clause-before : goal.returns-in-Some-clause-before
returns-in-Some-clause-before c =
    let bytes = c.args.bytes.now in
    ap (λ n. take n bytes) (position-some c.args.end bytes c.in-Some.place (sym c.in-Some.ensures.place))

pub returns-in-Some-clause-after : goal.returns-in-Some-clause-after
returns-in-Some-clause-after c =
    let bytes = c.args.bytes.now in
    rw take_rest
    (ap (λ n. drop (n + 1) bytes) (position-some c.args.end bytes c.in-Some.place (sym c.in-Some.ensures.place)))

pub returns-in-None-clause-before : goal.returns-in-None-clause-before
returns-in-None-clause-before c =
    let bytes = c.args.bytes.now in
    sym (take_all _ bytes (position-none c.args.end bytes (sym c.in-None.ensures.place)))

pub returns-in-None-clause-after : goal.returns-in-None-clause-after
returns-in-None-clause-after c =
    let bytes = c.args.bytes.now in
    let outside = position-none c.args.end bytes (sym c.in-None.ensures.place) in
    sym (drop_all _ bytes (omega (arith, outside)))
