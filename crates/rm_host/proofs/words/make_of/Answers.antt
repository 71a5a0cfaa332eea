use Rattle.rm_host.proofs.WordLemmas.{make-fails, pair}
use Rattle.rm_host.proofs.words.make_of.Goals as goal

pub returns-in-Err : goal.returns-in-Err
returns-in-Err c =
    make-fails c.args.words.now c.number-item.result c.address-item.result c.in-Some.number c.in-Err.end
    (pair c.args.words.now c.number-item.result c.address-item.result c.in-len2.len_at_least c.in-len2.len_below
    c.number-item.is c.address-item.is) c.in-Some.ensures c.in-Err.ensures
