use Rattle.rm_host.proofs.WordLemmas.{send-fails, single}
use Rattle.rm_host.proofs.words.send_of.Goals as goal

pub returns-in-Err : goal.returns-in-Err
returns-in-Err c =
    send-fails c.args.words.now c.to-item.result c.in-Err.end
    (single c.args.words.now c.to-item.result c.in-len1.len_at_least c.in-len1.len_below c.to-item.is)
    c.in-Err.ensures
