use Rattle.rm_host.proofs.WordLemmas.{no-inbox}
use Rattle.rm_host.proofs.words.inbox_of.Goals as goal

pub returns-in-None : goal.returns-in-None
returns-in-None c = no-inbox c.args.words.now c.in-None.ensures
