use Rattle.rm_host.proofs.WordLemmas.{no-close}
use Rattle.rm_host.proofs.words.close_of.Goals as goal

pub returns-in-None : goal.returns-in-None
returns-in-None c = no-close c.args.words.now c.in-None.ensures
