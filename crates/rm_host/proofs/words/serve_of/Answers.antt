use Rattle.rm_host.proofs.WordLemmas.{no-serve}
use Rattle.rm_host.proofs.words.serve_of.Goals as goal

pub returns-in-None : goal.returns-in-None
returns-in-None c = no-serve c.args.media c.args.words.now c.in-None.ensures
