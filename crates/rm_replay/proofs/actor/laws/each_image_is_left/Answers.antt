use Rattle.std.proofs.Common.{refl}
use Rattle.rm_replay.proofs.ActorLemmas.CrashLemmas.{leaves_still}
use Rattle.rm_replay.proofs.actor.laws.each_image_is_left.Goals as goal

pub returns : goal.returns
returns c x now a s = leaves_still x now a now.past s refl
