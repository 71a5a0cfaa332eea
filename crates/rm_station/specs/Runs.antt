-- A node that runs: it is found on its disk, and takes what comes, in turns.
use Rattle.std.specs.Prelude.{◌≡◌, ℕ, Bool, List, Option, Result, Err}
use Rattle.node_store.specs.declared.error.MountError.{MountError}
use Rattle.rm_base.specs.declared.message.Behaviour.{Behaviour}
use Rattle.rm_disk.specs.Told.{Told}
use Rattle.rm_serve.specs.Steps.{MakesAll, Step}
use Rattle.rm_host.specs.Ends.{mount_end}
use Rattle.rm_host.specs.Finding.{Found, NotFound}
use Rattle.rm_host.specs.Records.{LeavesAll}
use Rattle.rm_host.specs.declared.end.End.{End}
use Rattle.service_turns.specs.Traffic.{Scene}
use Rattle.service_turns.specs.Turns.{Did, Turns}
use Rattle.service_turns.specs.declared.traffic.Packet.{Packet}
use Rattle.service_turns.specs.declared.turns.Halt.{Halt}
use Rattle.service_turns.specs.declared.turns.Halt.TheVariants.{Stuck}
use Rattle.rm_station.specs.Works.{Works, state_of}
use Rattle.rm_station.specs.declared.station.Station.{Station}

-- what a station does of what came
abbrev pub does_of : {D C : Type 0} → Bool → (D → Told) → (C → Option ℕ) → Station D C → Did
    → Result (List Packet) End → Station D C → Type 0
does_of tells told next s did result t = Works tells (state_of told next s) (state_of told next t) did result

-- What a node did that ran: none was found; or it took its turns, one after the other, and each call that it made in
-- them, in order, leaves its records on the disk that tells, whatever crash comes.
pub data Runs {D C : Type 0} (tells : Bool) (told : D → Told) (next : C → Option ℕ) (first now : Told)
    (old new : Scene) (granted : Behaviour) (most : ℕ) : Result (Unit {0}) (Halt End) → Type 0 where
  unfound : (e : MountError) → NotFound tells first now e → new ≡ old
      → Runs tells told next first now old new granted most (Err (Stuck (mount_end e)))
  ran : (s t : Station D C) (steps : List Step) (result : Result (Unit {0}) (Halt End))
      → Found tells first granted (state_of told next s).place → told t.disk ≡ now
      → MakesAll tells (state_of told next s).place (state_of told next t).place steps
      → LeavesAll tells first (state_of told next s).place (state_of told next t).place steps
      → Turns (does_of tells told next) (λ (x : Station D C). x.is_stopped) most s t old new result
      → Runs tells told next first now old new granted most result
