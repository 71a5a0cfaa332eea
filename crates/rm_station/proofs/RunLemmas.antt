-- What the turns of a node lead to.
use Rattle.std.proofs.Common.{◌≡◌, ℕ, Bool, List, [], ◌++◌, refl, subst, sym}
use Rattle.std.specs.Prelude.{Option, Result}
use Rattle.rm_base.specs.declared.message.Behaviour.{Behaviour}
use Rattle.rm_disk.specs.Told.{Told}
use Rattle.rm_node.specs.Noded.{Noded}
use Rattle.rm_protocol.specs.Terms.{Terms}
use Rattle.rm_serve.specs.Steps.{Makes, MakesAll, Place, Step, done, makes, place_of, rests}
use Rattle.rm_host.specs.Finding.{Found}
use Rattle.rm_host.specs.declared.end.End.{End}
use Rattle.service_turns.specs.Traffic.{Scene}
use Rattle.service_turns.specs.TurnLaws.{run_keeps}
use Rattle.service_turns.specs.Turns.{Turns}
use Rattle.service_turns.specs.declared.turns.Halt.{Halt}
use Rattle.rm_station.specs.Runs.{does_of}
use Rattle.rm_station.specs.Works.{state_of}
use Rattle.rm_station.specs.declared.station.Station.{Station}
use Rattle.rm_station.proofs.CallLemmas.{no-step}

-- two rows of calls, one behind the other
then : (tells : Bool) (terms : Terms) (x y z : Place) (s t : List Step) → Makes tells terms x y s
    → Makes tells terms y z t → Makes tells terms x z (s ++ t)
then tells terms _ _ z _ t (done x) after = after
then tells terms _ _ z _ t (rests x y w steps stays first) after =
    rests x y z (steps ++ t) stays (then tells terms y w z steps t first after)
then tells terms _ _ z _ t (makes x y w step steps runs does first) after =
    makes x y z step (steps ++ t) runs does (then tells terms y w z steps t first after)

-- the calls that lead from one place to another
abbrev Leads : Bool → Place → Place → Type 0
Leads tells x z = (steps : List Step) × MakesAll tells x z steps

-- all turns of a run are calls of the node
pub run-leads : {D C : Type 0} (tells : Bool) (told : D → Told) (next : C → Option ℕ) (n : ℕ) (s t : Station D C)
    (old new : Scene) (result : Result (Unit {0}) (Halt End))
    → Turns (does_of tells told next) (λ (x : Station D C). x.is_stopped) n s t old new result
    → (steps : List Step) × MakesAll tells (state_of told next s).place (state_of told next t).place steps
run-leads {D} {C} tells told next n s t old new result turns =
    run_keeps (does_of tells told next) (λ (x : Station D C). x.is_stopped)
    (λ (a b : Station D C). Leads tells (state_of told next a).place (state_of told next b).place)
    n s t old new result
    (λ a. ([], no-step tells _ _ (record { node = refl; told = λ h. refl })))
    (λ a b c first after. (
      first.0 ++ after.0,
      λ terms own. then tells terms _ _ _ first.0 after.0 (first.1 terms own) (after.1 terms own),
    ))
    (λ a b did ended works. (works.steps, works.makes)) turns

-- a node that was found stands at its desk
pub found-there : {D C : Type 0} (tells : Bool) (told : D → Told) (first : Told) (granted : Behaviour) (disk : D)
    (node : Noded) (s : Station D C) → s.disk ≡ disk → s.node ≡ node
    → Found tells first granted (place_of (told disk) node)
    → Found tells first granted (place_of (told s.disk) s.node)
found-there tells told first granted disk node s same alike found =
    subst (λ d. Found tells first granted (place_of (told d) s.node)) (sym same)
    (subst (λ n. Found tells first granted (place_of (told disk) n)) (sym alike) found)
