-- Connections that are served, one after the other.
use Rattle.std.proofs.Common.{◌≡◌, ℕ, false, zero, suc, ◌<◌, ◌-◌, Bool, List, [], ◌++◌, refl, ap, sym, subst}
use Rattle.std.proofs.Common.{append_assoc, arith}
use Rattle.std.proofs.Common.{Option, Result, Ok, Err}
use Rattle.std.proofs.lemmas.List.{append-nil}
use Rattle.http_endpoint.specs.declared.media.Media.{Media}
use Rattle.rm_disk.specs.Told.{Told}
use Rattle.http_endpoint.specs.Link.Lines.{Listens, Net}
use Rattle.rm_serve.specs.Steps.{MakesAll, Place, Step}
use Rattle.rm_serve.specs.declared.serving.ConnEnd.{ConnEnd}
use Rattle.rm_base.specs.Outside.{Stream}
use Rattle.rm_node.specs.declared.error.NodeError.{NodeError}
use Rattle.rm_serve.specs.Serves.{ServingAs}
use Rattle.rm_serve.specs.declared.serving.Served.{Served}
use Rattle.rm_base.specs.declared.message.Behaviour.{Behaviour}
use Rattle.rm_host.specs.Ends.{node_end}
use Rattle.rm_host.specs.Finding.{Found}
use Rattle.rm_host.specs.HostSteps.{Commands, IsShown, StandsAt, as_end, unfound}
use Rattle.rm_host.specs.ServeSteps.{Follows, Serves, ServesOne, StaysDeaf, Ticks, Turn, Turns, connected, counted}
use Rattle.rm_host.specs.ServeSteps.{deaf, ends_with, no_tally, over, serves, turns, unconnected, unheard, unmounted}
use Rattle.rm_host.specs.declared.end.End.{End}
use Rattle.rm_host.specs.declared.serve.Tally.{Tally}
use Rattle.rm_host.proofs.ClockLemmas.{shown-then, stands-alike}
use Rattle.rm_host.proofs.RecordLemmas.{CallsLeave, acted-so}
use Rattle.rm_host.proofs.RowLemmas.{no-step, then-all}

-- what was done up to now: what follows it makes all of it
abbrev pub Far : Media → Option ℕ → Bool → Place → Place → ℕ → ℕ → Tally → Net → Net → Type 0
Far media shown tells x z count left tally old now =
    (steps : List Step) × MakesAll tells x z steps
    × ((more : List Step) (new : Net) (result : Result Tally End) → Turns media shown left tally now new more result
    → Turns media shown count no_tally old new (steps ++ more) result)

pub far-first : (media : Media) (shown : Option ℕ) (tells : Bool) (x : Place) (count : ℕ) (net : Net)
    → Far media shown tells x x count count no_tally net net
far-first media shown tells x count net =
    ([], no-step tells x x (record { node = refl; told = λ t. refl }), λ more new result after. after)

less : (n : ℕ) → suc n - 1 ≡ n
less n = omega arith

-- one connection more
pub far-on : (media : Media) (shown : Option ℕ) (tells : Bool) (x y z : Place) (count left : ℕ) (tally : Tally)
    (old mid now : Net) (steps : List Step) (finish : ConnEnd)
    → 0 < left → Far media shown tells x y count left tally old mid → MakesAll tells y z steps
    → Turn media shown mid now steps (Ok finish)
    → Far media shown tells x z count (left - 1) (counted tally finish) old now
far-on media shown tells x y z count zero tally old mid now steps finish some far made turn =
    absurd (omega (arith, some))
far-on media shown tells x y z count (suc n) tally old mid now steps finish some far made turn = (
  far.0 ++ steps,
  then-all tells x y z far.0 steps far.1 made,
  λ more new result after.
      subst (λ (s : List Step). Turns media shown count no_tally old new s result) (sym (append_assoc far.0 steps more))
      (far.2 (steps ++ more) new result (turns n tally mid now new steps more finish result turn
      (subst (λ (k : ℕ). Turns media shown k (counted tally finish) now new more result) (less n) after))),
)

-- it ends with one
pub far-stop : (media : Media) (shown : Option ℕ) (tells : Bool) (x y z : Place) (count left : ℕ) (tally : Tally)
    (old mid new : Net) (steps : List Step) (e : End)
    → 0 < left → Far media shown tells x y count left tally old mid → MakesAll tells y z steps
    → Turn media shown mid new steps (Err e)
    → (all : List Step) × MakesAll tells x z all × Turns media shown count no_tally old new all (Err e)
far-stop media shown tells x y z count zero tally old mid new steps e some far made turn =
    absurd (omega (arith, some))
far-stop media shown tells x y z count (suc n) tally old mid new steps e some far made turn = (
  far.0 ++ steps,
  then-all tells x y z far.0 steps far.1 made,
  far.2 steps new (Err e) (ends_with n tally mid new steps e turn),
)

-- all were taken
pub far-over : (media : Media) (shown : Option ℕ) (tells : Bool) (x z : Place) (count : ℕ) (tally : Tally)
    (old now : Net) → Far media shown tells x z count 0 tally old now
    → (all : List Step) × MakesAll tells x z all × Turns media shown count no_tally old now all (Ok tally)
far-over media shown tells x z count tally old now far = (
  far.0,
  far.1,
  subst (λ (s : List Step). Turns media shown count no_tally old now s (Ok tally)) (append-nil far.0)
      (far.2 [] now (Ok tally) (over tally now)),
)

-- since a node was found and the port listened to
pub record Since (media : Media) (shown : Option ℕ) (tells : Bool) (first : Told) (granted : Behaviour) (z : Place)
    (port count left : ℕ) (tally : Tally) (old now : Net) : Type 0 where
  pub x : Place
  pub found : Found tells first granted x
  pub mid : Net
  pub listens : Listens old mid port false
  pub far : Far media shown tells x z count left tally mid now

-- no connection is taken
pub stays-deaf : CallsLeave → (media : Media) (shown : Option ℕ) (tells : Bool) (first now : Told) (old new : Net)
    (port count : ℕ) (granted : Behaviour) (e : End)
    → StaysDeaf tells first now old new port granted e
    → Commands tells first now old new granted (λ x z. Serves media shown port count old new) (Err e)
stays-deaf law media shown tells first now old new port count granted _ (unmounted e none same) = unfound e none same
stays-deaf law media shown tells first now old new port count granted _ (unheard x found told fails) =
    acted-so law x x [] (Err _) found told (no-step tells x x (record { node = refl; told = λ t. refl })) (deaf fails)

-- a connection that was not served for this reason
abbrev failed : End → Result Served End
failed e = Err e

-- the end of the part is that of the command
alike : (e : End) (why : NodeError) → failed e ≡ as_end (Err why) → e ≡ node_end why
alike e why same = cc (same)

-- the node's call failed while a connection was served
pub stops-serving : (media : Media) (shown : Option ℕ) (first last : Stream) (net : Net) (moment : ℕ)
    (steps : List Step) (came : Result Served NodeError) (e : End) → IsShown shown moment
    → ServingAs media moment first last steps came → Err e ≡ as_end came
    → ServesOne media shown first net net steps (Err e)
stops-serving media shown first last net moment steps (Ok served) e at serving same = absurd cc
stops-serving media shown first last net moment steps (Err why) e at serving same =
    subst (λ (s : List Step). ServesOne media shown first net net s (Err e)) (append-nil steps)
    (serves moment last steps [] (Err why) (Err e) at serving (refl, refl, ap Err (alike e why same)))

-- the moments of a connection that was served, and of the tick that follows it
pub record AtMoments (shown : Option ℕ) (moment later : ℕ) : Type 0 where
  pub first : IsShown shown moment
  pub then_ticked : IsShown shown later

-- a connection was served, and a tick follows
pub serves-on : (media : Media) (shown : Option ℕ) (first last : Stream) (old new : Net) (moment later : ℕ)
    (steps more : List Step) (came : Result Served NodeError) (served : Served) (result : Result ConnEnd End)
    → AtMoments shown moment later → ServingAs media moment first last steps came → Ok served ≡ as_end came
    → Ticks media later served old new more result
    → ServesOne media shown first old new (steps ++ more) result
serves-on media shown first last old new moment later steps more (Ok one) served result at serving same ticks =
    let is : served ≡ one = cc in
    serves moment last steps more (Ok one) result at.first serving
    (later, at.then_ticked, subst (λ (s : Served). Ticks media later s old new more result) is ticks)
serves-on media shown first last old new moment later steps more (Err why) served result at serving same ticks =
    absurd cc

-- the moments by a clock: it stands where it stood until the second one
pub at-moments : (shown mid then_ : Option ℕ) (moment later : ℕ) → IsShown shown moment → StandsAt shown mid
    → then_ ≡ mid → IsShown then_ later → AtMoments shown moment later
at-moments shown mid then_ moment later at stands same after = record {
  first = at;
  then_ticked = shown-then shown then_ later (stands-alike shown mid then_ stands same) after;
}

-- ---- by a clock that stands where it stood

follows-from : (media : Media) (shown now : Option ℕ) (old new : Net) (came : Result Served NodeError)
    (steps : List Step) (result : Result ConnEnd End) → StandsAt shown now
    → Follows media now old new came steps result → Follows media shown old new came steps result
follows-from media shown now old new (Ok served) steps result stands (moment, at, ticks) =
    (moment, shown-then shown now moment stands at, ticks)
follows-from media shown now old new (Err e) steps result stands did = did

serves-from : (media : Media) (shown now : Option ℕ) (first : Stream) (old new : Net) (steps : List Step)
    (result : Result ConnEnd End) → StandsAt shown now → ServesOne media now first old new steps result
    → ServesOne media shown first old new steps result
serves-from media shown now first old new _ _ stands (serves moment last steps more came result at serving after) =
    serves moment last steps more came result (shown-then shown now moment stands at) serving
    (follows-from media shown now old new came more result stands after)

pub turn-from : (media : Media) (shown now : Option ℕ) (old new : Net) (steps : List Step) (result : Result ConnEnd End)
    → StandsAt shown now → Turn media now old new steps result → Turn media shown old new steps result
turn-from media shown now old new _ _ stands (unconnected did) = unconnected did
turn-from media shown now old new _ _ stands (connected mid first steps result did one) =
    connected mid first steps result did (serves-from media shown now first mid new steps result stands one)
