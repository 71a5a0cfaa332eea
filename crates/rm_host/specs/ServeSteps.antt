-- What serve and serve11 do: connections of peers that speak one version of SOAP are taken, one after the other.
use Rattle.std.specs.Prelude.{◌≡◌, ℕ, suc, ◌+◌, ◌-◌, Bool, true, false, List, [], ◌∷◌, ◌++◌, Result, Ok, Err}
use Rattle.std.specs.Prelude.{None, Option, Some}
use Rattle.http_endpoint.specs.declared.media.Media.{Media}
use Rattle.node_store.specs.declared.error.MountError.{MountError}
use Rattle.rm_base.specs.Outside.{Stream}
use Rattle.rm_base.specs.declared.message.Behaviour.{Behaviour}
use Rattle.rm_disk.specs.Told.{Told}
use Rattle.http_endpoint.specs.Link.Lines.{Connects, Line, Listens, Net, line_of}
use Rattle.rm_node.specs.Asked.{Tick}
use Rattle.rm_node.specs.declared.error.NodeError.{NodeError}
use Rattle.rm_node.specs.declared.packets.Out.{Out}
use Rattle.rm_serve.specs.Serves.{ServingAs}
use Rattle.rm_serve.specs.Steps.{Place, Step}
use Rattle.rm_serve.specs.declared.posting.Posted.{Posted}
use Rattle.rm_serve.specs.declared.serving.ConnEnd.{ConnEnd}
use Rattle.rm_serve.specs.declared.serving.Served.{Served}
use Rattle.rm_host.specs.Ends.{is_of_call, mount_end, node_end}
use Rattle.rm_host.specs.Finding.{Found, NotFound}
use Rattle.rm_host.specs.HostSteps.{IsShown, IsTold, Posts, own_step}
use Rattle.rm_host.specs.Texts.{served_line, well_served}
use Rattle.rm_host.specs.declared.end.End.{End}
use Rattle.rm_host.specs.declared.end.End.TheVariants.{LinkFault, Memory}
use Rattle.rm_host.specs.declared.serve.Tally.{Tally}

-- after a connection was served: a tick, and the packets of both are posted in one row
pub data Ticks (media : Media) (moment : ℕ) (served : Served) (old new : Net)
    : List Step → Result ConnEnd End → Type 0 where
  tick_fails : (e : End) → is_of_call e ≡ true → new ≡ old
      → Ticks media moment served old new (own_step moment (Tick moment) (Err e) ∷ []) (Err e)
  row_wants : (due : List Out) → new ≡ old
      → Ticks media moment served old new (own_step moment (Tick moment) (Ok due) ∷ []) (Err Memory)
  row_fails : (due : List Out) (steps : List Step) (e : End)
      → Posts media moment (served.outs ++ due) old new steps (Err e)
      → Ticks media moment served old new (own_step moment (Tick moment) (Ok due) ∷ steps) (Err e)
  row_goes : (due : List Out) (steps : List Step) (posted : Posted)
      → Posts media moment (served.outs ++ due) old new steps (Ok posted)
      → Ticks media moment served old new (own_step moment (Tick moment) (Ok due) ∷ steps) (Ok served.finish)

-- what follows a connection that was served, at the moment that the clock shows; or a call of the node failed while it
-- was, and that is the end
abbrev pub Follows : Media → Option ℕ → Net → Net → Result Served NodeError → List Step → Result ConnEnd End → Type 0
Follows media shown old new (Ok served) steps result =
    (moment : ℕ) × IsShown shown moment × Ticks media moment served old new steps result
Follows media shown old new (Err e) steps result = (new ≡ old) × (steps ≡ []) × (result ≡ Err (node_end e))

-- the request on a connection is answered at the moment that the clock shows, and after it comes a tick
pub data ServesOne (media : Media) (shown : Option ℕ) (first : Stream) (old new : Net)
    : List Step → Result ConnEnd End → Type 0 where
  serves : (moment : ℕ) (last : Stream) (steps more : List Step) (came : Result Served NodeError)
      (result : Result ConnEnd End)
      → IsShown shown moment → ServingAs media moment first last steps came
      → Follows media shown old new came more result
      → ServesOne media shown first old new (steps ++ more) result

-- a connection that comes is taken, where one does: the link is asked for nothing else
pub record Accepts (old new : Net) (line : Option Line) : Type 0 where
  pub connects : Connects old new line
  pub past : new.past ≡ old.past

-- one connection is taken and served
pub data Turn (media : Media) (shown : Option ℕ) (old new : Net) : List Step → Result ConnEnd End → Type 0 where
  unconnected : Accepts old new None → Turn media shown old new [] (Err LinkFault)
  connected : (mid : Net) (first : Stream) (steps : List Step) (result : Result ConnEnd End)
      → Accepts old mid (Some (line_of first)) → ServesOne media shown first mid new steps result
      → Turn media shown old new steps result

-- no connection was served
abbrev pub no_tally : Tally
no_tally = record { done = 0; dropped = 0 }

-- one connection more was served well, or given up
abbrev pub counted : Tally → ConnEnd → Tally
counted tally finish =
    record { done = tally.done + well_served finish; dropped = tally.dropped + (1 - well_served finish) }

-- so many connections are taken, one after the other, after some that were; fewer only where it ends before
pub data Turns (media : Media) (shown : Option ℕ)
    : ℕ → Tally → Net → Net → List Step → Result Tally End → Type 0 where
  over : (tally : Tally) (net : Net) → Turns media shown 0 tally net net [] (Ok tally)
  ends_with : (n : ℕ) (tally : Tally) (old new : Net) (steps : List Step) (e : End)
      → Turn media shown old new steps (Err e) → Turns media shown (suc n) tally old new steps (Err e)
  turns : (n : ℕ) (tally : Tally) (old mid new : Net) (steps more : List Step) (finish : ConnEnd)
      (result : Result Tally End)
      → Turn media shown old mid steps (Ok finish) → Turns media shown n (counted tally finish) mid new more result
      → Turns media shown (suc n) tally old new (steps ++ more) result

-- what they do: the node listens, and takes so many connections, each at the moments that the clock shows
pub data Serves (media : Media) (shown : Option ℕ) (port count : ℕ) (old new : Net)
    : List Step → Result (List ℕ) End → Type 0 where
  deaf : Listens old new port true → Serves media shown port count old new [] (Err LinkFault)
  hears : (mid : Net) (steps : List Step) (tally : Result Tally End) (result : Result (List ℕ) End)
      → Listens old mid port false → Turns media shown count no_tally mid new steps tally
      → IsTold tally (λ (t : Tally). served_line t.done t.dropped) result
      → Serves media shown port count old new steps result

-- ---- inside

-- why no connection is taken: no node was found, or the port can't be listened to
pub data StaysDeaf (tells : Bool) (first now : Told) (old new : Net) (port : ℕ) (granted : Behaviour)
    : End → Type 0 where
  unmounted : (e : MountError) → NotFound tells first now e → new ≡ old
      → StaysDeaf tells first now old new port granted (mount_end e)
  unheard : (x : Place) → Found tells first granted x → x.told ≡ now → Listens old new port true
      → StaysDeaf tells first now old new port granted LinkFault
