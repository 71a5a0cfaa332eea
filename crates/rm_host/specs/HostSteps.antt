-- What commands do: the calls of the node that each makes, in order, over the connections that its link brings.
use Rattle.std.specs.Prelude.{◌≡◌, ◌⊎◌, ℕ, ◌==◌, if◌then◌else◌, Bool, true, List, [], ◌∷◌, Option, None, Some, Result}
use Rattle.std.specs.Prelude.{Ok, Err, IfSome}
use Rattle.http_endpoint.specs.declared.media.Media.{Media}
use Rattle.http_endpoint.specs.declared.media.Media.TheVariants.{Soap12}
use Rattle.node_store.specs.declared.error.MountError.{MountError}
use Rattle.record_batch.specs.declared.record.Via.TheVariants.{Back}
use Rattle.rm_base.specs.declared.message.Behaviour.{Behaviour}
use Rattle.rm_disk.specs.Told.{Told}
use Rattle.http_endpoint.specs.Link.Lines.{Net}
use Rattle.rm_node.specs.Asked.{Asked, Close, Tick}
use Rattle.rm_node.specs.Ends.{Ended, Handed}
use Rattle.rm_node.specs.declared.error.NodeError.{NodeError}
use Rattle.rm_node.specs.declared.packets.Out.{Out}
use Rattle.rm_protocol.specs.Calls.{Done, Wish}
use Rattle.rm_serve.specs.Limits.{most_posts}
use Rattle.rm_serve.specs.Posts.{PostingAs, none_posted}
use Rattle.rm_serve.specs.Steps.{MakesAll, Place, Step}
use Rattle.rm_serve.specs.declared.posting.Posted.{Posted}
use Rattle.rm_host.specs.Compaction.{failed_end}
use Rattle.rm_host.specs.Ends.{is_of_call, mount_end, node_end}
use Rattle.rm_host.specs.Finding.{Found, NotFound}
use Rattle.rm_host.specs.Records.{LeavesAll}
use Rattle.rm_host.specs.Texts.{posted_line}
use Rattle.rm_host.specs.declared.end.End.{End}
use Rattle.rm_host.specs.declared.end.End.TheVariants.{LinkFault, Memory}

-- ---- the parts of commands

-- how a part of a command comes out, where calls of the node came out so
abbrev pub as_end : {T : Type 0} → Result T NodeError → Result T End
as_end (Ok value) = Ok value
as_end (Err e) = Err (node_end e)

-- how a call of the node ended, by what came of it: the packets that it hands out, or the end of the command
abbrev pub ended_by : Result (List Out) End → Ended
ended_by (Ok outs) = Handed Done None outs
ended_by (Err e) = failed_end e

-- the moment of a call, where it looks at one
abbrev pub moment_of : ℕ → Asked → ℕ
moment_of moment (Tick now) = now
moment_of moment (Close seq) = moment
moment_of moment _ = 0

-- a call that no packet asked for
abbrev pub own_step : ℕ → Asked → Result (List Out) End → Step
own_step moment asked result = record { moment = moment_of moment asked; asked = asked; ended = ended_by result }

-- the packets of what a call gave
abbrev pub outs_in : {T : Type 0} → (T → List Out) → Result T End → Result (List Out) End
outs_in outs (Ok value) = Ok (outs value)
outs_in outs (Err e) = Err e

-- a call that no packet asked for was made, and nothing else happened
pub record CallsNode (tells : Bool) (x z : Place) (old new : Net) (step : Step) : Type 0 where
  pub steps : MakesAll tells x z (step ∷ [])
  pub link : new ≡ old

-- what is asked for where a sequence is wanted: one that never ends, whose answers come back on the connection
abbrev pub back_wish : List ℕ → Wish
back_wish to = record { to = to; via = Back; expires = record { months = 0; ms = 0 }; offer = None }

-- packets are posted in one row, to peers that speak this version of SOAP
abbrev pub Posts : Media → ℕ → List Out → Net → Net → List Step → Result Posted End → Type 0
Posts media moment outs old new steps result =
    (posted : Result Posted NodeError) × PostingAs media moment most_posts outs none_posted old new steps posted
    × (result ≡ as_end posted)

-- what is printed of what a command came to: a line of it, or why it ended; or memory was wanting for the line
abbrev pub IsTold : {T : Type 0} → Result T End → (T → List ℕ) → Result (List ℕ) End → Type 0
IsTold (Ok value) line result = (result ≡ Ok (line value)) ⊎ (result ≡ Err Memory)
IsTold (Err e) line result = result ≡ Err e

-- where a packet found no connection, that is the end
abbrev pub all_dialled : Result Posted End → Result Posted End
all_dialled (Ok posted) = if posted.undialled == 0 then Ok posted else Err LinkFault
all_dialled (Err e) = Err e

-- the moment is the one that a clock shows, where it tells that
abbrev pub IsShown : Option ℕ → ℕ → Type 0
IsShown shown moment = IfSome shown (λ (m : ℕ). moment ≡ m)

-- a clock shows what it showed, where it told that
abbrev pub StandsAt : Option ℕ → Option ℕ → Type 0
StandsAt shown now = IfSome shown (λ (m : ℕ). now ≡ Some m)

-- ---- push, close and end

-- The node is called at a moment, and what it hands out is posted in one row at another, to peers that speak SOAP 1.2.
pub data CallsOnce (moment later : ℕ) (asked : Asked) (old new : Net) : List Step → Result Posted End → Type 0
  where
    fails : (e : End) → is_of_call e ≡ true → new ≡ old
        → CallsOnce moment later asked old new (own_step moment asked (Err e) ∷ []) (Err e)
    posts : (outs : List Out) (steps : List Step) (result : Result Posted End)
        → Posts Soap12 later outs old new steps result
        → CallsOnce moment later asked old new (own_step moment asked (Ok outs) ∷ steps) result

-- what push, close and end do, each at the moment that the clock shows: one call, and each packet that it hands out is
-- to find a connection. What is printed adds up the packets
pub record Pushes (shown : Option ℕ) (asked : ℕ → Asked) (old new : Net) (steps : List Step)
    (result : Result (List ℕ) End) : Type 0 where
  pub moment : ℕ
  pub clock : IsShown shown moment
  pub posted : Result Posted End
  pub calls : CallsOnce moment moment (asked moment) old new steps posted
  pub told : IsTold (all_dialled posted) posted_line result

-- ---- a command with the node that it finds

-- What a command did: no node was found, or its calls were made, one after the other, from the node that was found to
-- the end, and the disk tells what it tells after them. What they leave there is what was found, with their records.
pub data Commands (tells : Bool) (first now : Told) (old new : Net) (granted : Behaviour)
    (Acts : Place → Place → List Step → Result (List ℕ) End → Type 0) : Result (List ℕ) End → Type 0 where
  unfound : (e : MountError) → NotFound tells first now e → new ≡ old
      → Commands tells first now old new granted Acts (Err (mount_end e))
  acted : (x z : Place) (steps : List Step) (result : Result (List ℕ) End)
      → Found tells first granted x → z.told ≡ now → MakesAll tells x z steps → LeavesAll tells first x z steps
      → Acts x z steps result
      → Commands tells first now old new granted Acts result
