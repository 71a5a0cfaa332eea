-- What send does: it reaches a sequence, and sends a payload on it.
use Rattle.std.specs.Prelude.{◌≡◌, ◌⊎◌, ℕ, suc, ◌+◌, Bool, true, false, List, [], ◌++◌, length, None, Some}
use Rattle.std.specs.Prelude.{Option, Result, Ok, Err, IfOk, IfSome, MatchBool}
use Rattle.node_tables.specs.Reads.{outgoing_in}
use Rattle.record_batch.specs.Fact.{Fact}
use Rattle.rm_base.specs.declared.message.Behaviour.TheVariants.{FollowingFirstGap}
use Rattle.rm_disk.specs.Told.{Told}
use Rattle.http_endpoint.specs.Link.Lines.{Net}
use Rattle.rm_node.specs.Asked.{Asked, Create, Send, Tick}
use Rattle.rm_node.specs.declared.packets.Out.{Out}
use Rattle.record_batch.specs.Sequences.Makers.{makers}
use Rattle.record_batch.specs.Sequences.Sources.{accepted_count}
use Rattle.rm_serve.specs.Steps.{MakesAll, Place, Step}
use Rattle.rm_serve.specs.declared.posting.Posted.{Posted}
use Rattle.rm_host.specs.HostSteps.{CallsNode, CallsOnce, Commands, IsShown, IsTold, all_dialled, back_wish, outs_in}
use Rattle.rm_host.specs.HostSteps.{own_step}
use Rattle.rm_host.specs.Sequences.{IsFirstTo, is_acked, is_open}
use Rattle.rm_host.specs.Texts.{sent_line}
use Rattle.rm_host.specs.declared.end.End.{End}
use Rattle.rm_host.specs.declared.end.End.TheVariants.{LinkFault, Memory, ReadFault, TooLong}

-- the sequence on which messages to an address go, and the call by which it is reached: a tick where the node has one
-- that is open or asked for, at the moment that the clock shows, or else the request for a new one
pub data Reaches (r : List Fact) (to : List ℕ) (shown : Option ℕ) (moment : ℕ) : ℕ → Asked → Type 0 where
  reuses : (seq : ℕ) → IsFirstTo r to (Some seq) → IsShown shown moment → Reaches r to shown moment seq (Tick moment)
  begins : IsFirstTo r to None → Reaches r to shown moment (length (makers r) + 1) (Create (back_wish to))

-- the sequence, and how many of the first packets found no connection
abbrev pub reached_by : ℕ → Result Posted End → Result (ℕ × ℕ) End
reached_by seq (Ok posted) = Ok (seq, posted.undialled)
reached_by seq (Err e) = Err e

-- the sequence is reached, and what that gives is posted at the moment that the clock shows
pub record Reached (r : List Fact) (to : List ℕ) (shown : Option ℕ) (old new : Net) (steps : List Step)
    (result : Result (ℕ × ℕ) End) : Type 0 where
  pub moment : ℕ
  pub later : ℕ
  pub clock : IsShown shown later
  pub seq : ℕ
  pub asked : Asked
  pub reaches : Reaches r to shown moment seq asked
  pub posted : Result Posted End
  pub calls : CallsOnce moment later asked old new steps posted
  pub is : result ≡ reached_by seq posted

-- the number that the next payload of a sequence gets
abbrev pub next_number : Place → ℕ → ℕ
next_number x seq = accepted_count x.node.stored.records seq + 1

-- what is told of a payload that was accepted at a place: its number, and whether it is acknowledged in the end
abbrev pub line_at : Place → Place → ℕ → Posted → List ℕ
line_at x z seq posted =
    sent_line seq (next_number x seq) (is_acked (outgoing_in z.node.stored.records seq) (next_number x seq))

-- the payload is accepted, and posted at the moment that the clock shows
pub record SendsOn (x z : Place) (seq : ℕ) (payload : List ℕ) (shown : Option ℕ) (old new : Net) (steps : List Step)
    (result : Result (List ℕ) End) : Type 0 where
  pub later : ℕ
  pub clock : IsShown shown later
  pub posted : Result Posted End
  pub calls : CallsOnce 0 later (Send seq payload) old new steps posted
  pub told : IsTold (all_dialled posted) (line_at x z seq) result

-- the end where a packet before found no connection
abbrev pub late_end : Result (List ℕ) End → Result (List ℕ) End
late_end (Ok text) = Err LinkFault
late_end (Err e) = Err e

-- what is done after the first posts: the payload is sent where each of them found a connection, or where the sequence
-- is open; where one found none, that is the end
pub data SendsAfter (x z : Place) (seq : ℕ) (payload : List ℕ) (shown : Option ℕ) (old new : Net) :
    (undialled : ℕ) → List Step → Result (List ℕ) End → Type 0 where
  at_once : (steps : List Step) (result : Result (List ℕ) End) → SendsOn x z seq payload shown old new steps result
      → SendsAfter x z seq payload shown old new 0 steps result
  lost : (n : ℕ) → is_open (outgoing_in x.node.stored.records seq) ≡ false → new ≡ old
      → SendsAfter x z seq payload shown old new (suc n) [] (Err LinkFault)
  late : (n : ℕ) (steps : List Step) (result : Result (List ℕ) End)
      → is_open (outgoing_in x.node.stored.records seq) ≡ true → SendsOn x z seq payload shown old new steps result
      → SendsAfter x z seq payload shown old new (suc n) steps (late_end result)

-- what send does: it reaches the sequence, posts what that gives, and sends the payload
pub data SendsTo (tells : Bool) (x z : Place) (to payload : List ℕ) (shown : Option ℕ) (old new : Net) :
    List Step → Result (List ℕ) End → Type 0 where
  sends_not : (steps : List Step) (e : End) → Reached x.node.stored.records to shown old new steps (Err e)
      → SendsTo tells x z to payload shown old new steps (Err e)
  sends : (y : Place) (mid : Net) (seq undialled : ℕ) (steps more : List Step) (result : Result (List ℕ) End)
      → MakesAll tells x y steps → Reached x.node.stored.records to shown old mid steps (Ok (seq, undialled))
      → SendsAfter y z seq payload shown mid new undialled more result
      → SendsTo tells x z to payload shown old new (steps ++ more) result

-- why no payload was read
abbrev pub IsUnread : End → Type 0
IsUnread e = (e ≡ ReadFault) ⊎ (e ≡ TooLong) ⊎ (e ≡ Memory)

-- What send does with the bytes that the input has left, where it tells them: they are the payload. Where none was read
-- nothing else is done.
pub data SendsRead (tells : Bool) (first now : Told) (old new : Net) (to : List ℕ) (shown : Option ℕ)
    (left : Option (List ℕ)) : Result (List ℕ) End → Type 0 where
  unread : (e : End) → IsUnread e → now ≡ first → new ≡ old → SendsRead tells first now old new to shown left (Err e)
  read : (payload : List ℕ) (result : Result (List ℕ) End) → IfSome left (λ (all : List ℕ). payload ≡ all)
      → Commands tells first now old new FollowingFirstGap (λ x z. SendsTo tells x z to payload shown old new) result
      → SendsRead tells first now old new to shown left result

-- ---- inside

-- the call by which a sequence is reached was made: which it is, and what is handed out
pub record Begins (tells : Bool) (x z : Place) (to : List ℕ) (shown : Option ℕ) (old new : Net)
    (result : Result (ℕ × List Out) End) : Type 0 where
  pub moment : ℕ
  pub seq : ℕ
  pub asked : Asked
  pub reaches : Reaches x.node.stored.records to shown moment seq asked
  pub calls : CallsNode tells x z old new (own_step moment asked (outs_in (λ (r : ℕ × List Out). r.1) result))
  pub is : IfOk result (λ (r : ℕ × List Out). r.0 ≡ seq)

-- a text that isn't printed
abbrev pub no_text : Result (List ℕ) End → Result (Unit {0}) End
no_text (Ok text) = Ok tt
no_text (Err e) = Err e

-- where the sequence is open the payload is sent, and else nothing happens
abbrev pub SendsIfOpen : Place → Place → ℕ → List ℕ → Option ℕ → Net → Net → List Step → Result (Unit {0}) End → Type 0
SendsIfOpen x z seq payload shown old new steps result =
    MatchBool (is_open (outgoing_in x.node.stored.records seq))
    ((text : Result (List ℕ) End) × SendsOn x z seq payload shown old new steps text × (result ≡ no_text text))
    ((new ≡ old) × (steps ≡ []) × (result ≡ Ok tt))
