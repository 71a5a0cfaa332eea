-- Packets are posted, and what comes back is taken.
use Rattle.std.specs.Prelude.{◌≡◌, ℕ, suc, ◌+◌, ◌⊎◌, List, [], ◌∷◌, ◌++◌, Option, Some, None}
use Rattle.std.specs.Prelude.{Result, Ok, Err}
use Rattle.http_endpoint.specs.Targets.{target_of}
use Rattle.http_endpoint.specs.declared.media.Media.{Media}
use Rattle.http_endpoint.specs.declared.media.Media.TheVariants.{Soap12, Soap11}
use Rattle.http_endpoint.specs.declared.target.Target.{Target}
use Rattle.http_endpoint.specs.Link.Lines.{Net}
use Rattle.http_endpoint.specs.Link.Posts.{IsBegunAs, IsPostAs}
use Rattle.http_endpoint.specs.declared.link.packet.Fate.{Fate}
use Rattle.http_endpoint.specs.declared.link.packet.Fate.TheVariants.{Answered, Missed, Undialled}
use Rattle.rm_message.specs.declared.message.Message.{Message}
use Rattle.rm_message.specs.declared.refusal.FaultKind.{FaultKind}
use Rattle.rm_message.specs.declared.refusal.Refusal.{Refusal}
use Rattle.rm_node.specs.Came.{IsReadAs}
use Rattle.rm_node.specs.declared.error.NodeError.{NodeError}
use Rattle.rm_node.specs.declared.error.NodeError.TheVariants as error
use Rattle.rm_node.specs.declared.packets.Out.{Out}
use Rattle.rm_serve.specs.Reacts.{broke, took}
use Rattle.rm_serve.specs.Steps.{Step}
use Rattle.rm_serve.specs.Versions.{IsGiven, IsKeptOut, IsTold}
use Rattle.rm_serve.specs.declared.posting.Posted.{Posted}

-- nothing was posted yet
abbrev pub none_posted : Posted
none_posted = record { sent = 0; missed = 0; undialled = 0 }

-- a packet more
abbrev pub with_post : Fate → Posted → Posted
with_post (Answered body) posted =
    record { sent = posted.sent + 1; missed = posted.missed; undialled = posted.undialled }
with_post Missed posted = record { sent = posted.sent; missed = posted.missed + 1; undialled = posted.undialled }
with_post Undialled posted =
    record { sent = posted.sent; missed = posted.missed + 1; undialled = posted.undialled + 1 }

-- what the node takes of it: the body of a response, unless it is empty
abbrev pub heard_of : Fate → Option (List ℕ)
heard_of (Answered []) = None
heard_of (Answered (byte ∷ bytes)) = Some (byte ∷ bytes)
heard_of _ = None

-- the first packet of a queue leaves it, where there is one
abbrev pub IsNext : List Out → List Out → Option Out → Type 0
IsNext old new None = old ≡ []
IsNext old new (Some out) = old ≡ out ∷ new

-- what the peer is told of a packet is posted to the target of its address; where it is told nothing it is missed, and
-- nothing is dialled
abbrev pub IsPostOf : Media → Net → Net → Option Target → Option (List ℕ) → Fate → Type 0
IsPostOf media old new target None fate = (fate ≡ Missed) × (new ≡ old)
IsPostOf media old new target (Some text) fate = IsPostAs media old new target text fate

-- a packet was posted, and this became of it
pub record Sends (media : Media) (old new : Net) (out : Out) (fate : Fate) : Type 0 where
  pub told : Option (List ℕ)
  pub is_told : IsTold media out.bytes told
  pub posted : IsPostOf media old new (target_of out.address) told fate

-- memory was wanting for a packet: nothing was done, or it was begun to be posted
abbrev pub Begins : Media → Net → Net → Out → Type 0
Begins media old new out = (new ≡ old)
    ⊎ ((text : List ℕ) × IsTold media out.bytes (Some text) × IsBegunAs media old new (target_of out.address) text)

-- what the node is given of a body that came back, where there is one that isn't kept out
abbrev pub IsHeardOf : Media → Option (List ℕ) → Option (List ℕ) → Type 0
IsHeardOf media None heard = heard ≡ None
IsHeardOf media (Some body) None = (refusal : Refusal) × IsKeptOut media body refusal
IsHeardOf media (Some body) (Some bytes) = IsGiven media body bytes

-- what the node is given of what became of a packet
abbrev pub IsHeard : Media → Fate → Option (List ℕ) → Type 0
IsHeard media fate heard = IsHeardOf media (heard_of fate) heard

-- Packets are posted, one after the other, so many at most, after others that came to these numbers: what is told of
-- each, to the target of its address. Of each response that isn't empty the node takes what it is given, and what it
-- hands out then goes to the end. It stops when there is none left, or with a call of the node that failed, or where
-- memory was wanting: for the queue, for a packet, or for its response.
pub data PostingAs (media : Media) (moment : ℕ) :
    ℕ → List Out → Posted → Net → Net → List Step → Result Posted NodeError → Type 0 where
  over : (queue : List Out) (posted : Posted) (net : Net) → PostingAs media moment 0 queue posted net net [] (Ok posted)
  empty : (n : ℕ) (posted : Posted) (net : Net) → PostingAs media moment n [] posted net net [] (Ok posted)
  wanting : (n : ℕ) (queue : List Out) (posted : Posted) (net : Net)
      → PostingAs media moment n queue posted net net [] (Err error.Memory)
  begun : (n : ℕ) (out : Out) (queue : List Out) (posted : Posted) (old new : Net)
      → Begins media old new out
      → PostingAs media moment (suc n) (out ∷ queue) posted old new [] (Err error.Memory)
  quiet : (n : ℕ) (out : Out) (queue : List Out) (posted : Posted) (old mid new : Net) (fate : Fate) (steps : List Step)
      (result : Result Posted NodeError)
      → Sends media old mid out fate → IsHeard media fate None
      → PostingAs media moment n queue (with_post fate posted) mid new steps result
      → PostingAs media moment (suc n) (out ∷ queue) posted old new steps result
  taken : (n : ℕ) (out : Out) (queue : List Out) (posted : Posted) (old mid new : Net) (fate : Fate) (body : List ℕ)
      (steps : List Step) (result : Result Posted NodeError)
      (content : Result Message Refusal) (verdict : Option FaultKind) (reply : Option (List ℕ)) (outs : List Out)
      → Sends media old mid out fate → IsHeard media fate (Some body) → IsReadAs body content
      → PostingAs media moment n (queue ++ outs) (with_post fate posted) mid new steps result
      → PostingAs media moment (suc n) (out ∷ queue) posted old new
      (took moment content verdict reply outs ∷ steps) result
  broken : (n : ℕ) (out : Out) (queue : List Out) (posted : Posted) (old new : Net) (fate : Fate) (body : List ℕ)
      (content : Result Message Refusal)
      → Sends media old new out fate → IsHeard media fate (Some body) → IsReadAs body content
      → PostingAs media moment (suc n) (out ∷ queue) posted old new (broke moment content ∷ []) (Err error.Disk)
  unheard : (n : ℕ) (out : Out) (queue : List Out) (posted : Posted) (old new : Net) (fate : Fate) (body : List ℕ)
      → Sends media old new out fate → heard_of fate ≡ Some body
      → PostingAs media moment (suc n) (out ∷ queue) posted old new [] (Err error.Memory)
  down : (n : ℕ) (out : Out) (queue : List Out) (posted : Posted) (old new : Net) (fate : Fate) (body : List ℕ)
      → Sends media old new out fate → IsHeard media fate (Some body)
      → PostingAs media moment (suc n) (out ∷ queue) posted old new [] (Err error.Down)

-- where peers speak SOAP 1.2
abbrev pub Posting : ℕ → ℕ → List Out → Posted → Net → Net → List Step → Result Posted NodeError → Type 0
Posting moment n queue posted old new steps result = PostingAs Soap12 moment n queue posted old new steps result

-- where peers speak SOAP 1.1
abbrev pub Posting11 : ℕ → ℕ → List Out → Posted → Net → Net → List Step → Result Posted NodeError → Type 0
Posting11 moment n queue posted old new steps result = PostingAs Soap11 moment n queue posted old new steps result

-- a body is given to the node, and what it hands out put behind a queue
pub data Takes (moment : ℕ) (body : List ℕ) (queue more : List Out) : List Step → Result (Unit {0}) NodeError → Type 0
  where
    all : (content : Result Message Refusal) (verdict : Option FaultKind) (reply : Option (List ℕ)) (outs : List Out)
        → IsReadAs body content → more ≡ queue ++ outs
        → Takes moment body queue more (took moment content verdict reply outs ∷ []) (Ok tt)
    lost : (content : Result Message Refusal) (verdict : Option FaultKind) (reply : Option (List ℕ)) (outs : List Out)
        → IsReadAs body content
        → Takes moment body queue more (took moment content verdict reply outs ∷ []) (Err error.Memory)
    starved : Takes moment body queue more [] (Err error.Memory)
    failed : (content : Result Message Refusal) → IsReadAs body content
        → Takes moment body queue more (broke moment content ∷ []) (Err error.Disk)
    asleep : Takes moment body queue more [] (Err error.Down)

-- a body that came back is let in to the node, or kept out; or memory was wanting to read it
pub data Admits (media : Media) (moment : ℕ) (body : List ℕ) (queue more : List Out) :
    List Step → Result (Unit {0}) NodeError → Type 0 where
  given : (bytes : List ℕ) (steps : List Step) (result : Result (Unit {0}) NodeError)
      → IsGiven media body bytes → Takes moment bytes queue more steps result
      → Admits media moment body queue more steps result
  kept_out : (refusal : Refusal) → IsKeptOut media body refusal → more ≡ queue
      → Admits media moment body queue more [] (Ok tt)
  unread : more ≡ queue → Admits media moment body queue more [] (Err error.Memory)

-- so it is where there is a body, and else nothing happens
abbrev pub HearsBy : Media → ℕ → Option (List ℕ) → List Out → List Out → List Step → Result (Unit {0}) NodeError
    → Type 0
HearsBy media moment None queue more steps result = (more ≡ queue) × (steps ≡ []) × (result ≡ Ok tt)
HearsBy media moment (Some body) queue more steps result = Admits media moment body queue more steps result

-- what became of a posted packet is heard: the body of its response, where there is one
abbrev pub Hears : Media → ℕ → Fate → List Out → List Out → List Step → Result (Unit {0}) NodeError → Type 0
Hears media moment fate queue more steps result = HearsBy media moment (heard_of fate) queue more steps result

-- One packet is posted: what is posted after it goes on from there; or it stops.
abbrev pub Goes : Media → ℕ → Out → List Out → List Out → Posted → Net → Net → List Step → Result Posted NodeError
    → Type 0
Goes media moment out queue more posted old mid first (Ok next) =
    (n : ℕ) (new : Net) (steps : List Step) (result : Result Posted NodeError)
    → PostingAs media moment n more next mid new steps result
    → PostingAs media moment (suc n) (out ∷ queue) posted old new (first ++ steps) result
Goes media moment out queue more posted old mid first (Err e) =
    (n : ℕ) → PostingAs media moment (suc n) (out ∷ queue) posted old mid first (Err e)
