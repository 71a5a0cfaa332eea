-- What holds in every world that a relay can reach.
use Rattle.std.proofs.Common.{◌≡◌, ℕ, zero, suc, ◌+◌, ◌-◌, ◌==◌, Bool, true, false, cond, List, [], ◌∷◌, ◌++◌}
use Rattle.std.proofs.Common.{length, refl, sym, ap, ◌∙◌, subst, append_assoc}
use Rattle.std.specs.Prelude.{Option, Some, None, slice_get}
use Rattle.std.specs.List.{AllByRecursion, flat_map}
use Rattle.rm_message.specs.declared.elements.lifecycle.Lifecycle.TheVariants as life
use Rattle.rm_message.specs.declared.message.Body.{Body}
use Rattle.rm_message.specs.declared.message.Body.TheVariants as body
use Rattle.rm_message.specs.declared.message.Message.{Message}
use Rattle.record_batch.specs.Fact.{Fact}
use Rattle.record_batch.specs.Sequences.Words.{Text}
use Rattle.record_batch.specs.Sequences.Idents.{polled_prefix}
use Rattle.rm_protocol.specs.Addresses.{Out, anonymous, no_address, place_of}
use Rattle.rm_protocol.specs.Node.{Node}
use Rattle.rm_protocol.specs.Pair.{Acted, IsAmong, IsParked, left}
use Rattle.rm_protocol.specs.Polls.{waits_there}
use Rattle.rm_protocol.specs.Sound.{IsAskedAt, Says, SaysPlace}
use Rattle.rm_protocol.specs.Terms.{Terms}
use Rattle.rm_relay.specs.Word.FirstLemmas.{numbered-at}
use Rattle.rm_relay.specs.Word.Roles.{HasRole}
use Rattle.rm_relay.specs.Word.World.{Packet, address_of, goes_to, messages_in, packet_to, packets_of, puts}
use Rattle.rm_relay.specs.Word.World.{station_at}
use Rattle.rm_relay.specs.declared.word.station.Station.{Station}
use Rattle.rm_relay.specs.declared.word.station.Station.TheVariants.{One, Two, Three}
use Rattle.rm_relay.proofs.WordLemmas.RoleLemmas.{IsBehind, IsRouted, all-append, all-behind, all-weaker}
use Rattle.rm_relay.proofs.WordLemmas.StrangeLemmas.{role-of}

-- ---- members of lists

at-front : {A : Type 0} (xs ys : List A) (y : A) → slice_get (xs ++ y ∷ ys) (length xs) ≡ Some y
at-front [] ys y = refl
at-front (x ∷ xs) ys y = at-front xs ys y

pub among-from : (before ms : List Message) → AllByRecursion (IsAmong (before ++ ms)) ms
among-from before [] = tt
among-from before (m ∷ ms) = (
  (length before + 1, numbered-at (before ++ m ∷ ms) (length before) ∙ at-front before ms m),
  subst (λ l. AllByRecursion (IsAmong l) ms) (append_assoc before (m ∷ []) ms) (among-from (before ++ m ∷ []) ms),
)

get-append : {A : Type 0} (xs ys : List A) (k : ℕ) (x : A) → slice_get xs k ≡ Some x → slice_get (xs ++ ys) k ≡ Some x
get-append [] ys k x e = absurd (cc)
get-append (z ∷ xs) ys zero x e = e
get-append (z ∷ xs) ys (suc k) x e = get-append xs ys k x e

pub among-grows : (xs ys : List Message) (m : Message) → IsAmong xs m → IsAmong (xs ++ ys) m
among-grows xs ys m h = (h.0, by_number (h.0 == 0) h.1)
  where
    by_number : (b : Bool) → cond b None (slice_get xs (h.0 - 1)) ≡ Some m
        → cond b None (slice_get (xs ++ ys) (h.0 - 1)) ≡ Some m
    by_number true e = absurd (cc)
    by_number false e = get-append xs ys (h.0 - 1) m e

all-mapped : {A B : Type 0} (P : A → Type 0) (Q : B → Type 0) (f : A → List B)
    → ((x : A) → P x → AllByRecursion Q (f x)) → (xs : List A) → AllByRecursion P xs
    → AllByRecursion Q (flat_map f xs)
all-mapped P Q f g [] h = tt
all-mapped P Q f g (x ∷ xs) h =
    all-append Q (f x) (flat_map f xs) (g x h.0) (all-mapped P Q f g xs h.1)

all-joined : {A : Type 0} (P Q R : A → Type 0) → ((x : A) → P x → Q x → R x) → (xs : List A) → AllByRecursion P xs
    → AllByRecursion Q xs → AllByRecursion R xs
all-joined P Q R f [] h k = tt
all-joined P Q R f (x ∷ xs) h k = (f x h.0 k.0, all-joined P Q R f xs h.1 k.1)

all-front : {A : Type 0} (P : A → Type 0) (xs ys : List A) → AllByRecursion P (xs ++ ys) → AllByRecursion P xs
all-front P [] ys h = tt
all-front P (x ∷ xs) ys h = (h.0, all-front P xs ys h.1)

pub all-puts : (terms : Terms) (P : Packet → Type 0) (xs ys : List Packet) → AllByRecursion P xs → AllByRecursion P ys
    → AllByRecursion P (puts terms xs ys)
all-puts terms P xs [] h k = h
all-puts terms P xs (y ∷ ys) h k =
    all-puts terms P (cond (terms.takes (messages_in xs) y.message) (xs ++ y ∷ []) xs) ys
    (elim (terms.takes (messages_in xs) y.message) as (λ b. AllByRecursion P (cond b (xs ++ y ∷ []) xs)) [
      | true ↦ all-append P xs (y ∷ []) h (k.0, tt)
      | false ↦ h
    ]) k.1

-- ---- where a CreateSequence goes

-- an address of a node is one that can be reached
out-of : (at : Station) → place_of (address_of at) ≡ Out
unfolding anonymous no_address polled_prefix
out-of One = refl
out-of Two = refl
out-of Three = refl

at-own : (at : Station) → station_at (address_of at) ≡ Some at
at-own One = refl
at-own Two = refl
at-own Three = refl

-- what a node asks for is asked of the node behind it
asked-behind : (at : Station) (r : List Fact) (to : Text) → HasRole at r → IsAskedAt r to → IsBehind at to
asked-behind at r to h k =
    let role = role-of at r k.seq _ h k.there in record { next = role.0; follows = role.1; to_ = role.2 }

routed-out : (at : Station) (r : List Fact) (back : Option Station) (m : Message) (content : Body) (to : Station)
    → HasRole at r → SaysPlace r m.addressing.to content
    → goes_to back m.addressing.to (place_of m.addressing.to) ≡ Some to → IsRouted at to content
routed-out at r back m (body.Lifecycle (life.Create c)) to h s e =
    let next = asked-behind at r m.addressing.to h s in
    let place : place_of m.addressing.to ≡ Out = ap place_of next.to_ ∙ out-of next.next in
    let found : goes_to back m.addressing.to (place_of m.addressing.to) ≡ Some next.next =
    ap (λ p. goes_to back m.addressing.to p) place ∙ ap station_at next.to_ ∙ at-own next.next in
    let same : next.next ≡ to = cc in
    next.follows ∙ ap Some same
routed-out at r back m (body.Lifecycle (life.CreateResponse c)) to h s e = tt
routed-out at r back m (body.Lifecycle (life.Close c)) to h s e = tt
routed-out at r back m (body.Lifecycle (life.CloseResponse c)) to h s e = tt
routed-out at r back m (body.Lifecycle (life.Terminate c)) to h s e = tt
routed-out at r back m (body.Lifecycle (life.TerminateResponse c)) to h s e = tt
routed-out at r back m (body.Lifecycle (life.Make c)) to h s e = tt
routed-out at r back m (body.Payload c) to h s e = tt
routed-out at r back m (body.Fault c) to h s e = tt
routed-out at r back m body.Empty to h s e = tt

-- what had waited is no CreateSequence
routed-back : (at : Station) (r : List Fact) (m : Message) (content : Body) (to : Station) → HasRole at r
    → SaysPlace r m.addressing.to content → IsParked m → IsRouted at to content
routed-back at r m (body.Lifecycle (life.Create c)) to h s p =
    let next = asked-behind at r m.addressing.to h s in
    let place : place_of m.addressing.to ≡ Out = ap place_of next.to_ ∙ out-of next.next in
    let never : waits_there Out ≡ true = ap waits_there (sym place) ∙ p in
    absurd (cc)
routed-back at r m (body.Lifecycle (life.CreateResponse c)) to h s p = tt
routed-back at r m (body.Lifecycle (life.Close c)) to h s p = tt
routed-back at r m (body.Lifecycle (life.CloseResponse c)) to h s p = tt
routed-back at r m (body.Lifecycle (life.Terminate c)) to h s p = tt
routed-back at r m (body.Lifecycle (life.TerminateResponse c)) to h s p = tt
routed-back at r m (body.Lifecycle (life.Make c)) to h s p = tt
routed-back at r m (body.Payload c) to h s p = tt
routed-back at r m (body.Fault c) to h s p = tt
routed-back at r m body.Empty to h s p = tt

-- ---- packets

-- the messages that each node said
pub record Saids : Type 0 where
  pub one : List Message
  pub two : List Message
  pub three : List Message

abbrev pub said_at : Saids → Station → List Message
said_at said One = said.one
said_at said Two = said.two
said_at said Three = said.three

-- a packet is one of the messages of its sender, and a CreateSequence goes to the node behind that
pub record IsRight (said : Saids) (p : Packet) : Type 0 where
  pub among : IsAmong (said_at said p.from) p.message
  pub routed : IsRouted p.from p.to p.message.body

-- the node there said more
abbrev pub says_more : Saids → Station → List Message → Saids
says_more said One ms = record said { one = said.one ++ ms }
says_more said Two ms = record said { two = said.two ++ ms }
says_more said Three ms = record said { three = said.three ++ ms }

more-among : (said : Saids) (at from : Station) (ms : List Message) (m : Message) → IsAmong (said_at said from) m
    → IsAmong (said_at (says_more said at ms) from) m
more-among said One One ms m h = among-grows said.one ms m h
more-among said One Two ms m h = h
more-among said One Three ms m h = h
more-among said Two One ms m h = h
more-among said Two Two ms m h = among-grows said.two ms m h
more-among said Two Three ms m h = h
more-among said Three One ms m h = h
more-among said Three Two ms m h = h
more-among said Three Three ms m h = among-grows said.three ms m h

pub right-grows : (said : Saids) (at : Station) (ms : List Message) (packets : List Packet)
    → AllByRecursion (IsRight said) packets → AllByRecursion (IsRight (says_more said at ms)) packets
right-grows said at ms packets h =
    all-weaker (IsRight said) (IsRight (says_more said at ms))
    (λ p r. record { among = more-among said at p.from ms p.message r.among; routed = r.routed }) packets h

packet-right : (said : Saids) (from : Station) (m : Message) (to : Option Station) → IsAmong (said_at said from) m
    → ((at : Station) → to ≡ Some at → IsRouted from at m.body) → AllByRecursion (IsRight said) (packet_to from m to)
packet-right said from m None h k = tt
packet-right said from m (Some to) h k = (record { among = h; routed = k to refl }, tt)

record Spoken (said : List Message) (r : List Fact) (m : Message) : Type 0 where
  among : IsAmong said m
  says : Says r m

record Fetched (said : List Message) (r : List Fact) (m : Message) : Type 0 where
  among : IsAmong said m
  says : Says r m
  parked : IsParked m

-- what leaves a node of this role, which said all of it
pub packets-right : (said : Saids) (at : Station) (back : Option Station) (z : Node) (made : Acted)
    → HasRole at z.whole → AllByRecursion (IsAmong (said_at said at)) (left made)
    → AllByRecursion (Says z.whole) (left made) → AllByRecursion IsParked made.fetched
    → AllByRecursion (IsRight said) (packets_of at back made)
packets-right said at back z made h among says parked =
    all-append (IsRight said) _ _
    (all-mapped (Fetched (said_at said at) z.whole) (IsRight said) (λ (m : Message). packet_to at m back)
    (λ m f. packet-right said at m back f.among
    (λ to e. routed-back at z.whole m m.body to h f.says.place f.parked)) made.fetched fetched)
    (all-mapped (Spoken (said_at said at) z.whole) (IsRight said)
    (λ (m : Message). packet_to at m (goes_to back m.addressing.to (place_of m.addressing.to)))
    (λ m s. packet-right said at m (goes_to back m.addressing.to (place_of m.addressing.to)) s.among
    (λ to e. routed-out at z.whole back m m.body to h s.says.place e)) made.said spoken)
  where
    spoken : AllByRecursion (Spoken (said_at said at) z.whole) made.said
    spoken = all-joined (IsAmong (said_at said at)) (Says z.whole) (Spoken (said_at said at) z.whole)
        (λ m a s. record { among = a; says = s }) made.said
        (all-behind (IsAmong (said_at said at)) made.fetched made.said among)
        (all-behind (Says z.whole) made.fetched made.said says)

    fetched : AllByRecursion (Fetched (said_at said at) z.whole) made.fetched
    fetched = all-joined (Spoken (said_at said at) z.whole) IsParked (Fetched (said_at said at) z.whole)
        (λ m s p. record { among = s.among; says = s.says; parked = p }) made.fetched
        (all-joined (IsAmong (said_at said at)) (Says z.whole) (Spoken (said_at said at) z.whole)
        (λ m a s. record { among = a; says = s }) made.fetched
        (all-front (IsAmong (said_at said at)) made.fetched made.said among)
        (all-front (Says z.whole) made.fetched made.said says)) parked
