-- No sequence of a relay is loose: its nodes announce DiscardFollowingFirstGap for each.
use Rattle.std.proofs.Common.{◌≡◌, ℕ, false, List, [], ◌∷◌, refl, ap}
use Rattle.std.specs.Prelude.{Option, Some, None}
use Rattle.std.specs.List.{AllByRecursion}
use Rattle.rm_base.specs.declared.message.Behaviour.{Behaviour}
use Rattle.rm_base.specs.declared.message.Behaviour.TheVariants.{FollowingFirstGap}
use Rattle.record_batch.specs.Fact.{Fact, Creating, Granted}
use Rattle.rm_sides.specs.Destination.Incoming.{is_loose}
use Rattle.record_batch.specs.Sequences.Destinations.{behaviour, behaviour_of}
use Rattle.record_batch.specs.Sequences.Makers.{Maker, Outgoing, Offered, Incoming, Taken, maker, makers, makers_of}
use Rattle.rm_protocol.specs.Announced.{IsGrantedSo}
use Rattle.rm_relay.specs.Word.Roles.{HasRole, IsOfRole}
use Rattle.rm_relay.specs.declared.word.station.Station.{Station}
use Rattle.rm_relay.proofs.WordLemmas.RoleLemmas.{all-append}
use Rattle.rm_relay.proofs.WordLemmas.StrangeLemmas.{all-numbered, role-of}

-- this was announced for the sequence, where it was granted
abbrev IsMadeSo : Behaviour → Maker → Type 0
IsMadeSo y (Incoming counter message_id acks_to behaviour deadline lapse) = behaviour ≡ y
IsMadeSo y _ = Unit {0}

made-of : (y : Behaviour) (rec : Fact) → IsGrantedSo y rec → AllByRecursion (IsMadeSo y) (makers_of rec)
made-of y (Granted counter message_id acks_to behaviour deadline lapse None) h = (h, tt)
made-of y (Granted counter message_id acks_to behaviour deadline lapse (Some offer)) h = (h, (tt, tt))
made-of y (Creating ticket to via lapse None) h = (tt, tt)
made-of y (Creating ticket to via lapse (Some offer)) h = (tt, (tt, tt))
made-of y _ h = tt

all-made : (y : Behaviour) (r : List Fact) → AllByRecursion (IsGrantedSo y) r → AllByRecursion (IsMadeSo y) (makers r)
all-made y [] h = tt
all-made y (rec ∷ r) h =
    all-append (IsMadeSo y) (makers_of rec) (makers r) (made-of y rec h.0) (all-made y r h.1)

pub ordered : (at : Station) (r : List Fact) (s : ℕ) → HasRole at r → AllByRecursion (IsGrantedSo FollowingFirstGap) r
    → is_loose (behaviour r s) ≡ false
ordered at r s roles so = by_maker (maker r s) refl
  where
    by_kind : (m : Maker) → IsOfRole at m → IsMadeSo FollowingFirstGap m → is_loose (behaviour_of (Some m)) ≡ false
    by_kind (Outgoing ticket to via lapse) role made = refl
    by_kind (Incoming counter message_id acks_to behaviour deadline lapse) role made = ap is_loose made
    by_kind (Offered ticket counter to behaviour) role made = absurd role
    by_kind (Taken message_id ident endpoint) role made = refl

    by_maker : (o : Option Maker) → maker r s ≡ o → is_loose (behaviour_of o) ≡ false
    by_maker None e = refl
    by_maker (Some m) e = by_kind m (role-of at r s m roles e)
        (all-numbered (IsMadeSo FollowingFirstGap) (makers r) s m (all-made FollowingFirstGap r so) e)
