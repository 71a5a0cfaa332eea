-- A message that waits, the sequence that it is for, and a round that is fair: what the laws ask for can be met.
use Rattle.std.specs.Prelude.{◌∷◌, [], List, None, codes}
use Rattle.rm_base.specs.declared.lapse.Lapse.{Lapse}
use Rattle.rm_base.specs.declared.message.Behaviour.TheVariants.{FollowingFirstGap}
use Rattle.record_batch.specs.declared.record.Via.TheVariants.{Direct}
use Rattle.record_batch.specs.Fact.{Fact, Made, Creating, Created, Granted, Accepted}
use Rattle.record_batch.specs.Sequences.Find.{plain_endpoint}
use Rattle.record_batch.specs.Sequences.Idents.{issue}
use Rattle.rm_protocol.specs.Examples.{opening, played}
use Rattle.rm_protocol.specs.World.{Deliver, Event, One, Send, Tick, Two, World}

-- a duration that never ends
abbrev pub never : Lapse
never = record { months = 0; ms = 0 }

-- one message was accepted, and nothing is acknowledged
abbrev pub a_waiting_source : List Fact
a_waiting_source =
    Made 1 (codes "urn:a") ∷ Creating 1 (codes "urn:b") Direct never None ∷ Created 1 (issue 2 1) None
    ∷ Accepted 1 (7 ∷ []) ∷ []

-- its sequence was granted, and nothing came
abbrev pub an_open_destination : List Fact
an_open_destination =
    Made 2 (codes "urn:b")
    ∷ Granted 1 (issue 1 1) (plain_endpoint (codes "urn:a")) FollowingFirstGap None never None ∷ []

-- a message was sent, and its packet was lost
abbrev pub with_one_lost : World
with_one_lost = played (opening (Send One 1 (7 ∷ []) ∷ []))

-- a fair round then: the tick says the message again, and the answer comes
abbrev pub a_fair_round : List Event
a_fair_round = Tick One 64000 ∷ Tick Two 64000 ∷ Deliver 4 ∷ Deliver 5 ∷ []

-- and one in which nothing is left to be said
abbrev pub a_quiet_round : List Event
a_quiet_round = Tick One 128000 ∷ Tick Two 128000 ∷ []
