-- Lists of records of a source and of a destination, of one sequence each: whole, and without the first payloads.
use Rattle.std.specs.Prelude.{ℕ, ◌∷◌, [], List, None, Some, codes}
use Rattle.rm_base.specs.declared.message.Behaviour.TheVariants.{EntireSequence, FollowingFirstGap, NoDiscard}
use Rattle.rm_base.specs.declared.message.Payload.{Payload}
use Rattle.rm_base.specs.declared.lapse.Lapse.{Lapse}
use Rattle.record_batch.specs.declared.record.Via.TheVariants.{Direct}
use Rattle.record_batch.specs.Fact.{Fact, Made, Creating, Created, Granted, Accepted, Acked, Received, Closing}
use Rattle.record_batch.specs.Fact.{Dropped, Purged}
use Rattle.record_batch.specs.Sequences.Find.{plain_endpoint}

-- a duration that never ends
abbrev pub never : Lapse
never = record { months = 0; ms = 0 }

-- a payload of these bytes
abbrev pub of_text : List ℕ → Payload
of_text bytes = record { bytes = bytes; scope = [] }

-- two messages were accepted, the first is acknowledged, and the sequence is closing
abbrev pub a_source : List Fact
a_source =
    Made 1 (codes "urn:a") ∷ Creating 1 (codes "urn:b") Direct never None ∷ Created 1 (codes "urn:s") None
    ∷ Accepted 1 (7 ∷ []) ∷ Accepted 1 (8 ∷ []) ∷ Acked 1 (record { lower = 1; upper = 1 } ∷ []) ∷ Closing 1 2 ∷ []

-- the second and the third message came, and then the first
abbrev pub a_destination : List Fact
a_destination =
    Made 2 (codes "urn:b") ∷ Granted 1 (codes "urn:m") (plain_endpoint (codes "urn:a")) EntireSequence (Some 100)
    never None
    ∷ Received 1 2 (of_text (8 ∷ [])) ∷ Received 1 3 (of_text (9 ∷ [])) ∷ Received 1 1 (of_text (7 ∷ [])) ∷ []

-- of three messages the payloads of the first two are gone
abbrev pub a_short_source : List Fact
a_short_source =
    Made 1 (codes "urn:a") ∷ Creating 1 (codes "urn:b") Direct never None ∷ Created 1 (codes "urn:s") None
    ∷ Dropped 1 2 ∷ Accepted 1 (9 ∷ []) ∷ []

-- the same of what was received
abbrev pub a_short_destination : List Fact
a_short_destination =
    Made 2 (codes "urn:b") ∷ Granted 1 (codes "urn:m") (plain_endpoint (codes "urn:a")) FollowingFirstGap None
    never None
    ∷ Purged 1 (record { lower = 1; upper = 2 } ∷ []) ∷ Received 1 3 (of_text (9 ∷ [])) ∷ []

-- on a sequence that releases messages as they come, the third message came, and then the first
abbrev pub a_loose_destination : List Fact
a_loose_destination =
    Made 2 (codes "urn:b") ∷ Granted 1 (codes "urn:m") (plain_endpoint (codes "urn:a")) NoDiscard None never None
    ∷ Received 1 3 (of_text (9 ∷ [])) ∷ Received 1 1 (of_text (7 ∷ [])) ∷ []

-- the payload of the third is gone
abbrev pub a_short_loose_destination : List Fact
a_short_loose_destination =
    Made 2 (codes "urn:b") ∷ Granted 1 (codes "urn:m") (plain_endpoint (codes "urn:a")) NoDiscard None never None
    ∷ Purged 1 (record { lower = 3; upper = 3 } ∷ []) ∷ Received 1 1 (of_text (7 ∷ [])) ∷ []
