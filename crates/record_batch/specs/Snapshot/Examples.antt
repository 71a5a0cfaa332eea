-- Three messages, delivered and acknowledged; two of them consumed.
use Rattle.std.specs.Prelude.{ℕ, ◌∷◌, [], List, None, codes}
use Rattle.rm_sides.specs.declared.ranges.range.Range.{Range}
use Rattle.rm_base.specs.declared.message.Behaviour.TheVariants.{FollowingFirstGap, NoDiscard}
use Rattle.record_batch.specs.declared.record.Via.TheVariants.{Direct}
use Rattle.record_batch.specs.Fact.{Fact, Made, Creating, Created, Granted, Accepted, Acked, Received, Consumed}
use Rattle.record_batch.specs.Sequences.Examples.{never, of_text}
use Rattle.record_batch.specs.Sequences.Find.{plain_endpoint}

-- the numbers from one to another
abbrev pub span : ℕ → ℕ → Range
span lower upper = record { lower = lower; upper = upper }

-- the three records by which the source came to be open
abbrev pub opened : List Fact
opened = Made 1 (codes "urn:a") ∷ Creating 1 (codes "urn:b") Direct never None ∷ Created 1 (codes "urn:s") None ∷ []

-- three messages were accepted, and all are acknowledged
abbrev pub a_source : List Fact
a_source =
    Made 1 (codes "urn:a") ∷ Creating 1 (codes "urn:b") Direct never None ∷ Created 1 (codes "urn:s") None
    ∷ Accepted 1 (7 ∷ []) ∷ Accepted 1 (8 ∷ []) ∷ Accepted 1 (9 ∷ []) ∷ Acked 1 (span 1 1 ∷ [])
    ∷ Acked 1 (span 1 2 ∷ []) ∷ Acked 1 (span 1 3 ∷ []) ∷ []

-- the two records by which the destination came to be
abbrev pub granted : List Fact
granted =
    Made 2 (codes "urn:b") ∷ Granted 1 (codes "urn:m")
    (plain_endpoint (codes "urn:a")) FollowingFirstGap None never None
    ∷ []

-- they were received, and the first two consumed
abbrev pub a_destination : List Fact
a_destination =
    Made 2 (codes "urn:b") ∷ Granted 1 (codes "urn:m")
    (plain_endpoint (codes "urn:a")) FollowingFirstGap None never None
    ∷ Received 1 1 (of_text (7 ∷ [])) ∷ Received 1 2 (of_text (8 ∷ [])) ∷ Received 1 3 (of_text (9 ∷ []))
    ∷ Consumed 1 2 ∷ []

-- the two records by which a loose destination came to be
abbrev pub loose_granted : List Fact
loose_granted =
    Made 2 (codes "urn:b") ∷ Granted 1 (codes "urn:m") (plain_endpoint (codes "urn:a")) NoDiscard None never None ∷ []
