-- The queues of packets, which are made when they are first needed. No public clause cites this module.
use Rattle.std.specs.Prelude.{◌≡◌, ℕ, false, List, [], Option, Some, None, is_some}
use Rattle.timers.specs.Pending.Waiting.{Queue}

-- none before they are made
abbrev pub queues_in : {T : Type 0} → Option (List (Queue T)) → List (Queue T)
queues_in None = []
queues_in (Some qs) = qs

-- room was made only where they are
abbrev pub IsMade : {T : Type 0} → Option (List (Queue T)) → List (List ℕ) → Type 0
IsMade queues ready = is_some queues ≡ false → ready ≡ []
