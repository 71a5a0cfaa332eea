-- What is said besides a message that was fetched.
use Rattle.std.proofs.Common.{◌≡◌, List, Option, Some, None, refl}
use Rattle.rm_message.specs.declared.message.Message.{Message}
use Rattle.rm_protocol.specs.Calls.{Fetched}
use Rattle.rm_protocol.specs.Polls.{fetched_with, said_beside}

-- with its blocks it is fetched where it was without them
pub said_beside-fetched : (t : Option Fetched) (said more : List Message)
    → said_beside (fetched_with t said) more ≡ said_beside t more
said_beside-fetched None said more = refl
said_beside-fetched (Some t) said more = refl
