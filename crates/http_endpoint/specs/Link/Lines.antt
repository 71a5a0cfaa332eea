-- Connections and links, as contracts see them.
use Rattle.std.specs.Prelude.{◌≡◌, ℕ, ◌≤◌, ◌-◌, ◌^◌, Bool, true, false, ◌&&◌, nat_lt, List, [], ◌∷◌, ◌++◌, Option, Some}
use Rattle.std.specs.Prelude.{None, is_none, Result, Ok, Err}
use Rattle.rm_base.specs.Count.{Rose}
use Rattle.rm_base.specs.Outside.{Stream}

-- a connection: what it has left and what was written on it, where it tells that, and whether it tells that it never
-- fails. A count that stands at its greatest value counts as having risen in each call
pub record Line : Type 0 where
  pub left : Option (List ℕ)
  pub held : Option (List ℕ)
  pub sound : Bool

-- by what it tells
abbrev pub line_of : Stream → Line
line_of s = record { left = s.left; held = s.held; sound = s.sound && nat_lt s.faults (2 ^ 64 - 1) }

-- what a link was asked for: to listen to a port; a connection to a port of a host; or to end a connection, which told
-- what was written on it
pub data Call : Type 0 where
  Listened : (port : ℕ) → Call
  Dialled : (host : List ℕ) (port : ℕ) → Call
  HungUp : (held : Option (List ℕ)) → Call

-- a link: the connections to come, in order, where it tells them; what it was asked for so far, in order, where it
-- tells that; how many of its calls failed, in a u64 that stands still at its greatest value; and whether it tells that
-- it fails only where no connection is left
pub record Net : Type 0 where
  pub coming : Option (List Line)
  pub past : Option (List Call)
  pub faults : ℕ
  pub sound : Bool

-- the connection that a call brought, where it brought one
abbrev pub brought : {C F : Type 0} → (C → Stream) → Result C F → Option Line
brought told (Ok c) = Some (line_of (told c))
brought told (Err _) = None

-- there is none to come
abbrev pub is_over : Option (List Line) → Bool
is_over (Some []) = true
is_over _ = false

-- the first of the connections to come is brought; a call that fails brings none
abbrev pub Brings : Option (List Line) → Option (List Line) → Option Line → Type 0
Brings None new line = new ≡ None
Brings (Some coming) new (Some line) = (rest : List Line) × (coming ≡ line ∷ rest) × (new ≡ Some rest)
Brings (Some coming) new None = new ≡ Some coming

-- a connection is asked for: it is brought, or the call fails
pub record Connects (old new : Net) (line : Option Line) : Type 0 where
  pub brings : Brings old.coming new.coming line
  pub never_falls : old.faults ≤ new.faults
  pub failed : line ≡ None → Rose old.faults new.faults
  pub sound : old.sound ≡ true → (new.sound ≡ true) × (is_none line ≡ is_over old.coming)

-- a link was asked for these things more, in order, where it tells in the end what it was asked for
abbrev pub Asks : Option (List Call) → Option (List Call) → List Call → Type 0
Asks old new calls =
    (all : List Call) → new ≡ Some all → (before : List Call) × (old ≡ Some before) × (all ≡ before ++ calls)

-- a port is listened to, or the call fails
pub record Listens (old new : Net) (port : ℕ) (failed : Bool) : Type 0 where
  pub asks : Asks old.past new.past (Listened port ∷ [])
  pub keeps : new.coming ≡ old.coming
  pub never_falls : old.faults ≤ new.faults
  pub fault : failed ≡ true → Rose old.faults new.faults
  pub sound : old.sound ≡ true → (new.sound ≡ true) × (failed ≡ false)

-- a connection ends, which told what was written on it: nothing else changes
pub record Ended (old new : Net) (held : Option (List ℕ)) : Type 0 where
  pub asks : Asks old.past new.past (HungUp held ∷ [])
  pub coming : new.coming ≡ old.coming
  pub faults : new.faults ≡ old.faults
  pub sound : new.sound ≡ old.sound
