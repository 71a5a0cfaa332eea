-- Text that goes to an output in blocks. Private to the crate's own clauses.
use Rattle.std.specs.Prelude.{◌≡◌, ◌≢◌, ℕ, Bool, false, List, ◌++◌, Option, Result, Err, OnErr, OnOk}
use Rattle.std.specs.Io.KnownBytes.{Appends}
use Rattle.rm_base.specs.Count.{Rose}
use Rattle.rm_base.specs.Outside.{AppendsFront, Lasts, Stream}
use Rattle.rm_base.specs.declared.outside.SinkError.{SinkError}
use Rattle.rm_base.specs.declared.outside.SinkError.TheVariants.{Failed, Memory}

-- of these bytes some first ones were written, and the others wait
pub record Sent (held later : Option (List ℕ)) (bytes waiting : List ℕ) : Type 0 where
  pub written : List ℕ
  pub appends : Appends held later written
  pub parts : bytes ≡ written ++ waiting

-- a text was put behind the bytes that wait; or some first bytes of both were written, and a call failed
pub record Goes (wants_memory : Bool) (old new : Stream) (before text after : List ℕ)
    (result : Result (Unit {0}) SinkError) : Type 0 where
  pub ok : OnOk result (Sent old.held new.held (before ++ text) after)
  pub err : OnErr result (AppendsFront old.held new.held (before ++ text))
  pub failed : result ≡ Err Failed → Rose old.faults new.faults
  pub memory : wants_memory ≡ false → result ≢ Err Memory
  pub lasts : Lasts old new
