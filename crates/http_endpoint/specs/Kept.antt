-- What readers and writers keep of the connection, however they end.
use Rattle.std.specs.Prelude.{◌≡◌, ◌≢◌, ◌⊎◌, Bool, true, false, Result, Err, IfErr}
use Rattle.rm_base.specs.Count.{Rose}
use Rattle.rm_base.specs.Outside.{Stream, Lasts}
use Rattle.http_endpoint.specs.declared.error.HttpError.{HttpError}
use Rattle.http_endpoint.specs.declared.error.HttpError.TheVariants.{Memory, ReadFault, WriteFault, Unsupported}

-- a message is refused for what it asks
abbrev pub is_unsupported : HttpError → Bool
is_unsupported (Unsupported status) = true
is_unsupported _ = false

-- a reader writes nothing, refuses nothing for what it asks, and answers a read fault only where a call failed
pub record KeepsSource {A : Type 0} (result : Result A HttpError) (old new : Stream) : Type 0 where
  pub reads : result ≢ Err WriteFault
  pub supports : IfErr result (λ e. is_unsupported e ≡ false)
  pub failed : result ≡ Err ReadFault → Rose old.faults new.faults
  pub held : new.held ≡ old.held
  pub lasts : Lasts old new

-- a writer reads nothing, and answers a write fault only where a call failed, and beside it only want of memory
pub record KeepsSink {A : Type 0} (result : Result A HttpError) (old new : Stream) : Type 0 where
  pub kinds : IfErr result (λ e. (e ≡ WriteFault) ⊎ (e ≡ Memory))
  pub failed : result ≡ Err WriteFault → Rose old.faults new.faults
  pub left : new.left ≡ old.left
  pub taken : new.taken ≡ old.taken
  pub lasts : Lasts old new
