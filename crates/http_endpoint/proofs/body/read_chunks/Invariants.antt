use Rattle.std.proofs.Common.{◌≡◌, ℕ, ◌≤◌, ◌+◌, ◌*◌, ◌-◌, List, [], length, max, Some, Result}
use Rattle.http_endpoint.specs.declared.error.HttpError.{HttpError}
use Rattle.rm_base.specs.Limits.{envelope_bytes}
use Rattle.rm_base.specs.Outside.{Lasts}
use Rattle.http_endpoint.specs.Ahead.{ahead}
use Rattle.http_endpoint.specs.Body.{IsChunked}
use Rattle.http_endpoint.specs.Taken.{chunk_bytes, refused_bytes}
use Rattle.http_endpoint.proofs.body.read_chunks.Given as goal

abbrev pub invariant-loop-body : goal.invariant-loop-body
invariant-loop-body g l =
    let told = g.S.Source.told in
    record {
      within : length l.body ≤ envelope_bytes;
      chunks : (result : Result (List ℕ) HttpError) (all : List ℕ)
          → ahead (told l.initial.from).left l.initial.input ≡ Some all
          → (bytes : List ℕ) × (ahead (told l.from).left l.input ≡ Some bytes)
          × (IsChunked result l.body bytes → IsChunked result [] all);
      stops : (told l.from).taken + length l.initial.input
          ≤ (told l.initial.from).taken + max (length l.initial.input) (refused_bytes + chunk_bytes * length l.body);
      used : (told l.from).taken + length l.initial.input
          ≤ (told l.initial.from).taken + (length l.input + chunk_bytes * length l.body);
      keeps : (told l.from).held ≡ (told l.initial.from).held;
      lasts : Lasts (told l.initial.from) (told l.from);
    }

abbrev pub decreases-loop-body : goal.decreases-loop-body
decreases-loop-body g l = envelope_bytes + 1 - length l.body
