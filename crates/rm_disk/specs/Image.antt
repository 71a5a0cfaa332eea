-- What a crash may leave on a disk with a given history. The numbers of an image need not be below 256: what is
-- claimed of each image holds of each that is made of bytes.
use Rattle.std.specs.Prelude.{◌≡◌, ◌⊎◌, ℕ, ◌<◌, ◌≤◌, Bool, true, false, List, [], ◌∷◌, ◌++◌, length, slice_index}
use Rattle.rm_disk.specs.Call.{Call, Synced, Crashed, State, state, is_free}

-- The length lies between the smallest and the greatest since the last sync, and each place that isn't free has
-- the byte that a read gives.
pub record IsImage (s : State) (bytes : List ℕ) : Type 0 where
  pub no_shorter : s.low ≤ length bytes
  pub no_longer : length bytes ≤ s.high
  pub same : (i : ℕ) → i < length bytes → is_free s i ≡ false → slice_index bytes i ≡ slice_index s.seen i

-- a crash now may leave these bytes
abbrev pub MayLeave : List Call → List ℕ → Type 0
MayLeave past bytes = IsImage (state past) bytes

-- After such a call there may be fewer images than before. Each other call, also one that failed, only adds images.
abbrev pub settles : Call → Bool
settles Synced = true
settles (Crashed choice) = true
settles _ = false

-- A crash at some moment from t on might have left these bytes. A moment is a number of calls. A crash inside a call
-- leaves no more than one behind it where the call only adds images (`an_image_stays`), and inside a sync no more
-- than one before it (`a_sync_adds_no_image`), so the moments between the calls are all.
abbrev pub LeftSince : List Call → ℕ → List ℕ → Type 0
LeftSince [] t bytes = MayLeave [] bytes
LeftSince (call ∷ earlier) t bytes = MayLeave (call ∷ earlier) bytes ⊎ ((t ≤ length earlier)
    × LeftSince earlier t bytes)

-- The new history goes on from the old one, and whatever a crash at a moment since might have left has P.
pub record OnlyLeaves (old new : List Call) (P : List ℕ → Type 0) : Type 0 where
  pub later : (added : List Call) × (new ≡ added ++ old)
  pub each : (bytes : List ℕ) → LeftSince new (length old) bytes → P bytes
