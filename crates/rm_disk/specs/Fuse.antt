-- The fuse of a disk: none while the disk isn't armed, else the number of device calls left up to and with the
-- first that fails, and 0 once that failed.
use Rattle.std.specs.Prelude.{◌≡◌, ℕ, zero, ◌-◌, Bool, true, nat_lt, Option, Some}
use Rattle.std.specs.Option.{option_map, option_map_or}

-- Device calls are made one after the other, so many of them or up to the first that fails. Whether all went well.
pub record Burns (count : ℕ) (old new : Option ℕ) (all_well : Bool) : Type 0 where
  pub left : new ≡ option_map (λ left. left - count) old
  pub well : all_well ≡ option_map_or (λ left. nat_lt count left) old true

-- A fuse that is spent stays so.
abbrev pub armed : ℕ → Option ℕ → Option ℕ
armed calls (Some zero) = Some 0
armed calls _ = Some calls
