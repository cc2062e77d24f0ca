-- The mark of a group id (document 01: "group id without bit 30").
use Rattle.std.specs.Prelude.{ℕ, ◌/◌, ◌%◌, ◌^◌, Bool, ◌==◌}

-- bit k of a number
abbrev pub bit : ℕ → ℕ → ℕ
bit k n = n / 2 ^ k % 2

-- bit 30 of the id is set
abbrev pub has_group_mask : ℕ → Bool
has_group_mask id = bit 30 id == 1
