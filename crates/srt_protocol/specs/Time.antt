-- Times are microseconds in 64 bits, and saturate at both ends (document 01: "saturating add and subtract only").
use Rattle.std.specs.Prelude.{ℕ, ◌+◌, ◌-◌, ◌^◌, min}

-- the last moment that 64 bits hold
abbrev pub last_moment : ℕ
last_moment = 2 ^ 64 - 1

-- the moment `micros` after `moment`, saturating
abbrev pub later : ℕ → ℕ → ℕ
later moment micros = min (moment + micros) last_moment

-- the microseconds from `start` to `end`, 0 if `end` is earlier: subtraction of natural numbers stops at 0
abbrev pub elapsed : ℕ → ℕ → ℕ
elapsed start end = end - start
