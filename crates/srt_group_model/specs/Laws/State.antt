-- What is proved of the definitions in specs/State.antt, with what the proofs need.
use Rattle.std.specs.Prelude.{ℕ}
use Rattle.srt_group_model.specs.State.{Making}

-- ---- what is read from it

-- the mode's number: 0 Broadcast, 1 Backup
abbrev pub broadcast_mode : ℕ
broadcast_mode = 0

abbrev pub backup_mode : ℕ
backup_mode = 1

-- the group of the examples, in a mode, over a store of a length that is given at the start, or 0
abbrev pub ordinary : (mode length : ℕ) → Making
ordinary mode length = record { id = 1073741825; mode = mode; length = length }
