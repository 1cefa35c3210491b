-- Limits of recording alone, in bytes.
use Rattle.std.specs.Prelude.{ℕ, ◌-◌, ◌^◌}

-- the size at which the buffer of a recording is full: 1 GiB
abbrev pub buffer_limit : ℕ
buffer_limit = 2 ^ 30

-- the profile of a recording: 65,535
abbrev pub profile_limit : ℕ
profile_limit = 2 ^ 16 - 1
