-- The limits of reading and recording, in bytes but where the comment tells what is counted. Layout has that of a record's content.
use Rattle.std.specs.Prelude.{ℕ, ◌+◌, ◌-◌, ◌*◌, ◌^◌}

-- a file: 1 TiB
abbrev pub file_limit : ℕ
file_limit = 2 ^ 40

-- the data of a message: 32 MiB
abbrev pub data_limit : ℕ
data_limit = 32 * 2 ^ 20

-- a record that is buffered: a message's data and the 31 bytes before it
abbrev pub record_limit : ℕ
record_limit = data_limit + 31

-- the records of a declaration, a Schema and a Channel together: 1 MiB
abbrev pub declaration_limit : ℕ
declaration_limit = 2 ^ 20

-- the size at which a chunk is closed: 64 MiB
abbrev pub chunk_size_limit : ℕ
chunk_size_limit = 64 * 2 ^ 20

-- how many schemas, and how many channels, are given ids: 65,535
abbrev pub id_limit : ℕ
id_limit = 2 ^ 16 - 1

-- how many records a recording takes
abbrev pub record_count_limit : ℕ
record_count_limit = 2 ^ 48

-- how many blocks a file has: 4,294,967,295
abbrev pub block_limit : ℕ
block_limit = 2 ^ 32 - 1
