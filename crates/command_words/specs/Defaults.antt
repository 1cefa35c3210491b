-- What a command takes where no option says it, and the names of watch files.
use Rattle.std.specs.Prelude.{ℕ, ◌^◌, ◌*◌, List, ◌++◌, codes, decimal, map}
use Rattle.std.specs.List.{range_with_len}

abbrev pub Word : Type 0
Word = List ℕ

-- the size of chunks where the words say none: 768 KiB
abbrev pub usual_chunk_size : ℕ
usual_chunk_size = 768 * 2 ^ 10

-- the bytes of the buffer where the words say none: 100 MiB
abbrev pub usual_limit : ℕ
usual_limit = 100 * 2 ^ 20

-- the name of the file of a watcher, numbered from 1
abbrev pub watch_name : Word → ℕ → Word
watch_name out j = out ++ (codes ".watch" ++ decimal j)

-- the names of the files of so many watchers, in order
abbrev pub watch_names : Word → ℕ → List Word
watch_names out many = map (watch_name out) (range_with_len 1 many)
