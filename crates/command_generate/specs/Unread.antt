-- What is left of a feed that is generated.
use Rattle.std.specs.Prelude.{ℕ, List, [], ◌++◌, map, drop, Bool, true, false}
use Rattle.mcap_model.specs.Tops.{top_bytes, spelled}
use Rattle.command_generate.specs.Generator.{messages_from}
use Rattle.command_generate.specs.Feeds.{message_top, end_top}

-- so many messages from that index on and the Data End, unless that was made
abbrev pub unmade : Bool → ℕ → ℕ → ℕ → List ℕ
unmade true n index state = []
unmade false n index state = spelled (map message_top (messages_from n index state)) ++ top_bytes end_top

-- the bytes that were made and not read, and what isn't made yet
abbrev pub left_to_read : List ℕ → ℕ → List ℕ → List ℕ
left_to_read waiting from later = drop from waiting ++ later
