-- What a room holds.
use Rattle.std.specs.Prelude.{ℕ, List, take}
use Rattle.mcap_io.specs.declared.room.Room.{Room}

-- the bytes that were read last
abbrev pub held_in : Room → List ℕ
held_in room = take room.held room.bytes.items
