-- The log time in a Message's content, and which Messages have such a head.
use Rattle.std.specs.Prelude.{ℕ, List, take, drop, length, Bool, ◌&&◌, nat_le}
use Rattle.mcap_wire.specs.Layout.{number}
use Rattle.mcap_model.specs.Tops.{Top}
use Rattle.mcap_model.specs.Scan.{is_message_top}

-- the log time in a Message's content, which stands behind a number of two bytes and one of four
abbrev pub time_in : List ℕ → ℕ
time_in content = number (take 8 (drop 6 content))

-- a Message whose content meets its layout: two bytes, four, and twice eight, before what it holds
abbrev pub is_headed : Top → Bool
is_headed t = is_message_top t && nat_le 22 (length t.content)
