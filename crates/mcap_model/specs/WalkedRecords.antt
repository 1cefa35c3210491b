-- All records in one row, those inside chunks behind these.
use Rattle.std.specs.Prelude.{ℕ, ◌+◌, List, [], ◌∷◌, ◌++◌, length, if◌then◌else◌}
use Rattle.mcap_model.specs.Tops.{Top, top_bytes, is_chunk, inner_tops, Placed, placed_inside}

-- the record at that offset, and behind a chunk those inside it
abbrev pub walked_one : ℕ → Top → List Placed
walked_one at t = record { place = record { top = at; inner = 0 }; top = t }
    ∷ (if is_chunk t then placed_inside at 0 (inner_tops t) else [])

-- those of records, the first of which stands at that offset
abbrev pub walked_from : ℕ → List Top → List Placed
walked_from at [] = []
walked_from at (t ∷ ts) = walked_one at t ++ walked_from (at + length (top_bytes t)) ts

-- those of a file; of them the Schemas, Channels and Messages are the ones that are placed
abbrev pub walked : List Top → List Placed
walked tops = walked_from 8 tops
