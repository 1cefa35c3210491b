-- The Messages among some records, and where they stand.
use Rattle.std.specs.Prelude.{ℕ, List, map}
use Rattle.std.specs.List.{flat_map}
use Rattle.mcap_model.specs.Tops.{Top, Placed, placed_inside, unchunked}
use Rattle.mcap_scan.specs.declared.message_heads.MessageHead.{MessageHead}
use Rattle.mcap_scan.specs.Heads.{heads_at}

-- the record, which stands there among others
abbrev pub set_at : ℕ → Top → Placed
set_at at t = record { place = record { top = 0; inner = at }; top = t }

-- its head, if it is a Message whose content meets its layout
abbrev pub heads_one : ℕ → Top → List MessageHead
heads_one at t = heads_at (set_at at t)

-- those among records, the first of which stands there
abbrev pub heads_from : ℕ → List Top → List MessageHead
heads_from at tops = flat_map heads_at (placed_inside 0 at tops)

-- those that a record of the top level is or holds, which stands first where it is one itself
abbrev pub heads_under : Top → List MessageHead
heads_under t = heads_from 0 (unchunked t)

abbrev pub times_in : List MessageHead → List ℕ
times_in heads = map (λ h. h.time) heads
