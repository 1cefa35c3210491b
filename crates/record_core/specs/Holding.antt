-- What a desk holds: a buffer of records, and a table that gives the ids of the history's contents.
use Rattle.std.specs.Prelude.{◌+◌, ◌≤◌, length}
use Rattle.mcap_wire.specs.Limits.{record_count_limit}
use Rattle.record_core.specs.declared.desk.Desk.TheInside.{Inside}
use Rattle.record_core.specs.Desk.{DeskView, EndIsLast}
use Rattle.history_ids.specs.Tables.{ids_in, HasSchemas}

abbrev pub desk_seen : Inside → DeskView
desk_seen d =
    record { limit = d.primary.limit; taken = d.taken; primary = d.primary.records; end = d.end; ids = ids_in d.ids }

pub record IsDesk (d : Inside) : Type 0 where
  pub few : d.taken + length d.primary.records ≤ record_count_limit + 1
  pub schemas : HasSchemas d.ids
  pub last : EndIsLast (desk_seen d)
