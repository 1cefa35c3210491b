-- The log times of messages, in the order in which they stand.
use Rattle.std.specs.Prelude.{ℕ, List, map, fold, filter, min, max, true, ◌&&◌, nat_le, Option, Some, None}
use Rattle.mcap_model.specs.Tops.{Top}
use Rattle.mcap_scan.specs.HeadTimes.{time_in, is_headed}
use Rattle.merge_walk.specs.declared.times.Extent.{Extent}

-- those of the Messages among some records whose contents meet their layout, in their order
abbrev pub times_of : List Top → List ℕ
times_of records = map (λ t. time_in t.content) (filter is_headed records)

-- ---- extents

-- the extent of one time more
abbrev pub with_time : Option Extent → ℕ → Option Extent
with_time None time = Some (record { least = time; greatest = time; last = time; in_order = true })
with_time (Some e) time =
    Some (record
    { least = min e.least time; greatest = max e.greatest time; last = time; in_order = e.in_order && nat_le e.last time })

-- that of some times, if there are any
abbrev pub extent_of : List ℕ → Option Extent
extent_of times = fold with_time None times
