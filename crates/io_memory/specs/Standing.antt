-- What is seen of a world in memory: what stands under its names, and its log.
use Rattle.std.specs.Prelude.{◌≡◌, ℕ, List, ◌∷◌, ◌++◌, map, length, Option, Some, None, String, Vec, string_bytes}
use Rattle.std.specs.Option.{option_map}
use Rattle.std.specs.BTreeMap.{BTreeMap, get_by_text}
use Rattle.mcap_io.specs.Outside.{Names, Keeping, Opening, WorldState}
use Rattle.mcap_io.specs.OutsideCalls.{IsOut, NoneIsOut}
use Rattle.io_memory.specs.Planned.{left_of}
use Rattle.mcap_io.specs.declared.outside.ObjectKind.{ObjectKind}
use Rattle.io_memory.specs.declared.memory.QuietSource.{QuietSource}
use Rattle.io_memory.specs.declared.memory_world.MemoryWorld.{MemoryWorld}
use Rattle.io_memory.specs.declared.openings.Kept.{Kept}
use Rattle.io_memory.specs.declared.openings.Opened.{Opened}

-- what stands under each name, if anything
abbrev pub standing : {Y Z : Type 0} → BTreeMap (String Y) (Vec ℕ Z) → Names
standing entries name = option_map (λ v. v.items) (get_by_text entries name)

-- what a source that was taken back has left
abbrev pub left_of-source : Option QuietSource → Option (List ℕ)
left_of-source None = None
left_of-source (Some source) = left_of source.bytes.items source.next

-- a keeping that is noted
abbrev pub shown_keeping : Kept → Keeping
shown_keeping kept =
    record { well = kept.well; faults = kept.faults; left = left_of-source kept.rest; asked = kept.asked }

-- an opening that is listed
abbrev pub shown : Opened → Opening
shown o = record { kind = o.kind; name = string_bytes o.name; given = o.given; kept = option_map shown_keeping o.kept }

-- the place of the newest opening whose object is out, if there is one
abbrev pub NewestAt : List Opened → ObjectKind → List ℕ → Option ℕ → Type 0
NewestAt log kind name (Some at) = (before behind : List Opened) × (entry : Opened) × (log ≡ before ++ entry ∷ behind)
    × (length before ≡ at) × IsOut kind name (shown entry) × NoneIsOut kind name (map shown behind)
NewestAt log kind name None = NoneIsOut kind name (map shown log)

-- what is seen of the world
abbrev pub seen : MemoryWorld → WorldState
seen world = record {
  told = Some (record { names = standing world.entries; log = map shown world.log.items });
  faults = world.faults;
  input_faults = world.input_faults;
  output_faults = world.output_faults;
  watch_faults = world.watch_faults;
}
