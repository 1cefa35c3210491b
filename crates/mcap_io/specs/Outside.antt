-- What is seen of sources, sinks, stores and worlds.
use Rattle.std.specs.Prelude.{◌≡◌, ℕ, ◌+◌, ◌-◌, ◌^◌, ◌≤◌, min, List, ◌++◌, length, take, Bool, Option, Some, None, IsSome}
use Rattle.mcap_io.specs.declared.outside.ObjectKind.{ObjectKind}

-- ---- what is seen

-- of a source: the bytes that it has left, where it tells them, and how often it has failed
pub record SourceState : Type 0 where
  pub left : Option (List ℕ)
  pub faults : ℕ

-- of a sink: the bytes that it took, where it tells them, and how often it has failed
pub record SinkState : Type 0 where
  pub took : Option (List ℕ)
  pub faults : ℕ

-- of a live store: the bytes that it holds, where it tells them, how often it has failed, and how many of the bytes that it
-- took wait in it and aren't with the system yet
pub record LiveState : Type 0 where
  pub held : Option (List ℕ)
  pub faults : ℕ
  pub waiting : ℕ

-- what stands under each name, if anything
abbrev pub Names : Type 0
Names = List ℕ → Option (List ℕ)

-- how an object was taken back: whether that went well, how often the object had failed, what it had left, if it is a
-- source, and how many bytes it was asked for, if it is a store; 0 of others
pub record Keeping : Type 0 where
  pub well : Bool
  pub faults : ℕ
  pub left : Option (List ℕ)
  pub asked : ℕ

-- an opening: of what, under which name, whether it gave an object, and how that was taken back, once it was
pub record Opening : Type 0 where
  pub kind : ObjectKind
  pub name : List ℕ
  pub given : Bool
  pub kept : Option Keeping

-- what a world tells: its names, and its openings in their order
pub record Told : Type 0 where
  pub names : Names
  pub log : List Opening

-- of a world: what it tells, if it does; how often an opening or a keeping has failed; and the faults of what it took back:
-- of the sources and stores, of the live stores, and of the sinks and views
pub record WorldState : Type 0 where
  pub told : Option Told
  pub faults : ℕ
  pub input_faults : ℕ
  pub output_faults : ℕ
  pub watch_faults : ℕ

-- ---- counts of faults

-- one fault more; a count at the end of its type stands there
abbrev pub one_more : ℕ → ℕ
one_more count = min (count + 1) (2 ^ 64 - 1)

-- the count has risen, or stands at the end of its type
abbrev pub Rose : ℕ → ℕ → Type 0
Rose before now = one_more before ≤ now

-- two counts together; a sum that would pass the end of the type stands there
abbrev pub added : ℕ → ℕ → ℕ
added a b = min (a + b) (2 ^ 64 - 1)

-- the count has risen by one
pub record RisesOnce (before now : ℕ) : Type 0 where
  pub later : before ≤ now
  pub once : now ≡ one_more before

-- ---- sinks and live stores

-- where the bytes so far are told, these stand behind them now
abbrev pub Adds : Option (List ℕ) → Option (List ℕ) → List ℕ → Type 0
Adds old new bytes = (before : List ℕ) → old ≡ Some before → new ≡ Some (before ++ bytes)

-- where the bytes so far are told, some first bytes of these, at least as many as stated, stand behind them now
abbrev pub AddsPart : Option (List ℕ) → Option (List ℕ) → ℕ → List ℕ → Type 0
AddsPart old new least bytes = (before : List ℕ) → old ≡ Some before
    → (n : ℕ) × (least ≤ n) × (n ≤ length bytes) × (new ≡ Some (before ++ take n bytes))

-- ---- openings

-- an opening that no object was taken back of yet
abbrev pub opened : ObjectKind → List ℕ → Bool → Opening
opened kind name given = record { kind = kind; name = name; given = given; kept = None }

-- the entry, with how its object was taken back
abbrev pub taken_back : Opening → Keeping → Opening
taken_back entry keeping = record { kind = entry.kind; name = entry.name; given = entry.given; kept = Some keeping }

-- ---- worlds

-- what an opened source tells: the bytes under its name, which is there
abbrev pub TellsName : WorldState → List ℕ → SourceState → Type 0
TellsName world name source =
    (told : Told) → world.told ≡ Some told → (source.left ≡ told.names name) × IsSome (told.names name)
