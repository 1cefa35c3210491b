-- Recording generated feeds into the file under a name: what became of the name, and what stands there.
use Rattle.std.specs.Prelude.{◌≡◌, ◌⊎◌, ℕ, List, [], ◌∷◌, map, Bool, true, false, Option, Some, None}
use Rattle.std.specs.List.{All, range_with_len}
use Rattle.mcap_io.specs.Outside.{SourceState, LiveState, WorldState, Told, Keeping, Opening}
use Rattle.mcap_io.specs.declared.outside.ObjectKind.TheVariants as kinds
use Rattle.mcap_model.specs.declared.options.RecordOptions.{RecordOptions}
use Rattle.recorder.specs.declared.report.Report.{Report}
use Rattle.recorder.specs.Recorded.{sides, Recorded}
use Rattle.command_base.specs.Ran.{kept, refused, AreOpened, Leaves, CountsKept}
use Rattle.command_generate.specs.Feeds.{feed_bytes}
use Rattle.command_generate.specs.declared.making.Numbers.{Numbers}
use Rattle.command_generate.specs.declared.making.Written.{Written}

-- the feed of that number, of which nothing is read
abbrev pub generated_source : Numbers → ℕ → SourceState
generated_source numbers feed = record { left = Some (feed_bytes numbers.seed feed numbers.messages); faults = 0 }

-- all feeds, from that of number 0 on
abbrev pub sources_of : Numbers → List SourceState
sources_of numbers = map (generated_source numbers) (range_with_len 0 numbers.feeds)

-- the text was put under the name; where the keeping failed, that or what stood there
abbrev pub IsPutUnder : List ℕ → Bool → Option (List ℕ) → Option (List ℕ) → Type 0
IsPutUnder text true before now = now ≡ Some text
IsPutUnder text false before now = (now ≡ Some text) ⊎ (now ≡ before)

-- The store that was opened under the name was recorded into, unless memory lacked before, and was taken back.
pub record RecordedInto (options : RecordOptions) (sources : List SourceState) (out : List ℕ) (old new : WorldState)
    (keeping : Keeping) (w : Written) : Type 0 where
  pub live : LiveState
  pub live_now : LiveState
  pub unused : live.faults ≡ 0
  pub keeping_is : keeping ≡ record { well = w.kept; faults = live_now.faults; left = None; asked = 0 }
  pub unreported : w.report ≡ None → live_now ≡ live
  -- what the report describes, and what the store holds of it; no feed failed
  pub reported : (r : Report) → w.report ≡ Some r
      → (back : List SourceState) × All (λ (s : SourceState). s.faults ≡ 0) back
      × Recorded options (sides sources live) (sides back live_now) r
  -- what the store holds is put under the name
  pub empty : (told : Told) → old.told ≡ Some told → live.held ≡ Some []
  pub placed : (told now : Told) (bytes : List ℕ) → old.told ≡ Some told → new.told ≡ Some now
      → live_now.held ≡ Some bytes → IsPutUnder bytes w.kept (told.names out) (now.names out)

-- no entry, where memory lacked for the feeds or for the opening; or it was refused; or a store was given, written, and taken back
abbrev pub IsWriting : RecordOptions → List SourceState → List ℕ → WorldState → WorldState → List Opening → Written
    → Type 0
IsWriting options sources out old new [] w = (w.report ≡ None) × (w.kept ≡ false)
IsWriting options sources out old new (entry ∷ more) w = ((entry ≡ refused kinds.Live out) × (w.report ≡ None) × (w.kept ≡ false))
    ⊎ ((keeping : Keeping) × (entry ≡ kept kinds.Live out keeping) × RecordedInto options sources out old new keeping w)

-- what became of the name
pub record NameWritten (options : RecordOptions) (sources : List SourceState) (out : List ℕ) (old new : WorldState)
    (w : Written) : Type 0 where
  pub entries : List Opening
  pub writing : IsWriting options sources out old new entries w
  pub opened : AreOpened ((kinds.Live, out) ∷ []) entries
  pub leaves : Leaves old new entries
  pub counts : CountsKept old new entries
