-- A file that is read to its Data End is filtered, or memory lacked.
use Rattle.std.proofs.Common.{◌≡◌, ℕ, List, [], ◌∷◌, Some, Result, Ok, Err, refl, sym, subst, inl, inr, ◌∙◌}
use Rattle.mcap_io.specs.Outside.{WorldState, Told, Opening}
use Rattle.mcap_model.specs.declared.ends.Stop.TheVariants as stops
use Rattle.mcap_model.specs.declared.refusals.ReadingRefused.TheVariants as refusals
use Rattle.mcap_model.specs.Kept.{at_end, grammar as breaks, compressed as names, beyond}
use Rattle.mcap_model.proofs.Halting.{readings_halt_once}
use Rattle.record_keeping.specs.NewFiles.{recovered_options}
use Rattle.mcap_filter.specs.declared.answers.Picked.{Picked}
use Rattle.mcap_filter.specs.declared.answers.PickRefused.{PickRefused}
use Rattle.mcap_filter.specs.declared.answers.PickRefused.TheVariants as picking
use Rattle.mcap_filter.specs.Picked.{filtered}
use Rattle.command_base.specs.declared.statuses.Status.{Status}
use Rattle.command_base.specs.Ran.{Scene}
use Rattle.command_write.specs.declared.filtering.Filtering.{Filtering}
use Rattle.command_write.specs.declared.filtering.Filtering.TheVariants as filterings
use Rattle.command_write.specs.Filter.{FilterRequest, BothFiltered, RefusesFiltering, filtering_of, IsFiltering, FilterDecides, FiltersFile}
use Rattle.mcap_app.specs.Completeness.{IsAllDone, IsReadWhole, IsFilteredWithin, FiltersSucceed}
use Rattle.mcap_app.proofs.Succeeding.{unlimited, names_end, beyond_end}

-- ---- all names were given where the file would pass a limit

unlike : (blocks bytes : ℕ) → filterings.Refused (picking.Refused refusals.Memory) ≡ filterings.Refused (picking.Stopped (stops.Limit blocks bytes)) → ⊥
unlike blocks bytes e = absurd cc

unopened : (blocks bytes : ℕ) → filterings.Unopened ≡ filterings.Refused (picking.Stopped (stops.Limit blocks bytes)) → ⊥
unopened blocks bytes e = absurd cc

refused_otherwise : (entries : List Opening) (filtering : Filtering) (blocks bytes : ℕ) → RefusesFiltering entries filtering → filtering ≡ filterings.Refused (picking.Stopped (stops.Limit blocks bytes)) → ⊥
refused_otherwise [] filtering blocks bytes refuses is = unlike blocks bytes (sym refuses ∙ is)
refused_otherwise (entry ∷ []) filtering blocks bytes (inl refuses) is = unopened blocks bytes (sym refuses.1 ∙ is)
refused_otherwise (entry ∷ []) filtering blocks bytes (inr refuses) is = unlike blocks bytes (sym refuses.1 ∙ is)
refused_otherwise (entry ∷ other ∷ more) filtering blocks bytes refuses is = unopened blocks bytes (sym refuses.1 ∙ is)

refused_result : (result : Result Picked PickRefused) (why : PickRefused) → filtering_of result ≡ filterings.Refused why → result ≡ Err why
refused_result (Ok p) why e = absurd cc
refused_result (Err other) why e = cc

limit_reached : (asked : FilterRequest) (input out : List ℕ) (old new : WorldState) (entries : List Opening) (filtering : Filtering) (blocks bytes : ℕ) → IsFiltering asked input out old new entries filtering
    → filtering ≡ filterings.Refused (picking.Stopped (stops.Limit blocks bytes)) → BothFiltered asked input out old new entries (Err (picking.Stopped (stops.Limit blocks bytes)))
limit_reached asked input out old new entries filtering blocks bytes (inl (refuses, unreached)) is = absurd (refused_otherwise entries filtering blocks bytes refuses is)
limit_reached asked input out old new entries filtering blocks bytes (inr (result, same, it)) is =
    subst (BothFiltered asked input out old new entries) (refused_result result (picking.Stopped (stops.Limit blocks bytes)) (sym same ∙ is)) it

module _ (asked : FilterRequest) (input out bytes : List ℕ) (told : Told) (old new : Scene) (here : old.world.told ≡ Some told) (there : told.names input ≡ Some bytes) (read : IsReadWhole bytes) (can : IsFilteredWithin asked bytes) where
  not_limited : (blocks written : ℕ) (status : Status) (it : FiltersFile asked input out old new status) → it.filtering ≡ filterings.Refused (picking.Stopped (stops.Limit blocks written)) → ⊥
  not_limited blocks written status it is =
      let all = limit_reached asked input out old.world new.world it.entries it.filtering blocks written it.comes is in
      let unfiled = all.filters in
      let stop = unfiled.stops bytes ((all.tells told here).0 ∙ there) can.profile can.extras can.history can.repaired in
      unlimited (recovered_options can.profile asked.chunk) can.extras (filtered asked.asking can.history) all.live.held all.stored.held blocks written unfiled.written stop can.within

  filtered_well : (status : Status) (it : FiltersFile asked input out old new status) (filtering : Filtering) → it.filtering ≡ filtering → FilterDecides bytes filtering status → IsAllDone status
  filtered_well status it filterings.Unopened is decided = absurd decided
  filtered_well status it (filterings.Made p) is decided = inl decided.1
  filtered_well status it (filterings.Refused (picking.Refused (refusals.Fault faults))) is decided = absurd decided
  filtered_well status it (filterings.Refused (picking.Refused (refusals.Grammar n rule))) is ((tops, halts), status_is) = let (whole, end, ends) = read in absurd (readings_halt_once bytes tops whole (breaks n rule) (at_end end) halts ends).1
  filtered_well status it (filterings.Refused (picking.Refused (refusals.Compressed n name))) is ((tops, halts), status_is) = let (whole, end, ends) = read in absurd (names_end n end name (readings_halt_once bytes tops whole (names n name) (at_end end) halts ends).1)
  filtered_well status it (filterings.Refused (picking.Refused (refusals.Limit n))) is ((tops, halts), status_is) = let (whole, end, ends) = read in absurd (beyond_end n end (readings_halt_once bytes tops whole (beyond n) (at_end end) halts ends).1)
  filtered_well status it (filterings.Refused (picking.Refused refusals.Memory)) is decided = inr decided
  filtered_well status it (filterings.Refused (picking.Stopped (stops.Fault faults))) is decided = absurd decided
  filtered_well status it (filterings.Refused (picking.Stopped (stops.Limit blocks written))) is decided = absurd (not_limited blocks written status it is)
  filtered_well status it (filterings.Refused (picking.Stopped stops.Memory)) is decided = inr decided

pub filters_succeed : FiltersSucceed
filters_succeed asked input out bytes told old new status it calm there read can =
    filtered_well asked input out bytes told old new calm.tells there read can status it it.filtering refl (it.decided told bytes calm.tells there calm.quiet)
