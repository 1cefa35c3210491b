use Rattle.std.proofs.Common.{ℕ, List, sym, subst}
use Rattle.mcap_model.specs.Fields.{IsChannel}
use Rattle.mcap_model.proofs.Maps.{shows_once}
use Rattle.command_read.specs.IdTables.{IsCountTable, ArePlaces}
use Rattle.command_read.proofs.Shown.{places_within, firsts_are}
use Rattle.command_read.proofs.channels.put_channels.Goals as goal

pub put_places-requires : goal.put_places-requires
put_places-requires c =
    let first : ArePlaces c.in_ok-ids.ids.items c.deref-2.result.now =
    subst (ArePlaces c.in_ok-ids.ids.items) (sym c.deref-2.ensures.value) (subst (λ (l : List ℕ). ArePlaces l c.in_ok-places.places.items) c.deref.ensures.value (c.in_ok-places.ensures)) in
    places_within IsChannel c.args.loaded.now.channels c.in_ok-ids.ids.items c.deref-2.result.now c.in_ok-ids.ensures first

pub returns : goal.returns
returns c =
    let first : ArePlaces c.in_ok-ids.ids.items c.deref-2.result.now =
    subst (ArePlaces c.in_ok-ids.ids.items) (sym c.deref-2.ensures.value) (subst (λ (l : List ℕ). ArePlaces l c.in_ok-places.places.items) c.deref.ensures.value (c.in_ok-places.ensures)) in
    let holds : IsCountTable c.args.counts.now c.deref-3.result.now = subst (IsCountTable c.args.counts.now) (sym c.deref-3.ensures.value) c.in_ok-table.ensures in
    let (shown, zip, adds) = c.in_ok-put_places.ensures in (
      shown,
      firsts_are IsChannel c.args.loaded.now.channels shows_once c.in_ok-ids.ids.items c.deref-2.result.now shown c.in_ok-ids.ensures first zip,
      adds c.args.counts.now holds,
    )
