-- A borrowed array or map of counts holds as many entries as it counts.
use Rattle.std.proofs.Common.{◌≡◌, ℕ, length}
use Rattle.mcap_wire.specs.declared.arrays.EntriesPlace.{EntriesPlace}
use Rattle.mcap_wire.specs.declared.arrays.EntriesPlace.TheVariants as entries
use Rattle.mcap_wire.specs.declared.counts.CountsPlace.{CountsPlace}
use Rattle.mcap_wire.specs.declared.counts.CountsPlace.TheVariants as counts
use Rattle.mcap_wire.specs.ArrayPlaces.{entries_there, HasEntries, counts_of, HasCounts}
use Rattle.mcap_wire.proofs.ArrayLemmas.{length-entries_in}

pub length-entries_of : (place : EntriesPlace) (count : ℕ) → HasEntries place count → length (entries_there place count) ≡ count
length-entries_of (entries.Bytes bytes) count is = length-entries_in 8 count bytes.now
length-entries_of (entries.List list) count is = is

pub length-counts_of : (place : CountsPlace) (count : ℕ) → HasCounts place count → length (counts_of place count) ≡ count
length-counts_of (counts.Bytes bytes) count is = length-entries_in 2 count bytes.now
length-counts_of (counts.List list) count is = is.0
