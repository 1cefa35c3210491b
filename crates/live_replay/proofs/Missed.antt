-- Blocks whose times miss the range.
use Rattle.std.proofs.Common.{◌≡◌, ℕ, ◌≤◌, List, refl, ap, subst, arith}
use Rattle.mcap_model.specs.declared.tables.Tables.{Tables}
use Rattle.mcap_model.specs.declared.replay.Range.{Range}
use Rattle.mcap_model.specs.declared.replay.Shown.{Shown}
use Rattle.mcap_model.specs.Tops.{Top, inner_tops, records_in, placed_from}
use Rattle.mcap_model.specs.Rules.{LogsAt, ChunkIsRight}
use Rattle.mcap_model.proofs.Flat.{named_or}
use Rattle.mcap_model.proofs.OpenedChunks.{inside_back}
use Rattle.mcap_model.proofs.Replays.{range_decided}
use Rattle.mcap_model.proofs.Unpacking.{chunks_are_opened}
use Rattle.live_entry.specs.declared.entry.Entry.{Entry}
use Rattle.live_entry.specs.Following.{Stretch, IsStretch, stretch_tops}
use Rattle.live_entry.specs.Entries.{HasNumbers}
use Rattle.live_replay.specs.Keeping.{IsAmong, Gains}
use Rattle.live_replay.specs.Blocks.{MayStandBehind, HasTime}
use Rattle.live_replay.proofs.Gaining.{nothing_gained}
use Rattle.live_replay.proofs.Stretches.{chunk_fits}
use Rattle.live_replay.proofs.Apart.{in_chunk}

module _ {X : Type 0} (e : Entry X) (bytes : List ℕ) (s : Stretch) (range : Range) (at : ℕ) (first : Top) (more : List Top) (tables : Tables) (stretch : IsStretch bytes s) (numbers : HasNumbers e s) (stands : MayStandBehind first more (stretch_tops s) tables) where
  logged : (r : Shown) → IsAmong range (placed_from at (stretch_tops s)) r → LogsAt (inner_tops s.chunk) r.log_time
  logged r among =
      let has = in_chunk at bytes s among.placed stretch among.there in
      let back = inside_back at 0 (inner_tops s.chunk) has.0 among.placed has.1 in
      let shown = among.is in
      record {
        place = has.0;
        top = (among.placed).top;
        channel = r.channel;
        message = record { sequence = r.sequence; log_time = r.log_time; publish_time = r.publish_time; payload = r.payload };
        at = back.0;
        is = shown.is;
        then = refl;
      }

  in_times : (r : Shown) → IsAmong range (placed_from at (stretch_tops s)) r → (e.start_time ≤ r.log_time) × (r.log_time ≤ e.end_time)
  in_times r among =
      let fits = chunk_fits first more s.indexes s.chunk tables stands in
      let v6 = fits.v6 in
      let found = v6.chunk stretch.chunk in
      let g = found.0 in
      let is = found.1 in
      let v8 = fits.v8 in
      let right : ChunkIsRight g = v8 g is (named_or s.chunk g g.compression is refl fits.plain) in
      let times = right.times in
      let same : inner_tops s.chunk ≡ records_in g.records = ap records_in (chunks_are_opened s.chunk g is) in
      let within = times r.log_time (subst (λ (l : List Top). LogsAt l r.log_time) same (logged r among)) in
      let own = numbers.times in
      let ends = own g is in
      (omega (arith, within.0, ends.0), omega (arith, within.1, ends.1))

  pub missed : (HasTime range e.start_time e.end_time → ⊥) → (old : List Shown) → Gains range (placed_from at (stretch_tops s)) old old
  missed none old = nothing_gained range (placed_from at (stretch_tops s)) old (λ r among.
      let times = in_times r among in
      none (r.log_time, times.0, times.1, (range_decided range r.log_time).0 among.within))
