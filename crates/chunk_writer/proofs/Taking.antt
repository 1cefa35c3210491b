-- A buffer's records are put one by one.
use Rattle.std.proofs.Common.{◌≡◌, ◌⊎◌, ℕ, suc, ◌+◌, ◌<◌, ◌≤◌, List, [], ◌∷◌, ◌++◌, length, take, drop, Option, Some, Result, Ok, Err, inl, inr, refl, sym, ap, subst, ◌∙◌, append_assoc, append-nil, arith}
use Rattle.std.specs.Prelude.{All}
use Rattle.std.proofs.Math.Seq.{take-suc}
use Rattle.std.proofs.lemmas.List.{take_all, take-append-drop, length-append, length-drop}
use Rattle.mcap_wire.proofs.Framing.{length-framed}
use Rattle.std.proofs.lemmas.Option.{get_or_from_slice_get}
use Rattle.rec_data.specs.declared.owned.Rec.{Rec}
use Rattle.rec_data.specs.Owned.{rec_bytes, rec_opcode, rec_text}
use Rattle.rec_data.specs.OwnedReading.{IsFramed}
use Rattle.rec_data.proofs.OwnedReading.{rec_shown, framed_decided}
use Rattle.mcap_io.specs.Outside.{LiveState}
use Rattle.mcap_model.specs.declared.options.FileOptions.{FileOptions}
use Rattle.mcap_model.specs.declared.ends.Stop.{Stop}
use Rattle.mcap_model.specs.declared.ends.Stop.TheVariants as stops
use Rattle.mcap_model.specs.History.{history_bytes}
use Rattle.chunk_build.specs.Chunker.{AreFramed}
use Rattle.record_cache.specs.KeptRecords.{IsKept}
use Rattle.record_cache.specs.Offers.{StartsAt, RecordAt}
use Rattle.record_cache.proofs.Kept.{there, kept_at}
use Rattle.live_entry.specs.declared.entry.Entry.{Entry}
use Rattle.live_entry.specs.Entries.{SeenExtents}
use Rattle.chunk_writer.specs.declared.phase.Phase.TheVariants as phases
use Rattle.chunk_writer.specs.declared.scribe.Scribe.{Scribe}
use Rattle.chunk_writer.specs.Limits.{Holds}
use Rattle.chunk_writer.specs.Planning.{Planning}
use Rattle.chunk_writer.specs.Plans.{StoppedBefore}
use Rattle.chunk_writer.specs.Stops.{numbers}
use Rattle.chunk_writer.specs.StopSteps.{StopsBehind}
use Rattle.chunk_writer.specs.Scribes.{ScribeStands, WritesHistory, ScribeGrows, OfEach, KeepsOn, ListsEntry, GivesEntries, PutsFront, grows_on}
use Rattle.chunk_writer.specs.Tapes.{no_entries}
use Rattle.chunk_writer.proofs.Entries.{seen_later, entries_more}
use Rattle.chunk_writer.proofs.Writing.{going_apart, add_refused, holding, plans_begun, stands_stopped}
use Rattle.chunk_writer.proofs.Stopping.{put_lacks}

-- ---- one record

-- a record whose bytes these are is that which was read from them
pub read_same : (bytes : List ℕ) (r rec : Rec) → AreFramed bytes r → IsFramed bytes rec → rec ≡ r
read_same bytes r rec is read = framed_decided bytes rec r read (_, _, is.spelled, is.shown)

-- memory lacks before a record
pub memory_lacks : (options : FileOptions) (opened held : Option (List ℕ)) (history : List Rec) (r : Rec) (p after : Planning) → p.phase ≡ phases.Going → StoppedBefore p.blocks p.bytes stops.Memory after
    → ScribeStands options opened held history p → ScribeStands options opened held (history ++ r ∷ []) after
memory_lacks options opened held history r p after going before stands = add_refused options opened held history r p after stops.Memory going (λ o h plans. tt) before stands

-- it lacks where no record comes
pub memory_stops : (options : FileOptions) (opened held : Option (List ℕ)) (history : List Rec) (p after : Planning) → p.phase ≡ phases.Going → StoppedBefore p.blocks p.bytes stops.Memory after
    → ScribeStands options opened held history p → ScribeStands options opened held history after
memory_stops options opened held history p after going before stands =
    let (plans, adds) = stands.going going in
    stands_stopped options opened held history after stops.Memory p.blocks p.bytes before (plans_begun options history p plans)
    (λ extras behind. put_lacks options extras opened held history p.blocks p.bytes behind (holding options opened held history p going stands))

-- ---- where the writing stopped

-- a scribe that stopped stands for all that may come behind its history
pub stopped_on : (options : FileOptions) (opened now : Option (List ℕ)) (history more : List Rec) (p : Planning) (stop : Stop) → p.phase ≡ phases.Stopped stop → ScribeStands options opened now history p → ScribeStands options opened now (history ++ more) p
stopped_on options opened now history more p stop is stands = record {
  going = λ going. absurd (going_apart p.phase stop is going);
  stopped = λ other e extras behind. subst (λ (l : List Rec). StopsBehind options extras l opened now other (numbers p.blocks p.bytes)) (sym (append_assoc history more behind)) (stands.stopped other e extras (more ++ behind));
  unended = stands.unended;
}

-- ---- the walk

-- so many of a buffer's records were put, those before that offset, and none was refused
pub record Partway {L X : Type 0} (state : L → LiveState) (seen : SeenExtents X) (before now : Scribe L) (records : List Rec) (at : ℕ) (entries : List (Entry X)) : Type 0 where
  pub count : ℕ
  pub within : count ≤ length records
  pub place : at ≡ length (history_bytes (take count records))
  pub going : now.plan.phase ≡ phases.Going
  pub holds : Holds now.plan.blocks now.plan.bytes
  pub still : (state now.store).faults ≡ (state before.store).faults
  pub keeps : KeepsOn (state before.store).held (state now.store).held
  pub counted : now.plan.blocks ≡ before.plan.blocks + length entries
  pub grows : ScribeGrows state before now (take count records)
  pub gives : OfEach state before (λ options history. GivesEntries seen options history (take count records) entries)

pub begun : {L X : Type 0} (state : L → LiveState) (seen : SeenExtents X) (before : Scribe L) (records : List Rec) (entries : List (Entry X)) → before.plan.phase ≡ phases.Going → Holds before.plan.blocks before.plan.bytes → entries ≡ []
    → Partway state seen before before records 0 entries
begun state seen before records entries going holds none = record {
  count = 0;
  within = omega arith;
  place = refl;
  going = going;
  holds = holds;
  still = refl;
  keeps = λ held is. ([], is ∙ ap Some (sym (append-nil held)));
  counted = let size = ap (λ (l : List (Entry _)). length l) none in omega (arith, size);
  grows = λ options extras opened history writes. subst (λ (l : List Rec). WritesHistory state options extras opened l before) (sym (append-nil history)) writes;
  gives = λ options extras opened history writes. subst (λ (l : List (Entry _)). GivesEntries seen options history [] l) (sym none) (no_entries seen options history);
}

-- the record that begins there, and what is put with it
record NextOf (records : List Rec) (count : ℕ) (framed : List ℕ) : Type 0 where
  pub rec : Rec
  pub more : take (suc count) records ≡ take count records ++ rec ∷ []
  pub framed_is : AreFramed framed rec

next_of : (records : List Rec) (at next count : ℕ) (framed : List ℕ) → All IsKept records → count < length records → at ≡ length (history_bytes (take count records)) → RecordAt records at framed next → NextOf records count framed
next_of records at next count framed kept less place found =
    let there = found count less place in
    let at_it = ap (λ (r : Rec). take count records ++ r ∷ []) (get_or_from_slice_get records count there.rec there.rec there.stands) in
    record {
      rec = there.rec;
      more = take-suc records count there.rec less ∙ at_it;
      framed_is = record { spelled = there.bytes; shown = rec_shown there.rec (kept_at records count there.rec kept less there.stands).fits };
    }

below_or_all : (n m : ℕ) → (n < m) ⊎ (m ≤ n)
below_or_all n m = grind arith

-- where bytes are left, records are
pub some_left : (records : List Rec) (at count : ℕ) → count ≤ length records → at ≡ length (history_bytes (take count records)) → at < length (history_bytes records) → count < length records
some_left records at count within place less = elim (below_or_all count (length records)) [
  | inl below ↦ below
  | inr all ↦
      let whole : length (history_bytes (take count records)) ≡ length (history_bytes records) = ap (λ (l : List Rec). length (history_bytes l)) (take_all count records all) in
      absurd (omega (arith, whole, place, less))
]

pub starts : (records : List Rec) (at count : ℕ) → count ≤ length records → at ≡ length (history_bytes (take count records)) → at < length (history_bytes records) → StartsAt records at
starts records at count within place less = (count, some_left records at count within place less, place)

-- where none are left, all records were put
pub all_put : (records : List Rec) (at count : ℕ) → count ≤ length records → at ≡ length (history_bytes (take count records)) → (at < length (history_bytes records) → ⊥) → count ≡ length records
all_put records at count within place none = elim (below_or_all count (length records)) [
  | inl below ↦
      let found = there records count below in
      let left = ap (λ (l : List ℕ). length l) found.parts in
      absurd (none (omega (arith, left, place, length-drop (length (history_bytes (take count records))) (history_bytes records), length-append (rec_bytes found.rec) found.rest, length-framed (rec_opcode found.rec) (rec_text found.rec))))
  | inr all ↦ omega (arith, within, all)
]

pub keeps_more : (old mid new : Option (List ℕ)) → KeepsOn old mid → KeepsOn mid new → KeepsOn old new
keeps_more old mid new first second = λ held is.
    let one = first held is in
    let other = second (held ++ one.0) one.1 in
    (one.0 ++ other.0, other.1 ∙ ap Some (append_assoc held one.0 other.0))

-- one record more was put
pub step : {L X : Type 0} (state : L → LiveState) (seen : SeenExtents X) (before now after : Scribe L) (records : List Rec) (at next : ℕ) (framed : List ℕ) (entries more : List (Entry X)) → seen.held ≡ (state before.store).held → All IsKept records
    → Partway state seen before now records at entries → at < length (history_bytes records) → RecordAt records at framed next → ((r : Rec) → AreFramed framed r → ScribeGrows state now after (r ∷ []))
    → ListsEntry state (seen_later seen (state now.store)) now framed entries more → after.plan.blocks + length entries ≡ now.plan.blocks + length more → KeepsOn (state now.store).held (state after.store).held
    → after.plan.phase ≡ phases.Going → Holds after.plan.blocks after.plan.bytes → (state after.store).faults ≡ (state now.store).faults → Partway state seen before after records next more
step state seen before now after records at next framed entries more same kept way less found grows lists counts keeps going holds still =
    let below = some_left records at way.count way.within way.place less in
    let one = next_of records at next way.count framed kept below way.place found in
    let held : KeepsOn seen.held (state now.store).held = subst (λ (o : Option (List ℕ)). KeepsOn o (state now.store).held) (sym same) way.keeps in
    let old = way.counted in
    record {
      count = suc way.count;
      within = omega (arith, below);
      place = (found way.count below way.place).behind;
      going = going;
      holds = holds;
      still = still ∙ way.still;
      keeps = keeps_more (state before.store).held (state now.store).held (state after.store).held way.keeps keeps;
      counted = omega (arith, counts, old);
      grows = subst (λ (l : List Rec). ScribeGrows state before after l) (sym one.more) (grows_on state before now after (take way.count records) (one.rec ∷ []) way.grows (grows one.rec one.framed_is));
      gives = λ options extras opened history writes.
          subst (λ (l : List Rec). GivesEntries seen options history l more) (sym one.more)
          (entries_more seen (state now.store) options history (take way.count records) one.rec entries more lists.given held (way.gives options extras opened history writes) lists.listed
          (lists.entry one.rec one.framed_is options extras opened (history ++ take way.count records) (way.grows options extras opened history writes)));
    }

-- ---- the end of the walk

pub all_grows : {L X : Type 0} (state : L → LiveState) (seen : SeenExtents X) (before now : Scribe L) (records : List Rec) (at : ℕ) (entries : List (Entry X)) → Partway state seen before now records at entries → (at < length (history_bytes records) → ⊥)
    → ScribeGrows state before now records
all_grows state seen before now records at entries way none =
    let all = all_put records at way.count way.within way.place none in
    subst (λ (l : List Rec). ScribeGrows state before now l) (take_all way.count records (omega (arith, all))) way.grows

-- all records were put
pub all_front : {L X : Type 0} (state : L → LiveState) (seen : SeenExtents X) (before now : Scribe L) (records : List Rec) (at : ℕ) (entries : List (Entry X)) → Partway state seen before now records at entries → (at < length (history_bytes records) → ⊥)
    → OfEach state before (λ options history. PutsFront seen options history records entries now.plan.bytes (Ok tt))
all_front state seen before now records at entries way none options extras opened history writes = record {
  count = way.count;
  entries_are = way.gives options extras opened history writes;
  bytes_are = ((way.grows options extras opened history writes).0.going way.going).0.bytes;
  all = all_put records at way.count way.within way.place none;
  before = tt;
}

-- the record that begins there, framed
pub framed_there : (records : List Rec) (at next count : ℕ) (framed : List ℕ) → All IsKept records → count < length records → at ≡ length (history_bytes (take count records)) → RecordAt records at framed next → (r : Rec) × AreFramed framed r
framed_there records at next count framed kept less place found =
    let one = next_of records at next count framed kept less place found in
    (one.rec, one.framed_is)

-- the record there was refused, so that it and those behind it weren't put
pub front_stopped : {L X : Type 0} (state : L → LiveState) (seen : SeenExtents X) (before now : Scribe L) (records : List Rec) (at : ℕ) (entries more : List (Entry X)) (bytes : ℕ) (stop : Stop) → Partway state seen before now records at entries
    → at < length (history_bytes records) → more ≡ entries → bytes ≡ now.plan.bytes → OfEach state before (λ options history. PutsFront seen options history records more bytes (Err stop))
front_stopped state seen before now records at entries more bytes stop way less same same_bytes options extras opened history writes = record {
  count = way.count;
  entries_are = subst (λ (l : List (Entry _)). GivesEntries seen options history (take way.count records) l) (sym same) (way.gives options extras opened history writes);
  bytes_are = same_bytes ∙ ((way.grows options extras opened history writes).0.going way.going).0.bytes;
  all = tt;
  before = some_left records at way.count way.within way.place less;
}

pub stopped_grows : {L X : Type 0} (state : L → LiveState) (seen : SeenExtents X) (before now after : Scribe L) (records : List Rec) (at next : ℕ) (framed : List ℕ) (entries : List (Entry X)) (stop : Stop) → All IsKept records → Partway state seen before now records at entries
    → at < length (history_bytes records) → RecordAt records at framed next → ((r : Rec) → AreFramed framed r → ScribeGrows state now after (r ∷ [])) → after.plan.phase ≡ phases.Stopped stop → ScribeGrows state before after records
stopped_grows state seen before now after records at next framed entries stop kept way less found grows stopped options extras opened history writes =
    let below = some_left records at way.count way.within way.place less in
    let one = next_of records at next way.count framed kept below way.place found in
    let front = way.grows options extras opened history writes in
    let put = grows one.rec one.framed_is options extras opened (history ++ take way.count records) front in
    let rest = drop (suc way.count) records in
    let whole : ((history ++ take way.count records) ++ one.rec ∷ []) ++ rest ≡ history ++ records =
    ap (λ (l : List Rec). l ++ rest) (append_assoc history (take way.count records) (one.rec ∷ []) ∙ ap (λ (l : List Rec). history ++ l) (sym one.more))
    ∙ append_assoc history (take (suc way.count) records) rest
    ∙ ap (λ (l : List Rec). history ++ l) (take-append-drop (suc way.count) records) in
    subst (λ (l : List Rec). WritesHistory state options extras opened l after) whole
    (stopped_on options opened.held (state after.store).held ((history ++ take way.count records) ++ one.rec ∷ []) rest after.plan stop stopped put.0, put.1, put.2)

-- the same front, told by other names
pub front_so : {L X : Type 0} (state : L → LiveState) (seen : SeenExtents X) (before : Scribe L) (records : List Rec) (entries entries' : List (Entry X)) (bytes : ℕ) (end end' : Result Unit Stop) → entries' ≡ entries → end' ≡ end
    → OfEach state before (λ options history. PutsFront seen options history records entries bytes end) → OfEach state before (λ options history. PutsFront seen options history records entries' bytes end')
front_so state seen before records entries entries' bytes end end' same_entries same_end front options extras opened history writes =
    subst (λ (l : List (Entry _)). PutsFront seen options history records l bytes end') (sym same_entries)
    (subst (λ (e : Result Unit Stop). PutsFront seen options history records entries bytes e) (sym same_end) (front options extras opened history writes))
