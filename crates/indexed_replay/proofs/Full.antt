-- On a fully indexed file that is read to its Data End no reason holds to refuse a replay, but for a failed store, a limit
-- and memory.
use Rattle.std.proofs.Common.{◌≡◌, ℕ, ◌+◌, ◌^◌, ◌<◌, Bool, List, [], ◌∷◌, ◌++◌, length, take, drop, refl, sym, ap, subst, ◌∙◌, eqb, arith}
use Rattle.std.specs.Prelude.{◌≢◌, ◌==◌, Option, Err, if◌then◌else◌}
use Rattle.std.specs.List.{list_any}
use Rattle.std.proofs.lemmas.Bool.{eq-eqb}
use Rattle.mcap_model.specs.declared.replay.Range.{Range}
use Rattle.mcap_model.specs.Places.{At, Has, Each}
use Rattle.mcap_model.specs.Tops.{Top, inner_tops, is_chunk, is_flat_kind, flattened, flat}
use Rattle.mcap_model.specs.Fields.{MessageFields, IsMessage, IsMessageIndex, ChunkIndexFields, IsChunkIndex}
use Rattle.mcap_model.specs.Rules.{HasDataEnd}
use Rattle.mcap_model.specs.Kept.{NamesCompression}
use Rattle.mcap_model.specs.Scan.{Seen, Scan}
use Rattle.mcap_model.specs.Whole.{offset_of, offset_among, IsWhole, IsEntryOf, ChunkIndexIsRight}
use Rattle.mcap_model.specs.Valid.{Valid, FullyIndexed}
use Rattle.mcap_model.specs.Led.{HasSummary, IsThere}
use Rattle.mcap_model.proofs.Places.{at_kept}
use Rattle.mcap_model.proofs.Lists.{at_second, cut_flat, filter_has, filter_passed}
use Rattle.mcap_model.proofs.Flat.{named_or}
use Rattle.mcap_model.proofs.TakenRecords.{ended_front}
use Rattle.mcap_laws.proofs.Leading.{Ends, ends_of, summary_of, in_summary, from_summary, summary_there, from_there, there_same, is_there, opened, named_of, index_right, index_stands}
use Rattle.summary_read.specs.Parts.{of_kind}
use Rattle.mcap_model.specs.declared.refusals.NotIndexed.{NotIndexed}
use Rattle.mcap_model.specs.declared.refusals.NotIndexed.TheVariants as lacks
use Rattle.mcap_model.specs.declared.refusals.ReadingRefused.TheVariants as refusals
use Rattle.mcap_model.specs.declared.refusals.IndexedRefused.{IndexedRefused}
use Rattle.mcap_model.specs.declared.refusals.IndexedRefused.TheVariants as by_index
use Rattle.indexed_replay.specs.Reaching.{HasChunkIndex, IsReached, NamesOffset, LeadsTo, LacksChunk, LacksIndex, LacksMessage, IsElsewhere, BreaksByIndex, at_loading, second_index, no_chunk, no_index, index_elsewhere, IsApart, index_apart, LeadsNowhere, no_message, ReachesPacked, CountsDiffer, NamesNone, LacksChannel, IsNotIndexed}
use Rattle.indexed_replay.specs.Replaying.{IsReason, IsScanReplayed}
use Rattle.indexed_replay.proofs.Summed.{summary_once}
use Rattle.indexed_replay.proofs.Right as right_index
use Rattle.indexed_replay.proofs.Counted.{statistics_count}
use Rattle.mcap_model.proofs.Flaws.{flaws_exclude_validity}
use Rattle.mcap_model.specs.declared.rules.Rule.{Rule}
use Rattle.mcap_model.specs.declared.rules.Rule.TheVariants as rules
use Rattle.indexed_replay.specs.Laws.{IsReadable}
use Rattle.indexed_replay.proofs.Flawing.{breaks_tell}
use Rattle.indexed_replay.proofs.Sound.{some_summary, none_fails}

-- a record in a chunk is among the flat ones
flat_has : (tops : List Top) (c j : ℕ) (chunk u : Top) → At tops c chunk → chunk.op ≡ 6 → At (inner_tops chunk) j u → u.op ≡ 5 → Has (flat tops) u
flat_has tops c j chunk u at six here five =
    let (more, all) = cut_flat flattened tops c chunk at in
    let front = flat (take c tops) in
    let (n, there) = filter_has is_flat_kind (if is_chunk chunk then inner_tops chunk else chunk ∷ []) j u
    (subst (λ (b : Bool). At (if b then inner_tops chunk else chunk ∷ []) j u) (sym (eq-eqb chunk.op 6 six)) here)
    (ap (λ (op : ℕ). list_any (λ kind. eqb kind op) (3 ∷ 4 ∷ 5 ∷ [])) five) in
    (length front + n, subst (λ (l : List Top). At l (length front + n) u) (sym all) (at_second front (flattened chunk ++ flat more) n u (at_kept (flattened chunk) (flat more) n u there)))

-- the chunk that a Chunk Index leads to
pub record OfChunk (file : List ℕ) (tops : List Top) (f : ChunkIndexFields) : Type 0 where
  pub place : ℕ
  pub index : Top
  pub at : At tops place index
  pub is : IsChunkIndex index f
  pub right : ChunkIndexIsRight tops place f
  pub there : IsThere file f.offset right.chunk
  pub plain : (right.shown).compression ≡ []

-- the message that an entry leads to
record OfEntry (file : List ℕ) (tops : List Top) (f : ChunkIndexFields) (channel : ℕ) (entry : ℕ × ℕ) : Type 0 where
  top : Top
  message : MessageFields
  is : IsMessage top channel message
  time : entry.0 ≡ message.log_time
  there : IsThere file (f.offset + 49 + entry.1) top
  flat_there : Has (flat tops) top

module _ (file : List ℕ) (tops : List Top) (full : FullyIndexed file tops) (section more : List Top) (joined : tops ≡ section ++ more) (ended : HasDataEnd section) (messages : List Seen) (scan : Scan section messages) (range : Range) where
  valid : Valid file tops
  valid = full.valid

  whole : IsWhole file tops
  whole = let v = valid in v.v4

  abbrev e : Ends tops
  e = ends_of file tops full

  -- the file's summary
  summary_is : (start : ℕ) (summary : List Top) → HasSummary file start summary → summary ≡ summary_of e
  summary_is start summary has = let ends = e in summary_once file start ends.start summary (summary_of ends) has (summary_there file tops whole ends)

  pub of_chunk : (spot : ℕ) (f : ChunkIndexFields) → HasChunkIndex file spot f → OfChunk file tops f
  of_chunk spot f h =
      let at_i = subst (λ (l : List Top). At l h.place h.index) (summary_is h.start h.summary h.has) h.indexed in
      let (n, at) = from_summary tops e h.place h.index at_i in
      let v = valid in
      let rule = v.v12 in
      let right = rule n h.index at f h.is in
      let of = right.is in
      let (rest, stands) = from_there file tops right.k right.chunk whole of.at in
      let w = whole in
      let short = w.short in
      let all_plain = v.plain in
      record {
        place = n;
        index = h.index;
        at = at;
        is = h.is;
        right = right;
        there = is_there file f.offset right.chunk rest (ap (λ (o : ℕ). drop o file) of.offset ∙ stands) (short right.k right.chunk of.at);
        plain = named_or right.chunk right.shown (right.shown).compression of.is refl (all_plain right.k right.chunk of.at);
      }

  -- ---- where Chunk Indexes lead

  some_chunk : (spot : ℕ) (f : ChunkIndexFields) → IsReached file range spot f → LacksChunk file f.offset → ⊥
  some_chunk spot f reached lacks = let c = of_chunk spot f reached.indexed in right_index.some_chunk file tops whole c.place f c.right lacks

  none_packed : (offset : ℕ) (name : List ℕ) → ReachesPacked file range offset name → ⊥
  none_packed offset name packed =
      let f = packed.index in
      let reached = packed.reached in
      let c = of_chunk packed.at f reached.indexed in
      let right = c.right in
      let of = right.is in
      let there = c.there in
      let stands = there.stands in
      let same = there_same file f.offset right.chunk packed.chunk stands.rest stands.there there.short (subst (λ (o : ℕ). IsThere file o packed.chunk) (sym packed.place) packed.there) in
      let v = valid in
      let plain = v.plain in
      plain right.k right.chunk of.at name (subst (λ (t : Top). NamesCompression t name) same packed.packed)

  some_index : (spot : ℕ) (f : ChunkIndexFields) (channel offset : ℕ) → NamesOffset file range spot f channel offset → LacksIndex file channel offset → ⊥
  some_index spot f channel offset names lacks = let reached = names.reached in let c = of_chunk spot f reached.indexed in right_index.some_index file tops whole c.place f c.right channel offset names.named lacks

  -- a Message Index that a map names stands behind the chunk, within the bytes that the Chunk Index states
  none_elsewhere : (spot : ℕ) (f : ChunkIndexFields) (channel offset : ℕ) → NamesOffset file range spot f channel offset → IsElsewhere file f offset → ⊥
  none_elsewhere spot f channel offset names elsewhere = let reached = names.reached in let c = of_chunk spot f reached.indexed in right_index.none_elsewhere file tops whole c.place f c.right channel offset names.named elsewhere

  -- up to it stand Message Indexes alone
  none_apart : (spot : ℕ) (f : ChunkIndexFields) (channel offset : ℕ) → NamesOffset file range spot f channel offset → IsApart file f offset → ⊥
  none_apart spot f channel offset names apart = let reached = names.reached in let c = of_chunk spot f reached.indexed in right_index.none_apart file tops whole c.place f c.right channel offset names.named apart

  of_entry : (spot : ℕ) (f : ChunkIndexFields) (channel offset : ℕ) (entry : ℕ × ℕ) → LeadsTo file range spot f channel offset entry → OfEntry file tops f channel entry
  of_entry spot f channel offset entry leads =
      let names = leads.names in
      let reached = names.reached in
      let c = of_chunk spot f reached.indexed in
      let right = c.right in
      let of = right.is in
      let is_six = of.is in
      let (others, named) = named_of tops right.k f channel offset right.names names.named in
      let (rest, stands, short) = index_stands file tops full section more joined ended messages scan range right.k named.place offset named.top named.at named.there in
      let same = there_same file offset named.top leads.list rest stands short leads.there in
      let entries = index_right file tops full section more joined ended messages scan range right.k named.place right.chunk named.top channel leads.entries of.at is_six.kind named.at (subst (λ (t : Top). IsMessageIndex t channel leads.entries) same leads.is) in
      let are = entries.are in
      let found : IsEntryOf (inner_tops right.chunk) channel entry = are entry leads.entry_there in
      let chunk = opened file tops right.k right.chunk right.shown valid of.at of.is in
      let behind = chunk.behind in
      let all_short = chunk.short in
      let (after, here) = behind found.place found.top found.at in
      let is = found.is in
      let offset_is : f.offset + 49 + entry.1 ≡ offset_of tops right.k + 49 + offset_among (inner_tops right.chunk) found.place = omega (arith, of.offset, found.offset) in
      record {
        top = found.top;
        message = found.message;
        is = is;
        time = found.time;
        there = is_there file (f.offset + 49 + entry.1) found.top after (ap (λ (o : ℕ). drop o file) offset_is ∙ here) (all_short found.place found.top found.at);
        flat_there = flat_has tops right.k found.place right.chunk found.top of.at is_six.kind found.at is.kind;
      }

  some_message : (spot : ℕ) (f : ChunkIndexFields) (channel offset : ℕ) (entry : ℕ × ℕ) → LeadsTo file range spot f channel offset entry → LacksMessage file f.offset channel entry → ⊥
  some_message spot f channel offset entry leads lacks = let m = of_entry spot f channel offset entry leads in lacks m.top m.message m.there m.is (sym m.time)

  pub none_astray : (spot : ℕ) (f : ChunkIndexFields) (channel offset : ℕ) → LeadsNowhere file range spot f channel offset → ⊥
  none_astray spot f channel offset nowhere = some_message spot f channel offset nowhere.entry nowhere.leads nowhere.lacks

  some_channel : (id : ℕ) → LacksChannel file range id → ⊥
  some_channel id lacks =
      let m = of_entry lacks.at lacks.index id lacks.offset lacks.entry lacks.leads in
      let channels = full.channels in
      let (n, at) = m.flat_there in
      let has = channels n id m.top m.message at m.is in
      let shows = has.is in
      let within = has.within in
      let (i, at_i) = subst (λ (l : List Top). Has l has.top) (sym (summary_is lacks.start lacks.summary lacks.has)) (in_summary tops e has.place has.top has.at within.0 (λ two. omega (arith, shows.kind, two))) in
      let none = lacks.none in
      none i has.top at_i has.shown has.is

  some_names : (chunk : ℕ) → NamesNone file range chunk → ⊥
  some_names chunk none =
      let reached = none.reached in
      let c = of_chunk none.at none.index reached.indexed in
      let empty = full.empty_maps in
      let timed = none.timed in
      timed (empty c.place c.index none.index c.at c.is none.none)

  -- ---- the summary

  some_statistics : (start : ℕ) (summary : List Top) → HasSummary file start summary → Each (λ t. t.op ≢ 11) summary → ⊥
  some_statistics start summary has none =
      let (n, t, at, within, eleven) = full.statistics in
      let (i, there) = subst (λ (l : List Top). Has l t) (sym (summary_is start summary has)) (in_summary tops e n t at within.0 (λ two. omega (arith, eleven, two))) in
      none i t there eleven

  counts_same : (stated found : ℕ) → CountsDiffer file stated found → ⊥
  counts_same stated found counts =
      let same = summary_is counts.start counts.summary counts.has in
      let has = (filter_passed (λ (t : Top). t.op == 11) counts.summary 0 counts.statistics counts.first).0 in
      let count = statistics_count file tops full (subst HasDataEnd (sym joined) (ended_front section more ended)) counts.statistics counts.shown (subst (λ (l : List Top). Has l counts.statistics) same has) counts.is in
      let differ = counts.differ in
      differ (counts.stated_is ∙ count ∙ sym (counts.found_is ∙ ap (λ (l : List Top). length (of_kind 8 l)) same))

  -- ---- all reasons

  none_lacks : (why : NotIndexed) → IsNotIndexed file range why → ⊥
  none_lacks lacks.NoSummary none = some_summary file tops full none
  none_lacks lacks.NoStatistics (start, summary, starts, has, none) = some_statistics start summary has none
  none_lacks (lacks.ChunkCount stated found) counts = counts_same stated found counts
  none_lacks (lacks.NoMessageIndex chunk) none = some_names chunk none
  none_lacks (lacks.NoChannel id) none = some_channel id none

  readable : IsReadable file tops
  readable =
      let v = valid in
      let rule = v.v12 in
      record {
        ordered = record { whole = v.v4; footer = v.v17; order = v.v11 };
        layouts = v.v6;
        chunks = v.v8;
        plain = v.plain;
        lead = λ n t f at is. let right = rule n t at f is in let of = right.is in (right.chunk, (right.k, of.at, of.offset));
      }

  none_breaks : length file < 2 ^ 64 → (rule : Rule) (offset : ℕ) → BreaksByIndex file range rule offset → ⊥
  none_breaks few rule offset (at_loading number place fails) = none_fails file tops full few number place fails
  none_breaks few rule offset (second_index first spot less two) = flaws_exclude_validity file rules.V12 spot (breaks_tell file tops range readable (some_summary file tops full) few rules.V12 spot (second_index first spot less two)) (tops, valid)
  none_breaks few rule offset (no_chunk spot f reached none) = some_chunk spot f reached none
  none_breaks few rule offset (no_index spot f channel place names none) = some_index spot f channel place names none
  none_breaks few rule offset (index_elsewhere spot f channel place names elsewhere) = none_elsewhere spot f channel place names elsewhere
  none_breaks few rule offset (index_apart spot f channel place names apart) = none_apart spot f channel place names apart
  none_breaks few rule offset (no_message spot f channel place nowhere own) = none_astray spot f channel place nowhere

  pub none_refuses : length file < 2 ^ 64 → (topic : Option (List ℕ)) (why : IndexedRefused) → IsReason file range why → IsScanReplayed range topic messages (Err why)
  none_refuses few topic (by_index.NotIndexed why) is = none_lacks why is
  none_refuses few topic (by_index.Refused (refusals.Fault faults)) is = tt
  none_refuses few topic (by_index.Refused (refusals.Grammar offset rule)) is = none_breaks few rule offset is
  none_refuses few topic (by_index.Refused (refusals.Compressed offset name)) is = none_packed offset name is
  none_refuses few topic (by_index.Refused (refusals.Limit offset)) is = tt
  none_refuses few topic (by_index.Refused refusals.Memory) is = tt
