-- What a replay comes to by its steps.
use Rattle.std.proofs.Common.{◌≡◌, ℕ, ◌+◌, ◌-◌, ◌^◌, ◌<◌, ◌≤◌, Option, None, Result, Ok, Err, List, [], ◌∷◌, length, drop, sym, ap, inl, inr, ◌∙◌, arith}
use Rattle.std.specs.Prelude.{◌≢◌, ◌==◌, slice_get}
use Rattle.std.proofs.lemmas.Bool.{eq-eqb}
use Rattle.std.proofs.lemmas.List.{length-drop, length-take-le}
use Rattle.mcap_wire.specs.Layout.{part}
use Rattle.mcap_model.specs.declared.replay.Range.{Range}
use Rattle.mcap_model.specs.declared.replay.Replayed.{Replayed}
use Rattle.mcap_model.specs.Places.{Has, Each}
use Rattle.mcap_model.specs.Tops.{Top, top_bytes, spelled}
use Rattle.mcap_model.specs.Kept.{reading_limits, at_end, Halts}
use Rattle.mcap_model.specs.Scan.{Seen, Scan}
use Rattle.mcap_model.specs.Valid.{IsFullyIndexed}
use Rattle.mcap_model.specs.Led.{HasSummary, IsThere}
use Rattle.mcap_model.proofs.Places.{at_none}
use Rattle.mcap_model.proofs.Lists.{filter_has}
use Rattle.mcap_model.proofs.Readings.{length-top}
use Rattle.mcap_laws.proofs.Leading.{section_first, led_replays_are_scans}
use Rattle.summary_read.specs.Reached.{HasNoSummary, SummaryStartsAt}
use Rattle.summary_read.specs.Parts.{Parts, IsLoaded, of_kind}
use Rattle.summary_read.specs.Loading.{IsLoadRefused, LoadCause, AskedFor}
use Rattle.mcap_model.specs.declared.refusals.NotIndexed.{NotIndexed}
use Rattle.mcap_model.specs.declared.refusals.NotIndexed.TheVariants as lacks
use Rattle.mcap_model.specs.declared.refusals.ReadingRefused.TheVariants as refusals
use Rattle.mcap_model.specs.declared.refusals.IndexedRefused.{IndexedRefused}
use Rattle.mcap_model.specs.declared.refusals.IndexedRefused.TheVariants as by_index
use Rattle.indexed_replay.specs.Reaching.{IsNotIndexed, at_loading, while_loading, nothing, AskedBeside}
use Rattle.indexed_replay.specs.Replaying.{IsReason, FileIsLed, SaysNoSummary, IsScanReplayed, PlayedStatesChunks, ReplayCause}
use Rattle.indexed_replay.specs.Played.{PartsAgree}
use Rattle.indexed_replay.specs.LoadedReplays.{CountsJudged}
use Rattle.indexed_replay.proofs.Headed.{there_begun}
use Rattle.indexed_replay.proofs.Full.{none_refuses}
use Rattle.indexed_replay.proofs.Summed.{loaded_summary, start_same}

-- ---- refusals

pub load_reason : (file : List ℕ) (range : Range) (why : IndexedRefused) → IsLoadRefused file why → IsReason file range why
load_reason file range (by_index.NotIndexed lacks.NoSummary) is = is.1
load_reason file range (by_index.NotIndexed lacks.NoStatistics) is = absurd is.0
load_reason file range (by_index.NotIndexed (lacks.ChunkCount stated found)) is = absurd is.0
load_reason file range (by_index.NotIndexed (lacks.NoMessageIndex chunk)) is = absurd is.0
load_reason file range (by_index.NotIndexed (lacks.NoChannel id)) is = absurd is.0
load_reason file range (by_index.Refused (refusals.Fault faults)) is = tt
load_reason file range (by_index.Refused (refusals.Grammar offset rule)) is = at_loading rule offset is.0
load_reason file range (by_index.Refused (refusals.Compressed offset name)) is = absurd is
load_reason file range (by_index.Refused (refusals.Limit offset)) is = while_loading offset is.0
load_reason file range (by_index.Refused refusals.Memory) is = tt

-- a loading fails as a replay does
pub load_cause : (P X : Type 0) (before now : ℕ) (why : IndexedRefused) → LoadCause {P = P} before now (Err why) → ReplayCause {P = X} before now (Err why)
load_cause P X before now (by_index.NotIndexed why) cause = cause.1
load_cause P X before now (by_index.Refused (refusals.Fault faults)) cause = cause
load_cause P X before now (by_index.Refused (refusals.Grammar offset rule)) cause = cause
load_cause P X before now (by_index.Refused (refusals.Compressed offset name)) cause = absurd cause
load_cause P X before now (by_index.Refused (refusals.Limit offset)) cause = cause
load_cause P X before now (by_index.Refused refusals.Memory) cause = cause

-- of a file without a summary that is told
pub load_unsummed : (file : List ℕ) (why : IndexedRefused) → IsLoadRefused file why → HasNoSummary file → SaysNoSummary (Err why)
load_unsummed file (by_index.NotIndexed why) is none = is.0
load_unsummed file (by_index.Refused (refusals.Fault faults)) is none = tt
load_unsummed file (by_index.Refused (refusals.Grammar offset rule)) is none = is.1 none
load_unsummed file (by_index.Refused (refusals.Compressed offset name)) is none = is
load_unsummed file (by_index.Refused (refusals.Limit offset)) is none = is.1 none
load_unsummed file (by_index.Refused refusals.Memory) is none = tt

none_first : (xs : List Top) → slice_get (of_kind 11 xs) 0 ≡ None → Each (λ t. t.op ≢ 11) xs
none_first xs none n t at = λ kind. by (of_kind 11 xs) none (filter_has (λ (u : Top). u.op == 11) xs n t at (eq-eqb t.op 11 kind))
  where
    by : (l : List Top) → slice_get l 0 ≡ None → Has l t → ⊥
    by [] is has = at_none has.0 t has.1
    by (x ∷ l) is has = cc

pub counts_reason : (file : List ℕ) (range : Range) (p : Parts) (why : NotIndexed) → IsLoaded file p → CountsJudged p (Err why) → IsNotIndexed file range why
counts_reason file range p lacks.NoSummary l judged = absurd judged
counts_reason file range p lacks.NoStatistics l judged = let listed = l.listed in ((p.footer).summary_start, l.tops, l.starts, loaded_summary file p l, none_first l.tops (sym listed.statistics ∙ judged))
counts_reason file range p (lacks.ChunkCount stated found) l judged =
    let listed = l.listed in
    record {
      start = (p.footer).summary_start;
      summary = l.tops;
      has = loaded_summary file p l;
      statistics = judged.statistics;
      first = sym listed.statistics ∙ judged.first;
      shown = judged.shown;
      is = judged.is;
      stated_is = judged.stated_is;
      found_is = judged.found_is ∙ ap length listed.chunk_indexes;
      differ = judged.differ;
    }
counts_reason file range p (lacks.NoMessageIndex chunk) l judged = absurd judged
counts_reason file range p (lacks.NoChannel id) l judged = absurd judged

-- ---- fully indexed files

pub scan_replayed : (file : List ℕ) (tops : List Top) (end : ℕ) (messages : List Seen) (range : Range) (topic : Option (List ℕ)) (result : Result Replayed IndexedRefused) → length file < 2 ^ 64 → IsFullyIndexed file → Halts reading_limits file tops (at_end end) → Scan tops messages
    → FileIsLed file range topic result → IsScanReplayed range topic messages result
scan_replayed file tops end messages range topic (Ok played) few full halts scan led = (led.shown, (led_replays_are_scans file tops end messages range full halts scan topic led.shown).0 led.replay, led.shows)
scan_replayed file tops end messages range topic (Err why) few (all, full) halts scan is =
    let valid = full.valid in
    let (more, joined, ended) = section_first file all tops end valid.v4 halts in
    none_refuses file all full tops more joined ended messages scan range few topic why is

-- ---- what is asked for

start_once : (file : List ℕ) (start other : ℕ) (summary : List Top) → HasSummary file start summary → SummaryStartsAt file other → (other ≡ start) × (start + 37 ≤ length file)
start_once file start other summary has starts =
    let starts_same = start_same file start summary starts.footer has starts.ends in
    let named = starts.named in
    let before = starts.before in
    (omega (arith, named, starts_same), omega (arith, named, starts_same, before))

pub asked_loaded : (file : List ℕ) (start : ℕ) (summary : List Top) (header : Top) (before mid now extra : ℕ) → HasSummary file start summary → IsThere file 8 header → AskedFor file before mid → now ≤ mid + extra → now ≤ before + (8 + length (top_bytes header) + 37 + length (spelled summary)) + extra
asked_loaded file start summary header before mid now extra has there (inl few) more = omega (arith, few, more, length-top header)
asked_loaded file start summary header before mid now extra has there (inr (other, starts, few)) more =
    let once = start_once file start other summary has starts in
    let begun = there_begun file 8 header there in
    let part_size : length (part start (length file - 37) file) ≡ length file - 37 - start = length-take-le (length file - 37 - start) (drop start file) (omega (arith, length-drop start file)) in
    omega (arith, once.0, once.1, begun.1, length-top header, part_size, ap length has.records, few, more)

-- what was asked for of a summary that isn't played
pub asked_unplayed : (file : List ℕ) (range : Range) (start : ℕ) (summary : List Top) (header : Top) (first before mid cost : ℕ) → HasSummary file start summary → IsThere file 8 header → AskedFor file before mid → before ≤ first → AskedBeside file range first mid (8 + length (top_bytes header) + 37 + length (spelled summary) + cost)
asked_unplayed file range start summary header first before mid cost has there asked less =
    (0, nothing, let few = asked_loaded file start summary header before mid mid 0 has there asked (omega arith) in omega (arith, few, less))

-- and of one that is played
pub asked_played : (file : List ℕ) (range : Range) (start : ℕ) (summary : List Top) (header : Top) (first before mid now cost : ℕ) → HasSummary file start summary → IsThere file 8 header → AskedFor file before mid → before ≤ first → AskedBeside file range mid now cost
    → AskedBeside file range first now (8 + length (top_bytes header) + 37 + length (spelled summary) + cost)
asked_played file range start summary header first before mid now cost has there asked less (beside, is, more) =
    (beside, is, let few = asked_loaded file start summary header before mid now (cost + beside) has there asked (omega (arith, more)) in omega (arith, few, less))

-- ---- how many chunks are stated

pub counts_agree : (file : List ℕ) (p : Parts) (result : Result Replayed IndexedRefused) → IsLoaded file p → PartsAgree p → PlayedStatesChunks file result
counts_agree file p (Ok played) l agrees =
    let listed = l.listed in
    record {
      start = (p.footer).summary_start;
      summary = l.tops;
      has = loaded_summary file p l;
      statistics = agrees.statistics;
      first = sym listed.statistics ∙ agrees.first;
      shown = agrees.shown;
      is = agrees.is;
      agree = agrees.agree ∙ ap length listed.chunk_indexes;
    }
counts_agree file p (Err why) l agrees = tt
