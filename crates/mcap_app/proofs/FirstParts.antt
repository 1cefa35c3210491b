-- What is recovered of a first part of the file of a recording.
use Rattle.std.proofs.Common.{◌≡◌, ◌⊎◌, ℕ, zero, suc, ◌+◌, ◌-◌, ◌<◌, ◌≤◌, ◌^◌, true, List, [], ◌∷◌, ◌++◌, length, take, drop, Option, Some, None, Err, refl, sym, ap, subst, inl, inr, ◌∙◌, append_assoc, arith}
use Rattle.std.specs.Prelude.{IsUtf8, filter}
use Rattle.std.specs.List.{flat_map}
use Rattle.std.proofs.lemmas.Bool.{both_ways, cases_lt}
use Rattle.std.proofs.lemmas.List.{take-append-drop}
use Rattle.std.proofs.lemmas.Grind.{flat_map-append}
use Rattle.std.proofs.lemmas.Option.{same_Some}
use Rattle.mcap_wire.specs.Layout.{framed, magic}
use Rattle.mcap_wire.specs.Limits.{file_limit}
use Rattle.mcap_wire.specs.RecordingLimits.{profile_limit}
use Rattle.rec_data.specs.Records.{header_text}
use Rattle.rec_data.proofs.Contents.{length-header_text}
use Rattle.rec_data.specs.declared.owned.Rec.{Rec}
use Rattle.mcap_io.specs.Outside.{WorldState, Told}
use Rattle.mcap_model.specs.declared.ends.End.TheVariants as ends
use Rattle.mcap_model.specs.declared.ends.Stop.TheVariants as stops
use Rattle.mcap_model.specs.declared.options.FileOptions.{FileOptions}
use Rattle.mcap_model.specs.Places.{At, Each}
use Rattle.mcap_model.specs.Tops.{Top, offset_behind}
use Rattle.mcap_model.specs.Rules.{V1}
use Rattle.mcap_model.specs.Kept.{Halt, at_end, grammar, compressed, beyond}
use Rattle.mcap_model.specs.Readings.{SameHalt}
use Rattle.mcap_model.specs.History.{is_message, Follows, Numbered, without_repeats}
use Rattle.mcap_model.specs.Blocks.{Piece, blocks_in, pieces_of}
use Rattle.mcap_model.specs.File.{front as front_bytes, library, file_of, IsPrefix}
use Rattle.mcap_model.specs.Repaired.{Repairs}
use Rattle.mcap_model.specs.Laws.{IsInner}
use Rattle.mcap_model.specs.Recovery.{piece_records}
use Rattle.mcap_laws.specs.Parts.{CanBeReadInPart, PartIsRepaired, PartsAreRepaired}
use Rattle.mcap_model.proofs.Places.{at_none, at_kept, each_front}
use Rattle.mcap_model.proofs.Histories.{numbered_ids_agree}
use Rattle.mcap_model.proofs.Halting.{readings_halt_once}
use Rattle.mcap_model.proofs.Asides.{body_whole, no_extras}
use Rattle.mcap_model.proofs.Section.{held, each_held, pieces_body}
use Rattle.mcap_model.proofs.WrittenChunks.{empty_utf8}
use Rattle.mcap_model.proofs.Readings.{kept_once}
use Rattle.mcap_model.proofs.Repairs.{repairs_once}
use Rattle.record_cache.specs.KeptRecords.{IsKept}
use Rattle.chunk_writer.specs.Limits.{FileHolds}
use Rattle.mcap_app.proofs.Succeeding.{unlimited}
use Rattle.chunk_writer.specs.declared.tape.Written.{Written}
use Rattle.chunk_writer.specs.Stops.{StopsAt}
use Rattle.recorder.specs.Laws.{ReadsAs}
use Rattle.recorder.specs.Recorded.{Sides, sides, Recorded, AreReadable}
use Rattle.mcap_model.specs.declared.options.RecordOptions.{RecordOptions}
use Rattle.recorder.specs.declared.report.Report.{Report}
use Rattle.recorder.proofs.Inners.{recorded_inner}
use Rattle.recorder.proofs.ReadBack.{recs_back, extras_kept, pieces_short, IsClosedFile, closed_file, files_read_back}
use Rattle.recorder.proofs.Validity.{can_be_written, files_sound}
use Rattle.mcap_recover.specs.declared.answers.Why.{Why}
use Rattle.mcap_recover.specs.declared.answers.Why.TheVariants as whys
use Rattle.mcap_model.specs.declared.refusals.ReadingRefused.TheVariants as scans
use Rattle.mcap_model.specs.declared.rules.Rule.TheVariants as rules
use Rattle.mcap_recover.specs.declared.answers.RecoverRefused.TheVariants as refusals
use Rattle.record_keeping.specs.NewFiles.{recovered_options}
use Rattle.mcap_recover.specs.Recovering.{TellsHalt}
use Rattle.command_base.specs.declared.statuses.Status.{Status}
use Rattle.command_base.specs.declared.statuses.Status.TheVariants as statuses
use Rattle.command_base.specs.Ran.{Scene, counts_in, AnyRose}
use Rattle.command_write.specs.declared.recovering.Recovery.{Recovery}
use Rattle.command_write.specs.declared.recovering.Recovery.TheVariants as recoveries
use Rattle.command_write.specs.Recover.{HoldsRecovered, RecoveryDecides, RecoversFile}
use Rattle.command_record.proofs.Held.{stands_first}
use Rattle.command_record.specs.Record.{back_sources}
use Rattle.command_record.specs.RecordSteps.{AreAllowed}
use Rattle.mcap_app.specs.Laws.{IsChunkSize, IsFirstPart, FitsWritingLimits, records_in_pieces, KeepsFirst, RecoversFirst, PassesWritingLimit, RecordingsLeaveFirstParts, RecordingsAreRecovered}
use Rattle.mcap_app.proofs.Recordings.{Recording, of_watched}
use Rattle.mcap_app.proofs.Unrepeated.{unrepeated}
use Rattle.mcap_app.proofs.Sound.{IsExact, found_sound}
use Rattle.mcap_app.proofs.Recovered.{reached, made}

-- ---- what is kept of the history

take_none : {X : Type 0} (n : ℕ) (xs : List X) → xs ≡ [] → take n xs ≡ []
take_none zero xs none = refl
take_none (suc n) xs none = ap (take (suc n)) none

-- a recording's history: its ids are given in order, each record was kept in a buffer, and none is an extra
record AreRecorded (history : List Rec) : Type 0 where
  numbered : Numbered history
  kept : Each IsKept history
  inner : Each IsInner history

firsts_recorded : (first rest history : List Rec) → first ++ rest ≡ history → AreRecorded history → AreRecorded first
firsts_recorded first rest history parted are = record {
  numbered = each_front Follows first rest (subst Numbered (sym parted) are.numbered);
  kept = λ n r at. are.kept n r (subst (λ (l : List Rec). At l n r) parted (at_kept first rest n r at));
  inner = λ n r at. are.inner n r (subst (λ (l : List Rec). At l n r) parted (at_kept first rest n r at));
}

pieces_part : (n : ℕ) (pieces : List Piece) → flat_map piece_records (take n pieces) ++ flat_map piece_records (drop n pieces) ≡ flat_map piece_records pieces
pieces_part n pieces = sym (flat_map-append piece_records (take n pieces) (drop n pieces)) ∙ ap (λ (l : List Piece). flat_map piece_records l) (take-append-drop n pieces)

-- without extras the pieces hold the history
pieces_hold : (size span : Option ℕ) (history : List Rec) → Each IsInner history → held (pieces_of size span history) ≡ history
pieces_hold size span history inner =
    let pieces = pieces_of size span history in
    sym (body_whole (held pieces) (each_held IsInner size span history inner)) ∙ pieces_body size span history ∙ body_whole history inner

-- the records of the first pieces are some
record KeepsRecorded (options : FileOptions) (history : List Rec) (part : List ℕ) : Type 0 where
  keeps : KeepsFirst options history part
  are : AreRecorded keeps.front.first

keeps_first : (options : FileOptions) (history : List Rec) (part : List ℕ) → AreRecorded history → PartIsRepaired options [] history part → KeepsRecorded options history part
keeps_first options history part are front =
    let pieces = pieces_of options.chunk options.span history in
    let n = front.piece_count in
    let firsts = firsts_recorded (records_in_pieces options history n) (flat_map piece_records (drop n pieces)) history (pieces_part n pieces ∙ pieces_hold options.chunk options.span history are.inner) are in
    let some = records_in_pieces options history n in
    let same : front.first ≡ some = front.first_is ∙ ap without_repeats (body_whole some firsts.inner) ∙ unrepeated some firsts.numbered in
    record {
      keeps = record { front = front; none = front.kept_is ∙ ap (λ (l : List Top). l ++ take front.extra_count []) (no_extras some firsts.inner) ∙ take_none front.extra_count [] refl; records = same };
      are = subst AreRecorded (sym same) firsts;
    }

-- ---- the new file

readable_so : (profile : List ℕ) (chunk : ℕ) → IsUtf8 profile → length profile ≤ profile_limit → IsChunkSize chunk → AreReadable (recovered_options profile chunk)
readable_so profile chunk text few size = record {
  profile = text;
  short = omega (arith, few);
  size = λ n is. subst IsChunkSize (same_Some chunk n is) size;
}

-- its profile is that of the first file, or none
new_readable : (options : FileOptions) (history : List Rec) (part : List ℕ) (chunk : ℕ) (front : PartIsRepaired options [] history part) → IsUtf8 options.profile → length options.profile ≤ profile_limit → IsChunkSize chunk
    → AreReadable (recovered_options front.profile chunk)
new_readable options history part chunk front text few size = elim (cases_lt (length part) (length (front_bytes options.profile))) [
  | inl cut ↦ subst (λ (p : List ℕ). AreReadable (recovered_options p chunk)) (sym (front.no_header cut)) (readable_so [] chunk empty_utf8 (omega arith) size)
  | inr whole ↦ subst (λ (p : List ℕ). AreReadable (recovered_options p chunk)) (sym (front.header whole)) (readable_so options.profile chunk text few size)
]

-- a file of recorded records that is within the limits
abbrev closed_so : (options : FileOptions) (history : List Rec) → AreRecorded history → FitsWritingLimits options history
    → IsClosedFile options history (length (blocks_in (pieces_of options.chunk options.span history))) (length (file_of options [] history))
closed_so options history are within = record {
  numbered = are.numbered;
  kept = are.kept;
  few_extras = (let none = ap (λ (l : List Top). length l) (no_extras history are.inner) in omega (arith, none));
  within = within.holds;
  contents = within.contents;
  blocks_are = refl;
  bytes_are = refl;
}

file_same : (profile : List ℕ) (chunk : ℕ) (a b : List Top) (c d : List Rec) → a ≡ b → c ≡ d → file_of (recovered_options profile chunk) a c ≡ file_of (recovered_options profile chunk) b d
file_same profile chunk a b c d first second = ap (λ (l : List Top). file_of (recovered_options profile chunk) l c) first ∙ ap (λ (l : List Rec). file_of (recovered_options profile chunk) b l) second

-- ---- where the part ends

ends_same : (at n : ℕ) → at_end at ≡ at_end n → at ≡ n
ends_same at n e = cc

ended : (at : ℕ) (why : Why) (halt : Halt) (n : ℕ) → TellsHalt at why halt → SameHalt halt (at_end n) → (at ≡ n) × (why ≡ whys.Complete)
ended at whys.Complete halt n is same = (ends_same at n (subst (λ (h : Halt). SameHalt h (at_end n)) is same), refl)
ended at whys.Short halt n is same = absurd (subst (λ (h : Halt). SameHalt h (at_end n)) is same)
ended at whys.Grammar halt n (rule, is, other) same = absurd (subst (λ (h : Halt). SameHalt h (at_end n)) is same)
ended at whys.Compressed halt n (name, is) same = let apart : compressed at name ≡ at_end n = subst (λ (h : Halt). SameHalt h (at_end n)) is same in absurd cc
ended at whys.Limit halt n is same = let apart : beyond at ≡ at_end n = subst (λ (h : Halt). SameHalt h (at_end n)) is same in absurd cc

cut_short : (at : ℕ) (why : Why) (halt : Halt) (n : ℕ) → TellsHalt at why halt → SameHalt halt (grammar n rules.V4) → (at ≡ n) × (why ≡ whys.Short)
cut_short at whys.Complete halt n is same = absurd (subst (λ (h : Halt). SameHalt h (grammar n rules.V4)) is same)
cut_short at whys.Short halt n is same = let both : SameHalt (grammar at rules.V4) (grammar n rules.V4) = subst (λ (h : Halt). SameHalt h (grammar n rules.V4)) is same in (both.0, refl)
cut_short at whys.Grammar halt n (rule, is, other) same = let both : SameHalt (grammar at rule) (grammar n rules.V4) = subst (λ (h : Halt). SameHalt h (grammar n rules.V4)) is same in absurd (other (both.1.1 refl))
cut_short at whys.Compressed halt n (name, is) same = absurd (subst (λ (h : Halt). SameHalt h (grammar n rules.V4)) is same)
cut_short at whys.Limit halt n is same = absurd (subst (λ (h : Halt). SameHalt h (grammar n rules.V4)) is same)

beyond_limit : (at : ℕ) (why : Why) (halt : Halt) (n : ℕ) → TellsHalt at why halt → SameHalt halt (beyond n) → (at ≡ n) × (why ≡ whys.Limit)
beyond_limit at whys.Complete halt n is same = let apart : at_end at ≡ beyond n = subst (λ (h : Halt). SameHalt h (beyond n)) is same in absurd cc
beyond_limit at whys.Short halt n is same = absurd (subst (λ (h : Halt). SameHalt h (beyond n)) is same)
beyond_limit at whys.Grammar halt n (rule, is, other) same = absurd (subst (λ (h : Halt). SameHalt h (beyond n)) is same)
beyond_limit at whys.Compressed halt n (name, is) same = let apart : compressed at name ≡ beyond n = subst (λ (h : Halt). SameHalt h (beyond n)) is same in absurd cc
beyond_limit at whys.Limit halt n is same = let both : beyond at ≡ beyond n = subst (λ (h : Halt). SameHalt h (beyond n)) is same in (cc, refl)

-- ---- a limit of writing

limit_passed : (options : FileOptions) (history : List Rec) (opened now : Option (List ℕ)) (blocks bytes : ℕ) (written : Written) → StopsAt options [] history opened now (stops.Limit blocks bytes) written
    → FitsWritingLimits options history → ⊥
limit_passed options history opened now blocks bytes written stop within = unlimited options [] history opened now blocks bytes written stop within

-- ---- what a recovery of the part came to

module _ (options : FileOptions) (history : List Rec) (part : List ℕ) (recorded : KeepsRecorded options history part) (text : IsUtf8 options.profile) (few : length options.profile ≤ profile_limit) (chunk : ℕ) (size : IsChunkSize chunk) (input output : List ℕ) (later last : Scene) (told : Told) (here : later.world.told ≡ Some told) (there : told.names input ≡ Some part) where
  abbrev keeps : KeepsFirst options history part
  keeps = recorded.keeps

  abbrev new_options : FileOptions
  new_options = recovered_options keeps.front.profile chunk

  abbrev file : List ℕ
  file = file_of new_options [] keeps.front.first

  abbrev blocks : ℕ
  blocks = length (blocks_in (pieces_of (Some chunk) None keeps.front.first))

  recovers_first : (status : Status) → RecoversFile chunk input output later last status → status ≡ statuses.Done → RecoversFirst options history chunk part output later last
  recovers_first status it done =
      let all = made chunk input output later last told (subst (RecoversFile chunk input output later last) done it) here in
      let r = all.recovered in
      let same_part : all.bytes ≡ part = same_Some all.bytes part (sym all.there ∙ there) in
      let holds : HoldsRecovered chunk part r true (told.names output) (all.now.names output) = subst (λ (l : List ℕ). HoldsRecovered chunk l r true (told.names output) (all.now.names output)) same_part all.holds in
      let own = keeps.front.repaired in
      let repairs : Repairs own.tops holds.profile holds.extras holds.history =
      subst (λ (tops : List Top). Repairs tops holds.profile holds.extras holds.history) (kept_once part holds.tops own.tops holds.halts.kept own.kept) holds.repairs in
      let (profiles, extras, histories) = repairs_once own.tops holds.extras keeps.front.kept holds.profile keeps.front.profile holds.history keeps.front.first repairs own.repairs in
      let no_extra : holds.extras ≡ [] = extras ∙ keeps.none in
      let file_is : file_of (recovered_options holds.profile chunk) holds.extras holds.history ≡ file =
      ap (λ (p : List ℕ). file_of (recovered_options p chunk) holds.extras holds.history) profiles ∙ file_same keeps.front.profile chunk holds.extras [] holds.history keeps.front.first no_extra histories in
      let within : FitsWritingLimits new_options keeps.front.first =
      subst (λ (l : List ℕ). FileHolds keeps.front.profile (blocks_in (pieces_of (Some chunk) None keeps.front.first)) (length l)) file_is
      (subst (λ (p : List ℕ). FileHolds p (blocks_in (pieces_of (Some chunk) None keeps.front.first)) (length (file_of (recovered_options holds.profile chunk) holds.extras holds.history))) profiles
      (subst (λ (l : List Rec). FileHolds holds.profile (blocks_in (pieces_of (Some chunk) None l)) (length (file_of (recovered_options holds.profile chunk) holds.extras holds.history))) histories holds.within)) in
      let readable = new_readable options history part chunk keeps.front text few size in
      let closed = closed_so new_options keeps.front.first recorded.are within in
      let written = can_be_written new_options keeps.front.first blocks (length file) readable closed in
      let sound = files_sound new_options keeps.front.first blocks (length file) readable closed written in
      let reads : ReadsAs file keeps.front.first = files_read_back new_options keeps.front.first blocks (length file) readable closed in
      let exact : IsExact new_options file = record { sound = sound; plain = λ none full. absurd cc } in
      let placed : all.now.names output ≡ Some file = holds.placed ∙ ap Some file_is in
      let behind = offset_behind keeps.front.whole in
      let all_read : keeps.front.others ≡ [] → (r.at ≡ behind) × (r.why ≡ whys.Complete) = λ none.
      ended r.at r.why holds.halt behind holds.told (readings_halt_once part holds.tops keeps.front.whole holds.halt (at_end behind) holds.halts (keeps.front.complete none)).1 in
      let cut : (t : Top) (more : List Top) → keeps.front.others ≡ t ∷ more → (r.at ≡ behind) × ((r.why ≡ whys.Short) ⊎ ((file_limit < offset_behind (keeps.front.whole ++ t ∷ [])) × (r.why ≡ whys.Limit))) = λ t more next.
      elim (keeps.front.short t more next) [
        | inl short ↦
            let tells = cut_short r.at r.why holds.halt behind holds.told (readings_halt_once part holds.tops keeps.front.whole holds.halt (grammar behind rules.V4) holds.halts short).1 in
            (tells.0, inl tells.1)
        | inr past ↦
            let tells = beyond_limit r.at r.why holds.halt behind holds.told (readings_halt_once part holds.tops keeps.front.whole holds.halt (beyond behind) holds.halts past.1).1 in
            (tells.0, inr (past.0, tells.1))
      ] in
      record {
        keeps = keeps;
        told = all.now;
        tells = all.tells;
        there = placed;
        sound = sound;
        recovered = r;
        messages = holds.messages ∙ ap (λ (l : List Rec). length (filter is_message l)) histories;
        records = holds.records ∙ ap (λ (l : List Rec). length l) histories;
        extras = holds.extras_are ∙ ap (λ (l : List Top). length l) no_extra;
        at = at_either keeps.front.others refl (λ none. (all_read none).0) (λ t more next. (cut t more next).0);
        complete = λ none. (all_read none).1;
        short = λ t more next. (cut t more next).1;
        line = all.line;
        checked = λ next end answer same checks quiet.
            found_sound new_options file output reads.tops reads.end next end all.now answer exact reads.halts (ap (λ (w : WorldState). w.told) same ∙ all.tells) placed checks quiet;
      }
    where
      at_either : {P : Type 0} (others : List Top) → keeps.front.others ≡ others → (keeps.front.others ≡ [] → P) → ((t : Top) (more : List Top) → keeps.front.others ≡ t ∷ more → P) → P
      at_either [] is none some = none is
      at_either (t ∷ ts) is none some = some t ts is

  passes : (blocks bytes : ℕ) (status : Status) (it : RecoversFile chunk input output later last status) → it.recovery ≡ recoveries.Refused (refusals.Stopped (stops.Limit blocks bytes)) → PassesWritingLimit options history chunk part
  passes blocks bytes status it is =
      let all = reached chunk input output later.world last.world it.entries it.recovery (Err (refusals.Stopped (stops.Limit blocks bytes))) it.comes is (λ e. absurd cc) in
      let unwritten = all.recovers in
      let stop = unwritten.stops part ((all.tells told here).0 ∙ there) keeps.front.profile keeps.front.kept keeps.front.first keeps.front.repaired in
      let stopped : StopsAt new_options [] keeps.front.first all.live.held all.stored.held (stops.Limit blocks bytes) unwritten.written =
      subst (λ (l : List Top). StopsAt new_options l keeps.front.first all.live.held all.stored.held (stops.Limit blocks bytes) unwritten.written) keeps.none stop in
      (keeps, limit_passed new_options keeps.front.first all.live.held all.stored.held blocks bytes unwritten.written stopped)

-- what became of a recovery of the part, and its status
abbrev Comes : FileOptions → List Rec → List ℕ → ℕ → List ℕ → Scene → Scene → Status → Type 0
Comes options history part chunk output later last status = ((status ≡ statuses.Done) × RecoversFirst options history chunk part output later last)
    ⊎ (((status ≡ statuses.Limit) × PassesWritingLimit options history chunk part) ⊎ (((status ≡ statuses.Refused) × (V1 part → ⊥)) ⊎ (status ≡ statuses.Memory)))

module _ (options : FileOptions) (history : List Rec) (part : List ℕ) (recorded : V1 part → KeepsRecorded options history part) (text : IsUtf8 options.profile) (few : length options.profile ≤ profile_limit) (chunk : ℕ) (size : IsChunkSize chunk) (input output : List ℕ) (later last : Scene) (told : Told) (here : later.world.told ≡ Some told) (there : told.names input ≡ Some part) where
  comes : (status : Status) (it : RecoversFile chunk input output later last status) (recovery : Recovery) → it.recovery ≡ recovery → RecoveryDecides part recovery status → Comes options history part chunk output later last status
  comes status it recoveries.Unopened is decided = absurd decided
  comes status it (recoveries.Made r) is decided = inl (decided.1, recovers_first options history part (recorded decided.0) text few chunk size input output later last told here there status it decided.1)
  comes status it (recoveries.Refused refusals.NoMagic) is decided = inr (inr (inl (decided.1, decided.0)))
  comes status it (recoveries.Refused (refusals.Refused (scans.Fault faults))) is decided = absurd decided
  comes status it (recoveries.Refused (refusals.Refused (scans.Grammar offset rule))) is decided = absurd decided
  comes status it (recoveries.Refused (refusals.Refused (scans.Compressed offset name))) is decided = absurd decided
  comes status it (recoveries.Refused (refusals.Refused (scans.Limit offset))) is decided = absurd decided
  comes status it (recoveries.Refused (refusals.Refused scans.Memory)) is decided = inr (inr (inr decided))
  comes status it (recoveries.Refused (refusals.Stopped (stops.Fault faults))) is decided = absurd decided
  comes status it (recoveries.Refused (refusals.Stopped (stops.Limit blocks bytes))) is decided = inr (inl (decided.1, passes options history part (recorded decided.0) text few chunk size input output later last told here there blocks bytes status it is))
  comes status it (recoveries.Refused (refusals.Stopped stops.Memory)) is decided = inr (inr (inr decided))

-- ---- the laws

begins_so : (profile more : List ℕ) → V1 (front_bytes profile ++ more)
unfolding front_bytes
begins_so profile more = (framed 1 (header_text (record { profile = profile; library = library })) ++ more, append_assoc magic (framed 1 (header_text (record { profile = profile; library = library }))) more)

pub first_left : (options : RecordOptions) (out : List ℕ) (old new : WorldState) (r : Report) (status : Status) (told now : Told) → (it : Recording options out old new r status) → old.told ≡ Some told → new.told ≡ Some now
    → it.live_kept ≡ true
    → ((part : List ℕ) × (now.names out ≡ Some part) × IsPrefix part (file_of options.file [] it.recorded.history) × ((it.recorded.history ≡ [] → ⊥) → V1 part)) × (r.writer.end ≡ ends.Closed → FitsWritingLimits options.file it.recorded.history)
first_left options out old new r status told now it here tells well =
    let history = it.recorded.history in
    let holds = it.file told now here tells in
    let part : (part : List ℕ) × (now.names out ≡ Some part) × IsPrefix part (file_of options.file [] history) × ((history ≡ [] → ⊥) → V1 part) = elim holds.part [
      | inl (text, stands, by) ↦ (
        text,
        stands,
        (stands_first options.file history r.writer.bytes r.writer.end text by).1,
        λ some. let begun = holds.begun some well in subst V1 (same_Some (front_bytes options.file.profile ++ begun.0) text (sym begun.1 ∙ stands)) (begins_so options.file.profile begun.0),
      )
      | inr (same, unwell) ↦ absurd (both_ways it.live_kept unwell well)
    ] in
    let within : r.writer.end ≡ ends.Closed → FitsWritingLimits options.file history = λ closed.
    let file = (closed_file options it.before it.after r it.recorded closed).0 in
    let few = file.within.few in
    let small = file.within.small in
    record { holds = record { few = omega (arith, few, file.blocks_are); small = omega (arith, small, file.bytes_are) }; contents = file.contents } in
    (part, within)

-- of a recording's file a first part may be read
readable_in_part : (options : FileOptions) (history : List Rec) → AreReadable options → AreRecorded history → length (file_of options [] history) < 2 ^ 64 → CanBeReadInPart options [] history
readable_in_part options history readable are fits =
    let back = recs_back history are.kept in
    let ids = numbered_ids_agree history back are.numbered in
    let short = readable.short in
    record {
      profile = readable.profile;
      header = omega (arith, short, length-header_text (record { profile = options.profile; library = library }));
      records_fit = back;
      numbered = ids.1;
      ids_agree = ids.0;
      extras_meet = extras_kept history are.kept;
      pieces = pieces_short options.chunk options.span history readable.size are.kept;
      extras_short = λ n t at. absurd (at_none n t at);
      size_fits = fits;
    }

pub first_recovered : PartsAreRepaired → (options : RecordOptions) (before after : Sides) (r : Report) → AreAllowed options → IsUtf8 options.file.profile
    → (recorded : Recorded options before after r) → length (file_of options.file [] recorded.history) < 2 ^ 64
    → (part : List ℕ) → IsFirstPart options.file recorded.history part
    → (chunk : ℕ) (input output : List ℕ) (later last : Scene) (status : Status) (told : Told) → IsChunkSize chunk → later.world.told ≡ Some told → told.names input ≡ Some part
    → RecoversFile chunk input output later last status → (AnyRose (counts_in later) (counts_in last) → ⊥) → Comes options.file recorded.history part chunk output later last status
first_recovered parts_are_repaired options before after r allowed text recorded fits part first chunk input output later last status told size here there recovers quiet =
    let history = recorded.history in
    let are : AreRecorded history = record { numbered = recorded.assembled.numbered; kept = recorded.kept; inner = recorded_inner options before after r recorded } in
    let short = allowed.short in
    let readable : AreReadable options.file = record { profile = text; short = omega (arith, short); size = allowed.size } in
    let in_part = readable_in_part options.file history readable are fits in
    comes options.file history part (λ magic. keeps_first options.file history part are (parts_are_repaired options.file part [] history in_part first.part_is magic first.short)) text short chunk size input output later last told here there
    status recovers recovers.recovery refl (recovers.decided told part here there quiet)

pub recordings_leave_first_parts : RecordingsLeaveFirstParts
recordings_leave_first_parts options range out watches feeds old new r answer told now it here tells well =
    first_left options out old.world new.world r.recorded answer told now (of_watched options range out watches feeds old new r answer it) here tells well

pub recordings_are_recovered : PartsAreRepaired → RecordingsAreRecovered
recordings_are_recovered parts_are_repaired options range out watches feeds old new r answer allowed text it fits part first chunk input output later last status told size here there recovers quiet =
    let is = it.reported r.recorded refl in
    first_recovered parts_are_repaired options (sides is.given is.viewed) (sides (back_sources is.kept_feeds) is.live_now) r.recorded allowed text is.recorded fits part first chunk input output later last status told size here there recovers quiet
