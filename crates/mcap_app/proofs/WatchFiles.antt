-- What watch files hold of a recording that ended well.
use Rattle.std.proofs.Common.{◌≡◌, ℕ, zero, suc, ◌+◌, Bool, true, false, if◌then◌else◌, List, [], ◌∷◌, ◌++◌, length, map, Option, Some, refl, sym, ap, subst, inl, inr, ◌∙◌, append_assoc, append-nil, arith}
use Rattle.std.specs.List.{flat_map}
use Rattle.std.proofs.lemmas.Bool.{both_ways}
use Rattle.std.proofs.lemmas.Option.{same_Some}
use Rattle.mcap_wire.specs.Layout.{magic}
use Rattle.rec_data.specs.declared.owned.Rec.{Rec}
use Rattle.mcap_io.specs.Outside.{Rose, added, SinkState, LiveState}
use Rattle.mcap_model.specs.declared.ends.End.{End}
use Rattle.mcap_model.specs.declared.ends.End.TheVariants as ends
use Rattle.mcap_model.specs.declared.options.FileOptions.{FileOptions}
use Rattle.mcap_model.specs.declared.replay.Range.{Range}
use Rattle.mcap_model.specs.Places.{At, Each}
use Rattle.mcap_model.specs.Tops.{Top, Tops, top_bytes, spelled, flat, offset_behind}
use Rattle.mcap_model.specs.Kept.{Kept, reading_limits, Good, grammar, short_head}
use Rattle.mcap_model.specs.Scan.{Scan}
use Rattle.mcap_model.specs.History.{rec_top, is_inner}
use Rattle.mcap_model.specs.Laws.{IsInner}
use Rattle.mcap_model.specs.Recovery.{piece_records}
use Rattle.mcap_model.specs.Blocks.{Piece, block, alone, pieces_of, pieces_bytes, blocks_in}
use Rattle.mcap_model.specs.File.{front, until_block, front_of}
use Rattle.mcap_model.proofs.Places.{at_none}
use Rattle.mcap_model.proofs.Edges.{header_top, end_top}
use Rattle.mcap_model.proofs.Asides.{body_whole}
use Rattle.mcap_model.proofs.Section.{piece_tops, IsBlock, pieces_are_blocks, pieces_spelled, each_held, each_parts}
use Rattle.mcap_model.proofs.Files.{section_tops}
use Rattle.mcap_model.proofs.Body.{section_flat}
use Rattle.mcap_model.proofs.Readings.{kept_once, halts_are_last, good_from_the_front}
use Rattle.mcap_model.proofs.Histories.{numbered_ids_agree, recs_are_flat}
use Rattle.mcap_model.specs.declared.rules.Rule.TheVariants as rules
use Rattle.mcap_laws.proofs.Scanned.{stand_of, read_so, scan_of_flat}
use Rattle.recorder.specs.declared.report.WriterReport.{WriterReport}
use Rattle.recorder.specs.Recorded.{AreReadable}
use Rattle.recorder.proofs.Inners.{recorded_inner}
use Rattle.recorder.proofs.ReadBack.{IsClosedFile, closed_file, can_be_read, recs_back, extras_kept}
use Rattle.time_player.specs.Text.{cat_text}
use Rattle.live_watcher.specs.declared.report.WatchEnd.{WatchEnd}
use Rattle.live_watcher.specs.declared.report.WatchEnd.TheVariants as watch_ends
use Rattle.live_watcher.specs.declared.report.WatchReport.{WatchReport}
use Rattle.live_watcher.specs.Text.{sealed_by, end_line, WatchText}
use Rattle.live_watcher.specs.Watching.{unwritten, written_by}
use Rattle.live_recording.specs.Watched.{Watch}
use Rattle.live_recording.specs.Files.{FrontReplay, WritesLines, TellsWatchFile, IsWatchedFile}
use Rattle.command_base.specs.declared.statuses.Status.TheVariants as statuses
use Rattle.command_base.specs.Ran.{world_faults}
use Rattle.command_record.specs.Record.{feed_entry}
use Rattle.command_record.specs.Sinks.{SinkKept, sink_entry}
use Rattle.command_record.specs.Watched.{EndsSo, IsCalm}
use Rattle.command_record.proofs.Whole.{at_map, map_at}
use Rattle.mcap_app.specs.Laws.{HoldsWatchedMessages, WatchFilesHoldMessages}
use Rattle.mcap_app.proofs.Recordings.{watched_still, watched_total, of_watched}

-- ---- the file up to its last block

-- no record of the piece is an extra
abbrev HasInner : Piece → Type 0
HasInner p = Each IsInner (piece_records p)

until_all : (ps : List Piece) → Each IsBlock ps → Each HasInner ps → until_block (length (blocks_in ps)) ps ≡ ps
until_all [] each inner = refl
until_all (block records ∷ ps) each inner =
    ap (λ (l : List Piece). block records ∷ l) (until_all ps (λ k p at. each (suc k) p at) (λ k p at. inner (suc k) p at))
until_all (alone r ∷ ps) each inner = absurd (both_ways (is_inner r) (each 0 (alone r) refl) (inner 0 (alone r) refl 0 r refl))

front_stands : (profile : List ℕ) (ps : List Piece) → Tops (front profile ++ pieces_bytes ps) (header_top profile ∷ (flat_map piece_tops ps ++ [])) []
unfolding front
front_stands profile ps = record {
  split = append_assoc magic (top_bytes (header_top profile)) (pieces_bytes ps)
      ∙ ap (λ (l : List ℕ). magic ++ (top_bytes (header_top profile) ++ l)) (pieces_spelled ps ∙ ap spelled (sym (append-nil (flat_map piece_tops ps))))
      ∙ ap (λ (l : List ℕ). magic ++ l) (sym (append-nil (top_bytes (header_top profile) ++ spelled (flat_map piece_tops ps ++ []))));
}

-- a closed file in chunks, without extras
module _ (options : FileOptions) (history : List Rec) (blocks bytes size : ℕ) (readable : AreReadable options) (closed : IsClosedFile options history blocks bytes) (inner : Each IsInner history) (some : options.chunk ≡ Some size) where
  abbrev tops : List Top
  tops = section_tops options [] history

  all_blocks : Each IsBlock (pieces_of options.chunk options.span history)
  all_blocks = subst (λ (c : Option ℕ). Each IsBlock (pieces_of c options.span history)) (sym some) (pieces_are_blocks size options.span history)

  all_inner : Each HasInner (pieces_of options.chunk options.span history)
  all_inner = each_parts IsInner piece_records (pieces_of options.chunk options.span history) (each_held IsInner options.chunk options.span history inner)

  -- the records up to its Data End are kept of it up to its last block
  front_kept : Kept reading_limits (front_of options history blocks) tops
  front_kept =
      let back = recs_back history closed.kept in
      let (agree, numbered) = numbered_ids_agree history back closed.numbered in
      let small = closed.within.small in
      let length_is = closed.bytes_are in
      let can = can_be_read options history readable closed.kept (omega (arith, small, length_is)) in
      let read = read_so options [] history readable.profile back numbered agree (extras_kept history closed.kept) can in
      let good : Good reading_limits tops = good_from_the_front reading_limits tops (end_top ∷ []) read.halts.kept.good in
      let pieces = pieces_of options.chunk options.span history in
      let whole = front options.profile ++ pieces_bytes pieces in
      let kept : Kept reading_limits whole tops = halts_are_last whole tops [] (grammar (offset_behind tops) rules.V4) (front_stands options.profile pieces) good (inr (short_head refl)) in
      let until : until_block blocks pieces ≡ pieces = ap (λ (n : ℕ). until_block n pieces) closed.blocks_are ∙ until_all pieces all_blocks all_inner in
      subst (λ (ps : List Piece). Kept reading_limits (front options.profile ++ pieces_bytes ps) tops) (sym until) kept

  tops_flat : flat tops ≡ map rec_top history
  tops_flat =
      let back = recs_back history closed.kept in
      let (agree, numbered) = numbered_ids_agree history back closed.numbered in
      let small = closed.within.small in
      let length_is = closed.bytes_are in
      let can = can_be_read options history readable closed.kept (omega (arith, small, length_is)) in
      section_flat options [] history (stand_of options [] history readable.profile back numbered (extras_kept history closed.kept) can) ∙ ap (map rec_top) (body_whole history inner)

  -- its text, behind the lines of fronts
  messages_held : (range : Range) (fronts : List ℕ) (text : List ℕ) → WatchText (FrontReplay options range history) blocks fronts (sealed_by ends.Closed) text → HoldsWatchedMessages range history blocks (Some text)
  messages_held range fronts text wrote =
      let (count, lines, replays, last) = wrote.last_is in
      let same : replays.tops ≡ tops = kept_once (front_of options history blocks) replays.tops tops replays.kept front_kept in
      let scan : Scan tops replays.messages = subst (λ (ts : List Top). Scan ts replays.messages) same replays.scan in
      let end : wrote.last ≡ end_line ends.Closed blocks (length replays.shown) ++ cat_text replays.shown =
      last ∙ ap (λ (n : ℕ). end_line ends.Closed blocks n ++ lines) replays.count_is ∙ ap (λ (l : List ℕ). end_line ends.Closed blocks (length replays.shown) ++ l) replays.text_is in
      record {
        tops = tops;
        flat_are = tops_flat ∙ sym (recs_are_flat history (recs_back history closed.kept) ∙ ap (map rec_top) (body_whole history inner));
        messages = replays.messages;
        scan = scan;
        are = scan_of_flat tops history replays.messages tops_flat (recs_back history closed.kept) scan;
        shown = replays.shown;
        replay = replays.replay;
        fronts = wrote.told;
        lines = ap (λ (l : List ℕ). Some l) (wrote.text_is ∙ ap (λ (l : List ℕ). wrote.told ++ l) end);
      }

-- ---- what a watcher wrote

-- one that wrote all had a view, which didn't fail
is_calm : (live viewed : LiveState) (sealed : Bool) (w : Watch) (e : WatchEnd) → e ≡ watch_ends.Whole → EndsSo live viewed sealed w e → IsCalm w
is_calm live viewed sealed w e whole ends = (subst (EndsSo live viewed sealed w) whole ends).0

wrote_all : (options : FileOptions) (range : Range) (history : List Rec) (writer : WriterReport) (sealed : Bool) (w : Watch) → IsWatchedFile options range history writer sealed w → w.view ≡ Some 0 → w.report.end ≡ watch_ends.Whole → w.before.took ≡ Some []
    → (text : List ℕ) × WatchText (FrontReplay options range history) writer.blocks w.report.fronts.items (sealed_by writer.end) text × (w.now.took ≡ Some text)
wrote_all options range history writer sealed w told view whole empty =
    let seen : TellsWatchFile options range history writer sealed w (Some 0) = subst (λ (v : Option ℕ). TellsWatchFile options range history writer sealed w v) view told in
    let wrote = subst (λ (e : WatchEnd). WritesLines (FrontReplay options range history) writer sealed (unwritten w.before 0) (written_by w.now 0 w.report) e) whole seen.1 in
    let (text, is, took) = wrote.2 [] empty in
    (text, is, took)

-- ---- the sinks were kept

none_failed : (ks : List SinkKept) → world_faults (map sink_entry ks) ≡ 0 → (n : ℕ) (k : SinkKept) → At ks n k → k.well ≡ true
none_failed [] none n k at = absurd (at_none n k at)
none_failed (x ∷ ks) none zero k at = subst (λ (y : SinkKept). y.well ≡ true) (same_Some x k at) (by x.well refl)
  where
    by : (b : Bool) → x.well ≡ b → x.well ≡ true
    by true is = is
    by false is =
        let failures : Bool → ℕ = λ b. if b then 0 else 1 in
        let one : failures x.well ≡ 1 = ap failures is in
        absurd (omega (arith, none, one))
none_failed (x ∷ ks) none (suc n) k at = none_failed ks (omega (arith, none)) n k at

nothing_added : (before now n others : ℕ) (live : Bool) → now ≡ added before (others + n + (if live then 0 else 1)) → (Rose before now → ⊥) → n ≡ 0
nothing_added before now zero others live is quiet = refl
nothing_added before now (suc n) others live is quiet = absurd (quiet (omega (arith, is)))

-- ---- the law

held_there : (range : Range) (history : List Rec) (blocks : ℕ) (file : Option (List ℕ)) (lines : List ℕ) → file ≡ Some lines → HoldsWatchedMessages range history blocks (Some lines) → HoldsWatchedMessages range history blocks file
held_there range history blocks file lines same holds = subst (HoldsWatchedMessages range history blocks) (sym same) holds

pub watch_files_hold_messages : WatchFilesHoldMessages
watch_files_hold_messages options range size out watches feeds old new r told now allowed text some it here tells n name at =
    let is = it.reported r.recorded refl in
    let history = is.recorded.history in
    let made = of_watched options range out watches feeds old new r statuses.Done it in
    let readable : AreReadable options.file = record { profile = text; short = omega (arith, allowed.short); size = allowed.size } in
    let closed = made.closed refl in
    let file = (closed_file options made.before made.after r.recorded is.recorded closed).0 in
    let (k, at_k, name_is) = at_map (λ (x : SinkKept). x.name) is.kept_sinks n name (subst (λ (l : List (List ℕ)). At l n name) is.watches_are at) in
    let back = map_at (λ (x : SinkKept). x.back) is.kept_sinks n k at_k in
    let (w, at_w, back_is) = at_map (λ (x : Watch). x.now) is.seen n k.back (subst (λ (l : List SinkState). At l n k.back) (sym is.sinks_are) back) in
    let all = it.whole refl in
    let report = subst (λ (l : List WatchReport). At l n w.report) (sym is.reports_are) (map_at (λ (x : Watch). x.report) is.seen n w at_w) in
    let whole : w.report.end ≡ watch_ends.Whole = all.2.whole n w.report report in
    let calm = is_calm is.live is.viewed r.sealed w w.report.end whole (is.ends n w at_w) in
    let (lines, wrote, took) = wrote_all options.file range history r.recorded.writer r.sealed w (is.texts told here readable n w at_w) calm.0 whole (is.sinks_empty told here n w at_w) in
    let wrote_closed = subst (λ (e : End). WatchText (FrontReplay options.file range history) r.recorded.writer.blocks w.report.fronts.items (sealed_by e) lines) closed wrote in
    let holds = messages_held options.file history r.recorded.writer.blocks r.recorded.writer.bytes size readable file (recorded_inner options made.before made.after r.recorded is.recorded) some range w.report.fronts.items lines wrote_closed in
    let still = watched_still options range out watches feeds old new r statuses.Done it refl in
    let none = nothing_added old.world.faults new.world.faults (world_faults (map sink_entry is.kept_sinks)) (world_faults (map feed_entry is.kept_feeds)) is.live_kept (watched_total options range out watches feeds old new r statuses.Done it) still in
    let well = none_failed is.kept_sinks none n k at_k in
    let placed : now.names k.name ≡ Some lines = elim (is.placed told now here tells n k at_k lines (ap (λ (s : SinkState). s.took) back_is ∙ took)) [
      | inl stands ↦ stands
      | inr (unwell, same) ↦ absurd (both_ways k.well unwell well)
    ] in
    held_there range history r.recorded.writer.blocks (now.names name) lines (ap now.names name_is ∙ placed) holds
