-- What one call of a scribe adds, and what its file comes to.
use Rattle.std.proofs.Common.{◌≡◌, ◌⊎◌, ◌∙◌, ℕ, true, false, List, [], ◌∷◌, ◌++◌, length, refl, sym, subst, inl, inr, append-nil}
use Rattle.std.specs.Prelude.{Result, Ok, Err}
use Rattle.std.proofs.lemmas.Bool.{both_ways}
use Rattle.rec_data.specs.declared.owned.Rec.{Rec}
use Rattle.rec_data.specs.Owned.{rec_opcode, rec_text}
use Rattle.rec_data.proofs.OwnedReading.{framed_decided}
use Rattle.mcap_io.specs.Outside.{LiveState}
use Rattle.mcap_model.specs.declared.options.FileOptions.{FileOptions}
use Rattle.mcap_model.specs.declared.ends.Stop.{Stop}
use Rattle.mcap_model.specs.Tops.{Top}
use Rattle.mcap_model.specs.History.{is_inner}
use Rattle.mcap_model.specs.Blocks.{pieces_of, blocks_in}
use Rattle.mcap_model.specs.File.{file_of}
use Rattle.chunk_build.specs.Chunker.{AreFramed, AreInner}
use Rattle.chunk_writer.specs.declared.scribe.Scribe.{Scribe}
use Rattle.chunk_writer.specs.declared.phase.Phase.TheVariants as phases
use Rattle.chunk_writer.specs.Stops.{numbers, StopsAt}
use Rattle.chunk_writer.specs.Limits.{Holds, ContentsFit, FileHolds}
use Rattle.chunk_writer.specs.Scribes.{WritesHistory, ScribeGrows, GathersExtra, phase_of}
use Rattle.merge_walk.specs.Pieces.{InputBytes}
use Rattle.mcap_merge.specs.declared.answers.MergeRefused.{MergeRefused}
use Rattle.mcap_merge.specs.declared.answers.MergeRefused.TheVariants as merges
use Rattle.mcap_merge.specs.declared.answers.Merged.{Merged}
use Rattle.mcap_merge.specs.declared.input.Input.{Input}
use Rattle.mcap_merge.specs.declared.starting.Begun.{Begun}
use Rattle.mcap_merge.specs.Pens.{AddsTo, EndsWithin, adds_all, stopped_going}
use Rattle.mcap_merge.specs.Uses.{history_of}
use Rattle.mcap_merge.specs.Writing.{extras_of}
use Rattle.mcap_merge.specs.Turns.{stop_of}
use Rattle.mcap_merge.specs.Putting.{IsBegun, MergeStart, WholeStands, PartStands, EndsWhole, StopsBefore, StopsAtEnd}
use Rattle.mcap_merge.specs.Filed.{FileStands}
use Rattle.mcap_merge.specs.Filing.{FilesAs, FileStops}

pub gathers_adds : {L : Type 0} (seen : L → LiveState) (s t : Scribe L) (x : Top) → GathersExtra seen s t x → AddsTo seen s t (x ∷ []) []
gathers_adds seen s t x gathers = λ options others opened history writes.
    subst (λ (h : List Rec). WritesHistory seen options (others ++ x ∷ []) opened h t) (sym (append-nil history)) (gathers options others opened history writes)

pub grows_adds : {L : Type 0} (seen : L → LiveState) (s t : Scribe L) (r : Rec) → ScribeGrows seen s t (r ∷ []) → AddsTo seen s t [] (r ∷ [])
grows_adds seen s t r grows = λ options others opened history writes.
    subst (λ (e : List Top). WritesHistory seen options e opened (history ++ r ∷ []) t) (sym (append-nil others)) (grows options others opened history writes)

-- framed bytes are one record
pub inner_framed : (framed : List ℕ) (one r : Rec) → AreInner framed one → AreFramed framed r → is_inner r ≡ false → ⊥
inner_framed framed one r inner is none =
    let was = inner.framed in
    let same : one ≡ r = framed_decided framed one r (rec_opcode one, rec_text one, was.spelled, was.shown) (rec_opcode r, rec_text r, is.spelled, is.shown) in
    both_ways (is_inner r) none (subst (λ (x : Rec). is_inner x ≡ true) same inner.inner)

pub lacks_adds : {L : Type 0} (seen : L → LiveState) (s t : Scribe L) (stop : Stop) (extras : List Top) (records : List Rec) → ((x : Top) → GathersExtra seen s t x) → phase_of t ≡ phases.Stopped stop → AddsTo seen s t extras records
lacks_adds seen s t stop extras records gathers is = λ options others opened history writes.
    let one : GathersExtra seen s t (record { op = 0; content = [] }) = gathers (record { op = 0; content = [] }) in
    let there = one options others opened history writes in
    adds_all seen t stop extras records is options others opened history (there.0, λ going. absurd (stopped_going stop (sym is ∙ going)), λ going. absurd (stopped_going stop (sym is ∙ going)))

-- ---- the file

file_holds : (profile : List ℕ) (all : List (List Rec)) (blocks bytes size : ℕ) → blocks ≡ length all → bytes ≡ size → Holds blocks bytes → ContentsFit profile all → FileHolds profile all size
file_holds profile all blocks bytes size one two holds fit = record {
  holds = subst (Holds (length all)) two (subst (λ (n : ℕ). Holds n bytes) one holds);
  contents = fit;
}

module _ {L : Type 0} (seen : L → LiveState) (options : FileOptions) (opened : LiveState) (old new : Scribe L) (begun : WritesHistory seen options [] opened [] old) where
  -- a scribe that was opened for these options stopped
  stopped_there : (extras : List Top) (history : List Rec) (stop : Stop) → AddsTo seen old new extras history → phase_of new ≡ phases.Stopped stop → FileStands options extras history opened (seen new.store) (Err stop)
  stopped_there extras history stop adds stopped =
      let stands = (adds options [] opened [] begun).0 in
      let at = stands.stopped in
      let behind = at stop stopped extras [] in
      (new.plan.blocks, new.plan.bytes, subst (λ (h : List Rec). StopsAt options extras h opened.held (seen new.store).held stop (numbers new.plan.blocks new.plan.bytes)) (append-nil history) behind.stops)

  -- or came to the end of its file
  ended_there : (all : Scribe L) (extras : List Top) (history : List Rec) (end : Result Unit Stop) → AddsTo seen old all extras history → EndsWithin seen all new end → FileStands options extras history opened (seen new.store) end
  ended_there all extras history (Ok it) adds (written, ends, within) =
      let whole = ends options extras opened history (adds options [] opened [] begun) in
      let ended = whole.0 in
      (ended.0, file_holds options.profile (blocks_in (pieces_of options.chunk options.span history)) written.blocks written.bytes (length (file_of options extras history)) ended.1 ended.2 within ended.3, whole.2)
  ended_there all extras history (Err stop) adds (written, ends, within) = (written.blocks, written.bytes, (ends options extras opened history (adds options [] opened [] begun)).0)

  pub whole_filed : (start : MergeStart) (m : Merged) (end : Result Unit Stop) → EndsWhole (λ s t e r. AddsTo seen s t e r) (λ s t r. EndsWithin seen s t r) start old new m end → WholeStands (FilesAs options end) start opened (seen new.store) m
  whole_filed start m end ends =
      let whole = ends.whole in
      record {
        walk = whole.walk;
        pieces = whole.pieces;
        loaded = whole.loaded;
        texts = whole.texts;
        given = whole.given;
        stands = whole.stands;
        all_given = whole.all_given;
        uses = λ reads hold suffice.
            let uses = whole.uses in
            let (us, zip, (adds, counts)) = uses reads hold suffice in
            (us, zip, (ended_there ends.all (extras_of start.inputs) (history_of us) end adds ends.ends_file, counts));
        peak = whole.peak;
      }

  part_filed : (start : MergeStart) (why : MergeRefused) → StopsBefore (λ s t e r. AddsTo seen s t e r) (λ s. phase_of s) start old new why → PartStands (FilesAs options (Err (stop_of why))) start opened (seen new.store)
  part_filed start why stops =
      let part = stops.part in
      record {
        walk = part.walk;
        pieces = part.pieces;
        texts = part.texts;
        given = part.given;
        stands = part.stands;
        uses = λ reads hold suffice.
            let uses = part.uses in
            let (us, zip, adds) = uses reads hold suffice in
            (us, zip, λ more. stopped_there (extras_of start.inputs) (history_of us ++ more) (stop_of why) (adds more) stops.stopped);
      }

  pub stops_filed : (start : MergeStart) (why : MergeRefused) → StopsBefore (λ s t e r. AddsTo seen s t e r) (λ s. phase_of s) start old new why ⊎ StopsAtEnd (λ s t e r. AddsTo seen s t e r) (λ s t r. EndsWithin seen s t r) start old new why → FileStops options start opened (seen new.store) why
  stops_filed start why (inl before) = inl (part_filed start why before)
  stops_filed start why (inr (stop, is, m, ends)) = inr (stop, is, m, whole_filed start m (Err stop) ends)

-- the front wasn't written
pub not_opened : (files : InputBytes) (inputs : List Input) (b : Begun) (options : FileOptions) (opened now : LiveState) (stop : Stop) → IsBegun inputs b → ((extras : List Top) (history : List Rec) → StopsAt options extras history opened.held now.held stop (numbers 0 0))
    → FileStops options (record { files = files; inputs = inputs; walk = b.walk }) opened now (merges.Stopped stop)
not_opened files inputs b options opened now stop begun stops = inl (record {
  walk = b.walk;
  pieces = refl;
  texts = [];
  given = [];
  stands = let stands = begun.stands in stands files;
  uses = λ reads hold suffice. ([], tt, λ more. (0, 0, stops (extras_of inputs) more));
})
