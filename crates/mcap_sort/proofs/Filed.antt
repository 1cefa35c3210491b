-- From what was put to what the store shows.
use Rattle.std.proofs.Common.{◌≡◌, ◌⊎◌, ◌∙◌, ℕ, List, [], ◌∷◌, ◌++◌, length, Some, refl, sym, ap, subst, inl, inr, append-nil}
use Rattle.std.specs.Prelude.{filter, Result, Ok, Err}
use Rattle.std.specs.List.{AllZip}
use Rattle.rec_data.specs.declared.owned.Rec.{Rec}
use Rattle.mcap_io.specs.Outside.{LiveState}
use Rattle.mcap_model.specs.declared.options.FileOptions.{FileOptions}
use Rattle.mcap_model.specs.declared.ends.Stop.{Stop}
use Rattle.mcap_model.specs.Tops.{Top}
use Rattle.mcap_model.specs.History.{without_repeats}
use Rattle.chunk_writer.specs.declared.phase.Phase.TheVariants as phases
use Rattle.chunk_writer.specs.declared.scribe.Scribe.{Scribe}
use Rattle.chunk_writer.specs.Scribes.{WritesHistory, phase_of}
use Rattle.chunk_writer.specs.Stops.{numbers, StopsAt, Cause}
use Rattle.merge_walk.specs.declared.walk.Walk.{Walk}
use Rattle.merge_walk.specs.Pieces.{InputBytes}
use Rattle.merge_walk.specs.Walks.{WalkStands}
use Rattle.mcap_merge.specs.declared.answers.MergeRefused.{MergeRefused}
use Rattle.mcap_merge.specs.declared.answers.MergeRefused.TheVariants as merges
use Rattle.mcap_merge.specs.Inputs.{extra_tops}
use Rattle.mcap_merge.specs.ReadInputs.{Read}
use Rattle.mcap_merge.specs.Turns.{stop_of}
use Rattle.record_keeping.specs.declared.ending.KeptCounts.{KeptCounts}
use Rattle.record_keeping.specs.declared.keeping.Keeping.{Keeping}
use Rattle.record_keeping.specs.Keeping.{CountsSo, KeepingStandsFor, AddsRecords}
use Rattle.record_keeping.specs.Ending.{EndsFile}
use Rattle.mcap_sort.specs.declared.answers.SortCounts.{SortCounts}
use Rattle.mcap_sort.specs.declared.gathering.Gathered.{Gathered}
use Rattle.mcap_model.specs.Needed.{with_needs}
use Rattle.mcap_sort.specs.Declaring.{Finds}
use Rattle.mcap_sort.specs.Gathering.{HoldsGathered}
use Rattle.mcap_sort.specs.Turns.{PutAll, PutSome}
use Rattle.mcap_sort.specs.SortSteps.{Start, start, AllPut, SomePut, IsWhole, IsPart, extras_from, Files}
use Rattle.mcap_sort.proofs.Sorted.{recs_file}

-- nothing is kept yet of a file that was opened
pub begun_stands : {L : Type 0} (seen : L → LiveState) (options : FileOptions) (opened : LiveState) (s : Scribe L) (k : Keeping L) → WritesHistory seen options [] opened [] s → k.scribe ≡ s → CountsSo [] [] k → KeepingStandsFor seen options [] opened [] k
begun_stands seen options opened s k writes same counts = record {
  writes = subst (λ x. WritesHistory seen options [] opened [] x) (sym same) writes;
  counts = λ going. counts;
}

-- where a keeping stopped, so did its file
part_of : {L : Type 0} (seen : L → LiveState) (options : FileOptions) (opened : LiveState) (extras others : List Top) (out more : List Rec) (k : Keeping L) (stop : Stop) → phase_of k.scribe ≡ phases.Stopped stop → KeepingStandsFor seen options others opened out k
    → IsPart options extras opened (seen k.scribe.store) stop (out ++ more)
part_of seen options opened extras others out more k stop stopped keeps =
    let stands = keeps.writes.0 in
    let at = stands.stopped in
    let behind = at stop stopped extras more in
    (numbers k.scribe.plan.blocks k.scribe.plan.bytes, behind.stops)

module _ {L : Type 0} (seen : L → LiveState) (options : FileOptions) (opened : LiveState) (files : InputBytes) (g : Gathered) (walk : Walk) where
  abbrev from : Start
  from = start files g walk

  abbrev extras : List Top
  extras = extra_tops g.input.extras.items

  -- the front wasn't written
  pub unopened : (now : LiveState) (stop : Stop) → WalkStands files walk [] [] → ((extras : List Top) (history : List Rec) → StopsAt options extras history opened.held now.held stop (numbers 0 0)) → Files options from opened now (Err (merges.Stopped stop))
  unopened now stop stands stops = inl (record {
    walk = walk;
    pieces = refl;
    texts = [];
    given = [];
    stands = stands;
    records = [];
    are = tt;
    so = λ history finds more. (numbers 0 0, stops extras (with_needs history more));
  })

  module _ (k mid : Keeping L) (begun : KeepingStandsFor seen options [] opened [] k) (adds : AddsRecords seen k mid extras []) where
    behind_extras : KeepingStandsFor seen options extras opened [] mid
    behind_extras = adds options [] opened [] begun

    -- it stopped at the extras
    pub extras_stopped : (stop : Stop) → WalkStands files walk [] [] → phase_of mid.scribe ≡ phases.Stopped stop → Files options from opened (seen mid.scribe.store) (Err (merges.Stopped stop))
    extras_stopped stop stands stopped = inl (record {
      walk = walk;
      pieces = refl;
      texts = [];
      given = [];
      stands = stands;
      records = [];
      are = tt;
      so = λ history finds more. part_of seen options opened extras extras [] (with_needs history more) mid stop stopped behind_extras;
    })

    -- it stopped at the messages
    pub turns_stopped : (new : Keeping L) (why : MergeRefused) → PutSome seen files g walk mid new → phase_of new.scribe ≡ phases.Stopped (stop_of why) → Files options from opened (seen new.scribe.store) (Err why)
    turns_stopped new why put stopped = inl (record {
      walk = put.walk;
      pieces = put.pieces;
      texts = put.texts;
      given = put.given;
      stands = put.stands;
      records = put.records;
      are = put.are;
      so = λ history finds more.
          let puts = put.puts in
          let written = with_needs history (put.records ++ more) in
          let keeps = puts history finds more options extras opened [] behind_extras in
          subst (λ (l : List Rec). IsPart options extras opened (seen new.scribe.store) (stop_of why) l) (append-nil written) (part_of seen options opened extras extras written [] new (stop_of why) stopped keeps);
    })

    module _ (new : Keeping L) (put : PutAll seen files g walk mid new) where
      keeps_all : (history : List Rec) → Finds g.declared history → KeepingStandsFor seen options extras opened (with_needs history put.put.records) new
      keeps_all history finds = let puts = put.put.puts in puts history finds options extras opened [] behind_extras

      all_put : (holds : List Rec → Type 0) → ((history : List Rec) → Finds g.declared history → holds (with_needs history put.put.records)) → AllPut from holds
      all_put holds so = record {
        walk = put.walk;
        pieces = put.pieces;
        texts = put.put.texts;
        given = put.put.given;
        all = put.all;
        records = put.put.records;
        are = put.put.are;
        so = so;
      }

      -- the file was ended
      pub ended_whole : (now : LiveState) (c : KeptCounts) → EndsFile seen new now (Ok c) → Files options from opened now (Ok (record { messages = c.messages; records = c.records }))
      ended_whole now c ends = all_put (IsWhole options extras opened now (record { messages = c.messages; records = c.records })) (λ history finds.
          let (file, counts, within, still, through) = ends options extras opened (with_needs history put.put.records) (keeps_all history finds) in
          record { file = file; messages = counts.0; records = counts.1; within = within; through = through })

      -- the writer stopped at its end
      pub ended_part : (now : LiveState) (stop : Stop) → EndsFile seen new now (Err stop) → Files options from opened now (Err (merges.Stopped stop))
      ended_part now stop ends = inr (
        stop,
        refl,
        all_put (IsPart options extras opened now stop) (λ history finds.
            let (written, stops, cause, ripe) = ends options extras opened (with_needs history put.put.records) (keeps_all history finds) in
            (written, stops)),
      )

      -- the count of the store at the end
      pub ended_so : (r : Read) → HoldsGathered r g → (now : LiveState) (result : Result KeptCounts Stop) → EndsFile seen new now result → Cause (seen new.scribe.store).faults now.faults result
      ended_so r holds now (Ok c) ends =
          let (rs, zip) = recs_file r.tops holds.holds.good in
          let notes = holds.notes in
          let (file, counts, within, still, through) = ends options extras opened (with_needs (without_repeats rs) put.put.records) (keeps_all (without_repeats rs) (notes rs zip)) in
          still
      ended_so r holds now (Err stop) ends =
          let (rs, zip) = recs_file r.tops holds.holds.good in
          let notes = holds.notes in
          let (written, stops, cause, ripe) = ends options extras opened (with_needs (without_repeats rs) put.put.records) (keeps_all (without_repeats rs) (notes rs zip)) in
          cause
