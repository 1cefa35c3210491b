-- From what was written to what is answered.
use Rattle.std.proofs.Common.{◌≡◌, ◌⊎◌, ◌∙◌, ℕ, zero, suc, ◌<◌, ◌≤◌, List, [], ◌∷◌, ◌++◌, length, map, Option, Some, None, refl, sym, ap, subst, inl, inr, append-nil, arith}
use Rattle.std.specs.Prelude.{filter, Result, Ok, Err, IfErr, IsPermutation}
use Rattle.std.proofs.lemmas.Option.{same_Some}
use Rattle.std.specs.List.{AllZip}
use Rattle.rec_data.specs.declared.owned.Rec.{Rec}
use Rattle.mcap_io.specs.Outside.{LiveState, RisesOnce}
use Rattle.mcap_io.specs.Stores.{StoreState}
use Rattle.mcap_io.specs.StoreAnswers.{StoreStays}
use Rattle.mcap_model.specs.declared.options.FileOptions.{FileOptions}
use Rattle.mcap_model.specs.declared.ends.Stop.{Stop}
use Rattle.mcap_model.specs.declared.ends.Stop.TheVariants as stops
use Rattle.mcap_model.specs.declared.refusals.ReadingRefused.{ReadingRefused}
use Rattle.mcap_model.specs.declared.refusals.ReadingRefused.TheVariants as readings
use Rattle.mcap_model.specs.Places.{At, Has, Each}
use Rattle.mcap_model.specs.Tops.{Top}
use Rattle.mcap_model.specs.Kept.{Good, reading_limits}
use Rattle.mcap_model.specs.History.{is_message, without_repeats}
use Rattle.mcap_model.specs.Repaired.{Repairs}
use Rattle.mcap_model.specs.ReadBack.{IsExtra}
use Rattle.mcap_model.proofs.Flat.{at_mapped}
use Rattle.chunk_writer.specs.Limits.{ChunkSizeFits}
use Rattle.chunk_writer.specs.Stops.{StopCause}
use Rattle.mcap_model.proofs.Places.{at_one, at_none}
use Rattle.merge_walk.specs.declared.turns.Turn.{Turn}
use Rattle.merge_walk.specs.declared.pieces.Piece.{Piece}
use Rattle.merge_walk.specs.declared.walk.Walk.{Walk}
use Rattle.merge_walk.specs.Pieces.{InputBytes, pieces_with}
use Rattle.merge_walk.specs.Stores.{files_of, StoresFit, StoresStay, AskedWithin, unasked, none_left}
use Rattle.merge_walk.specs.Walks.{Text, pieces_in, WalkStands, AllGiven}
use Rattle.mcap_merge.specs.declared.answers.MergeRefused.{MergeRefused}
use Rattle.mcap_merge.specs.declared.answers.MergeRefused.TheVariants as merges
use Rattle.mcap_merge.specs.declared.input.Input.{Input}
use Rattle.mcap_merge.specs.declared.input.Extra.{Extra as HeldExtra}
use Rattle.mcap_merge.specs.Inputs.{HoldsInput, HoldInputs, extra_top, extra_tops}
use Rattle.mcap_merge.specs.Pieces.{pieces_from}
use Rattle.mcap_merge.specs.ReadInputs.{Read}
use Rattle.mcap_merge.specs.ReadingSteps.{StoreKeeps, AsksWithinLength, StoreRefused, IsRefusalAt, SpansFit}
use Rattle.mcap_merge.specs.Turns.{WhyNotAll, PutCounts, stop_of}
use Rattle.mcap_merge.specs.Filed.{AsksTwice}
use Rattle.mcap_merge.proofs.Lengths.{history_few}
use Rattle.mcap_merge.proofs.Profiles.{extra_meets}
use Rattle.mcap_merge.proofs.Behind.{unfallen, asked_behind}
use Rattle.mcap_merge.proofs.Fitting.{stores_fit_in, asked_sum}
use Rattle.mcap_merge.proofs.ToldTurns.{Listed, Told, TellsAt}
use Rattle.mcap_merge.proofs.ToldStays.{told_stays}
use Rattle.record_keeping.proofs.Files.{all_counted, filter_few}
use Rattle.record_keeping.specs.Keeping.{counted}
use Rattle.mcap_sort.specs.declared.answers.SortCounts.{SortCounts}
use Rattle.mcap_sort.specs.declared.answers.SortRefused.{SortRefused}
use Rattle.mcap_sort.specs.declared.answers.SortRefused.TheVariants as refusals
use Rattle.mcap_sort.specs.declared.sorting.Ready.{Ready}
use Rattle.mcap_model.specs.Needed.{with_needs}
use Rattle.mcap_sort.specs.Declaring.{Finds}
use Rattle.mcap_sort.specs.Sorted.{Sorts, message_seen}
use Rattle.mcap_sort.specs.Gathering.{HoldsGathered}
use Rattle.mcap_sort.specs.Sorting.{sorted_options, AreInTime, SortIs, SortsInto, SortStops, SortFails, SortsSo, OfOne}
use Rattle.mcap_sort.specs.SortSteps.{IsReady, IsUnready, Start, start, AllPut, SomePut, IsWhole, IsPart, Files, answer_for, answer_of}
use Rattle.mcap_sort.specs.Turns.{IsRecOfTurn, only}
use Rattle.mcap_sort.proofs.Sorted.{recs_file, are_in_time, replayed_in_time, sorted_inner}
use Rattle.mcap_sort.proofs.Told.{AreReplayed, all_told, first_told}

only_one : (s x : StoreState) (n : ℕ) → At (s ∷ []) n x → x ≡ s
only_one s x zero at = at_one (s ∷ []) 0 x s at refl
only_one s x (suc n) at = absurd (at_none n x at)

module _ (old mid : StoreState) (chunk : ℕ) (r : Ready) (ready : IsReady old mid chunk r) (keeps : StoreKeeps old mid) where
  abbrev input : Input
  input = r.gathered.input

  abbrev profile : List ℕ
  profile = input.profile

  abbrev extras : List Top
  extras = extra_tops input.extras.items

  abbrev from : Start
  from = start (files_of (mid ∷ [])) r.gathered r.walk

  abbrev flattened : List Rec
  flattened = (recs_file ready.read.tops ready.holds.holds.good).0

  abbrev history : List Rec
  history = without_repeats flattened

  finds : Finds r.gathered.declared history
  finds = let notes = ready.holds.notes in notes flattened (recs_file ready.read.tops ready.holds.holds.good).1

  repairs : Repairs ready.read.tops profile extras history
  repairs = record {
    profile_is = ready.holds.holds.profile_is;
    extras_are = ready.holds.holds.extras_are;
    flattened = flattened;
    are_flattened = (recs_file ready.read.tops ready.holds.holds.good).1;
    history_is = refl;
  }

  pub pieces_all : (w : Walk) → w.pieces ≡ r.walk.pieces → IsPermutation (pieces_from 0 (input ∷ [])) (pieces_in w)
  pieces_all w same = subst (λ v. IsPermutation (pieces_from 0 (input ∷ [])) v.items) (sym same) (subst (λ (l : List Piece). IsPermutation l (pieces_in r.walk)) (sym (append-nil (pieces_with 0 input.spans.items))) ready.pieces)

  listed_of : (w : Walk) → w.pieces ≡ r.walk.pieces → Listed (old ∷ []) (ready.read ∷ []) (input ∷ []) (pieces_in w)
  listed_of w same = record { are = (ready.is, tt); hold = (ready.holds.holds, tt); same = pieces_all w same }

  tells_of : (bytes : List ℕ) → old.bytes ≡ Some bytes → (n : ℕ) (s : StoreState) → At (old ∷ []) n s → (it : List ℕ) × (s.bytes ≡ Some it)
  tells_of bytes told zero s at = (bytes, ap (λ (x : StoreState). x.bytes) (sym (at_one (old ∷ []) 0 old s refl at)) ∙ told)
  tells_of bytes told (suc n) s at = absurd (at_none n s at)

  told_of : (w : Walk) → w.pieces ≡ r.walk.pieces → (bytes : List ℕ) → old.bytes ≡ Some bytes → Told (old ∷ []) (ready.read ∷ []) (input ∷ []) (pieces_in w)
  told_of w same bytes told = record { tell = tells_of bytes told; listed = listed_of w same }

  same_files : files_of (mid ∷ []) ≡ files_of (old ∷ [])
  same_files = ap (λ (b : Option (List ℕ)). b ∷ []) keeps.bytes

  -- ---- whose sort it is

  sort_of : (messages : List Rec) → AreInTime history messages → ((bytes : List ℕ) → old.bytes ≡ Some bytes → AreReplayed ready.read messages) → SortIs old profile extras (with_needs history messages)
  sort_of messages in_time replayed = record {
    read = ready.read;
    is = ready.is;
    good = ready.holds.holds.good;
    history = history;
    repairs = repairs;
    messages = messages;
    in_time = in_time;
    written_is = refl;
    of = λ bytes told.
        let them = replayed bytes told in
        record {
          history = history;
          repairs = repairs;
          messages = ready.read.messages;
          scan = ready.holds.holds.scan;
          shown = them.shown;
          replay = them.replay;
          written_is = ap (with_needs history) them.are;
        };
  }

  -- this holds of the sort, whose records stand in blocks
  pub record OfSort (holds : List Rec → Type 0) : Type 0 where
    pub messages : List Rec
    pub in_time : AreInTime history messages
    pub is : SortIs old profile extras (with_needs history messages)
    pub so : holds (with_needs history messages)

  -- all turns were given
  pub of_all : (holds : List Rec → Type 0) → AllPut from holds → OfSort holds
  of_all holds put =
      let in_time = are_in_time ready.read input flattened put.texts put.given put.records ready.holds.holds (recs_file ready.read.tops ready.holds.holds.good).1 put.all.rise put.are in
      let so = put.so in
      record {
        messages = put.records;
        in_time = in_time;
        is = sort_of put.records in_time (λ bytes told. all_told (old ∷ []) ready.read input (pieces_in put.walk) put.texts put.given put.records (told_of put.walk put.pieces bytes told) (subst (λ (f : InputBytes). AllGiven f (pieces_in put.walk) put.texts put.given) same_files put.all) put.are);
        so = so history finds;
      }

  -- some were
  pub of_some : (holds : List Rec → Type 0) → SomePut from holds → OfSort holds
  of_some holds put = by old.bytes refl
    where
      zip : AllZip (IsRecOfTurn input put.texts) put.given put.records
      zip = put.are

      stands : WalkStands (files_of (old ∷ [])) put.walk put.texts put.given
      stands = subst (λ (f : InputBytes). WalkStands f put.walk put.texts put.given) same_files put.stands

      none_some : (bytes : List ℕ) → None ≡ Some bytes → ⊥
      none_some bytes is = cc

      by : (told : Option (List ℕ)) → old.bytes ≡ told → OfSort holds
      by None is =
          let so = put.so in
          let messages = put.records ++ [] in
          let in_time : AreInTime history messages = subst (AreInTime history) (sym (append-nil put.records))
          (are_in_time ready.read input flattened put.texts put.given put.records ready.holds.holds (recs_file ready.read.tops ready.holds.holds.good).1 stands.queues.rise zip) in
          record { messages = messages; in_time = in_time; is = sort_of messages in_time (λ bytes told. absurd (none_some bytes (sym is ∙ told))); so = so history finds [] }
      by (Some bytes) is =
          let so = put.so in
          let (more, them) = first_told (old ∷ []) ready.read input put.walk put.texts put.given put.records (told_of put.walk put.pieces bytes is) stands zip in
          let messages = put.records ++ more in
          let in_time : AreInTime history messages = subst (AreInTime history) (sym them.are)
          (replayed_in_time ready.read input flattened them.shown ready.holds.holds (recs_file ready.read.tops ready.holds.holds.good).1 them.replay) in
          record { messages = messages; in_time = in_time; is = sort_of messages in_time (λ bs told. them); so = so history finds more }

  -- ---- what is answered

  abbrev options : FileOptions
  options = sorted_options profile chunk

  pub sorted_whole : (new : StoreState) (opened now : LiveState) (p : SortCounts) → Files options from opened now (Ok p) → new.faults ≡ old.faults → now.faults ≡ opened.faults → SortsInto old new opened now chunk p
  sorted_whole new opened now p files input_still still =
      let of = of_all (IsWhole options extras opened now p) files in
      let written = with_needs history of.messages in
      let whole = of.so in
      let few = history_few options extras written (sorted_inner history of.messages of.in_time.declared) in
      let small = whole.within.holds.small in
      record {
        profile = profile;
        extras = extras;
        written = written;
        is = of.is;
        messages = whole.messages ∙ all_counted (length (filter is_message written)) (omega (arith, filter_few is_message written, few, small));
        records = whole.records ∙ all_counted (length written) (omega (arith, few, small));
        file = whole.file;
        within = whole.within;
        input_still = input_still;
        still = still;
        through = whole.through;
      }

  -- the writer stopped
  pub stopped_so : (opened now : LiveState) (why : MergeRefused) → Files options from opened now (Err why) → OfSort (IsPart options extras opened now (stop_of why))
  stopped_so opened now why (inl some) = of_some (IsPart options extras opened now (stop_of why)) some
  stopped_so opened now why (inr (stop, is, all)) =
      subst (λ (s : Stop). OfSort (IsPart options extras opened now s)) (sym (ap stop_of is)) (of_all (IsPart options extras opened now stop) all)

  stops_with : (opened now : LiveState) (stop : Stop) → OfSort (IsPart options extras opened now stop) → StopCause opened.faults now.faults stop → SortStops old opened now chunk stop
  stops_with opened now stop of cause = record {
    profile = profile;
    extras = extras;
    written = with_needs history of.messages;
    is = of.is;
    numbers = of.so.0;
    stops = of.so.1;
    cause = cause;
  }

  pub sorted_stops : (new : StoreState) (opened now : LiveState) (why : MergeRefused) → Files options from opened now (Err why) → PutCounts {X = SortCounts} (mid ∷ []) (new ∷ []) opened.faults now.faults (Err why)
      → WhyNotAll (files_of (mid ∷ [])) r.walk (only r.gathered) why → SortFails old new opened now chunk (answer_for why)
  sorted_stops new opened now (merges.Halted place (readings.Fault faults)) files counts cause =
      let rose = counts.0 in
      let of = stopped_so opened now (merges.Halted place (readings.Fault faults)) files in
      let first : rose.old ≡ mid = only_one mid rose.old place rose.old_at in
      let last : rose.new ≡ new = only_one new rose.new place rose.new_at in
      let rises = subst (λ (n : ℕ). RisesOnce n new.faults) (ap (λ (s : StoreState). s.faults) first ∙ ready.still) (subst (λ (s : StoreState). RisesOnce rose.old.faults s.faults) last rose.rises) in
      (rises, rose.faults_is ∙ ap (λ (s : StoreState). s.faults) last, inr (stops_with opened now stops.Memory of counts.1))
  sorted_stops new opened now (merges.Halted place (readings.Grammar offset rule)) files counts cause = absurd counts.0
  sorted_stops new opened now (merges.Halted place (readings.Compressed offset name)) files counts cause = absurd counts.0
  sorted_stops new opened now (merges.Halted place (readings.Limit offset)) files counts cause = absurd counts.0
  sorted_stops new opened now (merges.Halted place readings.Memory) files counts cause = absurd counts.0
  sorted_stops new opened now (merges.Changed place offset) files counts cause =
      let of = stopped_so opened now (merges.Changed place offset) files in (
        counts.0.0 ∙ ready.still,
        λ bytes told. told_stays (old ∷ []) (ready.read ∷ []) (input ∷ []) r.walk place offset (tells_of bytes told place) (listed_of r.walk refl) (subst (λ (f : InputBytes). WhyNotAll f r.walk (input ∷ []) (merges.Changed place offset)) same_files cause),
        stops_with opened now stops.Memory of counts.1,
      )
  sorted_stops new opened now merges.TooManySchemas files counts cause = absurd counts
  sorted_stops new opened now merges.TooManyChannels files counts cause = absurd counts
  sorted_stops new opened now (merges.Stopped stop) files counts cause =
      let of = stopped_so opened now (merges.Stopped stop) files in
      (counts.0.0 ∙ ready.still, inr (stops_with opened now stop of counts.1))

  -- whatever was answered
  sorted_as : (new : StoreState) (opened now : LiveState) (end : Result SortCounts MergeRefused) → Files r.options from opened now end → IfErr end (λ why. WhyNotAll (files_of (mid ∷ [])) r.walk (only r.gathered) why) → PutCounts (mid ∷ []) (new ∷ []) opened.faults now.faults end
      → SortsSo chunk old new opened now (answer_of end)
  sorted_as new opened now (Ok p) files cause counts =
      sorted_whole new opened now p (subst (λ (o : FileOptions). Files o from opened now (Ok p)) ready.options_are files) (counts.0.0 ∙ ready.still) counts.1
  sorted_as new opened now (Err why) files cause counts = sorted_stops new opened now why (subst (λ (o : FileOptions). Files o from opened now (Err why)) ready.options_are files) counts cause

  -- ---- what the writing needs

  pub extras_meet : Each (λ e. IsExtra (extra_top e)) input.extras.items
  extras_meet n e at =
      let there : At extras n (extra_top e) = at_mapped extra_top input.extras.items n e at in
      extra_meets ready.read.tops n (extra_top e) ready.holds.holds.good (subst (λ (l : List Top). At l n (extra_top e)) ready.holds.holds.extras_are there)

  pub pieces_fit : StoresFit (mid ∷ []) (pieces_in r.walk)
  pieces_fit = stores_fit_in (mid ∷ []) (input ∷ []) (pieces_in r.walk) (ready.fits, tt) (pieces_all r.walk refl)

-- ---- nothing was written

pub sorted_unready : (old new : StoreState) (opened : LiveState) (chunk : ℕ) (why : MergeRefused) → IsUnready old new why → SortFails old new opened opened chunk (answer_for why)
sorted_unready old new opened chunk why (inl (readings.Fault faults, refused, is)) =
    subst (λ w. SortFails old new opened opened chunk (answer_for w)) (sym is) (refused.0, refused.1, inl refl)
sorted_unready old new opened chunk why (inl (readings.Grammar offset rule, refused, is)) =
    subst (λ w. SortFails old new opened opened chunk (answer_for w)) (sym is) (refl, refused)
sorted_unready old new opened chunk why (inl (readings.Compressed offset name, refused, is)) =
    subst (λ w. SortFails old new opened opened chunk (answer_for w)) (sym is) (refl, refused)
sorted_unready old new opened chunk why (inl (readings.Limit offset, refused, is)) =
    subst (λ w. SortFails old new opened opened chunk (answer_for w)) (sym is) (refl, refused)
sorted_unready old new opened chunk why (inl (readings.Memory, lacks, is)) =
    subst (λ w. SortFails old new opened opened chunk (answer_for w)) (sym is) (lacks.still, inl (refl, refl, inl lacks))
sorted_unready old new opened chunk why (inr (still, is, readable)) =
    subst (λ w. SortFails old new opened opened chunk (answer_for w)) (sym is) (still, inl (refl, refl, inr readable))

pub asks_twice : (olds news : List StoreState) → OfOne olds news AsksWithinLength → OfOne olds news AsksTwice
asks_twice olds news (old, new, is, are, within) = (old, new, is, are, record { twice = omega (arith, within.once) })

-- ---- the lists of the only store

-- what the writing began with
pub record Begins (olds mids : List StoreState) (chunk : ℕ) (r : Ready) : Type 0 where
  pub old : StoreState
  pub mid : StoreState
  pub olds_are : olds ≡ old ∷ []
  pub mids_are : mids ≡ mid ∷ []
  pub ready : IsReady old mid chunk r
  pub keeps : StoreKeeps old mid

same_head : (s t : StoreState) → s ∷ [] ≡ t ∷ [] → s ≡ t
same_head s t is = cc

pub begins : (olds mids : List StoreState) (chunk : ℕ) (r : Ready) → OfOne olds mids (λ old new. IsReady old new chunk r) → OfOne olds mids StoreKeeps → Begins olds mids chunk r
begins olds mids chunk r (old, mid, olds_are, mids_are, ready) (other, next, others, nexts, keeps) = record {
  old = old;
  mid = mid;
  olds_are = olds_are;
  mids_are = mids_are;
  ready = ready;
  keeps = subst (λ (s : StoreState). StoreKeeps s mid) (same_head other old (sym others ∙ olds_are)) (subst (StoreKeeps other) (same_head next mid (sym nexts ∙ mids_are)) keeps);
}

one_stays : (mid : StoreState) (news : List StoreState) → StoresStay (mid ∷ []) news → (new : StoreState) × (news ≡ new ∷ []) × StoreStays mid new
one_stays mid [] stay = absurd stay
one_stays mid (new ∷ []) stay = (new, refl, stay.0)
one_stays mid (new ∷ other ∷ news) stay = absurd stay.1

module _ (olds mids : List StoreState) (chunk : ℕ) (r : Ready) (b : Begins olds mids chunk r) where
  pub one_left : length mids ≡ 1
  one_left = ap length b.mids_are

  pub is_held : (read : Read) × HoldsGathered read r.gathered
  is_held = (b.ready.read, b.ready.holds)

  pub are_met : Each (λ e. IsExtra (extra_top e)) r.gathered.input.extras.items
  are_met = extras_meet b.old b.mid chunk r b.ready b.keeps

  pub all_fit : StoresFit mids (pieces_in r.walk)
  all_fit = subst (λ (l : List StoreState). StoresFit l (pieces_in r.walk)) (sym b.mids_are) (pieces_fit b.old b.mid chunk r b.ready b.keeps)

  pub has_begun : WalkStands (files_of mids) r.walk [] []
  has_begun = let stands = b.ready.stands in stands (files_of mids)

  pub size_fits : 1 ≤ chunk → chunk ≤ 67108864 → ChunkSizeFits r.options.chunk
  size_fits least most = subst (λ (o : FileOptions). ChunkSizeFits o.chunk) (sym b.ready.options_are) (λ n is. (subst (λ (k : ℕ). 1 ≤ k) (same_Some chunk n is) least, subst (λ (k : ℕ). k ≤ 67108864) (same_Some chunk n is) most))

  module _ (news : List StoreState) (stay : StoresStay mids news) where
    there : (new : StoreState) × (news ≡ new ∷ []) × StoreStays b.mid new
    there = one_stays b.mid news (subst (λ (l : List StoreState). StoresStay l news) b.mids_are stay)

    pub sorted_so : (opened now : LiveState) (end : Result SortCounts MergeRefused) → Files r.options (start (files_of mids) r.gathered r.walk) opened now end → IfErr end (λ why. WhyNotAll (files_of mids) r.walk (only r.gathered) why) → PutCounts mids news opened.faults now.faults end
        → OfOne olds news (λ old new. SortsSo chunk old new opened now (answer_of end))
    sorted_so opened now end files cause counts = (
      b.old,
      there.0,
      b.olds_are,
      there.1,
      sorted_as b.old b.mid chunk r b.ready b.keeps there.0 opened now end
          (subst (λ (l : List StoreState). Files r.options (start (files_of l) r.gathered r.walk) opened now end) b.mids_are files)
          (subst (λ (l : List StoreState). IfErr end (λ why. WhyNotAll (files_of l) r.walk (only r.gathered) why)) b.mids_are cause)
          (subst (λ (l : List StoreState). PutCounts (b.mid ∷ []) l opened.faults now.faults end) there.1 (subst (λ (l : List StoreState). PutCounts l news opened.faults now.faults end) b.mids_are counts)),
    )

    pub keeps_so : (before now : ℕ) (end : Result SortCounts MergeRefused) → PutCounts mids news before now end → OfOne olds news StoreKeeps
    keeps_so before now end counts =
        let stays = there.2 in
        let unfallen_one = unfallen (b.mid ∷ []) (there.0 ∷ []) before now end (subst (λ (l : List StoreState). PutCounts (b.mid ∷ []) l before now end) there.1 (subst (λ (l : List StoreState). PutCounts l news before now end) b.mids_are counts)) 0 b.mid there.0 refl refl in
        (b.old, there.0, b.olds_are, there.1, record { bytes = stays.bytes ∙ b.keeps.bytes; known = omega (arith, stays.known, b.keeps.known); faults = omega (arith, unfallen_one, b.keeps.faults) })

    pub asked_so : OfOne olds mids AsksWithinLength → AskedWithin mids news (unasked r.walk) none_left → OfOne olds news AsksTwice
    asked_so (other, next, others, nexts, within) asked =
        let first : AsksWithinLength b.old b.mid = subst (λ (s : StoreState). AsksWithinLength s b.mid) (same_head other b.old (sym others ∙ b.olds_are)) (subst (AsksWithinLength other) (same_head next b.mid (sym nexts ∙ b.mids_are)) within) in
        let again = subst (λ (l : List StoreState). AskedWithin (b.mid ∷ []) l (unasked r.walk) none_left) there.1 (subst (λ (l : List StoreState). AskedWithin l news (unasked r.walk) none_left) b.mids_are asked) in
        let sums = asked_sum (b.ready.read ∷ []) (b.mid ∷ []) (r.gathered.input ∷ []) (pieces_in r.walk) (b.ready.holds.holds, tt) (b.ready.fits, tt) (pieces_all b.old b.mid chunk r b.ready b.keeps r.walk refl) in
        let all = asked_behind (b.old ∷ []) (b.mid ∷ []) (there.0 ∷ []) (there.2, tt) r.walk (first, tt) again sums in
        (b.old, there.0, b.olds_are, there.1, all.0)
