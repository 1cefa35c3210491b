-- What a merge comes to.
use Rattle.std.proofs.Common.{◌≡◌, ◌∙◌, ◌<◌, ◌≤◌, ℕ, zero, suc, List, [], ◌∷◌, ◌++◌, length, drop, refl, sym, ap, subst, inl, inr, append-nil, arith}
use Rattle.std.specs.Prelude.{min, ◌-◌, ◌^◌, Result, Ok, Err, IfOk, IfErr, IsPermutation}
use Rattle.std.specs.List.{AllZip}
use Rattle.rec_data.specs.declared.owned.Rec.{Rec}
use Rattle.mcap_io.specs.Outside.{LiveState}
use Rattle.mcap_io.specs.Stores.{StoreState}
use Rattle.mcap_model.specs.declared.options.FileOptions.{FileOptions}
use Rattle.mcap_model.specs.declared.ends.Stop.{Stop}
use Rattle.mcap_model.specs.declared.ends.Stop.TheVariants as stops
use Rattle.mcap_model.specs.declared.refusals.ReadingRefused.TheVariants as refusals
use Rattle.mcap_model.specs.Places.{At, Has, Each}
use Rattle.mcap_model.specs.Tops.{Top}
use Rattle.mcap_model.specs.Kept.{Good, reading_limits}
use Rattle.mcap_model.specs.ReadBack.{IsExtra}
use Rattle.mcap_model.proofs.Places.{at_none, at_one, at_within}
use Rattle.mcap_model.proofs.Lists.{at_flat}
use Rattle.mcap_model.proofs.NamedTopics.{zip_front, unmapped}
use Rattle.merge_walk.specs.declared.turns.Turn.{Turn}
use Rattle.merge_walk.specs.declared.pieces.Piece.{Piece}
use Rattle.merge_walk.specs.declared.walk.Walk.{Walk}
use Rattle.merge_walk.specs.Pieces.{InputBytes}
use Rattle.merge_walk.specs.Stores.{files_of, StoresFit, StoresStay, AskedWithin, unasked, none_left}
use Rattle.merge_walk.specs.Walks.{Text, pieces_in, WalkStands, AllGiven, ReachesEnd}
use Rattle.mcap_merge.specs.declared.answers.MergeRefused.{MergeRefused}
use Rattle.mcap_merge.specs.declared.answers.MergeRefused.TheVariants as merges
use Rattle.mcap_merge.specs.declared.answers.Merged.{Merged}
use Rattle.mcap_merge.specs.declared.input.Input.{Input}
use Rattle.mcap_merge.specs.declared.merge_stores.Ready.{Ready}
use Rattle.mcap_merge.specs.Uses.{Use, history_of}
use Rattle.mcap_merge.specs.Inputs.{extra_top, extra_tops, HoldsInput, HoldInputs}
use Rattle.mcap_merge.specs.ReadInputs.{Read, read_tops}
use Rattle.mcap_merge.specs.Pieces.{pieces_from}
use Rattle.mcap_merge.specs.ReadingSteps.{StoreKeeps, AsksWithinLength}
use Rattle.mcap_merge.specs.Writing.{extras_of}
use Rattle.mcap_merge.specs.Sound.{IsSoundHistory}
use Rattle.mcap_merge.specs.Overlap.{IsPeak, IsMostOf}
use Rattle.mcap_merge.specs.Turns.{IsUseOfTurn, IsChanged, WhyNotAll, stop_of, PutCounts}
use Rattle.mcap_merge.specs.Putting.{MergeStart, WholeStands}
use Rattle.mcap_merge.specs.Filed.{merged_options, AllTell, TellsNot, MergeIs, FileStands, MergesInto, IsCutBy, MergeIsCut, MergeFails, AsksTwice}
use Rattle.mcap_merge.specs.Filing.{IsReadyToWrite, FilesAs, FileStops}
use Rattle.mcap_merge.proofs.Lengths.{history_few}
use Rattle.mcap_merge.proofs.Merging.{inner_all}
use Rattle.mcap_merge.proofs.Profiles.{zip_length, held_length}
use Rattle.mcap_merge.proofs.Sound.{is_sound, merge_sound}
use Rattle.mcap_merge.proofs.Fitting.{stores_fit_in, asked_sum, peak_is, most_is}
use Rattle.mcap_merge.proofs.ToldTurns.{piece_ends}
use Rattle.mcap_merge.proofs.Told.{Listed, TellsAt, Told, merged_told, told_begins, told_stays}
use Rattle.mcap_merge.proofs.Behind.{all_tell, files_kept, counts_behind, rose_behind, keeps_behind, asked_behind, unfallen}

all_counted : (n : ℕ) → n ≤ 1099511627776 → min n (2 ^ 64 - 1) ≡ n
all_counted n few = omega (arith, few)

has_dropped : {X : Type 0} (n : ℕ) (xs : List X) (k : ℕ) (x : X) → At (drop n xs) k x → Has xs x
has_dropped zero xs k x at = (k, at)
has_dropped (suc n) [] k x at = absurd (at_none k x at)
has_dropped (suc n) (y ∷ ys) k x at = let (m, there) = has_dropped n ys k x at in (suc m, there)

good_all : (reads : List Read) (inputs : List Input) → HoldInputs reads inputs → Each (Good reading_limits) (read_tops reads)
good_all reads inputs hold n tops at =
    let (r, there, same) = unmapped (λ (x : Read). x.tops) reads n tops at in
    let (i, here, holds) = zip_front HoldsInput reads inputs n r hold there in
    subst (Good reading_limits) same holds.good

module _ (olds mids : List StoreState) (chunk : ℕ) (r : Ready) (ready : IsReadyToWrite olds mids chunk r) (keeps : AllZip StoreKeeps olds mids) where
  abbrev inputs : List Input
  inputs = r.gathered.inputs.items

  abbrev profile : List ℕ
  profile = r.gathered.profile

  abbrev reads : List Read
  reads = ready.gathered.reads

  abbrev extras : List Top
  extras = extras_of inputs

  abbrev start : MergeStart
  start = record { files = files_of mids; inputs = inputs; walk = r.begun.walk }

  same_files : files_of mids ≡ files_of olds
  same_files = files_kept olds mids keeps

  extras_meet : Each IsExtra extras
  extras_meet n t at =
      let (k, i, j, at_i, at_t, place) = at_flat (λ (x : Input). extra_tops x.extras.items) inputs n t at in
      let (e, at_e, same) = unmapped extra_top i.extras.items j t at_t in
      let meet = ready.gathered.meet in
      subst IsExtra same (meet k i at_i j e at_e)

  listed_of : (pieces : List Piece) → pieces ≡ pieces_in r.begun.walk → Listed olds reads inputs pieces
  listed_of pieces is = record {
    are = ready.gathered.are;
    hold = ready.gathered.hold;
    same = subst (IsPermutation (pieces_from 0 inputs)) (sym is) ready.begun.pieces;
  }

  told_of : (pieces : List Piece) → pieces ≡ pieces_in r.begun.walk → AllTell olds → Told olds reads inputs pieces
  told_of pieces is tell = record { tell = tell; listed = listed_of pieces is }

  -- ---- whose merge it is

  -- as it is known before anything is written
  prepared_is : MergeIs olds profile extras (history_of ready.gathered.prepared.uses)
  prepared_is =
      let prepared = ready.gathered.prepared in
      record {
        reads = reads;
        are = ready.gathered.are;
        good = good_all reads inputs ready.gathered.hold;
        profile_is = prepared.merge.profile_is;
        extras_are = prepared.merge.extras_are;
        sound = merge_sound (read_tops reads) profile extras (history_of prepared.uses) prepared.merge prepared.back extras_meet;
        of = λ tell. prepared.merge;
      }

  -- where all turns were given
  whole_is : (w : Walk) (texts : List Text) (given : List Turn) (uses : List Use) → pieces_in w ≡ pieces_in r.begun.walk → AllGiven (files_of mids) (pieces_in w) texts given → AllZip (IsUseOfTurn (read_tops reads) texts) given uses → MergeIs olds profile extras (history_of uses)
  whole_is w texts given uses is all zip =
      let prepared = ready.gathered.prepared in
      record {
        reads = reads;
        are = ready.gathered.are;
        good = good_all reads inputs ready.gathered.hold;
        profile_is = prepared.merge.profile_is;
        extras_are = prepared.merge.extras_are;
        sound = is_sound (read_tops reads) texts given uses extras prepared.suffice zip all.rise extras_meet;
        of = λ tell. merged_told olds reads inputs (pieces_in w) texts given uses profile (told_of (pieces_in w) is tell) (subst (λ (f : InputBytes). AllGiven f (pieces_in w) texts given) same_files all) zip prepared.merge.profile_is;
      }

  -- some records, and maybe some behind them, are those of the merge
  abbrev BeginsMerge : List Use → Type 0
  BeginsMerge uses = (more : List Rec) × MergeIs olds profile extras (history_of uses ++ more)

  -- where some turns were
  part_is : (w : Walk) (texts : List Text) (given : List Turn) (uses : List Use) → pieces_in w ≡ pieces_in r.begun.walk → WalkStands (files_of mids) w texts given → AllZip (IsUseOfTurn (read_tops reads) texts) given uses → BeginsMerge uses
  part_is w texts given uses is stands zip = elim (all_tell olds) [
    | inl tell ↦
        let prepared = ready.gathered.prepared in
        let (more, same) = told_begins olds reads inputs w texts given uses prepared.messages prepared.uses (told_of (pieces_in w) is tell) (subst (λ (f : InputBytes). WalkStands f w texts given) same_files stands) zip prepared.in_turn prepared.used in
        (more, subst (MergeIs olds profile extras) same prepared_is)
    | inr some ↦
        let sound : IsSoundHistory extras (history_of uses) = is_sound (read_tops reads) texts given uses extras ready.gathered.prepared.suffice zip stands.queues.rise extras_meet in (
          [],
          record {
            reads = reads;
            are = ready.gathered.are;
            good = good_all reads inputs ready.gathered.hold;
            profile_is = ready.gathered.prepared.merge.profile_is;
            extras_are = ready.gathered.prepared.merge.extras_are;
            sound = subst (IsSoundHistory extras) (sym (append-nil (history_of uses))) sound;
            of = λ tell. absurd (some tell);
          },
        )
  ]

  -- ---- all was written

  files_all : (news : List StoreState) (opened now : LiveState) (m : Merged) → StoresStay mids news → WholeStands (FilesAs r.options (Ok tt)) start opened now m → PutCounts mids news opened.faults now.faults (Ok m) → MergesInto olds news opened now chunk m
  unfolding whole_is
  files_all news opened now m stay whole counts =
      let uses = whole.uses in
      let (us, zip, (stands, counted)) = uses reads ready.gathered.hold ready.gathered.prepared.suffice in
      let history = history_of us in
      let options = merged_options profile chunk in
      let file : FileStands options extras history opened now (Ok tt) = subst (λ (o : FileOptions). FileStands o extras history opened now (Ok tt)) ready.options_are stands in
      let same = subst (IsPermutation (pieces_from 0 inputs)) (sym whole.pieces) ready.begun.pieces in
      record {
        profile = profile;
        extras = extras;
        history = history;
        is = whole_is whole.walk whole.texts whole.given us whole.pieces whole.all_given zip;
        messages = counted.messages;
        records = counted.records ∙ all_counted (length history) (omega (arith, history_few options extras history (inner_all us), file.1.holds.small));
        peak = subst (IsPeak (read_tops reads)) (sym whole.peak) (peak_is reads inputs whole.walk ready.gathered.hold same whole.loaded whole.stands.peak);
        most = λ tell. subst (IsMostOf (read_tops reads)) (sym whole.peak)
            (most_is reads inputs whole.walk ready.gathered.hold same whole.stands.order whole.loaded whole.stands.next (whole.stands.most (λ n p at. subst (λ (f : InputBytes). ReachesEnd f p) (sym same_files)
            (piece_ends olds reads inputs (pieces_in whole.walk) (listed_of (pieces_in whole.walk) whole.pieces) p (λ store there. tell p.input store there) (n, at)))));
        file = file.0;
        within = file.1;
        inputs_still = counts_behind olds mids news stay ready.still counts.0;
        still = counts.1;
        through = file.2;
      }

  -- ---- the writing stopped

  abbrev StopsMerge : LiveState → LiveState → Stop → Type 0
  StopsMerge opened now stop = (history : List Rec) × MergeIs olds profile extras history × FileStands (merged_options profile chunk) extras history opened now (Err stop)

  stops_merge : (opened now : LiveState) (why : MergeRefused) → FileStops r.options start opened now why → StopsMerge opened now (stop_of why)
  stops_merge opened now why (inl part) =
      let uses = part.uses in
      let (us, zip, stands) = uses reads ready.gathered.hold ready.gathered.prepared.suffice in
      let (more, is) = part_is part.walk part.texts part.given us part.pieces part.stands zip in
      (history_of us ++ more, is, subst (λ (o : FileOptions). FileStands o extras (history_of us ++ more) opened now (Err (stop_of why))) ready.options_are (stands more))
  stops_merge opened now why (inr (stop, is, m, whole)) =
      let uses = whole.uses in
      let (us, zip, (stands, counted)) = uses reads ready.gathered.hold ready.gathered.prepared.suffice in
      let there : FileStands (merged_options profile chunk) extras (history_of us) opened now (Err stop) = subst (λ (o : FileOptions). FileStands o extras (history_of us) opened now (Err stop)) ready.options_are stands in
      (history_of us, whole_is whole.walk whole.texts whole.given us whole.pieces whole.all_given zip, subst (λ (s : Stop). FileStands (merged_options profile chunk) extras (history_of us) opened now (Err s)) (sym (ap stop_of is)) there)

  -- they are as many as the stores
  input_count : length inputs ≡ length olds
  input_count = held_length olds inputs (reads, ready.gathered.hold, ready.gathered.are)

  store_count : length mids ≡ length olds
  store_count = sym (zip_length StoreKeeps olds mids keeps)

  -- a piece that is changed is of an input
  changed_within : (input offset : ℕ) → StoresFit mids (pieces_in r.begun.walk) → IsChanged (files_of mids) r.begun.walk inputs input offset → input < length olds
  changed_within input offset fit (inl (w, same, (p, has, of, at, how))) =
      let (k, there) = has_dropped w.next (pieces_in w) has.0 p has.1 in
      let (s, at_s, within) = fit k p (subst (λ (l : List Piece). At l k p) same there) in
      omega (arith, of, at_within mids p.input s at_s, store_count)
  changed_within input offset fit (inr other) = omega (arith, other.input_is, at_within inputs other.turn.input other.held other.at, input_count)

  files_cut : (news : List StoreState) (opened now : LiveState) (why : MergeRefused) → FileStops r.options start opened now why → stop_of why ≡ stops.Memory → now.faults ≡ opened.faults → IsCutBy olds news why → MergeIsCut olds news opened now chunk why
  files_cut news opened now why stopped made still cause =
      let (history, is, stands) = stops_merge opened now why stopped in
      record {
        profile = profile;
        extras = extras;
        history = history;
        is = is;
        stands = subst (λ (s : Stop). FileStands (merged_options profile chunk) extras history opened now (Err s)) made stands;
        still = still;
        cause = cause;
      }

  files_some : (news : List StoreState) (opened now : LiveState) (why : MergeRefused) → StoresStay mids news → FileStops r.options start opened now why → PutCounts {X = Merged} mids news opened.faults now.faults (Err why) → WhyNotAll (files_of mids) r.begun.walk inputs why → MergeFails olds news opened now chunk why
  files_some news opened now (merges.Stopped stop) stay stopped counts cause =
      let (history, is, stands) = stops_merge opened now (merges.Stopped stop) stopped in
      inr (inl (
        counts_behind olds mids news stay ready.still counts.0,
        record {
          profile = profile;
          extras = extras;
          history = history;
          is = is;
          stop = stop;
          answer = refl;
          stands = stands;
          cause = counts.1;
        },
      ))
  files_some news opened now (merges.Changed input offset) stay stopped counts cause =
      let other : TellsNot olds input = λ s at bytes told.
      let tell : TellsAt olds input = λ store there. (bytes, ap (λ (x : StoreState). x.bytes) (at_one olds input store s there at) ∙ told) in
      told_stays olds reads inputs r.begun.walk input offset tell (listed_of (pieces_in r.begun.walk) refl) (subst (λ (f : InputBytes). IsChanged f r.begun.walk inputs input offset) same_files cause) in
      let because : IsCutBy olds news (merges.Changed input offset) = (changed_within input offset (stores_fit_in mids inputs (pieces_in r.begun.walk) ready.fits ready.begun.pieces) cause, counts_behind olds mids news stay ready.still counts.0, other) in
      inr (inr (files_cut news opened now (merges.Changed input offset) stopped refl counts.1 because))
  files_some news opened now (merges.Halted input (refusals.Fault faults)) stay stopped counts cause =
      inr (inr (files_cut news opened now (merges.Halted input (refusals.Fault faults)) stopped refl counts.1 (rose_behind olds mids news stay input faults ready.still counts.0)))
  files_some news opened now (merges.Halted input (refusals.Grammar offset rule)) stay stopped counts cause = absurd counts.0
  files_some news opened now (merges.Halted input (refusals.Compressed offset name)) stay stopped counts cause = absurd counts.0
  files_some news opened now (merges.Halted input (refusals.Limit offset)) stay stopped counts cause = absurd counts.0
  files_some news opened now (merges.Halted input refusals.Memory) stay stopped counts cause = absurd counts.0
  files_some news opened now merges.TooManySchemas stay stopped counts cause = absurd counts
  files_some news opened now merges.TooManyChannels stay stopped counts cause = absurd counts

  -- ---- what is answered

  pub merged_so : (news : List StoreState) (opened now : LiveState) (result : Result Merged MergeRefused) → StoresStay mids news → IfOk result (λ m. WholeStands (FilesAs r.options (Ok tt)) start opened now m) → PutCounts mids news opened.faults now.faults result → IfOk result (λ m. MergesInto olds news opened now chunk m)
  merged_so news opened now (Ok m) stay whole counts = files_all news opened now m stay whole counts
  merged_so news opened now (Err why) stay whole counts = tt

  pub refused_so : (news : List StoreState) (opened now : LiveState) (result : Result Merged MergeRefused) → StoresStay mids news → IfErr result (λ why. FileStops r.options start opened now why) → PutCounts mids news opened.faults now.faults result
      → IfErr result (λ why. WhyNotAll (files_of mids) r.begun.walk inputs why) → IfErr result (λ why. MergeFails olds news opened now chunk why)
  refused_so news opened now (Ok m) stay stopped counts cause = tt
  refused_so news opened now (Err why) stay stopped counts cause = files_some news opened now why stay stopped counts cause

  -- ---- what the stores are then

  pub inputs_many : length mids ≡ length inputs
  inputs_many = store_count ∙ sym input_count

  pub pieces_fit : StoresFit mids (pieces_in r.begun.walk)
  pieces_fit = stores_fit_in mids inputs (pieces_in r.begun.walk) ready.fits ready.begun.pieces

  pub asked_then : (news : List StoreState) → StoresStay mids news → AllZip AsksWithinLength olds mids → AskedWithin mids news (unasked r.begun.walk) none_left → AllZip AsksTwice olds news
  asked_then news stay once within = asked_behind olds mids news stay r.begun.walk once within (asked_sum reads mids inputs (pieces_in r.begun.walk) ready.gathered.hold ready.fits ready.begun.pieces)

  pub kept_then : {X : Type 0} (news : List StoreState) (before now : ℕ) (result : Result X MergeRefused) → StoresStay mids news → PutCounts mids news before now result → AllZip StoreKeeps olds news
  kept_then news before now result stay counts = keeps_behind olds mids news stay keeps (unfallen mids news before now result counts)
