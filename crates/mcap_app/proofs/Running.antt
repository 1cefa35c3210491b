-- What the words of a command make of its run.
use Rattle.std.proofs.Common.{◌≡◌, ℕ, ◌≤◌, Bool, true, false, List, [], ◌∷◌, Option, Some, None, refl, sym, ap, ap₂, length, subst, codes, ◌∙◌, arith, unwrap_or}
use Rattle.std.proofs.lemmas.Option.{same_Some}
use Rattle.std.proofs.lemmas.List.FromFn.{length-map-range_with_len}
use Rattle.command_words.specs.declared.command.Command.{Command}
use Rattle.command_words.specs.declared.command.Command.TheVariants as commands
use Rattle.command_words.specs.declared.command.Recording.{Recording}
use Rattle.mcap_model.specs.declared.options.FileOptions.{FileOptions}
use Rattle.mcap_model.specs.declared.replay.Range.{Range}
use Rattle.command_words.specs.Items.{Item, given}
use Rattle.command_words.specs.Commands.{GivesNumber, SizesChunks, Derives, IsFileOptions, Flags, HasWatchers, MayWatch, watchers_with}
use Rattle.command_words.specs.Defaults.{watch_name, watch_names}
use Rattle.std.specs.Option.{option_map}
use Rattle.recorder.specs.declared.report.Report.{Report}
use Rattle.recorder.specs.Lanes.{AreMessagesListed}
use Rattle.command_record.specs.declared.recording.RecordingReport.{RecordingReport}
use Rattle.command_record.specs.RecordSteps.{AreListed}
use Rattle.command_base.specs.declared.statuses.Status.{Status}
use Rattle.command_base.specs.declared.statuses.Status.TheVariants as statuses
use Rattle.command_base.specs.Texts.{status_number}
use Rattle.command_base.specs.Ran.{Scene}
use Rattle.mcap_model.specs.declared.options.RecordOptions.{RecordOptions}
use Rattle.command_generate.specs.Allowed.{OptionsAllowed}
use Rattle.command_generate.specs.Generating.{Generates}
use Rattle.command_generate.specs.declared.making.Numbers.{Numbers}
use Rattle.command_record.specs.Watched.{requested}
use Rattle.command_record.specs.WatchedAnswer.{Records}
use Rattle.mcap_app.specs.Runs.{generate_options}
use Rattle.mcap_app.specs.Allowed.{IsAllowed, IsWatchable}

-- no status has the number of bad words
pub no_bad_words : (status : Status) (number : ℕ) → number ≡ status_number status → number ≡ 2 → ⊥
no_bad_words statuses.Done number is two = omega (arith, is, two)
no_bad_words statuses.Refused number is two = omega (arith, is, two)
no_bad_words statuses.Fault number is two = omega (arith, is, two)
no_bad_words statuses.Limit number is two = omega (arith, is, two)
no_bad_words statuses.Memory number is two = omega (arith, is, two)

-- ---- the names of watchers' files

-- there are as many as watchers
names_long : (out : List ℕ) (watchers : ℕ) (names : List (List ℕ)) → names ≡ watch_names out watchers → length names ≡ watchers
names_long out watchers names named = ap length named ∙ length-map-range_with_len (watch_name out) 1 watchers

pub few_names : (out : List ℕ) (watchers : ℕ) (names : List (List ℕ)) → watchers ≤ 16 → names ≡ watch_names out watchers → length names ≤ 16
few_names out watchers names few named = let long = names_long out watchers names named in omega (arith, long, few)

-- without watchers there are none
pub none_named : (P : List (List ℕ) → Type 0) (out : List ℕ) (watchers : ℕ) (names : List (List ℕ)) → watchers ≡ 0 → names ≡ [] → P names → P (watch_names out watchers)
none_named P out watchers names none empty holds = subst (λ (n : ℕ). P (watch_names out n)) (sym none) (subst P empty holds)

-- what is said of these names is said of those that are equal
with_names : (out out' : List ℕ) (feeds feeds' : List (List ℕ)) (P : List ℕ → List (List ℕ) → Type 0) → out' ≡ out → feeds' ≡ feeds → P out' feeds' → P out feeds
with_names out out' feeds feeds' P same same2 is = subst (P out) same2 (subst (λ (o : List ℕ). P o feeds') same is)

-- ---- a recording as the words ask for it

-- without watchers
pub recorded_alone : (recording : Recording) (out : List ℕ) (names feeds : List (List ℕ)) (old new : Scene) (report : Option RecordingReport) (status : Status) → out ≡ recording.out → feeds ≡ recording.feeds → recording.watchers ≡ 0 → names ≡ []
    → Records (requested recording.options recording.range out names feeds) old new report status
    → Records (requested recording.options recording.range recording.out (watch_names recording.out recording.watchers) recording.feeds) old new report status
recorded_alone recording out names feeds old new report status same same2 none empty records =
    with_names recording.out out recording.feeds feeds (λ o f. Records (requested recording.options recording.range o (watch_names recording.out recording.watchers) f) old new report status) same same2
    (none_named (λ (l : List (List ℕ)). Records (requested recording.options recording.range out l feeds) old new report status) recording.out recording.watchers names none empty records)

-- with the names that were made for them
pub recorded_watched : (recording : Recording) (out : List ℕ) (names feeds : List (List ℕ)) (old new : Scene) (report : Option RecordingReport) (status : Status) → out ≡ recording.out → feeds ≡ recording.feeds → names ≡ watch_names out recording.watchers
    → Records (requested recording.options recording.range out names feeds) old new report status
    → Records (requested recording.options recording.range recording.out (watch_names recording.out recording.watchers) recording.feeds) old new report status
recorded_watched recording out names feeds old new report status same same2 named records =
    with_names recording.out out recording.feeds feeds (λ o f. Records (requested recording.options recording.range o (watch_names o recording.watchers) f) old new report status) same same2
    (subst (λ (l : List (List ℕ)). Records (requested recording.options recording.range out l feeds) old new report status) named records)

-- what was generated, with the usual options, under that name, and reported as that
pub generated_so : (numbers : Numbers) (options : RecordOptions) (name out : List ℕ) (old new : Scene) (report : Option Report) (all : Option RecordingReport) (status : Status) → options ≡ generate_options → name ≡ out
    → option_map (λ (r : RecordingReport). r.recorded) all ≡ report → Generates options numbers name old new report status
    → Generates generate_options numbers out old new (option_map (λ (r : RecordingReport). r.recorded) all) status
generated_so numbers options name out old new report all status usual same is generates =
    subst (λ (o : RecordOptions). Generates o numbers out old new (option_map (λ (r : RecordingReport). r.recorded) all) status) usual
    (subst (λ (n : List ℕ). Generates options numbers n old new (option_map (λ (r : RecordingReport). r.recorded) all) status) same
    (subst (λ (r : Option Report). Generates options numbers name old new r status) (sym is) generates))

-- without watchers, the lists of its feeds are those of what the recorder reported
pub unwatched_listed : (listed : Bool) (report : Option Report) (all : Option RecordingReport) → option_map (λ (r : RecordingReport). r.recorded) all ≡ report → AreMessagesListed report listed → AreListed all listed
unwatched_listed listed report all is lists r here = lists r.recorded (sym is ∙ ap (option_map (λ (x : RecordingReport). x.recorded)) here)

-- ---- ranges

-- a number that is given, or else the usual one, lies in its range
in_range : (least most usual : ℕ) (values : List (List ℕ)) (given : Option ℕ) → GivesNumber least most values given → least ≤ usual → usual ≤ most → (least ≤ unwrap_or given usual) × (unwrap_or given usual ≤ most)
in_range least most usual values None gives low high = (low, high)
in_range least most usual values (Some n) gives low high = let number = gives.2 in (number.above, number.below)

chunk_in_range : (is_plain : Bool) (values : List (List ℕ)) (size chunk : Option ℕ) → SizesChunks is_plain size chunk → GivesNumber 1 67108864 values size → (n : ℕ) → chunk ≡ Some n → (1 ≤ n) × (n ≤ 67108864)
chunk_in_range true values None chunk sizes gives n is = absurd (apart (sym is ∙ sizes))
  where
    apart : Some n ≡ None → ⊥
    apart e = cc
chunk_in_range true values (Some size) chunk sizes gives n is = absurd sizes
chunk_in_range false values size chunk sizes gives n is =
    let usual = in_range 1 67108864 786432 values size gives (omega arith) (omega arith) in
    let same : unwrap_or size 786432 ≡ n = same_Some (unwrap_or size 786432) n (sym sizes ∙ is) in
    (subst (λ (k : ℕ). 1 ≤ k) same usual.0, subst (λ (k : ℕ). k ≤ 67108864) same usual.1)

-- a flag stands or doesn't
same_flag : (values : List (List ℕ)) (a b : Bool) → Flags values a → Flags values b → b ≡ a
same_flag values true true is other = refl
same_flag values true false is other = let wrong : [] ∷ [] ≡ [] = sym is ∙ other in cc
same_flag values false true is other = let wrong : [] ≡ [] ∷ [] = sym is ∙ other in cc
same_flag values false false is other = refl

-- where there are watchers the file has chunks
chunk_there : (is_plain : Bool) (size chunk : Option ℕ) (span : Option Range) (number : Option ℕ) → SizesChunks is_plain size chunk → MayWatch is_plain span number → 1 ≤ watchers_with number span → (n : ℕ) × (chunk ≡ Some n)
chunk_there false size chunk span number sizes may some = (unwrap_or size 786432, sizes)
chunk_there true size chunk span number sizes may some =
    let none : watchers_with number span ≡ 0 = ap₂ (λ (n : Option ℕ) (s : Option Range). watchers_with n s) may.1 may.0 in
    absurd (omega (arith, none, some))

-- and as many watchers as are allowed
few_watchers : (values : List (List ℕ)) (number : Option ℕ) (span : Option Range) → GivesNumber 0 16 values number → watchers_with number span ≤ 16
few_watchers values None None gives = omega arith
few_watchers values None (Some s) gives = omega arith
few_watchers values (Some n) span gives = gives.2.below

watchable : (items : List Item) (file : FileOptions) (range : Range) (watchers : ℕ) → IsFileOptions items file → HasWatchers items range watchers → IsWatchable file watchers
watchable items file range watchers options watched = (
  subst (λ (n : ℕ). n ≤ 16) (sym watched.watchers_are) (few_watchers _ watched.number watched.span watched.numbered),
  λ some.
      let plain : watched.is_plain ≡ options.chunk.is_plain = same_flag (given (codes "plain") items) options.chunk.is_plain watched.is_plain options.chunk.plain watched.plain in
      let may = subst (λ (p : Bool). MayWatch p watched.span watched.number) plain watched.may in
      chunk_there options.chunk.is_plain options.chunk.size file.chunk watched.span watched.number options.chunk.sizes may (subst (λ (n : ℕ). 1 ≤ n) watched.watchers_are some),
)

-- words give numbers in their ranges
pub allowed : (words : List (List ℕ)) (command : Command) → Derives words command → IsAllowed command
allowed words (commands.Record recording) derives =
    let is = derives.behind in
    let limited : recording.options.limit ≡ unwrap_or is.size 104857600 = is.limited in
    let limits = in_range 1 1073741824 104857600 _ is.size is.sized (omega arith) (omega arith) in (
      record {
        some = omega (arith, limited, limits.0);
        small = omega (arith, limited, limits.1);
        size = chunk_in_range is.options.chunk.is_plain _ is.options.chunk.size recording.options.file.chunk is.options.chunk.sizes is.options.chunk.sized;
        short = is.options.profile.short;
      },
      (is.some, is.few),
      watchable is.items recording.options.file recording.range recording.watchers is.options is.watched,
    )
allowed words (commands.OfFile inspection) derives = tt
allowed words (commands.Cat printing) derives = tt
allowed words (commands.Recover recovery) derives =
    let is = derives.behind in
    let sizes = in_range 1 67108864 786432 _ is.size is.sized (omega arith) (omega arith) in
    (omega (arith, is.chunk_is, sizes.0), omega (arith, is.chunk_is, sizes.1))
allowed words (commands.Merge merge) derives =
    let is = derives.behind in
    let sizes = in_range 1 67108864 786432 _ is.size is.sized (omega arith) (omega arith) in
    (omega (arith, is.chunk_is, sizes.0), omega (arith, is.chunk_is, sizes.1), (is.some, is.few))
allowed words (commands.Generate generation) derives = let amounts = derives.behind.amounts.feeds_are in (amounts.above, amounts.below)
allowed words (commands.Filter filtering) derives =
    let is = derives.behind.rewrites in
    let sizes = in_range 1 67108864 786432 _ is.size is.sized (omega arith) (omega arith) in
    (omega (arith, is.chunk_is, sizes.0), omega (arith, is.chunk_is, sizes.1))
allowed words (commands.Sort sorting) derives =
    let is = derives.behind in
    let sizes = in_range 1 67108864 786432 _ is.size is.sized (omega arith) (omega arith) in
    (omega (arith, is.chunk_is, sizes.0), omega (arith, is.chunk_is, sizes.1))
allowed words (commands.Play playing) derives = tt

-- and so are those of a generation
pub generate_allowed : OptionsAllowed generate_options
generate_allowed = record {
  some = omega arith;
  small = omega arith;
  size = λ n is. let same : 786432 ≡ n = same_Some 786432 n is in (omega (arith, same), omega (arith, same));
  short = omega arith;
}
