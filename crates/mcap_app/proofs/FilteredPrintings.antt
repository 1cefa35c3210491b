-- A printing of what was filtered is that of its input with the same options.
use Rattle.std.proofs.Common.{◌≡◌, ℕ, List, [], ◌∷◌, ◌++◌, Some, Result, Ok, refl, sym, ap, subst, ◌∙◌}
use Rattle.std.specs.List.{AllZip}
use Rattle.mcap_io.specs.Outside.{SourceState, WorldState, Told, Opening}
use Rattle.mcap_model.specs.Fields.{MessageFields}
use Rattle.mcap_model.specs.Tops.{Top}
use Rattle.mcap_model.specs.Kept.{Halts, reading_limits, at_end}
use Rattle.mcap_model.specs.Scan.{Seen, Scan}
use Rattle.mcap_model.specs.declared.refusals.ReadingRefused.{ReadingRefused}
use Rattle.mcap_model.proofs.Readings.{kept_once}
use Rattle.time_player.specs.Text.{cat_line, cat_text}
use Rattle.mcap_filter.specs.FilteredHistories.{FilteredHistoriesStand}
use Rattle.command_base.specs.declared.statuses.Status.TheVariants as statuses
use Rattle.command_base.specs.declared.file_reading.Reading.{Reading}
use Rattle.command_base.specs.declared.file_reading.Reading.TheVariants as readings
use Rattle.command_base.specs.OneFile.{refusal_ending}
use Rattle.command_base.specs.Printing.{TellsAll}
use Rattle.command_base.specs.Ran.{Scene}
use Rattle.command_base.specs.Readings.{IsSourceRead}
use Rattle.command_base.proofs.ReadNames.{read_is, source_shows}
use Rattle.command_base.proofs.Refusals.{refusal_is}
use Rattle.command_write.specs.declared.filtering.Filtering.{Filtering}
use Rattle.command_write.specs.Filter.{FilterRequest}
use Rattle.command_read.specs.Cat.{Selection, selection, ComesTo, IsPrinted, Cats}
use Rattle.mcap_app.specs.Laws.{everything}
use Rattle.mcap_app.specs.FilteredFiles.{SameButPlace, FilteredReplaysAreOne}
use Rattle.mcap_app.specs.FilterRuns.{LeavesFiltered, FiltersPrintTheSame}
use Rattle.mcap_app.proofs.Filterings.{filters_are_sound}

-- ---- lines tell no places

abbrev line_of : ℕ → List ℕ → MessageFields → Seen → List ℕ
line_of channel topic message s = cat_line (record { place = s.place; channel = channel; topic = topic; message = message })

place_untold : (s r : Seen) → line_of r.channel r.topic r.message s ≡ cat_line r
unfolding cat_line
place_untold s r = refl

line_same : (s r : Seen) → SameButPlace s r → cat_line s ≡ cat_line r
line_same s r same =
    sym (place_untold s s) ∙ ap (λ (c : ℕ). line_of c s.topic s.message s) same.channel ∙ ap (λ (t : List ℕ). line_of r.channel t s.message s) same.topic
    ∙ ap (λ (m : MessageFields). line_of r.channel r.topic m s) same.message ∙ place_untold s r

lines_same : (xs ys : List Seen) → AllZip SameButPlace xs ys → cat_text xs ≡ cat_text ys
lines_same [] [] zip = refl
lines_same [] (y ∷ ys) zip = absurd zip
lines_same (x ∷ xs) [] zip = absurd zip
lines_same (x ∷ xs) (y ∷ ys) zip = ap (λ (l : List ℕ). l ++ cat_text xs) (line_same x y zip.0) ∙ ap (λ (l : List ℕ). cat_line y ++ l) (lines_same xs ys zip.1)

-- ---- a printing

-- a printing of these bytes, in which all was done
record WasPrinted (asked : Selection) (file : List ℕ) (old new : Scene) : Type 0 where
  before : SourceState
  now : SourceState
  left : before.left ≡ Some file
  text : List ℕ
  is : IsPrinted asked before now text
  tells : TellsAll old.out new.out text

same_came : (a b : Result (List ℕ) ReadingRefused) → readings.Opened a ≡ readings.Opened b → a ≡ b
same_came a b e = cc

read_of : (asked : Selection) (name file : List ℕ) (world : WorldState) (told : Told) (entries : List Opening) (reading : Reading (List ℕ) ReadingRefused) (text : List ℕ) → world.told ≡ Some told → told.names name ≡ Some file → IsSourceRead (ComesTo asked) name world entries reading
    → reading ≡ readings.Opened (Ok text) → (before : SourceState) × (now : SourceState) × (before.left ≡ Some file) × IsPrinted asked before now text
read_of asked name file world told entries reading text here there is lines =
    source_shows (λ (r : Reading (List ℕ) ReadingRefused). r ≡ readings.Opened (Ok text) → (before : SourceState) × (now : SourceState) × (before.left ≡ Some file) × IsPrinted asked before now text)
    name file world told here there (λ why e. absurd cc) (ComesTo asked)
    (λ source now came left comes e. (source, now, left, subst (ComesTo asked source now) (same_came came (Ok text) e) comes)) entries reading is lines

printed : (asked : Selection) (name file : List ℕ) (old new : Scene) (told : Told) → old.world.told ≡ Some told → told.names name ≡ Some file → Cats asked name old new statuses.Done → WasPrinted asked file old new
printed asked name file old new told here there cats =
    let (well, lines) = cats.reads.ran.whole refl in
    let (text, read, text_is) = read_is (λ (t : List ℕ). t) (refusal_ending name) (refusal_is name) cats.reads.reading lines.0 lines.1 in
    let source = read_of asked name file old.world told cats.reads.entries cats.reads.reading text here there cats.reads.read read in
    record {
      before = source.0;
      now = source.1;
      left = source.2;
      text = text;
      is = source.3;
      tells = subst (λ (t : List ℕ). TellsAll old.out new.out t) (sym text_is) lines.2;
    }

-- ---- both

one_text : FilteredReplaysAreOne → (asked : FilterRequest) (input out : List ℕ) (old new earlier between later last : Scene) (told : Told) (filtering : Filtering) → (left : LeavesFiltered asked input out old new told filtering)
    → WasPrinted (selection asked.asking.range asked.asking.topic) left.bytes earlier between → WasPrinted everything left.file later last → (text : List ℕ) × TellsAll earlier.out between.out text × TellsAll later.out last.out text
one_text replays asked input out old new earlier between later last told filtering left mine theirs =
    let shows = mine.is in
    let again = theirs.is in
    let input_halts : Halts reading_limits left.bytes shows.tops (at_end shows.end) = shows.halts.halts left.bytes mine.left in
    let same_tops : shows.tops ≡ left.is.tops = kept_once left.bytes shows.tops left.is.tops input_halts.kept left.is.halts.kept in
    let zip = replays asked left.bytes left.file left.picked left.is shows.messages shows.shown (subst (λ (ts : List Top). Scan ts shows.messages) same_tops shows.scan) shows.replay
    again.tops again.end (again.halts.halts left.file theirs.left) again.messages again.shown again.scan again.replay in
    let text : theirs.text ≡ mine.text = again.text_is ∙ sym (lines_same shows.shown again.shown zip) ∙ sym shows.text_is in
    (mine.text, mine.tells, subst (λ (t : List ℕ). TellsAll later.out last.out t) text theirs.tells)

pub filters_print_the_same : FilteredHistoriesStand → FilteredReplaysAreOne → FiltersPrintTheSame
filters_print_the_same stand replays asked input out old new earlier between later last told size it here before first after second =
    let left = filters_are_sound stand asked input out old new told size it here in (
      left,
      one_text replays asked input out old new earlier between later last told it.filtering left
          (printed (selection asked.asking.range asked.asking.topic) input left.bytes earlier between told (ap (λ (w : WorldState). w.told) before ∙ here) left.was_there first)
          (printed everything out left.file later last left.told (ap (λ (w : WorldState). w.told) after ∙ left.tells) left.there second),
    )
