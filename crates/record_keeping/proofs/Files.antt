-- What holds of the files that may be made of a source, and of the counts of what is kept for them.
use Rattle.std.proofs.Common.{◌≡◌, ℕ, zero, suc, ◌+◌, ◌≤◌, Bool, true, false, List, [], ◌∷◌, ◌++◌, length, take, drop, Some, refl, sym, ap, subst, inl, inr, ◌∙◌, append-nil, arith}
use Rattle.std.specs.Prelude.{filter, fold, if◌then◌else◌}
use Rattle.std.specs.List.{AllZip, list_any}
use Rattle.std.proofs.lemmas.List.{length-append}
use Rattle.mcap_wire.specs.Layout.{text_length, bytes_length}
use Rattle.mcap_wire.proofs.Framing.{length-framed}
use Rattle.rec_data.specs.declared.owned.Rec.{Rec}
use Rattle.mcap_io.specs.Outside.{SourceState, LiveState}
use Rattle.mcap_model.specs.declared.options.FileOptions.{FileOptions}
use Rattle.mcap_model.specs.declared.ends.Stop.{Stop}
use Rattle.mcap_model.specs.declared.ends.Stop.TheVariants as stops
use Rattle.mcap_model.specs.Tops.{Top, Begins, top_bytes, spelled, flat, flattened, is_flat_kind, is_chunk, inner_tops, chunk_records, records_in, first_records, begins_record, behind_first, first_top}
use Rattle.mcap_model.specs.Kept.{Good, Kept, reading_limits}
use Rattle.mcap_model.specs.History.{kept_with, declare_same}
use Rattle.mcap_model.specs.Pieces.{file_pieces}
use Rattle.mcap_model.specs.File.{file_of, IsPrefix}
use Rattle.mcap_model.specs.Written.{IsRec}
use Rattle.mcap_model.specs.Repaired.{ProfileIs, Repairs}
use Rattle.mcap_model.proofs.Readings.{kept_once}
use Rattle.mcap_model.proofs.Places.{at_none}
use Rattle.mcap_model.proofs.Repairs.{profile_once, repairs_once, repairs_go_on, good_records_are_kept}
use Rattle.mcap_model.proofs.Pieces.{pieces_make_files, stops_leave_prefixes}
use Rattle.chunk_writer.specs.Stops.{numbers, StopsAt}
use Rattle.chunk_writer.specs.Scribes.{phase_of, blocks_of, planned_bytes}
use Rattle.chunk_writer.specs.declared.phase.Phase.TheVariants as phases
use Rattle.chunk_writer.proofs.Writing.{holding}
use Rattle.chunk_writer.proofs.Stopping.{put_lacks}
use Rattle.record_keeping.specs.declared.keeping.Keeping.{Keeping}
use Rattle.record_keeping.specs.Keeping.{KeepingStandsFor, counted}
use Rattle.record_keeping.specs.Readings.{KeepsNone}
use Rattle.record_keeping.specs.NewFiles.{recovered_options, OfRepaired, StandsPart}

-- ---- the first ones of some records

-- of the first ones the first ones are repaired, with the same profile
record GoesOn (profile other : List ℕ) (history later : List Rec) : Type 0 where
  pub same : profile ≡ other
  pub behind : List Rec
  pub longer : later ≡ history ++ behind

goes_on : (tops more extras others : List Top) (profile other : List ℕ) (history later : List Rec) → (tops ≡ [] → more ≡ []) → Repairs tops profile extras history → Repairs (tops ++ more) other others later → GoesOn profile other history later
goes_on tops more extras others profile other history later none one two =
    let (firsts, (behind, longer), same) = repairs_go_on tops more extras others profile other history later one two in
    record { same = same_profile tops none same one.profile_is two.profile_is; behind = behind; longer = sym longer }
  where
    same_profile : (ts : List Top) → (ts ≡ [] → more ≡ []) → ((ts ≡ [] → ⊥) → profile ≡ other) → ProfileIs ts profile → ProfileIs (ts ++ more) other → profile ≡ other
    same_profile [] nothing some first second = profile_once [] profile other first (subst (λ (l : List Top). ProfileIs l other) (nothing refl) second)
    same_profile (t ∷ ts) nothing some first second = some (λ e. cc)

-- what is said of each longer history of the same options is said of what repairing makes of the bytes
pub of_longer : (chunk : ℕ) (before : SourceState) (tops extras : List Top) (profile : List ℕ) (history : List Rec) (holds : FileOptions → List Top → List Rec → Type 0)
    → Good reading_limits tops → ((bytes : List ℕ) → before.left ≡ Some bytes → Begins bytes tops) → (tops ≡ [] → KeepsNone before)
    → Repairs tops profile extras history → ((others : List Top) (behind : List Rec) → holds (recovered_options profile chunk) others (history ++ behind)) → OfRepaired chunk before holds
of_longer chunk before tops extras profile history holds good read none repairs each bytes told other others later repaired =
    let (more, longer, nothing) = found bytes told repaired.tops repaired.kept (read bytes told) in
    let on = goes_on tops more extras others profile other history later nothing repairs (subst (λ (l : List Top). Repairs l other others later) longer repaired.repairs) in
    subst (λ (l : List Rec). holds (recovered_options other chunk) others l) (sym on.longer)
    (subst (λ (p : List ℕ). holds (recovered_options p chunk) others (history ++ on.behind)) on.same (each others on.behind))
  where
    found : (bytes : List ℕ) → before.left ≡ Some bytes → (kept : List Top) → Kept reading_limits bytes kept → Begins bytes tops → (more : List Top) × (kept ≡ tops ++ more) × (tops ≡ [] → more ≡ [])
    found bytes told kept it (inl is) = ([], kept_once bytes kept [] it (none is bytes told) ∙ sym (append-nil tops ∙ is), λ e. refl)
    found bytes told kept it (inr (rest, there)) =
        let (more, is) = good_records_are_kept bytes tops kept rest there good it in
        (more, sym is, λ empty. let all = kept_once bytes kept [] it (none empty bytes told) in ap (λ (l : List Top). l ++ more) (sym empty) ∙ is ∙ all)

-- ---- first parts of files

pub part_of_stop : (options : FileOptions) (extras : List Top) (history : List Rec) (opened stored : LiveState) (stop : Stop) (blocks bytes : ℕ) → StopsAt options extras history opened.held stored.held stop (numbers blocks bytes) → StandsPart opened stored options extras history
part_of_stop options extras history opened stored stop blocks bytes stops start told =
    let (text, held, stopped) = stops.took start told in
    (text, held, subst (λ (l : List ℕ). IsPrefix text l) (pieces_make_files options extras history) (stops_leave_prefixes (file_pieces options extras history) stops.place stop text bytes stopped))

pub nothing_stands : (opened : LiveState) (options : FileOptions) (extras : List Top) (history : List Rec) → StandsPart opened opened options extras history
nothing_stands opened options extras history start told = ([], told ∙ ap Some (sym (append-nil start)), (file_of options extras history, refl))

-- ---- a keeping that goes on

pub going_part : {L : Type 0} (seen : L → LiveState) (options : FileOptions) (extras : List Top) (opened : LiveState) (history : List Rec) (k : Keeping L) → phase_of k.scribe ≡ phases.Going → KeepingStandsFor seen options extras opened history k
    → (others : List Top) (behind : List Rec) → StandsPart opened (seen k.scribe.store) options others (history ++ behind)
going_part seen options extras opened history k going keeps others behind =
    part_of_stop options others (history ++ behind) opened (seen k.scribe.store) stops.Memory (blocks_of k.scribe) (planned_bytes k.scribe)
    (put_lacks options others opened.held (seen k.scribe.store).held history (blocks_of k.scribe) (planned_bytes k.scribe) behind (holding options opened.held (seen k.scribe.store).held history k.scribe.plan going keeps.writes.0))

-- ---- what the counts come to

pub filter_few : {X : Type 0} (test : X → Bool) (xs : List X) → length (filter test xs) ≤ length xs
filter_few test [] = omega arith
filter_few test (x ∷ xs) = by (test x) (filter_few test xs)
  where
    by : (b : Bool) → length (filter test xs) ≤ length xs → length (if b then x ∷ filter test xs else filter test xs) ≤ length (x ∷ xs)
    by true rest = omega (arith, rest)
    by false rest = omega (arith, rest)

take_few : (n : ℕ) (xs : List ℕ) → length (take n xs) ≤ length xs
take_few zero xs = omega arith
take_few (suc n) [] = omega arith
take_few (suc n) (x ∷ xs) = omega (arith, take_few n xs)

drop_few : (n : ℕ) (xs : List ℕ) → length (drop n xs) ≤ length xs
drop_few zero xs = omega arith
drop_few (suc n) [] = omega arith
drop_few (suc n) (x ∷ xs) = omega (arith, drop_few n xs)

first_few : (n : ℕ) (bytes : List ℕ) → length (first_records n bytes) ≤ n
first_few zero bytes = omega arith
first_few (suc n) bytes = by (begins_record bytes) (first_few n (behind_first bytes))
  where
    by : (b : Bool) → length (first_records n (behind_first bytes)) ≤ n → length (if b then first_top bytes ∷ first_records n (behind_first bytes) else []) ≤ suc n
    by true rest = omega (arith, rest)
    by false rest = omega arith

found_few : (bytes : List ℕ) → length (records_in bytes) ≤ length bytes
unfolding records_in
found_few bytes = first_few (length bytes) bytes

inside_few : (content : List ℕ) → length (chunk_records content) ≤ length content
unfolding chunk_records
inside_few content =
    let at = 32 + text_length content 28 in
    omega (arith, take_few (bytes_length 8 content at) (drop (at + 8) content), drop_few (at + 8) content)

flattened_few : (t : Top) → length (flattened t) ≤ length (top_bytes t)
flattened_few t = by (is_chunk t) refl
  where
    by : (b : Bool) → is_chunk t ≡ b → length (flattened t) ≤ length (top_bytes t)
    by true is =
        let same = ap (λ (x : Bool). length (filter is_flat_kind (if x then inner_tops t else t ∷ []))) is in
        omega (arith, same, filter_few is_flat_kind (inner_tops t), found_few (chunk_records t.content), inside_few t.content, length-framed t.op t.content)
    by false is =
        let same = ap (λ (x : Bool). length (filter is_flat_kind (if x then inner_tops t else t ∷ []))) is in
        omega (arith, same, filter_few is_flat_kind (t ∷ []), length-framed t.op t.content)

flat_few : (tops : List Top) → length (flat tops) ≤ length (spelled tops)
flat_few [] = omega arith
flat_few (t ∷ ts) = omega (arith, flat_few ts, flattened_few t, length-append (flattened t) (flat ts), length-append (top_bytes t) (spelled ts))

pub tops_few : (tops : List Top) → length tops ≤ length (spelled tops)
tops_few [] = omega arith
tops_few (t ∷ ts) = omega (arith, tops_few ts, length-append (top_bytes t) (spelled ts), length-framed t.op t.content)

pub kept_few : (history rs : List Rec) → length (fold kept_with history rs) ≤ length history + length rs
kept_few history [] = omega arith
kept_few history (r ∷ rs) = omega (arith, kept_few (kept_with history r) rs, one_few (list_any (declare_same r) history))
  where
    one_few : (b : Bool) → length (if b then history else history ++ r ∷ []) ≤ suc (length history)
    one_few true = omega arith
    one_few false = omega (arith, length-append history (r ∷ []))

pub zip_long : (us : List Top) (rs : List Rec) → AllZip IsRec us rs → length us ≡ length rs
zip_long [] [] zip = refl
zip_long [] (r ∷ rs) zip = absurd zip
zip_long (u ∷ us) [] zip = absurd zip
zip_long (u ∷ us) (r ∷ rs) zip = ap suc (zip_long us rs zip.1)

pub history_few : (tops extras : List Top) (profile : List ℕ) (history : List Rec) → Repairs tops profile extras history → length history ≤ length (spelled tops)
history_few tops extras profile history repairs =
    let same = ap (λ (l : List Rec). length l) repairs.history_is in
    omega (arith, same, kept_few [] repairs.flattened, zip_long (flat tops) repairs.flattened repairs.are_flattened, flat_few tops)

pub all_counted : (n : ℕ) → n ≤ 1099511627776 → counted n ≡ n
all_counted n few = omega (arith, few)

-- ---- the end of the new file

pub of_exact : (chunk : ℕ) (before : SourceState) (tops extras : List Top) (profile : List ℕ) (history : List Rec) (holds : FileOptions → List Top → List Rec → Type 0)
    → ((bytes : List ℕ) → before.left ≡ Some bytes → Kept reading_limits bytes tops)
    → Repairs tops profile extras history → holds (recovered_options profile chunk) extras history → OfRepaired chunk before holds
of_exact chunk before tops extras profile history holds keeps repairs it bytes told other others later repaired =
    let same = kept_once bytes repaired.tops tops repaired.kept (keeps bytes told) in
    let (p, e, h) = repairs_once tops extras others profile other history later repairs (subst (λ (l : List Top). Repairs l other others later) same repaired.repairs) in
    subst (λ (l : List Rec). holds (recovered_options other chunk) others l) h
    (subst (λ (l : List Top). holds (recovered_options other chunk) l history) e
    (subst (λ (q : List ℕ). holds (recovered_options q chunk) extras history) p it))
