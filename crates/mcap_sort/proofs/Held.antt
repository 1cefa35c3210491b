-- What is held of the input so far, with its declarations.
use Rattle.std.proofs.Common.{◌≡◌, ◌∙◌, ℕ, ◌+◌, Bool, true, false, List, [], ◌∷◌, ◌++◌, length, refl, sym, ap, subst, arith}
use Rattle.std.specs.Prelude.{filter, ◌==◌}
use Rattle.std.proofs.lemmas.Bool.{eqb-true, eqb-false}
use Rattle.std.proofs.lemmas.List.{length-append}
use Rattle.mcap_io.specs.Outside.{SourceState}
use Rattle.rec_data.specs.Records.{ShowsHeader}
use Rattle.mcap_model.specs.declared.tables.Tables.{Tables}
use Rattle.mcap_model.specs.Tops.{Top, top_bytes, spelled, offset_behind, unchunked}
use Rattle.mcap_model.specs.Made.{top}
use Rattle.mcap_model.specs.Fields.{IsHeader}
use Rattle.mcap_model.specs.Kept.{reading_limits, Good}
use Rattle.mcap_model.specs.Repaired.{is_extra, ProfileIs}
use Rattle.mcap_model.proofs.Readings.{length-top}
use Rattle.mcap_scan.specs.declared.reader.Reader.{Reader}
use Rattle.mcap_scan.specs.Scanning.{Stands, Gives, content_of}
use Rattle.mcap_scan.proofs.Scanning.{good_stand}
use Rattle.merge_walk.specs.declared.spans.Span.{Span}
use Rattle.merge_walk.specs.Spans.{spans_one, spans_of}
use Rattle.merge_walk.proofs.Noted.{spans_joined}
use Rattle.mcap_merge.specs.declared.input.Holding.{Holding}
use Rattle.mcap_merge.specs.Marks.{with_marks}
use Rattle.mcap_merge.specs.Inputs.{extra_tops, KeepsProfile, HoldsRecord, HoldsNothing}
use Rattle.mcap_merge.proofs.Marking.{channels_listed, marks_more}
use Rattle.mcap_merge.proofs.Held.{MarksStand, HoldsSoFar, extras_on}
use Rattle.mcap_sort.specs.Declaring.{NotesAll, NotesFile}
use Rattle.mcap_sort.proofs.Declared.{file_begins, file_on}

-- the reader stands for records, of which this is held and noted
pub record GathersSoFar (reader : Reader) (before now : SourceState) (h : Holding) (tables : Tables) : Type 0 where
  pub tops : List Top
  pub stands : Stands reader before now tops
  pub spans_are : h.spans.items ≡ spans_of tops
  pub used_are : MarksStand tops h.used.items
  pub extras_are : extra_tops h.extras.items ≡ filter is_extra tops
  pub profile_is : ProfileIs tops h.profile
  pub noted : NotesFile tops tables

-- the same without the declarations
abbrev pub held_of : {reader : Reader} {before now : SourceState} {h : Holding} {tables : Tables} → GathersSoFar reader before now h tables → HoldsSoFar reader before now h
held_of was = record {
  tops = was.tops;
  stands = was.stands;
  spans_are = was.spans_are;
  used_are = was.used_are;
  extras_are = was.extras_are;
  profile_is = was.profile_is;
}

pub gathers_begin : (reader : Reader) (before : SourceState) (h : Holding) (tables : Tables) → Stands reader before before [] → HoldsNothing h → tables.schemas ≡ [] → tables.channels ≡ [] → GathersSoFar reader before before h tables
gathers_begin reader before h tables stands none schemas channels = record {
  tops = [];
  stands = stands;
  spans_are = none.spans;
  used_are = record { blank = h.used.items; none = none.used; are = refl };
  extras_are = ap extra_tops none.extras;
  profile_is = none.profile;
  noted = file_begins tables schemas channels;
}

-- ---- the profile

first_header : (t : Top) → Good reading_limits ([] ++ t ∷ []) → IsHeader t
first_header t good = let fits = good 0 t refl in fits.v3

header_read : (t : Top) (profile library : List ℕ) → IsHeader t → ShowsHeader t.content (record { profile = profile; library = library }) → ProfileIs (t ∷ []) profile
header_read t profile library is shows = (record { kind = is.kind; profile = profile; library = library; layout = shows }, refl)

none_before : (tops : List Top) → offset_behind tops ≡ 8 → tops ≡ []
none_before [] is = refl
none_before (t ∷ ts) is =
    let long : length (spelled (t ∷ ts)) ≡ length (top_bytes t) + length (spelled ts) = length-append (top_bytes t) (spelled ts) in
    absurd (omega (arith, is, long, length-top t))

profile_more : (tops : List Top) (t : Top) (profile : List ℕ) → (offset_behind tops ≡ 8 → ⊥) → ProfileIs tops profile → ProfileIs (tops ++ t ∷ []) profile
profile_more [] t profile later is = absurd (later refl)
profile_more (x ∷ xs) t profile later is = is

-- the profile behind one record more
profile_on : (tops : List Top) (t : Top) (offset : ℕ) (old new : List ℕ) (b : Bool) → (offset == 8) ≡ b → offset ≡ offset_behind tops → Good reading_limits (tops ++ t ∷ []) → KeepsProfile offset t.content old new → ProfileIs tops old → ProfileIs (tops ++ t ∷ []) new
profile_on tops t offset old new true is place good keeps was =
    let at : offset ≡ 8 = eqb-true offset 8 is in
    let none : tops ≡ [] = none_before tops (sym place ∙ at) in
    let header = first_header t (subst (λ (l : List Top). Good reading_limits (l ++ t ∷ [])) none good) in
    let first = keeps.first at in
    subst (λ (l : List Top). ProfileIs (l ++ t ∷ []) new) (sym none) (header_read t new first.0 header first.1)
profile_on tops t offset old new false is place good keeps was =
    let later : offset ≡ 8 → ⊥ = eqb-false offset 8 is in
    subst (ProfileIs (tops ++ t ∷ [])) (sym (keeps.later later)) (profile_more tops t old (λ e. later (place ∙ e)) was)

-- a record more
pub gathers_on : (reader reader_new : Reader) (before now now_new : SourceState) (old new : Holding) (tables tables_new : Tables) (op offset : ℕ) (was : GathersSoFar reader before now old tables) → Gives reader_new before now_new was.tops op offset
    → HoldsRecord offset (top op (content_of reader_new)) old new → NotesAll tables tables_new (unchunked (top op (content_of reader_new))) → GathersSoFar reader_new before now_new new tables_new
gathers_on reader reader_new before now now_new old new tables tables_new op offset was gives holds notes =
    let t = top op (content_of reader_new) in
    let tops = was.tops in
    let used = was.used_are in
    let good : Good reading_limits (tops ++ t ∷ []) = good_stand reader_new before now_new (tops ++ t ∷ []) gives.going gives.stands in
    record {
      tops = tops ++ t ∷ [];
      stands = gives.stands;
      spans_are =
          holds.spans
          ∙ ap (λ (l : List Span). l ++ spans_one offset t) was.spans_are
          ∙ ap (λ (n : ℕ). spans_of tops ++ spans_one n t) gives.place
          ∙ sym (spans_joined 8 tops t);
      used_are = record { blank = used.blank; none = used.none; are = marks_more used.blank old.used.items new.used.items tops t used.are (holds.used ∙ ap (with_marks old.used.items) (channels_listed 0 (unchunked t))) };
      extras_are = extras_on tops t old.extras.items new.extras.items was.extras_are holds.extra;
      profile_is = profile_on tops t offset old.profile new.profile (offset == 8) refl gives.place good holds.profile was.profile_is;
      noted = file_on tables tables_new tops t was.noted notes;
    }
