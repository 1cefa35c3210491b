-- What is held of an input so far.
use Rattle.std.proofs.Common.{◌≡◌, ℕ, ◌+◌, Bool, true, false, List, [], ◌∷◌, ◌++◌, length, refl, sym, ap, subst, ◌∙◌, arith}
use Rattle.std.specs.Prelude.{filter, ◌==◌}
use Rattle.std.proofs.lemmas.Bool.{eqb-true, eqb-false}
use Rattle.std.proofs.lemmas.List.{length-append}
use Rattle.std.proofs.lemmas.List.Elements.{filter-append}
use Rattle.mcap_io.specs.Outside.{SourceState}
use Rattle.rec_data.specs.Records.{ShowsHeader}
use Rattle.mcap_model.specs.Declarations.{TablesOf}
use Rattle.mcap_model.specs.Tops.{Top, top_bytes, spelled, offset_behind, unchunked, flat}
use Rattle.mcap_model.specs.Made.{top}
use Rattle.mcap_model.specs.Fields.{IsHeader}
use Rattle.mcap_model.specs.Kept.{reading_limits, Good}
use Rattle.mcap_model.specs.Scan.{Seen}
use Rattle.mcap_model.specs.Repaired.{is_extra, ProfileIs}
use Rattle.mcap_model.proofs.Flat.{good_lists_are_scanned}
use Rattle.mcap_model.proofs.Readings.{length-top}
use Rattle.mcap_scan.specs.declared.reader.Reader.{Reader}
use Rattle.mcap_scan.specs.Scanning.{Stands, Gives, FindsEnd, content_of}
use Rattle.mcap_scan.proofs.Scanning.{good_stand}
use Rattle.merge_walk.specs.declared.spans.Span.{Span}
use Rattle.merge_walk.specs.Spans.{spans_one, spans_of}
use Rattle.merge_walk.proofs.Noted.{spans_joined}
use Rattle.mcap_merge.specs.declared.input.Extra.{Extra}
use Rattle.mcap_merge.specs.declared.input.Holding.{Holding}
use Rattle.mcap_merge.specs.declared.input.Input.{Input}
use Rattle.mcap_merge.specs.Marks.{channels_under, with_marks, AreUnmarked, MarksChannels}
use Rattle.mcap_merge.specs.Inputs.{extra_tops, KeepsExtra, KeepsProfile, HoldsRecord, HoldsNothing, IsInputOf, HoldsInput}
use Rattle.mcap_merge.proofs.Marking.{length_marks, channels_listed, marks_more, are_marked}

-- these are the marks of the channels of those records' messages
pub record MarksStand (tops : List Top) (marks : List Bool) : Type 0 where
  pub blank : List Bool
  pub none : AreUnmarked blank
  pub are : marks ≡ with_marks blank (channels_under tops)

-- the reader stands for records, of which this is held
pub record HoldsSoFar (reader : Reader) (before now : SourceState) (h : Holding) : Type 0 where
  pub tops : List Top
  pub stands : Stands reader before now tops
  pub spans_are : h.spans.items ≡ spans_of tops
  pub used_are : MarksStand tops h.used.items
  pub extras_are : extra_tops h.extras.items ≡ filter is_extra tops
  pub profile_is : ProfileIs tops h.profile

pub holds_begin : (reader : Reader) (before : SourceState) (h : Holding) → Stands reader before before [] → HoldsNothing h → HoldsSoFar reader before before h
holds_begin reader before h stands none = record {
  tops = [];
  stands = stands;
  spans_are = none.spans;
  used_are = record { blank = h.used.items; none = none.used; are = refl };
  extras_are = ap extra_tops none.extras;
  profile_is = none.profile;
}

pub marks_sized : (tops : List Top) (marks : List Bool) → MarksStand tops marks → length marks ≡ 65536
marks_sized tops marks stand = ap length stand.are ∙ length_marks stand.blank (channels_under tops) ∙ stand.none.size

-- the first record is a Header
first_header : (t : Top) → Good reading_limits ([] ++ t ∷ []) → IsHeader t
first_header t good = let fits = good 0 t refl in fits.v3

-- a Header's profile is read
header_read : (t : Top) (profile library : List ℕ) → IsHeader t → ShowsHeader t.content (record { profile = profile; library = library }) → ProfileIs (t ∷ []) profile
header_read t profile library is shows = (record { kind = is.kind; profile = profile; library = library; layout = shows }, refl)

none_before : (tops : List Top) → offset_behind tops ≡ 8 → tops ≡ []
none_before [] is = refl
none_before (t ∷ ts) is =
    let long : length (spelled (t ∷ ts)) ≡ length (top_bytes t) + length (spelled ts) = length-append (top_bytes t) (spelled ts) in
    absurd (omega (arith, is, long, length-top t))

-- the profile stays behind the first record
profile_more : (tops : List Top) (t : Top) (profile : List ℕ) → (offset_behind tops ≡ 8 → ⊥) → ProfileIs tops profile → ProfileIs (tops ++ t ∷ []) profile
profile_more [] t profile later is = absurd (later refl)
profile_more (x ∷ xs) t profile later is = is

pub extras_on : (tops : List Top) (t : Top) (old new : List Extra) → extra_tops old ≡ filter is_extra tops → KeepsExtra t old new → extra_tops new ≡ filter is_extra (tops ++ t ∷ [])
extras_on tops t old new was keeps = keeps ∙ ap (λ (l : List Top). l ++ filter is_extra (t ∷ [])) was ∙ sym (filter-append is_extra tops (t ∷ []))

-- the profile behind one record more
profile_on : (tops : List Top) (t : Top) (offset : ℕ) (old new : List ℕ) (b : Bool) → (offset == 8) ≡ b → offset ≡ offset_behind tops → Good reading_limits (tops ++ t ∷ []) → KeepsProfile offset t.content old new → ProfileIs tops old → ProfileIs (tops ++ t ∷ []) new
profile_on tops t offset old new true is place good keeps was =
    let at : offset ≡ 8 = eqb-true offset 8 is in
    let none : tops ≡ [] = none_before tops (sym place ∙ at) in
    let header = first_header t (subst (λ (l : List Top). Good reading_limits (l ++ t ∷ [])) none good) in
    let first = keeps.first at in
    subst (λ (l : List Top). ProfileIs (l ++ t ∷ []) new) (sym none) (header_read t new first.0 header first.1)
profile_on tops t offset old new false is place good keeps was =
    let later : offset ≡ 8 → ⊥ = eqb-false offset 8 is in
    subst (ProfileIs (tops ++ t ∷ [])) (sym (keeps.later later)) (profile_more tops t old (λ e. later (place ∙ e)) was)

-- a record more
pub holds_on : (reader reader_new : Reader) (before now now_new : SourceState) (old new : Holding) (op offset : ℕ) (was : HoldsSoFar reader before now old)
    → Gives reader_new before now_new was.tops op offset → HoldsRecord offset (top op (content_of reader_new)) old new → HoldsSoFar reader_new before now_new new
holds_on reader reader_new before now now_new old new op offset was gives holds =
    let t = top op (content_of reader_new) in
    let tops = was.tops in
    let used = was.used_are in
    let good : Good reading_limits (tops ++ t ∷ []) = good_stand reader_new before now_new (tops ++ t ∷ []) gives.going gives.stands in
    record {
      tops = tops ++ t ∷ [];
      stands = gives.stands;
      spans_are =
          holds.spans
          ∙ ap (λ (l : List Span). l ++ spans_one offset t) was.spans_are
          ∙ ap (λ (n : ℕ). spans_of tops ++ spans_one n t) gives.place
          ∙ sym (spans_joined 8 tops t);
      used_are = record { blank = used.blank; none = used.none; are = marks_more used.blank old.used.items new.used.items tops t used.are (holds.used ∙ ap (with_marks old.used.items) (channels_listed 0 (unchunked t))) };
      extras_are = extras_on tops t old.extras.items new.extras.items was.extras_are holds.extra;
      profile_is = profile_on tops t offset old.profile new.profile (offset == 8) refl gives.place good holds.profile was.profile_is;
    }

-- what is held at the Data End
pub held_at_end : (reader reader_new : Reader) (before now now_new : SourceState) (h : Holding) (i : Input) (offset : ℕ) (was : HoldsSoFar reader before now h) → FindsEnd reader_new before now_new was.tops offset → IsInputOf h reader_new.tables i
    → (messages : List Seen) × HoldsInput (record { tops = was.tops; messages = messages }) i
held_at_end reader reader_new before now now_new h i offset was finds is =
    let tops = was.tops in
    let at_end = finds.is in
    let found = good_lists_are_scanned reading_limits tops at_end.good in
    let used = was.used_are in (
      found.0,
      record {
        good = at_end.good;
        scan = found.1;
        tables_are = subst (TablesOf (flat tops)) (sym is.tables_are) at_end.tables_are;
        spans_are = ap (λ v. v.items) is.spans ∙ was.spans_are;
        used_are = subst (λ (l : List Bool). MarksChannels l found.0) (sym (ap (λ v. v.items) is.used)) (are_marked tops found.0 used.blank h.used.items used.none used.are found.1);
        extras_are = ap (λ e. extra_tops e.items) is.extras ∙ was.extras_are;
        profile_is = subst (ProfileIs tops) (sym is.profile) was.profile_is;
      },
    )
