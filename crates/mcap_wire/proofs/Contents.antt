-- A content shows a row of fields in one way, a row that is written is shown, and what shows a row is not refused.
use Rattle.std.proofs.Common.{◌≡◌, ℕ, suc, ◌+◌, ◌≤◌, List, [], ◌∷◌, ◌++◌, length, drop, refl, sym, ap, subst, inl, inr, ◌∙◌, arith}
use Rattle.mcap_wire.specs.declared.faults.Why.{Why}
use Rattle.mcap_wire.specs.Layout.{le}
use Rattle.mcap_wire.specs.Contents.{Kind, a_number, a_text, some_bytes, a_text_map, an_array, a_count_map, Value, field_text, FieldFits, Values, row, AllFit, RowBegins, ShowsRow}
use Rattle.mcap_wire.specs.ContentReading.{FieldStands, FieldFails, FailsFrom, Fails, RowReadsBack}
use Rattle.mcap_wire.specs.Reading.{NumberFails, TextFails, BytesFail}
use Rattle.mcap_wire.specs.declared.faults.Why.TheVariants.{Short, BadText, BadLength, DoubleKey}
use Rattle.mcap_wire.proofs.Framing.{texts_apart, split_number, bytes_apart, ends_within, number_is_short, text_not_refused, bytes_not_refused}
use Rattle.mcap_wire.proofs.Numbers.{length-le}
use Rattle.mcap_wire.specs.Maps.{pair_texts}
use Rattle.mcap_wire.specs.MapReading.{a_uint, a_string}
use Rattle.mcap_wire.specs.Arrays.{entry_texts}
use Rattle.mcap_wire.specs.ArrayReading.{EntriesFail}
use Rattle.mcap_wire.proofs.MapWalks.{short_not_bad, map_not_refused, whole_not_short, map_why}
use Rattle.mcap_wire.proofs.ArrayLemmas.{arrays_apart, entries_not_refused, counts_fit}
use Rattle.mcap_wire.proofs.TextMaps.{maps_apart, texts_fit}
use Rattle.std.specs.Prelude.{Result, Ok, Err, IfErr, OnErr}
use Rattle.mcap_wire.specs.declared.faults.Bad.{Bad}

-- the bytes of a field that stands there
pub field_spelled : (kind : Kind) (content : List ℕ) (at : ℕ) (value : Value kind) (end : ℕ) → FieldStands kind content at value end → drop at content ≡ field_text kind value ++ drop end content
field_spelled (a_number n) content at value end there = there.field.spelled_there
field_spelled a_text content at text end there = there.field.spelled_there
field_spelled (some_bytes n) content at bytes end there = there.field.spelled_there
field_spelled a_text_map content at pairs end there = there.field.spelled_there
field_spelled an_array content at entries end there = there.field.spelled_there
field_spelled a_count_map content at counts end there = there.array.field.spelled_there

pub field_fits : (kind : Kind) (content : List ℕ) (at : ℕ) (value : Value kind) (end : ℕ) → FieldStands kind content at value end → FieldFits kind value
field_fits (a_number n) content at value end there = there.fits
field_fits a_text content at text end there = (there.fits, there.utf8)
field_fits (some_bytes n) content at bytes end there = there.fits
field_fits a_text_map content at pairs end there = (there.fits, there.is_map)
field_fits an_array content at entries end there = (there.fits, there.entries_fit)
field_fits a_count_map content at counts end there = (there.array.fits, there.array.entries_fit, there.keys_differ)

-- no row: all that is left follows it
pub begins_end : (rest : List ℕ) → RowBegins [] rest tt rest
begins_end rest = record { spelled_there = refl; fit = tt }

-- a field that stands, with a row behind it
pub begins : (kind : Kind) (kinds : List Kind) (content : List ℕ) (at : ℕ) (value : Value kind) (end : ℕ) (values : Values kinds) (rest : List ℕ) → FieldStands kind content at value end → RowBegins kinds (drop end content) values rest → RowBegins (kind ∷ kinds) (drop at content) (value, values) rest
begins kind kinds content at value end values rest there behind = record {
  spelled_there = field_spelled kind content at value end there ∙ ap (λ (l : List ℕ). field_text kind value ++ l) behind.spelled_there;
  fit = (field_fits kind content at value end there, behind.fit);
}

-- a row that is written is shown
pub row_shown : (kinds : List Kind) (values : Values kinds) → AllFit kinds values → ShowsRow kinds (row kinds values []) values
row_shown kinds values fit = ([], record { spelled_there = refl; fit = fit })

-- no field begins another of its kind
pub fields_apart : (kind : Kind) (value other : Value kind) (rest behind : List ℕ) → FieldFits kind value → FieldFits kind other → field_text kind value ++ rest ≡ field_text kind other ++ behind → (value ≡ other) × (rest ≡ behind)
fields_apart (a_number n) value other rest behind fits other_fits same = split_number n value other rest behind fits other_fits same
fields_apart a_text text other rest behind fits other_fits same = texts_apart text other rest behind fits.0 other_fits.0 same
fields_apart (some_bytes n) bytes other rest behind fits other_fits same = bytes_apart n bytes other rest behind fits other_fits same
fields_apart a_text_map pairs other rest behind fits other_fits same = maps_apart pairs other rest behind fits.0 other_fits.0 fits.1 other_fits.1 same
fields_apart an_array entries other rest behind fits other_fits same = arrays_apart 8 entries other rest behind fits.0 other_fits.0 fits.1 other_fits.1 same
fields_apart a_count_map counts other rest behind fits other_fits same = arrays_apart 2 counts other rest behind fits.0 other_fits.0 fits.1 other_fits.1 same

pairs_same : {A B : Type 0} (p q : A × B) → p.0 ≡ q.0 → p.1 ≡ q.1 → p ≡ q
pairs_same (a, b) (c, d) first second = cc

-- a content is a row in one way
pub rows_apart : (kinds : List Kind) (values others : Values kinds) (rest behind : List ℕ) → AllFit kinds values → AllFit kinds others → row kinds values rest ≡ row kinds others behind → (values ≡ others) × (rest ≡ behind)
rows_apart [] values others rest behind fit others_fit same = (refl, same)
rows_apart (kind ∷ kinds) values others rest behind fit others_fit same =
    let first = fields_apart kind values.0 others.0 (row kinds values.1 rest) (row kinds others.1 behind) fit.0 others_fit.0 same in
    let others_same = rows_apart kinds values.1 others.1 rest behind fit.1 others_fit.1 first.1 in
    (pairs_same values others first.0 others_same.0, others_same.1)

pub begins_decided : (kinds : List Kind) (content : List ℕ) (values others : Values kinds) (rest behind : List ℕ) → RowBegins kinds content values rest → RowBegins kinds content others behind → (values ≡ others) × (rest ≡ behind)
begins_decided kinds content values others rest behind one other =
    rows_apart kinds values others rest behind one.fit other.fit (sym one.spelled_there ∙ other.spelled_there)

pub shows_decided : (kinds : List Kind) (content : List ℕ) (values others : Values kinds) → ShowsRow kinds content values → ShowsRow kinds content others → values ≡ others
shows_decided kinds content values others one other =
    (begins_decided kinds content values others one.0 other.0 one.1 other.1).0

-- a field that stands there is read
field_not_refused : (kind : Kind) (content : List ℕ) (at : ℕ) (value : Value kind) (rest : List ℕ) (why : Why) → at ≤ length content → FieldFits kind value → drop at content ≡ field_text kind value ++ rest → FieldFails kind content at why → ⊥
field_not_refused (a_number n) content at value rest why within fits is fails =
    absurd (omega (arith, ends_within content at (le n value) rest within is, length-le n value, number_is_short n content at why fails))
field_not_refused a_text content at text rest why within fits is fails = text_not_refused content at text rest why fits.0 fits.1 is fails
field_not_refused (some_bytes n) content at bytes rest why within fits is fails = bytes_not_refused n content at bytes rest why within fits is fails
field_not_refused a_text_map content at pairs rest why within fits is fails = map_not_refused a_string a_string content at pairs rest why fits.0 (texts_fit pairs fits.1.texts) fits.1.keys_differ is fails
field_not_refused an_array content at entries rest why within fits is fails = entries_not_refused content at entries rest why fits.0 is fails
field_not_refused a_count_map content at counts rest why within fits is fails = map_not_refused (a_uint 2) (a_uint 8) content at counts rest why fits.0 (counts_fit counts fits.1) fits.2 is fails

field_ends : (kind : Kind) (content : List ℕ) (at : ℕ) (value : Value kind) (end : ℕ) → FieldStands kind content at value end → end ≤ length content
field_ends (a_number n) content at value end there = there.field.ends
field_ends a_text content at text end there = there.field.ends
field_ends (some_bytes n) content at bytes end there = there.field.ends
field_ends a_text_map content at pairs end there = there.field.ends
field_ends an_array content at entries end there = there.field.ends
field_ends a_count_map content at counts end there = there.array.field.ends

-- what follows a field that stands there
field_decided : (kind : Kind) (content : List ℕ) (at : ℕ) (value : Value kind) (end : ℕ) (other : Value kind) (rest : List ℕ) → FieldStands kind content at value end → FieldFits kind other → drop at content ≡ field_text kind other ++ rest → drop end content ≡ rest
field_decided kind content at value end other rest there fits is =
    (fields_apart kind value other (drop end content) rest (field_fits kind content at value end there) fits (sym (field_spelled kind content at value end there) ∙ is)).1

not_refused_from : (kinds : List Kind) (content : List ℕ) (at number field : ℕ) (why : Why) (values : Values kinds) (rest : List ℕ) → at ≤ length content → FailsFrom kinds content at number field why → AllFit kinds values → drop at content ≡ row kinds values rest → ⊥
not_refused_from [] content at number field why values rest within fails fit is = fails
not_refused_from (kind ∷ kinds) content at number field why values rest within (inl fails) fit is =
    field_not_refused kind content at values.0 (row kinds values.1 rest) why within fit.0 is fails.1
not_refused_from (kind ∷ kinds) content at number field why values rest within (inr fails) fit is =
    not_refused_from kinds content fails.1 (suc number) field why values.1 rest (field_ends kind content at fails.0 fails.1 fails.2) fails.3 fit.1
    (field_decided kind content at fails.0 fails.1 values.0 (row kinds values.1 rest) fails.2 fit.0 is)

-- a content that is a row is not refused
pub not_refused : (kinds : List Kind) (content : List ℕ) (field : ℕ) (why : Why) → Fails kinds content field why → (values : Values kinds) (rest : List ℕ) → RowBegins kinds content values rest → ⊥
not_refused kinds content field why fails values rest shows =
    not_refused_from kinds content 0 1 field why values rest (omega arith) fails shows.fit shows.spelled_there

-- ---- one fault

number_why : (n : ℕ) (content : List ℕ) (at : ℕ) (why : Why) → NumberFails n content at why → why ≡ Short
number_why n content at Short fails = refl
number_why n content at BadText fails = absurd fails
number_why n content at BadLength fails = absurd fails
number_why n content at DoubleKey fails = absurd fails

bytes_why : (n : ℕ) (content : List ℕ) (at : ℕ) (why : Why) → BytesFail n content at why → why ≡ Short
bytes_why n content at Short fails = refl
bytes_why n content at BadText fails = absurd fails
bytes_why n content at BadLength fails = absurd fails
bytes_why n content at DoubleKey fails = absurd fails

text_why : (content : List ℕ) (at : ℕ) (why other : Why) → TextFails content at why → TextFails content at other → why ≡ other
text_why content at Short Short fails others = refl
text_why content at Short BadText fails others = absurd (short_not_bad content at fails others)
text_why content at BadText Short fails others = absurd (short_not_bad content at others fails)
text_why content at BadText BadText fails others = refl
text_why content at BadLength other fails others = absurd fails
text_why content at DoubleKey other fails others = absurd fails
text_why content at Short BadLength fails others = absurd others
text_why content at Short DoubleKey fails others = absurd others
text_why content at BadText BadLength fails others = absurd others
text_why content at BadText DoubleKey fails others = absurd others

entries_why : (content : List ℕ) (at : ℕ) (why other : Why) → EntriesFail content at why → EntriesFail content at other → why ≡ other
entries_why content at Short Short one two = refl
entries_why content at Short BadText one two = absurd two
entries_why content at Short BadLength one two = absurd (whole_not_short content at one two.0)
entries_why content at Short DoubleKey one two = absurd two
entries_why content at BadText other one two = absurd one
entries_why content at BadLength Short one two = absurd (whole_not_short content at two one.0)
entries_why content at BadLength BadText one two = absurd two
entries_why content at BadLength BadLength one two = refl
entries_why content at BadLength DoubleKey one two = absurd two
entries_why content at DoubleKey other one two = absurd one

-- a field can't be read in one way
field_why : (kind : Kind) (content : List ℕ) (at : ℕ) (why other : Why) → FieldFails kind content at why → FieldFails kind content at other → why ≡ other
field_why (a_number n) content at why other fails others = number_why n content at why fails ∙ sym (number_why n content at other others)
field_why a_text content at why other fails others = text_why content at why other fails others
field_why (some_bytes n) content at why other fails others = bytes_why n content at why fails ∙ sym (bytes_why n content at other others)
field_why a_text_map content at why other fails others = map_why a_string a_string content at why other fails others
field_why an_array content at why other fails others = entries_why content at why other fails others
field_why a_count_map content at why other fails others = map_why (a_uint 2) (a_uint 8) content at why other fails others

field_begins : (kind : Kind) (content : List ℕ) (at : ℕ) (value : Value kind) (end : ℕ) → FieldStands kind content at value end → at ≤ length content
field_begins (a_number n) content at value end there = omega (arith, there.field.begins, there.field.ends)
field_begins a_text content at text end there = omega (arith, there.field.begins, there.field.ends)
field_begins (some_bytes n) content at bytes end there = omega (arith, there.field.begins, there.field.ends)
field_begins a_text_map content at pairs end there = omega (arith, there.field.begins, there.field.ends)
field_begins an_array content at entries end there = omega (arith, there.field.begins, there.field.ends)
field_begins a_count_map content at counts end there = omega (arith, there.array.field.begins, there.array.field.ends)

-- a field that stands is not refused
stands_not_fails : (kind : Kind) (content : List ℕ) (at : ℕ) (value : Value kind) (end : ℕ) (why : Why) → FieldStands kind content at value end → FieldFails kind content at why → ⊥
stands_not_fails kind content at value end why there fails =
    field_not_refused kind content at value (drop end content) why (field_begins kind content at value end there) (field_fits kind content at value end there) (field_spelled kind content at value end there) fails

-- a field stands at an offset in one way
value_decided : (kind : Kind) (content : List ℕ) (at : ℕ) (value : Value kind) (end : ℕ) (other : Value kind) (other_end : ℕ) → FieldStands kind content at value end → FieldStands kind content at other other_end → value ≡ other
value_decided kind content at value end other other_end one two =
    (fields_apart kind value other (drop end content) (drop other_end content) (field_fits kind content at value end one) (field_fits kind content at other other_end two)
    (sym (field_spelled kind content at value end one) ∙ field_spelled kind content at other other_end two)).0

end_decided : (kind : Kind) (content : List ℕ) (at : ℕ) (value : Value kind) (end : ℕ) (other : Value kind) (other_end : ℕ) → FieldStands kind content at value end → FieldStands kind content at other other_end → end ≡ other_end
end_decided (a_number n) content at value end other other_end one two = one.size ∙ sym two.size
end_decided a_text content at text end other other_end one two =
    one.size ∙ ap (λ (t : List ℕ). at + 4 + length t) (value_decided a_text content at text end other other_end one two) ∙ sym two.size
end_decided (some_bytes n) content at bytes end other other_end one two =
    one.size ∙ ap (λ (b : List ℕ). at + n + length b) (value_decided (some_bytes n) content at bytes end other other_end one two) ∙ sym two.size
end_decided a_text_map content at pairs end other other_end one two =
    one.size ∙ ap (λ (p : List (List ℕ × List ℕ)). at + 4 + length (pair_texts p)) (value_decided a_text_map content at pairs end other other_end one two) ∙ sym two.size
end_decided an_array content at entries end other other_end one two =
    one.size ∙ ap (λ (e : List (ℕ × ℕ)). at + 4 + length (entry_texts 8 e)) (value_decided an_array content at entries end other other_end one two) ∙ sym two.size
end_decided a_count_map content at counts end other other_end one two =
    one.array.size ∙ ap (λ (e : List (ℕ × ℕ)). at + 4 + length (entry_texts 2 e)) (value_decided a_count_map content at counts end other other_end one two) ∙ sym two.array.size

one_fault_from : (kinds : List Kind) (content : List ℕ) (at number field other_field : ℕ) (why other_why : Why) → FailsFrom kinds content at number field why → FailsFrom kinds content at number other_field other_why → (field ≡ other_field) × (why ≡ other_why)
one_fault_from [] content at number field other_field why other_why one two = absurd one
one_fault_from (kind ∷ kinds) content at number field other_field why other_why (inl one) (inl two) =
    (one.0 ∙ sym two.0, field_why kind content at why other_why one.1 two.1)
one_fault_from (kind ∷ kinds) content at number field other_field why other_why (inl one) (inr two) =
    absurd (stands_not_fails kind content at two.0 two.1 why two.2 one.1)
one_fault_from (kind ∷ kinds) content at number field other_field why other_why (inr one) (inl two) =
    absurd (stands_not_fails kind content at one.0 one.1 other_why one.2 two.1)
one_fault_from (kind ∷ kinds) content at number field other_field why other_why (inr one) (inr two) =
    one_fault_from kinds content one.1 (suc number) field other_field why other_why one.3
    (subst (λ (end : ℕ). FailsFrom kinds content end (suc number) other_field other_why) (end_decided kind content at two.0 two.1 one.0 one.1 two.2 one.2) two.3)

-- ---- the law

pub rows_back : (kinds : List Kind) → RowReadsBack kinds
rows_back kinds = record {
  shown = row_shown kinds;
  decided = shows_decided kinds;
  refused = λ content field why values fails shows. not_refused kinds content field why fails values shows.0 shows.1;
  one_fault = λ content field other_field why other_why. one_fault_from kinds content 0 1 field other_field why other_why;
}

-- what a refusal says of a content
pub refused : {T P : Type 0} (kinds : List Kind) (content : List ℕ) (r : Result T Bad) → ((field : ℕ) (why : Why) → Fails kinds content field why → P) → IfErr r (λ bad. Fails kinds content bad.field bad.why) → OnErr r P
refused kinds content (Ok value) says fails = tt
refused kinds content (Err bad) says fails = says bad.field bad.why fails
