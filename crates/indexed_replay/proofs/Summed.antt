-- The summary of a file that was loaded, and its first Channels.
use Rattle.std.proofs.Common.{◌≡◌, ℕ, zero, suc, ◌-◌, ◌<◌, Bool, true, false, cond, List, [], ◌∷◌, ◌++◌, length, take, drop, refl, sym, ap, subst, inl, inr, ◌∙◌, append_assoc, arith}
use Rattle.std.specs.Prelude.{filter, ◌==◌}
use Rattle.std.proofs.lemmas.Bool.{both_ways, cases_lt, eq-eqb}
use Rattle.std.proofs.lemmas.List.{length-append, drop_at}
use Rattle.mcap_wire.specs.Layout.{magic, part}
use Rattle.mcap_wire.proofs.Framing.{records_apart, split_front}
use Rattle.rec_data.specs.Fields.{FooterFields}
use Rattle.rec_data.specs.Records.{ShowsFooter}
use Rattle.rec_data.proofs.Contents.{length-footer_text, footer_decided}
use Rattle.mcap_model.specs.Places.{At}
use Rattle.mcap_model.specs.Tops.{Top, top_bytes}
use Rattle.mcap_model.specs.Fields.{ChannelFields, IsChannel, IsFooter}
use Rattle.mcap_model.specs.Led.{HasSummary, FirstTopic}
use Rattle.mcap_model.proofs.Places.{at_none, at_within, at_one}
use Rattle.mcap_model.proofs.Lists.{each_cons, filter_has, at_taken}
use Rattle.mcap_model.proofs.Readings.{length-top}
use Rattle.mcap_model.proofs.Maps.{shows_once}
use Rattle.mcap_model.specs.declared.table.Declared.{Declared}
use Rattle.rec_data.specs.declared.footer.Footer.{Footer}
use Rattle.mcap_laws.proofs.Leading.{spelled_once}
use Rattle.summary_read.specs.Reached.{EndsIn}
use Rattle.summary_read.specs.Parts.{Parts, IsLoaded, of_kind}
use Rattle.indexed_replay.specs.Lists.{KnowsSummaryChannels}
use Rattle.indexed_replay.specs.Gathering.{FirstChannels}

pub footer_size : (foot : Top) (start offsets crc : ℕ) → IsFooter foot start offsets crc → length foot.content ≡ 20
footer_size foot start offsets crc is =
    let f : FooterFields = record { summary_start = start; summary_offset_start = offsets; summary_crc = crc } in
    let row = is.layout in
    ap length row.spelled_there ∙ length-footer_text f

-- ---- the summary

pub loaded_summary : (file : List ℕ) (p : Parts) (l : IsLoaded file p) → HasSummary file (p.footer).summary_start l.tops
loaded_summary file p l =
    let f = p.footer in
    let ends = l.ends in
    let v2 = l.v2 in
    let (start, last) = v2.1 in
    let starts = l.starts in
    let size = footer_size ends.top f.summary_start f.summary_offset_start f.summary_crc ends.is in
    let foot_size : length (top_bytes ends.top) ≡ 29 = omega (arith, length-top ends.top, size) in
    let tail : file ≡ (ends.before ++ top_bytes ends.top) ++ ends.last = ends.split ∙ sym (append_assoc ends.before (top_bytes ends.top) ends.last) in
    let eight : length magic ≡ 8 = refl in
    let front_size : length (ends.before ++ top_bytes ends.top) ≡ length start = omega (arith, ap length tail, ap length last, length-append (ends.before ++ top_bytes ends.top) ends.last, length-append start magic, ends.size, eight) in
    let same = split_front (ends.before ++ top_bytes ends.top) start ends.last magic front_size (sym tail ∙ last) in
    let behind = starts.behind in
    let fits = l.sound in
    record {
      footer = ends.top;
      offsets = f.summary_offset_start;
      crc = f.summary_crc;
      is = ends.is;
      last = ap (drop (length file - 37)) ends.split ∙ drop_at ends.before (top_bytes ends.top ++ ends.last) (length file - 37) (omega (arith, ap length ends.split, length-append ends.before (top_bytes ends.top ++ ends.last), length-append (top_bytes ends.top) ends.last, foot_size, ends.size))
          ∙ ap (λ (x : List ℕ). top_bytes ends.top ++ x) same.1;
      some = λ none. omega (arith, none, behind);
      records = l.split;
      short = λ n t at. let is = fits n t at in omega (arith, is.short);
    }

-- a file has one summary
pub summary_once : (file : List ℕ) (a b : ℕ) (xs ys : List Top) → HasSummary file a xs → HasSummary file b ys → xs ≡ ys
summary_once file a b xs ys one other =
    let foot = one.footer in
    let food = other.footer in
    let size = footer_size foot a one.offsets one.crc one.is in
    let other_size = footer_size food b other.offsets other.crc other.is in
    let parts = records_apart foot.op food.op foot.content food.content magic magic (omega (arith, size)) (omega (arith, other_size)) (sym one.last ∙ other.last) in
    let first : FooterFields = record { summary_start = a; summary_offset_start = one.offsets; summary_crc = one.crc } in
    let second : FooterFields = record { summary_start = b; summary_offset_start = other.offsets; summary_crc = other.crc } in
    let is = one.is in
    let other_is = other.is in
    let same = footer_decided food.content first second (subst (λ (l : List ℕ). ShowsFooter l first) parts.1 is.layout) other_is.layout in
    let starts : a ≡ b = ap (λ (f : FooterFields). f.summary_start) same in
    spelled_once xs ys one.short other.short (sym one.records ∙ ap (λ (n : ℕ). part n (length file - 37) file) starts ∙ other.records)

-- the Footer in front of the last eight bytes names it
pub start_same : (file : List ℕ) (start : ℕ) (summary : List Top) (f : Footer) → HasSummary file start summary → EndsIn file f → f.summary_start ≡ start
start_same file start summary f has ends =
    let foot = has.footer in
    let size = footer_size foot start has.offsets has.crc has.is in
    let other_size = footer_size ends.top f.summary_start f.summary_offset_start f.summary_crc ends.is in
    let foot_size : length (top_bytes ends.top) ≡ 29 = omega (arith, length-top ends.top, other_size) in
    let last : drop (length file - 37) file ≡ top_bytes ends.top ++ ends.last = ap (drop (length file - 37)) ends.split ∙ drop_at ends.before (top_bytes ends.top ++ ends.last) (length file - 37) (omega (arith, ap length ends.split, length-append ends.before (top_bytes ends.top ++ ends.last), length-append (top_bytes ends.top) ends.last, foot_size, ends.size)) in
    let parts = records_apart (ends.top).op foot.op (ends.top).content foot.content ends.last magic (omega (arith, other_size)) (omega (arith, size)) (sym last ∙ has.last) in
    let first : FooterFields = record { summary_start = f.summary_start; summary_offset_start = f.summary_offset_start; summary_crc = f.summary_crc } in
    let second : FooterFields = record { summary_start = start; summary_offset_start = has.offsets; summary_crc = has.crc } in
    let is = ends.is in
    let own = has.is in
    let same = footer_decided foot.content first second (subst (λ (l : List ℕ). ShowsFooter l first) parts.1 is.layout) own.layout in
    ap (λ (g : FooterFields). g.summary_start) same

-- ---- its first Channels

abbrev is_channel_top : Top → Bool
is_channel_top t = t.op == 4

later : (x : Top) (xs : List Top) (id : ℕ) (topic : List ℕ) → ((g : ChannelFields) → IsChannel x id g → ⊥) → FirstTopic xs id topic → FirstTopic (x ∷ xs) id topic
later x xs id topic none found = record {
  place = suc found.place;
  top = found.top;
  shown = found.shown;
  at = found.at;
  is = found.is;
  first = each_cons (λ u. (f : ChannelFields) → IsChannel u id f → ⊥) x (take found.place xs) none found.first;
  topic_is = found.topic_is;
}

first_filtered : (xs : List Top) (id n : ℕ) (t : Top) (f : ChannelFields) → At (filter is_channel_top xs) n t → IsChannel t id f → ((m : ℕ) (u : Top) (g : ChannelFields) → m < n → At (filter is_channel_top xs) m u → IsChannel u id g → ⊥) → FirstTopic xs id f.topic
first_filtered [] id n t f at is first = absurd (at_none n t at)
first_filtered (x ∷ xs) id n t f at is first = by (is_channel_top x) refl n at first (λ k there before. first_filtered xs id k t f there is before)
  where
    by : (b : Bool) → is_channel_top x ≡ b → (n : ℕ) → At (cond b (x ∷ filter is_channel_top xs) (filter is_channel_top xs)) n t → ((m : ℕ) (u : Top) (g : ChannelFields) → m < n → At (cond b (x ∷ filter is_channel_top xs) (filter is_channel_top xs)) m u → IsChannel u id g → ⊥)
        → ((k : ℕ) → At (filter is_channel_top xs) k t → ((m : ℕ) (u : Top) (g : ChannelFields) → m < k → At (filter is_channel_top xs) m u → IsChannel u id g → ⊥) → FirstTopic xs id f.topic) → FirstTopic (x ∷ xs) id f.topic
    by true kind zero here before rest = record { place = 0; top = t; shown = f; at = here; is = is; first = λ k u none. absurd (at_none k u none); topic_is = refl }
    by true kind (suc k) here before rest = later x xs id f.topic (λ g is_x. before 0 x g (omega arith) refl is_x) (rest k here (λ m u g less there. before (suc m) u g (omega (arith, less)) there))
    by false kind n here before rest = later x xs id f.topic (λ g is_x. both_ways (is_channel_top x) kind (eq-eqb x.op 4 is_x.kind)) (rest n here before)

-- an id has one first topic
pub first_once : (xs : List Top) (id : ℕ) (a b : List ℕ) → FirstTopic xs id a → FirstTopic xs id b → a ≡ b
first_once xs id a b one other = elim (cases_lt one.place other.place) [
  | inl less ↦ let first = other.first in absurd (first one.place one.top (at_taken xs other.place one.place one.top less one.at) one.shown one.is)
  | inr more ↦ elim (cases_lt other.place one.place) [
    | inl less ↦ let first = one.first in absurd (first other.place other.top (at_taken xs one.place other.place other.top less other.at) other.shown other.is)
    | inr most ↦
        let same : one.place ≡ other.place = omega (arith, more, most) in
        let tops : one.top ≡ other.top = at_one xs other.place one.top other.top (subst (λ (n : ℕ). At xs n one.top) same one.at) other.at in
        let once = shows_once other.top id id one.shown other.shown (subst (λ (t : Top). IsChannel t id one.shown) tops one.is) other.is in
        sym one.topic_is ∙ ap (λ (f : ChannelFields). f.topic) once.1 ∙ other.topic_is
  ]
]

pub knows : (file : List ℕ) (p : Parts) (l : IsLoaded file p) (channels : List Declared) → FirstChannels p.channels (length p.channels) channels → KnowsSummaryChannels file channels
knows file p l channels firsts =
    let listed = l.listed in
    let are : p.channels ≡ of_kind 4 l.tops = listed.channels in
    record {
      start = (p.footer).summary_start;
      summary = l.tops;
      has = loaded_summary file p l;
      declare = firsts.declare;
      first = λ k d f at is.
          let found_of = firsts.first in
          let found = found_of k d f at is in
          let before = found.first in
          subst (λ (t : List ℕ). FirstTopic l.tops d.id t) found.topic_is
          (first_filtered l.tops d.id found.place found.top found.shown (subst (λ (x : List Top). At x found.place found.top) are found.at) found.is
          (λ m u g less there is_u. before m u g less (subst (λ (x : List Top). At x m u) (sym are) there) is_u));
      covers = λ t id f has is.
          let (n, at) = filter_has is_channel_top l.tops has.0 t has.1 (eq-eqb t.op 4 is.kind) in
          let there : At p.channels n t = subst (λ (x : List Top). At x n t) (sym are) at in
          let covers = firsts.covers in
          covers n t id f (at_within p.channels n t there) there is;
    }
