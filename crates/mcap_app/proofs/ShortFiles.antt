-- Short files pass no limit while they are loaded.
use Rattle.std.proofs.Common.{◌≡◌, ℕ, ◌+◌, ◌-◌, ◌^◌, ◌<◌, ◌≤◌, List, [], ◌∷◌, ◌++◌, length, take, drop, refl, sym, ap, subst, inl, inr, ◌∙◌, append_assoc, append-nil, length-append, arith}
use Rattle.std.proofs.lemmas.Bool.{both_ways}
use Rattle.std.proofs.lemmas.List.{nil_from_length, length-take, length-drop}
use Rattle.mcap_wire.specs.Layout.{magic, part, content_limit}
use Rattle.mcap_model.specs.Places.{At}
use Rattle.mcap_model.specs.Tops.{Top, top_bytes, spelled, has_head}
use Rattle.mcap_model.specs.Whole.{AreShort, IsWhole}
use Rattle.mcap_model.proofs.Places.{at_last}
use Rattle.mcap_model.proofs.Lists.{cut_flat}
use Rattle.mcap_model.proofs.Readings.{all_short, one_follows, begun, length-top}
use Rattle.mcap_laws.proofs.Leading.{Ends, summary_of, summary_there}
use Rattle.summary_read.specs.Reached.{HasNoSummary, SummaryStartsAt, summary_part, DeclaresPast, PassesInside, Passes, file_passes, summary_passes, header_passes, record_passes}
use Rattle.indexed_replay.specs.Laws.{IsInOrder}
use Rattle.indexed_replay.proofs.Summed.{start_same}
use Rattle.indexed_replay.proofs.Telling.{ends_in_order, in_file}
use Rattle.file_check.specs.Laws.{IsShort}
use Rattle.mcap_app.specs.Completeness.{HasShortSummary}

-- the records of some bytes are short where the bytes are
short_all : (xs : List Top) → length (spelled xs) < 2 ^ 64 → AreShort xs
short_all xs few n t at =
    let (more, cut) = cut_flat top_bytes xs n t at in
    omega (arith, few, ap length cut, length-append (spelled (take n xs)) (top_bytes t ++ spelled more), length-append (top_bytes t) (spelled more), length-top t)

-- nothing declares no content
nothing_past : (rest : List ℕ) → rest ≡ [] → DeclaresPast rest → ⊥
nothing_past rest none past = both_ways (has_head rest) (ap has_head none) past.head

-- a record of so much content declares no more
short_past : (rest : List ℕ) (t : Top) (behind : List ℕ) → rest ≡ top_bytes t ++ behind → length t.content < 2 ^ 64 → length t.content ≤ content_limit → DeclaresPast rest → ⊥
short_past rest t behind left short fits past =
    let front = begun rest t behind left short in
    let more = past.past in
    omega (arith, fits, more, front.len_is)

module _ (file : List ℕ) (tops : List Top) (ordered : IsInOrder file tops) (some : HasNoSummary file → ⊥) (short : IsShort file) where
  whole : IsWhole file tops
  whole = ordered.whole

  e : Ends tops
  e = ends_in_order file tops ordered some

  fits : (n : ℕ) (t : Top) → At tops n t → length t.content ≤ content_limit
  fits n t at = let contents = short.contents in contents tops whole n t at

  few : length file < 2 ^ 64
  few = let within = short.whole in omega (arith, within)

  header_short : DeclaresPast (drop 8 file) → ⊥
  header_short past = by tops refl
    where
      by : (xs : List Top) → tops ≡ xs → ⊥
      by [] is =
          let left : drop 8 file ≡ magic = ap (drop 8) whole.split ∙ ap (λ (l : List Top). spelled l ++ magic) is in
          both_ways (has_head (drop 8 file)) (ap has_head left) past.head
      by (t ∷ ts) is =
          let left : drop 8 file ≡ top_bytes t ++ (spelled ts ++ magic) = ap (drop 8) whole.split ∙ ap (λ (l : List Top). spelled l ++ magic) is ∙ append_assoc (top_bytes t) (spelled ts) magic in
          let at : At tops 0 t = subst (λ (l : List Top). At l 0 t) (sym is) refl in
          let all_short = whole.short in
          short_past (drop 8 file) t (spelled ts ++ magic) left (all_short 0 t at) (fits 0 t at) past

  record_short : (start offset : ℕ) → SummaryStartsAt file start → PassesInside (summary_part file start) start offset → ⊥
  record_short start offset starts (xs, rest, cut, past) =
      let has = summary_there file tops whole e in
      let ends = e in
      let same : start ≡ ends.start = sym starts.named ∙ start_same file ends.start (summary_of e) starts.footer has starts.ends in
      let all : spelled xs ++ rest ≡ spelled (summary_of e) ++ [] = sym cut.split ∙ ap (λ (n : ℕ). part n (length file - 37) file) same ∙ has.records ∙ sym (append-nil (spelled (summary_of e))) in
      let size : length (spelled xs) + length rest < 2 ^ 64 = omega (arith, few, room, ap length all, length-append (spelled xs) rest, length-append (spelled (summary_of e)) []) in
      elim (one_follows xs (summary_of e) rest [] (all_short xs (short_all xs (omega (arith, size)))) (all_short (summary_of e) has.short) all) [
        | inl behind ↦ by behind.more behind.longer behind.left
        | inr behind ↦ nothing_past rest (nothing behind.more behind.left) past
      ]
    where
      room : length (spelled (summary_of e)) ≤ length file
      room =
          let has = summary_there file tops whole e in
          let ends = e in
          omega (arith, ap length has.records, length-take (length file - 37 - ends.start) (drop ends.start file), length-drop ends.start file)

      nothing : (more : List Top) → [] ≡ spelled more ++ rest → rest ≡ []
      nothing more left = nil_from_length rest (let size : 0 ≡ length (spelled more ++ rest) = ap length left in omega (arith, size, length-append (spelled more) rest))

      by : (more : List Top) → summary_of e ≡ xs ++ more → rest ≡ spelled more ++ [] → ⊥
      by [] joined left = nothing_past rest left past
      by (t ∷ ts) joined left =
          let stands = in_file file tops whole e (length xs) t (subst (λ (l : List Top). At l (length xs) t) (sym joined) (at_last xs t ts)) in
          short_past rest t (spelled ts ++ []) (left ∙ append_assoc (top_bytes t) (spelled ts) []) stands.short (fits stands.place t stands.at) past

  pub passes_none : HasShortSummary file → (offset : ℕ) → Passes file offset → ⊥
  passes_none summary offset (file_passes more) = let within = short.whole in omega (arith, more, within)
  passes_none summary offset (summary_passes start starts more) = let within = summary start starts in omega (arith, more, within)
  passes_none summary offset (header_passes past) = header_short past
  passes_none summary offset (record_passes start place starts passes) = record_short start place starts passes
