-- A rule for which a summary isn't loaded fails in the file.
use Rattle.std.proofs.Common.{◌≡◌, ℕ, zero, suc, ◌+◌, ◌-◌, ◌^◌, ◌<◌, ◌≤◌, List, [], ◌∷◌, ◌++◌, length, take, refl, sym, ap, subst, inl, inr, ◌∙◌, append_assoc, append-nil, arith}
use Rattle.std.proofs.lemmas.Bool.{both_ways, cases_lt}
use Rattle.std.proofs.lemmas.Grind.{flat_map-append}
use Rattle.std.proofs.lemmas.List.{length-append, nil_from_length, take-append-le}
use Rattle.std.proofs.lemmas.Option.{same_Some}
use Rattle.std.proofs.Math.Seq.{take-add, take-append_seam}
use Rattle.mcap_wire.specs.Layout.{magic, part}
use Rattle.mcap_wire.proofs.Framing.{records_apart}
use Rattle.rec_data.specs.declared.footer.Footer.{Footer}
use Rattle.mcap_model.specs.Places.{At}
use Rattle.mcap_model.specs.Tops.{Top, top_bytes, spelled, has_head, is_whole}
use Rattle.mcap_model.specs.Rules.{V6, HasDataEnd}
use Rattle.mcap_model.specs.Whole.{offset_of, AreShort, IsWhole, InSummary, stands_in_summary}
use Rattle.mcap_model.specs.Valid.{Flaw, flaw_5, flaw_6}
use Rattle.mcap_model.proofs.Places.{at_none, at_within, at_kept, at_last, at_one}
use Rattle.mcap_model.proofs.Lists.{cut_flat, at_taken}
use Rattle.mcap_model.proofs.Readings.{Begun, top_of, all_short, one_follows, begun, length-top}
use Rattle.mcap_laws.proofs.Leading.{Ends, summary_of, front_of, whole_bytes, start_is, summary_there, at_dropped}
use Rattle.mcap_model.specs.declared.refusals.ReadingRefused.TheVariants as refusals
use Rattle.mcap_model.specs.declared.refusals.IndexedRefused.TheVariants as by_index
use Rattle.mcap_model.specs.declared.rules.Rule.{Rule}
use Rattle.summary_read.specs.Reached.{RecordShowsFooter, HasNoSummary, EndsIn, SummaryStartsAt, summary_part, BreaksFirst, breaks_4, breaks_5, breaks_6, FailsInside, FailsLoading, at_ends, by_start, inside}
use Rattle.summary_read.proofs.Flawed.{flawed}
use Rattle.summary_read.proofs.FileEnds.{no_other}
use Rattle.indexed_replay.specs.Laws.{IsInOrder, FlawlessFilesAreLoaded}
use Rattle.indexed_replay.proofs.Summed.{footer_size, start_same}

-- a Data End stands in front of a place behind it
ended_past : (xs : List Top) (k : ℕ) (t : Top) → At xs k t → t.op ≡ 15 → (n : ℕ) → k < n → HasDataEnd (take n xs)
ended_past xs k t at kind n less = ended (take n xs) k (at_taken xs n k t less at)
  where
    ended : (ys : List Top) (j : ℕ) → At ys j t → HasDataEnd ys
    ended [] j at = absurd (at_none j t at)
    ended (y ∷ ys) zero at = inl (ap (λ (u : Top). u.op) (same_Some y t at) ∙ kind)
    ended (y ∷ ys) (suc j) at = inr (ended ys j at)

-- the records of some bytes are short where the bytes are
short_all : (xs : List Top) → length (spelled xs) < 2 ^ 64 → AreShort xs
short_all xs few n t at =
    let (more, cut) = cut_flat top_bytes xs n t at in
    omega (arith, few, ap length cut, length-append (spelled (take n xs)) (top_bytes t ++ spelled more), length-append (top_bytes t) (spelled more), length-top t)

-- ---- the ends of a file whose records are in order

-- the Footer stands in front of the last magic
pub footer_ends : (file : List ℕ) (before : List Top) (foot : Top) (f : Footer) → file ≡ magic ++ (spelled (before ++ foot ∷ []) ++ magic) → RecordShowsFooter foot f → EndsIn file f
footer_ends file before foot f split is = record {
  before = magic ++ spelled before;
  top = foot;
  last = magic;
  split = split ∙ ap (λ (l : List ℕ). magic ++ (l ++ magic)) (flat_map-append top_bytes before (foot ∷ [])) ∙ regroup magic (spelled before) (top_bytes foot) magic;
  size = refl;
  is = is;
}
  where
    regroup : (m s b e : List ℕ) → m ++ ((s ++ (b ++ [])) ++ e) ≡ (m ++ s) ++ (b ++ e)
    regroup m s b e = simp (append_assoc, append-nil) refl

pub ends_in_order : (file : List ℕ) (tops : List Top) → IsInOrder file tops → (HasNoSummary file → ⊥) → Ends tops
ends_in_order file tops ordered some =
    let whole = ordered.whole in
    let (before, foot, joined, footer, none) = ordered.footer in
    let (start, offsets, crc, is) = footer in
    let order = ordered.order in
    let size : length tops ≡ suc (length before) = omega (arith, ap length joined, length-append before (foot ∷ [])) in
    let at_foot : At tops (length before) foot = subst (λ (l : List Top). At l (length before) foot) (sym joined) (at_last before foot []) in
    let names = (order (length before) foot at_foot).0 start offsets crc size is in
    let (k, top, at, kind, first, why) = names.start in
    let near : k < length before = elim (cases_lt k (length before)) [
      | inl less ↦ less
      | inr more ↦
          let last : k ≡ length before = let room = at_within tops k top at in omega (arith, more, size, room) in
          let same : foot ≡ top = at_one tops k foot top (subst (λ (m : ℕ). At tops m foot) (sym last) at_foot) at in
          absurd (apart foot top is.kind kind same)
    ] in
    record {
      before = before;
      foot = foot;
      joined = joined;
      start = start;
      offsets = offsets;
      crc = crc;
      is = is;
      end = k;
      top = top;
      at = at;
      kind = kind;
      first = first;
      there = elim why [
        | inl none_there ↦ absurd (some (record { summary_start = start; summary_offset_start = offsets; summary_crc = crc }, footer_ends file before foot (record { summary_start = start; summary_offset_start = offsets; summary_crc = crc }) (whole.split ∙ ap (λ (l : List Top). magic ++ (spelled l ++ magic)) joined) is, none_there.0))
        | inr named ↦ named
      ];
      inside = near;
    }
  where
    apart : (foot top : Top) → foot.op ≡ 2 → top.op ≡ 15 → foot ≡ top → ⊥
    apart foot top two fifteen same = omega (arith, two, fifteen, ap (λ (x : Top). x.op) same)

module _ (file : List ℕ) (tops : List Top) (whole : IsWhole file tops) (e : Ends tops) where
  -- where the summary starts, and how long it is
  inside_file : (8 ≤ e.start) × (e.start + length (spelled (summary_of e)) + 37 ≡ length file)
  inside_file =
      let all = whole_bytes file tops whole e in
      let front = magic ++ spelled (front_of e) in
      let tail = top_bytes (e.foot) ++ magic in
      let begins = start_is tops e in
      let tail_size : length tail ≡ 37 = omega (arith, length-append (top_bytes e.foot) magic, length-top e.foot, footer_size e.foot e.start e.offsets e.crc e.is) in
      (omega (arith, begins, length-append magic (spelled (front_of e))), omega (arith, begins, ap length all, length-append front (spelled (summary_of e) ++ tail), length-append (spelled (summary_of e)) tail, tail_size))

  starts_there : (f : Footer) → EndsIn file f → f.summary_start ≡ e.start
  starts_there f ends = start_same file e.start (summary_of e) f (summary_there file tops whole e) ends

  pub some_summary : HasNoSummary file → ⊥
  some_summary (f, ends, none) =
      let has = summary_there file tops whole e in
      let some = has.some in
      some (sym (starts_there f ends) ∙ none)

  -- a record of the summary, as one of the file
  pub record InFile (i : ℕ) (t : Top) : Type 0 where
    pub place : ℕ
    pub at : At tops place t
    pub within : InSummary tops place
    pub short : length t.content < 2 ^ 64
    pub there : e.start + length (spelled (take i (summary_of e))) ≡ offset_of tops place

  pub in_file : (i : ℕ) (t : Top) → At (summary_of e) i t → InFile i t
  in_file i t at =
      let ends = e in
      let n = suc ends.end + i in
      let here = at_dropped ends.before (suc ends.end) i t at n refl in
      let near = at_within ends.before n t here in
      let there : At tops n t = subst (λ (l : List Top). At l n t) (sym ends.joined) (at_kept ends.before (ends.foot ∷ []) n t here) in
      let size : length tops ≡ suc (length ends.before) = omega (arith, ap length ends.joined, length-append ends.before (ends.foot ∷ [])) in
      let over = ended_past tops ends.end ends.top ends.at ends.kind n (omega arith) in
      let short = whole.short in
      let front : take n tops ≡ take n ends.before = ap (take n) ends.joined ∙ take-append-le n ends.before (ends.foot ∷ []) (omega (arith, near)) in
      let parts : spelled (take n tops) ≡ spelled (front_of e) ++ spelled (take i (summary_of e)) = ap spelled (front ∙ take-add (suc ends.end) i ends.before) ∙ flat_map-append top_bytes (front_of e) (take i (summary_of e)) in
      record {
        place = n;
        at = there;
        within = (over, omega (arith, near, size));
        short = short n t there;
        there = omega (arith, start_is tops e, length-append magic (spelled (front_of e)), ap length parts, length-append (spelled (front_of e)) (spelled (take i (summary_of e))));
      }

  -- a record of the file that breaks a rule of those that are looked at
  breaks_there : (n : ℕ) (t : Top) (behind rest : List ℕ) → At tops n t → InSummary tops n → length t.content < 2 ^ 64 → length rest < 2 ^ 64 → rest ≡ top_bytes t ++ behind → (rule : Rule) → BreaksFirst rest rule → Flaw file rule (offset_of tops n)
  breaks_there n t behind rest at within short few left rule breaks = by (begun rest t behind left short) rule breaks
    where
      by : Begun rest t → (rule : Rule) → BreaksFirst rest rule → Flaw file rule (offset_of tops n)
      by b rule (breaks_4 (inl headless)) = absurd (both_ways (has_head rest) headless b.head)
      by b rule (breaks_4 (inr cut)) = absurd (both_ways (is_whole rest) cut b.whole)
      by b rule (breaks_5 head none) =
          flaw_5 (offset_of tops n) (inr (inr (record { tops = tops; whole = whole; place = n; top = t; at = at; there = refl; breaks = λ keeps. both_ways (stands_in_summary t.op) (ap stands_in_summary (sym b.op_is) ∙ none) (keeps.0 within) })))
      by b rule (breaks_6 u more is bad) =
          let fits : length u.content < 2 ^ 64 = omega (arith, few, ap length is, length-append (top_bytes u) more, length-top u) in
          let parts = records_apart t.op u.op t.content u.content behind more short fits (sym left ∙ is) in
          flaw_6 (offset_of tops n) (record {
            tops = tops;
            rest = magic;
            stand = record { split = whole.split };
            short = whole.short;
            inside = λ v2. omega arith;
            place = n;
            top = t;
            at = at;
            there = refl;
            breaks = λ keeps. bad (subst V6 (ap (λ (o : ℕ). top_of o t.content) parts.0 ∙ ap (top_of u.op) parts.1) keeps);
          })

  inside_tells : length file < 2 ^ 64 → (start : ℕ) (rule : Rule) (offset : ℕ) → SummaryStartsAt file start → FailsInside (summary_part file start) start rule offset → Flaw file rule offset
  inside_tells few start rule offset starts (xs, rest, cut, some, breaks) =
      let has = summary_there file tops whole e in
      let same : start ≡ e.start = sym starts.named ∙ starts_there starts.footer starts.ends in
      let all : spelled xs ++ rest ≡ spelled (summary_of e) ++ [] = sym cut.split ∙ ap (λ (n : ℕ). part n (length file - 37) file) same ∙ has.records ∙ sym (append-nil (spelled (summary_of e))) in
      let size : length (spelled xs) + length rest < 2 ^ 64 = omega (arith, few, inside_file.1, ap length all, length-append (spelled xs) rest, length-append (spelled (summary_of e)) []) in
      elim (one_follows xs (summary_of e) rest [] (all_short xs (short_all xs (omega (arith, size)))) (all_short (summary_of e) has.short) all) [
        | inl behind ↦ by behind.more behind.longer behind.left (omega (arith, size)) (cut.there ∙ ap (λ (n : ℕ). n + length (spelled xs)) same)
        | inr behind ↦ absurd (some (nothing behind.more behind.left))
      ]
    where
      nothing : (more : List Top) → [] ≡ spelled more ++ rest → rest ≡ []
      nothing more left = nil_from_length rest (let size : 0 ≡ length (spelled more ++ rest) = ap length left in omega (arith, size, length-append (spelled more) rest))

      by : (more : List Top) → summary_of e ≡ xs ++ more → rest ≡ spelled more ++ [] → length rest < 2 ^ 64 → offset ≡ e.start + length (spelled xs) → Flaw file rule offset
      by [] joined left small there = absurd (some left)
      by (t ∷ ts) joined left small there =
          let stands = in_file (length xs) t (subst (λ (l : List Top). At l (length xs) t) (sym joined) (at_last xs t ts)) in
          let front : take (length xs) (summary_of e) ≡ xs = ap (take (length xs)) joined ∙ take-append_seam xs (t ∷ ts) in
          let place : offset ≡ offset_of tops stands.place = there ∙ ap (λ (l : List Top). e.start + length (spelled l)) (sym front) ∙ stands.there in
          subst (Flaw file rule) (sym place) (breaks_there stands.place t (spelled ts ++ []) rest stands.at stands.within stands.short small (left ∙ append_assoc (top_bytes t) (spelled ts) []) rule breaks)

  pub tells : length file < 2 ^ 64 → (rule : Rule) (offset : ℕ) → FailsLoading file rule offset → Flaw file rule offset
  tells few rule offset (at_ends number place fails) = flawed file number place fails
  tells few rule offset (by_start v1 f ends some (inl early)) = absurd (omega (arith, early, starts_there f ends, inside_file.0))
  tells few rule offset (by_start v1 f ends some (inr late)) = absurd (omega (arith, late, starts_there f ends, inside_file.1))
  tells few rule offset (inside v1 start number place starts fails) = inside_tells few start number place starts fails

pub flawless_loaded : FlawlessFilesAreLoaded
flawless_loaded file tops footer flawless few ends some (by_index.NotIndexed why) refused = some (no_other file footer ends refused.1)
flawless_loaded file tops footer flawless few ends some (by_index.Refused (refusals.Fault faults)) refused = tt
flawless_loaded file tops footer flawless few ends some (by_index.Refused (refusals.Grammar offset rule)) refused =
    let none = flawless.none in
    let ordered = flawless.ordered in
    none rule offset (tells file tops ordered.whole (ends_in_order file tops ordered refused.1) few rule offset refused.0)
flawless_loaded file tops footer flawless few ends some (by_index.Refused (refusals.Compressed offset name)) refused = absurd refused
flawless_loaded file tops footer flawless few ends some (by_index.Refused (refusals.Limit offset)) refused = tt
flawless_loaded file tops footer flawless few ends some (by_index.Refused refusals.Memory) refused = tt
