-- A rule for which a replay is refused fails in the file.
use Rattle.std.proofs.Common.{◌≡◌, ℕ, zero, suc, ◌+◌, ◌^◌, ◌<◌, ◌≤◌, List, [], ◌∷◌, ◌++◌, length, take, drop, refl, sym, ap, subst, inl, inr, ◌∙◌, append_assoc, arith}
use Rattle.std.proofs.lemmas.Bool.{cases_lt}
use Rattle.std.proofs.lemmas.Grind.{flat_map-append}
use Rattle.std.proofs.lemmas.List.{length-append, drop-drop, drop_at, drop-append-le, take-append-drop}
use Rattle.std.proofs.Math.Seq.{take-add, take-append_seam}
use Rattle.mcap_wire.specs.Layout.{magic}
use Rattle.rec_data.specs.declared.footer.Footer.{Footer}
use Rattle.mcap_model.specs.declared.replay.Range.{Range}
use Rattle.mcap_model.specs.Places.{At, Has}
use Rattle.mcap_model.specs.Tops.{Top, top_bytes, spelled, inner_tops}
use Rattle.mcap_model.specs.Fields.{ChunkIndexFields, IsChunkIndex}
use Rattle.mcap_model.specs.Whole.{offset_of, offset_among, IsWhole, ChunkIndexIsRight, IsEntryOf}
use Rattle.mcap_model.specs.Valid.{Flaw, flaw_9, flaw_12}
use Rattle.mcap_model.specs.Led.{IsThere}
use Rattle.mcap_model.proofs.Places.{at_within, at_kept, at_last}
use Rattle.mcap_model.proofs.Lists.{has_taken}
use Rattle.mcap_model.proofs.Flat.{named_or}
use Rattle.mcap_model.proofs.OpenedChunks.{stands_inside}
use Rattle.mcap_model.proofs.Readings.{all_short, one_follows, length-top}
use Rattle.mcap_model.specs.declared.rules.Rule.{Rule}
use Rattle.mcap_model.specs.declared.rules.Rule.TheVariants as rules
use Rattle.mcap_laws.proofs.Leading.{Ends, summary_of, summary_there, in_before, at_dropped, from_there, there_same, is_there}
use Rattle.summary_read.specs.Reached.{HasNoSummary, EndsIn}
use Rattle.indexed_replay.specs.Reaching.{HasChunkIndex, IndexesStand, IsOwn, LeadsNowhere, AreOfOne, BreaksByIndex, at_loading, second_index, no_chunk, no_index, index_elsewhere, index_apart, no_message}
use Rattle.indexed_replay.specs.Laws.{IsReadable, ReplaysTellFlaws}
use Rattle.indexed_replay.proofs.Summed.{summary_once, start_same}
use Rattle.indexed_replay.proofs.Adding.{take_next}
use Rattle.indexed_replay.proofs.Telling.{ends_in_order, footer_ends, in_file, tells}
use Rattle.indexed_replay.proofs.Right as right_index

-- the records behind a place, in the file
behind_place : (file : List ℕ) (tops : List Top) → IsWhole file tops → (n : ℕ) → drop (offset_of tops n) file ≡ spelled (drop n tops) ++ magic
behind_place file tops whole n =
    let front = magic ++ spelled (take n tops) in
    let all : file ≡ front ++ (spelled (drop n tops) ++ magic) =
    whole.split ∙ ap (λ (l : List Top). magic ++ (spelled l ++ magic)) (sym (take-append-drop n tops)) ∙ ap (λ (l : List ℕ). magic ++ (l ++ magic)) (flat_map-append top_bytes (take n tops) (drop n tops))
    ∙ ap (λ (l : List ℕ). magic ++ l) (append_assoc (spelled (take n tops)) (spelled (drop n tops)) magic) ∙ sym (append_assoc magic (spelled (take n tops)) (spelled (drop n tops) ++ magic)) in
    ap (drop (offset_of tops n)) all ∙ drop_at front (spelled (drop n tops) ++ magic) (offset_of tops n) (length-append magic (spelled (take n tops)))

-- of two places the one with the smaller offset is in front
spelled_more : (xs : List Top) (n i : ℕ) → n ≤ i → length (spelled (take n xs)) ≤ length (spelled (take i xs))
spelled_more xs zero i less = omega arith
spelled_more [] (suc n) i less = omega arith
spelled_more (x ∷ xs) (suc n) zero less = absurd (omega (arith, less))
spelled_more (x ∷ xs) (suc n) (suc i) less =
    let rest = spelled_more xs n i (omega (arith, less)) in
    omega (arith, rest, length-append (top_bytes x) (spelled (take n xs)), length-append (top_bytes x) (spelled (take i xs)))

in_order : (tops : List Top) (i n : ℕ) → offset_of tops i < offset_of tops n → i < n
in_order tops i n less = elim (cases_lt i n) [
  | inl front ↦ front
  | inr past ↦ let more = spelled_more tops n i past in absurd (omega (arith, less, more))
]

module _ (file : List ℕ) (tops : List Top) (range : Range) (readable : IsReadable file tops) (some : HasNoSummary file → ⊥) where
  whole : IsWhole file tops
  whole = let ordered = readable.ordered in ordered.whole

  abbrev e : Ends tops
  e = ends_in_order file tops readable.ordered some

  abbrev footer_of : Footer
  footer_of = record { summary_start = e.start; summary_offset_start = e.offsets; summary_crc = e.crc }

  ends_here : EndsIn file footer_of
  ends_here = let ends = e in let w = whole in footer_ends file ends.before ends.foot footer_of (w.split ∙ ap (λ (l : List Top). magic ++ (spelled l ++ magic)) ends.joined) ends.is

  -- a Chunk Index of the summary, as a record of the file
  record OwnIndex (at : ℕ) (f : ChunkIndexFields) : Type 0 where
    place : ℕ
    top : Top
    stands : At tops place top
    is : IsChunkIndex top f
    there : at ≡ offset_of tops place

  own_index : (at : ℕ) (f : ChunkIndexFields) → HasChunkIndex file at f → OwnIndex at f
  own_index at f h =
      let same = summary_once file h.start e.start h.summary (summary_of e) h.has (summary_there file tops whole e) in
      let start : e.start ≡ h.start = start_same file h.start h.summary footer_of h.has ends_here in
      let found = in_file file tops whole e h.place h.index (subst (λ (l : List Top). At l h.place h.index) same h.indexed) in
      let among : length (spelled (take h.place h.summary)) ≡ length (spelled (take h.place (summary_of e))) = ap (λ (l : List Top). length (spelled (take h.place l))) same in
      record { place = found.place; top = h.index; stands = found.at; is = h.is; there = omega (arith, h.there, start, among, found.there) }

  -- it breaks its rule
  twelve : (at : ℕ) (f : ChunkIndexFields) (own : OwnIndex at f) → (ChunkIndexIsRight tops own.place f → ⊥) → Flaw file rules.V12 at
  twelve at f own bad =
      let plain = readable.plain in
      flaw_12 at (record {
        tops = tops;
        whole = whole;
        place = own.place;
        top = own.top;
        at = own.stands;
        there = own.there;
        breaks = λ keeps. bad (keeps (λ k u here. plain k u (has_taken tops (suc own.place) k u here).1) f own.is);
      })

  -- an earlier one leads to its chunk
  second : (first at : ℕ) → first < at → AreOfOne file first at → Flaw file rules.V12 at
  second first at less two =
      let before = own_index first two.one two.first_there in
      let own = own_index at two.other two.second_there in
      twelve at two.other own (λ right.
      let alone = right.only in
      alone before.place before.top two.one (in_order tops before.place own.place (omega (arith, less, before.there, own.there))) before.stands before.is two.same)

  -- ---- a Message Index with an entry that leads to no message

  -- a Message Index that stands behind the chunk at a place, behind these others
  record OwnList (k : ℕ) (chunk list : Top) (others : List Top) (offset : ℕ) : Type 0 where
    stands : At tops (suc k + length others) list
    there : offset ≡ offset_of tops (suc k + length others)
    before : take (suc k + length others) tops ≡ take k tops ++ chunk ∷ others

  -- the message of an entry stands where it says
  stands_there : (k : ℕ) (chunk : Top) (f : ChunkIndexFields) (channel : ℕ) (entry : ℕ × ℕ) → At tops k chunk → chunk.op ≡ 6 → f.offset ≡ offset_of tops k → (found : IsEntryOf (inner_tops chunk) channel entry) → IsThere file (f.offset + 49 + entry.1) found.top
  stands_there k chunk f channel entry at six there found =
      let layouts = readable.layouts in
      let layout = layouts k chunk at in
      let kind = layout.chunk in
      let (g, is) = kind six in
      let all_plain = readable.plain in
      let plain : g.compression ≡ [] = named_or chunk g g.compression is refl (all_plain k chunk at) in
      let chunks = readable.chunks in
      let inside = stands_inside chunk g is plain (chunks k chunk at g is plain) found.place found.top found.at in
      let (more, stands) = from_there file tops k chunk whole at in
      let o = offset_among (inner_tops chunk) found.place in
      let same : f.offset + 49 + entry.1 ≡ offset_of tops k + (49 + o) = omega (arith, there, found.offset) in
      let behind = inside.there in
      let w = whole in
      let short = w.short in
      is_there file (f.offset + 49 + entry.1) found.top (inside.rest ++ more) (ap (λ (n : ℕ). drop n file) same ∙ sym (drop-drop (49 + o) (offset_of tops k) file) ∙ ap (drop (49 + o)) stands ∙ behind more)
      (omega (arith, short k chunk at, inside.within, length-top found.top, length-top chunk))

  -- behind the chunk stand other records, the Footer last
  footer_behind : (k : ℕ) (chunk : Top) → At tops k chunk → chunk.op ≡ 6 → Has (drop (suc k) tops) (e.foot)
  footer_behind k chunk at six =
      let ends = e in
      let near = at_within ends.before k chunk (in_before tops ends k chunk at (λ two. omega (arith, six, two))) in
      let rest = drop (suc k) ends.before in
      (length rest, subst (λ (l : List Top). At l (length rest) ends.foot) (sym (ap (drop (suc k)) ends.joined ∙ drop-append-le (suc k) ends.before (ends.foot ∷ []) (omega (arith, near)))) (at_last rest ends.foot []))

  own_list : (k end offset : ℕ) (chunk list : Top) → At tops k chunk → chunk.op ≡ 6 → end ≡ offset_of tops (suc k) → (stand : IndexesStand file end offset) → IsThere file offset list → OwnList k chunk list stand.indexes offset
  own_list k end offset chunk list at six ends stand there =
      let w = whole in
      let short = w.short in
      let behind : drop end file ≡ spelled (drop (suc k) tops) ++ magic = ap (λ (n : ℕ). drop n file) ends ∙ behind_place file tops whole (suc k) in
      elim (one_follows stand.indexes (drop (suc k) tops) stand.rest magic (all_short stand.indexes stand.short) (all_short (drop (suc k) tops) (λ n t here. short (suc k + n) t (at_dropped tops (suc k) n t here (suc k + n) refl))) (sym stand.split ∙ behind)) [
        | inl follows ↦ by follows.more follows.longer follows.left
        | inr ended ↦ absurd (none ended.more ended.longer)
      ]
    where
      rest_there : drop offset file ≡ stand.rest
      rest_there = ap (λ (n : ℕ). drop n file) stand.there ∙ sym (drop-drop (length (spelled stand.indexes)) end file) ∙ ap (drop (length (spelled stand.indexes))) stand.split ∙ drop_at (spelled stand.indexes) stand.rest (length (spelled stand.indexes)) refl

      none : (more : List Top) → stand.indexes ≡ drop (suc k) tops ++ more → ⊥
      none more longer =
          let (n, here) = footer_behind k chunk at six in
          let kinds = stand.kinds in
          let is = e.is in
          let seven = kinds n e.foot (subst (λ (l : List Top). At l n e.foot) (sym longer) (at_kept (drop (suc k) tops) more n e.foot here)) in
          omega (arith, seven, is.kind)

      by : (more : List Top) → drop (suc k) tops ≡ stand.indexes ++ more → stand.rest ≡ spelled more ++ magic → OwnList k chunk list stand.indexes offset
      by [] joined left =
          let stands = there.stands in
          absurd (omega (arith, ap length (sym left ∙ sym rest_there ∙ stands.there), length-append (top_bytes list) stands.rest, length-top list))
      by (t ∷ ts) joined left =
          let xs = stand.indexes in
          let n = suc k + length xs in
          let here : At tops n t = at_dropped tops (suc k) (length xs) t (subst (λ (l : List Top). At l (length xs) t) (sym joined) (at_last xs t ts)) n refl in
          let w = whole in
          let short = w.short in
          let same : list ≡ t = there_same file offset t list (spelled ts ++ magic) (rest_there ∙ left ∙ append_assoc (top_bytes t) (spelled ts) magic) (short n t here) there in
          let front : take n tops ≡ take (suc k) tops ++ xs = take-add (suc k) (length xs) tops ∙ ap (λ (l : List Top). take (suc k) tops ++ take (length xs) l) joined ∙ ap (λ (l : List Top). take (suc k) tops ++ l) (take-append_seam xs (t ∷ ts)) in
          record {
            stands = subst (λ (u : Top). At tops n u) (sym same) here;
            there = omega (arith, stand.there, ends, ap (λ (l : List Top). length (spelled l)) front, ap length (flat_map-append top_bytes (take (suc k) tops) xs), length-append (spelled (take (suc k) tops)) (spelled xs));
            before = front ∙ ap (λ (l : List Top). l ++ xs) (take_next tops k chunk at (suc k) refl) ∙ append_assoc (take k tops) (chunk ∷ []) xs;
          }

  nine : (at : ℕ) (f : ChunkIndexFields) (channel offset : ℕ) → OwnIndex at f → LeadsNowhere file range at f channel offset → IsOwn file f offset → Flaw file rules.V9 offset
  nine at f channel offset own nowhere belongs =
      let lead = readable.lead in
      let (chunk, (k, stands, place)) = lead own.place own.top f own.stands own.is in
      let w = whole in
      let short = w.short in
      let (rest, bytes) = from_there file tops k chunk whole stands in
      let ends = belongs.ends in
      let same : ends.chunk ≡ chunk = there_same file f.offset chunk ends.chunk rest (ap (λ (o : ℕ). drop o file) place ∙ bytes) (short k chunk stands) ends.there in
      let six : chunk.op ≡ 6 = sym (ap (λ (t : Top). t.op) same) ∙ ends.kind in
      let size : length (top_bytes ends.chunk) ≡ length (top_bytes chunk) = ap (λ (t : Top). length (top_bytes t)) same in
      let end_is : belongs.end ≡ offset_of tops (suc k) = omega (arith, ends.is, size, place, ap (λ (l : List Top). length (spelled l)) (take_next tops k chunk stands (suc k) refl), ap length (flat_map-append top_bytes (take k tops) (chunk ∷ [])), length-append (spelled (take k tops)) (top_bytes chunk ++ []), length-append (top_bytes chunk) []) in
      let stand = belongs.stand in
      let leads = nowhere.leads in
      let list = own_list k belongs.end offset chunk leads.list stands six end_is stand leads.there in
      let plain = readable.plain in
      flaw_9 offset (record {
        tops = tops;
        rest = magic;
        stand = record { split = w.split };
        short = short;
        inside = λ v2. omega arith;
        place = suc k + length stand.indexes;
        top = leads.list;
        at = list.stands;
        there = list.there;
        breaks = λ keeps.
            let v9 = keeps (λ n u here. plain n u (has_taken tops (suc (suc k + length stand.indexes)) n u here).1) in
            let shows = leads.is in
            let after = v9.0 shows.kind in
            let right = after.right in
            let index = right (take k tops) chunk stand.indexes list.before six stand.kinds in
            let entries = index.entries in
            let all = entries channel leads.entries leads.is in
            let are = all.are in
            let found = are nowhere.entry leads.entry_there in
            let lacks = nowhere.lacks in
            lacks found.top found.message (stands_there k chunk f channel nowhere.entry stands six place found) found.is (sym found.time);
      })

  -- ---- all refusals

  pub breaks_tell : length file < 2 ^ 64 → (rule : Rule) (offset : ℕ) → BreaksByIndex file range rule offset → Flaw file rule offset
  breaks_tell few rule offset (at_loading number place fails) = tells file tops whole e few number place fails
  breaks_tell few rule offset (second_index first at less two) = second first at less two
  breaks_tell few rule offset (no_chunk at f reached lacks) = let own = own_index at f reached.indexed in twelve at f own (λ right. right_index.some_chunk file tops whole own.place f right lacks)
  breaks_tell few rule offset (no_index at f channel place names lacks) = let reached = names.reached in let own = own_index at f reached.indexed in twelve at f own (λ right. right_index.some_index file tops whole own.place f right channel place names.named lacks)
  breaks_tell few rule offset (index_elsewhere at f channel place names elsewhere) = let reached = names.reached in let own = own_index at f reached.indexed in twelve at f own (λ right. right_index.none_elsewhere file tops whole own.place f right channel place names.named elsewhere)
  breaks_tell few rule offset (index_apart at f channel place names apart) = let reached = names.reached in let own = own_index at f reached.indexed in twelve at f own (λ right. right_index.none_apart file tops whole own.place f right channel place names.named apart)
  breaks_tell few rule offset (no_message at f channel place nowhere belongs) = let leads = nowhere.leads in let names = leads.names in let reached = names.reached in nine at f channel place (own_index at f reached.indexed) nowhere belongs

pub replays_tell : ReplaysTellFlaws
replays_tell file tops range readable some few rule offset refused = breaks_tell file tops range readable some few rule offset refused
