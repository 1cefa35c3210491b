-- The file of a history is read to its Data End, and its messages are those of the history.
use Rattle.std.proofs.Common.{◌≡◌, ℕ, zero, suc, ◌+◌, ◌≤◌, Bool, true, false, List, [], ◌∷◌, ◌++◌, length, take, map, refl, sym, ap, subst, inl, inr, ◌∙◌, append_assoc, cond, arith}
use Rattle.std.specs.Prelude.{filter, nat_lt, IsUtf8}
use Rattle.std.specs.List.{flat_map, AllZip}
use Rattle.std.proofs.lemmas.List.{append-nil, length-append, take-append-le}
use Rattle.std.proofs.lemmas.Grind.{flat_map-append}
use Rattle.mcap_wire.specs.Layout.{magic, le}
use Rattle.mcap_wire.proofs.Numbers.{length-le}
use Rattle.rec_data.specs.declared.owned.Rec.{Rec}
use Rattle.rec_data.specs.declared.owned.Rec.TheVariants.{Schema, Channel, Message, Extra}
use Rattle.rec_data.specs.Records.{header_text, data_end_text}
use Rattle.rec_data.proofs.Contents.{data_end_shown, length-header_text}
use Rattle.std.proofs.Math.Seq.{take-append_seam}
use Rattle.mcap_model.specs.declared.options.FileOptions.{FileOptions}
use Rattle.mcap_model.specs.Places.{At, Each, EachBehind}
use Rattle.mcap_model.specs.Tops.{Top, Tops, top_bytes, spelled, offset_behind, flattened, flat, Placed, placed}
use Rattle.mcap_model.specs.Fields.{IsHeader, IsMessage}
use Rattle.mcap_model.specs.Rules.{V7, HasDataEnd, Agrees}
use Rattle.mcap_model.specs.Kept.{Limits, Halts, reading_limits, is_beyond, Fits, Good, at_end, at_data_end}
use Rattle.mcap_model.specs.Scan.{Seen, IsSeen, is_message_top, tops_of, Scan}
use Rattle.mcap_model.specs.History.{rec_top, is_message, is_inner, body_of, extras_in}
use Rattle.mcap_model.proofs.Asides.{filter_twice, message_inner, each_body}
use Rattle.rec_data.proofs.OwnedReading.{extra_not}
use Rattle.std.proofs.lemmas.Bool.{ne_eqb, or_from, le-ltb}
use Rattle.mcap_model.specs.Histories.{flat_history, IdsAgree}
use Rattle.mcap_model.specs.Blocks.{Piece, block, alone, pieces_of, logged_channels}
use Rattle.mcap_model.specs.File.{library, noted, file_of}
use Rattle.mcap_model.specs.Laws.{IsNumberedRec, CanBeRead, HoldsSeen, chunk_top, index_top, PieceIsShort, FilesAreScanned}
use Rattle.mcap_model.specs.ReadBack.{IsReadBack, IsExtra}
use Rattle.mcap_model.proofs.Lists.{cut_at, at_second, take_second, take_first, each_cons, each_joined}
use Rattle.mcap_model.proofs.Shape.{ends_there}
use Rattle.mcap_model.proofs.Section.{piece_tops, IsRight, each_flat}
use Rattle.mcap_model.proofs.Files.{body_tops, section_tops, summary_at, summary_tops, summary_foot, written_tops, file_spelled, length-file}
use Rattle.mcap_model.proofs.Body.{CanStand, header_is, body_right, section_flat}
use Rattle.mcap_model.proofs.Logging.{index_short}
use Rattle.mcap_laws.proofs.Ranges.{length-chunk, entries_short}
use Rattle.mcap_model.proofs.Places.{at_none, at_within, at_more, at_kept}
use Rattle.mcap_model.proofs.ReadBack.{message_back}
use Rattle.mcap_model.proofs.Readings.{length-top, halts_are_last}
use Rattle.mcap_model.proofs.Histories.{header_meets, data_end_meets, recs_are_flat}
use Rattle.mcap_model.proofs.Edges.{header_top, end_top}
use Rattle.mcap_model.proofs.WrittenChunks.{each_map}
use Rattle.mcap_model.proofs.Flat.{placed_tops}
use Rattle.std.proofs.lemmas.Option.{same_Some}

-- ---- the messages, from the flat records alone

abbrev pub ShowsSeen : Top → Seen → Type 0
ShowsSeen t s = IsMessage t s.channel s.message

pub zip_tops : (records : List Top) (ps : List Placed) (messages : List Seen) → AllZip (IsSeen records) (filter (λ p. is_message_top p.top) ps) messages → AllZip ShowsSeen (filter is_message_top (tops_of ps)) messages
zip_tops records [] [] zip = zip
zip_tops records [] (s ∷ ss) zip = zip
zip_tops records (p ∷ ps) messages zip = by (is_message_top p.top) messages (λ more. zip_tops records ps more) zip
  where
    by : (b : Bool) (ms : List Seen) → ((more : List Seen) → AllZip (IsSeen records) (filter (λ q. is_message_top q.top) ps) more → AllZip ShowsSeen (filter is_message_top (tops_of ps)) more)
        → AllZip (IsSeen records) (cond b (p ∷ filter (λ q. is_message_top q.top) ps) (filter (λ q. is_message_top q.top) ps)) ms
        → AllZip ShowsSeen (cond b (p.top ∷ filter is_message_top (tops_of ps)) (filter is_message_top (tops_of ps))) ms
    by true [] rest zip = zip
    by true (s ∷ ss) rest zip = let seen = zip.0 in (seen.is, rest ss zip.1)
    by false ms rest zip = rest ms zip

zip_recs : (history : List Rec) (messages : List Seen) → Each IsReadBack history → AllZip ShowsSeen (filter is_message_top (map rec_top history)) messages → AllZip HoldsSeen (filter is_message history) messages
zip_recs [] [] back zip = zip
zip_recs [] (s ∷ ss) back zip = zip
zip_recs (Schema id s ∷ rs) messages back zip = zip_recs rs messages (λ n x at. back (suc n) x at) zip
zip_recs (Channel id schema topic encoding metadata ∷ rs) messages back zip = zip_recs rs messages (λ n x at. back (suc n) x at) zip
zip_recs (Message channel sequence log_time publish_time payload ∷ rs) [] back zip = zip
zip_recs (Message channel sequence log_time publish_time payload ∷ rs) (s ∷ ss) back zip =
    let r = Message channel sequence log_time publish_time payload in
    (message_back r s.channel s.message (back zero r refl) zip.0, zip_recs rs ss (λ n x at. back (suc n) x at) zip.1)
zip_recs (Extra op content ∷ rs) messages back zip =
    let t : Top = record { op = op; content = content } in
    let no : is_message_top t ≡ false = ne_eqb op 5 (λ e. extra_not op content 5 (back zero (Extra op content) refl).2 (omega arith) e) in
    zip_recs rs messages (λ n x at. back (suc n) x at) (subst (λ (b : Bool). AllZip ShowsSeen (cond b (t ∷ filter is_message_top (map rec_top rs)) (filter is_message_top (map rec_top rs))) messages) no zip)

pub scan_of_flat : (tops : List Top) (history : List Rec) (messages : List Seen) → flat tops ≡ map rec_top history → Each IsReadBack history → Scan tops messages → AllZip HoldsSeen (filter is_message history) messages
scan_of_flat tops history messages same back scan =
    let zip = zip_tops (tops_of (placed tops)) (placed tops) messages scan in
    zip_recs history messages back (subst (λ (l : List Top). AllZip ShowsSeen (filter is_message_top l) messages) (placed_tops 8 tops ∙ same) zip)

-- ---- V7 from the flat records

pub v7_of_flat : (tops : List Top) → EachBehind Agrees (flat tops) → EachBehind V7 tops
v7_of_flat tops agree n t at k u inside =
    let split = cut_at tops n t at in
    let before = take n tops in
    let bytes : flat tops ≡ flat before ++ (flattened t ++ flat split.0) = ap flat split.1 ∙ flat_map-append flattened before (t ∷ split.0) in
    let there : At (flat before ++ (flattened t ++ flat split.0)) (length (flat before) + k) u = at_second (flat before) (flattened t ++ flat split.0) k u (at_kept (flattened t) (flat split.0) k u inside) in
    let agrees = subst (EachBehind Agrees) bytes agree (length (flat before) + k) u there in
    subst (λ (l : List Top). Agrees l u) (take_second (flat before) (flattened t ++ flat split.0) k ∙ ap (λ (l : List Top). flat before ++ l) (take_first (flattened t) (flat split.0) k u inside)) agrees

-- ---- sound records

-- all that is asked of a record by itself, and that it may be read
pub record IsSound (t : Top) : Type 0 where
  pub right : IsRight t
  pub short : length t.content ≤ 268435456

ends_not : (tops : List Top) → Each (λ t. t.op ≡ 15 → ⊥) tops → HasDataEnd tops → ⊥
ends_not [] each none = none
ends_not (t ∷ ts) each (inl here) = each 0 t refl here
ends_not (t ∷ ts) each (inr more) = ends_not ts (λ n x at. each (suc n) x at) more

-- contents as long as are read, and files as long as that
abbrev pub sized : ℕ → Limits
sized most = record { content = 268435456; file = most }

pub within_most : (most at len : ℕ) → len ≤ 268435456 → at + 9 + len ≤ most → is_beyond (sized most) at len ≡ false
within_most most at len short near = or_from (nat_lt 268435456 len) (nat_lt most (at + 9 + len)) (le-ltb 268435456 len short) (le-ltb most (at + 9 + len) near)

pub near_in : (before : List Top) (t : Top) (more : List Top) → offset_behind before + 9 + length t.content ≤ offset_behind (before ++ t ∷ more)
near_in before t more =
    let size = ap length (flat_map-append top_bytes before (t ∷ more)) in
    omega (arith, size, length-append (spelled before) (top_bytes t ++ spelled more), length-append (top_bytes t) (spelled more), length-top t)

-- a Header, sound records and a Data End are a good list where their flat records agree
pub good_of_sound : (most : ℕ) (header : Top) (tops : List Top) → IsHeader header → length header.content ≤ 268435456 → Each IsSound tops → EachBehind Agrees (flat (header ∷ (tops ++ end_top ∷ [])))
    → offset_behind (header ∷ (tops ++ end_top ∷ [])) ≤ most → Good (sized most) (header ∷ (tops ++ end_top ∷ []))
good_of_sound most header tops is short sound agree near n t at = fits n t at (cut_at all n t at)
  where
    all : List Top
    all = header ∷ (tops ++ end_top ∷ [])

    fits : (n : ℕ) (t : Top) → At (header ∷ (tops ++ end_top ∷ [])) n t → (more : List Top) × ((header ∷ (tops ++ end_top ∷ [])) ≡ take n (header ∷ (tops ++ end_top ∷ [])) ++ t ∷ more) → Fits (sized most) (take n (header ∷ (tops ++ end_top ∷ []))) t
    fits zero t at split =
        let same = same_Some header t at in
        subst (Fits (sized most) []) same (record {
          v3 = is;
          v5 = λ e. omega (arith, is.kind, e);
          v6 = header_meets header is;
          v7 = v7_of_flat (header ∷ (tops ++ end_top ∷ [])) agree 0 header refl;
          v8 = λ f chunk. absurd (omega (arith, is.kind, chunk.kind));
          v10 = λ f place kind. absurd (omega (arith, is.kind, kind));
          plain = λ name named. let chunk = named.is in absurd (omega (arith, is.kind, chunk.kind));
          within = within_most most 8 (length header.content) short (let inner = near_in [] header (tops ++ end_top ∷ []) in omega (arith, inner, near));
          unended = λ e. e;
        })
    fits (suc n) t at split =
        let close : offset_behind (take (suc n) (header ∷ (tops ++ end_top ∷ []))) + 9 + length t.content ≤ most =
        let inner = near_in (take (suc n) (header ∷ (tops ++ end_top ∷ []))) t split.0 in
        let whole = ap offset_behind split.1 in
        omega (arith, inner, whole, near) in
        let seven = v7_of_flat (header ∷ (tops ++ end_top ∷ [])) agree (suc n) t at in
        elim (at_more tops end_top n t at) [
          | inl old ↦
              let both = sound n t old in let s = both.right in
              let front : take n (tops ++ end_top ∷ []) ≡ take n tops = take-append-le n tops (end_top ∷ []) (let within = at_within tops n t old in omega (arith, within)) in
              record {
                v3 = tt;
                v5 = (s.valid, inr s.kind);
                v6 = s.v6;
                v7 = seven;
                v8 = s.v8;
                v10 = s.v10;
                plain = s.plain;
                within = within_most most (offset_behind (take (suc n) (header ∷ (tops ++ end_top ∷ [])))) (length t.content) both.short close;
                unended = λ ended. unended_by (take n (tops ++ end_top ∷ [])) (subst (Each (λ x. x.op ≡ 15 → ⊥)) (sym front) (each_take (λ x. x.op ≡ 15 → ⊥) tops n (λ k x there. let one = sound k x there in let right = one.right in right.unended))) ended;
              }
          | inr here ↦
              let size : length (data_end_text 0) ≡ 4 = ap length (append-nil (le 4 0)) ∙ length-le 4 0 in
              let front : take n (tops ++ end_top ∷ []) ≡ tops = ap (λ (m : ℕ). take m (tops ++ end_top ∷ [])) here.0 ∙ take-append_seam tops (end_top ∷ []) in
              subst (Fits (sized most) (header ∷ take n (tops ++ end_top ∷ []))) (sym here.1) (record {
                v3 = tt;
                v5 = ((λ e. omega (arith, e)), inr refl);
                v6 = data_end_meets end_top (record { kind = refl; crc = 0; layout = data_end_shown 0 (omega arith) });
                v7 = subst (λ (x : Top). V7 (header ∷ take n (tops ++ end_top ∷ [])) x) here.1 seven;
                v8 = λ f chunk. absurd (omega (arith, chunk.kind));
                v10 = λ f place kind. absurd (omega (arith, kind));
                plain = λ name named. let chunk = named.is in absurd (omega (arith, chunk.kind));
                within = within_most most (offset_behind (header ∷ take n (tops ++ end_top ∷ []))) (length (data_end_text 0)) (omega (arith, size)) (subst (λ (x : Top). offset_behind (header ∷ take n (tops ++ end_top ∷ [])) + 9 + length x.content ≤ most) here.1 close);
                unended = λ ended. unended_by (take n (tops ++ end_top ∷ [])) (subst (Each (λ x. x.op ≡ 15 → ⊥)) (sym front) (λ k x there. let one = sound k x there in let right = one.right in right.unended)) ended;
              })
        ]
      where
        each_take : (P : Top → Type 0) (xs : List Top) (m : ℕ) → Each P xs → Each P (take m xs)
        each_take P xs zero each k x at = absurd (at_none k x at)
        each_take P [] (suc m) each k x at = absurd (at_none k x at)
        each_take P (y ∷ xs) (suc m) each zero x at = each 0 x at
        each_take P (y ∷ xs) (suc m) each (suc k) x at = each_take P xs m (λ j z there. each (suc j) z there) k x at

        unended_by : (before : List Top) → Each (λ x. x.op ≡ 15 → ⊥) before → HasDataEnd (header ∷ before) → ⊥
        unended_by before each (inl first) = omega (arith, is.kind, first)
        unended_by before each (inr more) = ends_not before each more

-- ---- the file

-- a content of a piece may be read
pub piece_short : (p : Piece) → PieceIsShort p → Each (λ t. length t.content ≤ 268435456) (piece_tops p)
piece_short (block records) fits = each_cons (λ t. length t.content ≤ 268435456) (chunk_top records) (map (index_top records) (logged_channels records)) fits
    (each_map (index_top records) (λ t. length t.content ≤ 268435456) (logged_channels records) (λ n channel at. let less = index_short records channel in let chunk = length-chunk records in omega (arith, less, chunk, fits)))
piece_short (alone r) fits = each_cons (λ t. length t.content ≤ 268435456) (rec_top r) [] fits (λ n y at. absurd (at_none n y at))

-- what can be read could be written
pub stand_of : (options : FileOptions) (extras : List Top) (history : List Rec) → IsUtf8 options.profile → Each IsReadBack history → Each IsNumberedRec history → Each IsExtra (extras_in history ++ extras) → CanBeRead options extras history → CanStand options extras history
stand_of options extras history utf8 back numbered are readable = record {
  profile = utf8;
  profile_fits = (let size = length-header_text (record { profile = options.profile; library = library }) in let short = readable.header in omega (arith, size, short));
  records_fit = back;
  numbered = numbered;
  extras_meet = are;
  entries_fit = λ n records at. entries_short records (readable.pieces n (block records) at);
  size_fits = (let near = readable.file in omega (arith, near));
}

-- a file begins with its records up to the Data End
pub front_stands : (options : FileOptions) (extras : List Top) (history : List Rec) → (rest : List ℕ) × Tops (file_of options extras history) (section_tops options extras history ++ end_top ∷ []) rest
front_stands options extras history =
    let tops = section_tops options extras history ++ end_top ∷ [] in
    let tail = summary_tops options.chunk (noted options extras history) (summary_at options extras history) ++ summary_foot options.chunk (noted options extras history) (summary_at options extras history) ∷ [] in
    let parts : spelled (written_tops options extras history) ≡ spelled tops ++ spelled tail = ap spelled (sym (append_assoc (section_tops options extras history) (end_top ∷ []) tail)) ∙ flat_map-append top_bytes tops tail in (
      spelled tail ++ magic,
      record { split = file_spelled options extras history ∙ ap (λ (l : List ℕ). magic ++ (l ++ magic)) parts ∙ ap (λ (l : List ℕ). magic ++ l) (append_assoc (spelled tops) (spelled tail) magic) },
    )

-- no content up to the Data End is longer than what is read
pub record AreShort (options : FileOptions) (extras : List Top) (history : List Rec) : Type 0 where
  pub header : length (header_text (record { profile = options.profile; library = library })) ≤ 268435456
  pub pieces : Each PieceIsShort (pieces_of options.chunk options.span history)
  pub extras_short : Each (λ t. length t.content ≤ 268435456) extras

-- they are a good list where they end that soon
pub section_good : (most : ℕ) (options : FileOptions) (extras : List Top) (history : List Rec) → CanStand options extras history → AreShort options extras history → EachBehind Agrees (flat (section_tops options extras history ++ end_top ∷ []))
    → offset_behind (section_tops options extras history ++ end_top ∷ []) ≤ most → Good (sized most) (section_tops options extras history ++ end_top ∷ [])
section_good most options extras history written are agree until =
    let ps = pieces_of options.chunk options.span history in
    let inside = body_tops options extras history in
    let short : Each (λ t. length t.content ≤ 268435456) inside = each_joined (λ t. length t.content ≤ 268435456) (flat_map piece_tops ps) extras
    (each_flat (λ t. length t.content ≤ 268435456) piece_tops ps (λ n p at. piece_short p (are.pieces n p at))) are.extras_short in
    let right = body_right options extras history written in
    let sound : Each IsSound inside = λ n t at. record { right = right n t at; short = short n t at } in
    good_of_sound most (header_top options.profile) inside (header_is options extras history written) are.header sound agree until

-- the records up to the Data End, with which a file is read
pub record IsReadSo (options : FileOptions) (extras : List Top) (history : List Rec) : Type 0 where
  pub halts : Halts reading_limits (file_of options extras history) (section_tops options extras history ++ end_top ∷ []) (at_end (offset_behind (section_tops options extras history ++ end_top ∷ [])))
  pub flat_all : flat (section_tops options extras history ++ end_top ∷ []) ≡ flat_history history
  pub seen : (messages : List Seen) → Scan (section_tops options extras history ++ end_top ∷ []) messages → AllZip HoldsSeen (filter is_message history) messages

pub read_so : (options : FileOptions) (extras : List Top) (history : List Rec) → IsUtf8 options.profile → Each IsReadBack history → Each IsNumberedRec history → IdsAgree history → Each IsExtra (extras_in history ++ extras) → CanBeRead options extras history → IsReadSo options extras history
read_so options extras history utf8 back numbered agree are readable =
    let written = stand_of options extras history utf8 back numbered are readable in
    let tops = section_tops options extras history ++ end_top ∷ [] in
    let flat_recs : flat tops ≡ map rec_top (body_of history) = flat_map-append flattened (section_tops options extras history) (end_top ∷ []) ∙ append-nil (flat (section_tops options extras history)) ∙ section_flat options extras history written in
    let flat_all : flat tops ≡ flat_history history = flat_recs ∙ sym (recs_are_flat history back) in
    let file = file_of options extras history in
    let (rest, stands) = front_stands options extras history in
    let size = ap length stands.split in
    let limit = readable.file in
    let until : offset_behind tops ≤ 1099511627776 = omega (arith, size, limit, length-append magic (spelled tops ++ rest), length-append (spelled tops) rest) in
    let good = section_good 1099511627776 options extras history written (record { header = readable.header; pieces = readable.pieces; extras_short = readable.extras_short }) (subst (EachBehind Agrees) (sym flat_all) agree) until in
    let ended : HasDataEnd tops = ends_there (section_tops options extras history) [] in
    record {
      halts = record {
        kept = halts_are_last file tops rest (at_end (offset_behind tops)) stands good (inl ended);
        there = at_data_end rest stands ended;
      };
      flat_all = flat_all;
      seen = λ messages scan. subst (λ (l : List Rec). AllZip HoldsSeen l messages) (filter_twice is_message is_inner history message_inner) (scan_of_flat tops (body_of history) messages flat_recs (each_body IsReadBack history back) scan);
    }

pub files_are_scanned : FilesAreScanned
files_are_scanned options extras history utf8 back numbered agree are readable =
    let it = read_so options extras history utf8 back numbered agree are readable in
    (section_tops options extras history ++ end_top ∷ [], offset_behind (section_tops options extras history ++ end_top ∷ []), it.halts, it.flat_all, it.seen)
