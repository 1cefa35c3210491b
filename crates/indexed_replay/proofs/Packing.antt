-- What a chunk has in front of its records.
use Rattle.std.proofs.Common.{◌≡◌, ℕ, ◌+◌, ◌^◌, ◌<◌, ◌≤◌, List, [], ◌∷◌, ◌++◌, length, take, drop, refl, sym, ap, subst, ◌∙◌, append_assoc, arith}
use Rattle.std.specs.Prelude.{◌≢◌}
use Rattle.std.proofs.lemmas.List.{take-append-drop, take-append-le, drop-drop, take_at, drop_at, append-nil, length-append, length-take-le}
use Rattle.mcap_wire.specs.declared.faults.Why.{Why}
use Rattle.mcap_wire.specs.Layout.{le, number, string, prefixed, text_length}
use Rattle.mcap_wire.specs.Contents.{Values, row, RowBegins}
use Rattle.mcap_wire.specs.ContentReading.{Fails}
use Rattle.mcap_wire.proofs.Contents.{not_refused, shows_decided}
use Rattle.mcap_wire.proofs.Numbers.{length-le, number-le}
use Rattle.rec_index.specs.Fields.{ChunkFields}
use Rattle.mcap_model.specs.Tops.{Top}
use Rattle.mcap_model.specs.Fields.{IsChunk}
use Rattle.mcap_model.specs.Led.{IsThere}
use Rattle.indexed_replay.specs.Reaching.{LacksChunk}
use Rattle.indexed_replay.specs.Chunks.{front_kinds, ShowsFront, PackedAt}
use Rattle.indexed_replay.proofs.Chunking.{name_length}
use Rattle.indexed_replay.proofs.Adding.{same_there}

-- the first bytes of a content that were read where its record stands
pub front_read : (file part : List ℕ) (at n : ℕ) (t : Top) → IsThere file at t → n ≤ length t.content → part ≡ take n (drop (at + 9) file) → part ≡ take n t.content
front_read file part at n t there long same =
    let stands = there.stands in
    let head = t.op ∷ le 8 (length t.content) in
    let head_size : length head ≡ 9 = omega (arith, length-le 8 (length t.content)) in
    let whole : drop at file ≡ head ++ (t.content ++ stands.rest) = stands.there ∙ ap (λ (l : List ℕ). t.op ∷ l) (append_assoc (le 8 (length t.content)) t.content stands.rest) in
    let behind : drop (at + 9) file ≡ t.content ++ stands.rest = sym (drop-drop 9 at file) ∙ ap (drop 9) whole ∙ drop_at head (t.content ++ stands.rest) 9 head_size in
    same ∙ ap (take n) behind ∙ take-append-le n t.content stands.rest long

-- ---- the front of a chunk

module _ (t : Top) (g : ChunkFields) (is : IsChunk t g) where
  abbrev values : Values front_kinds
  values = (g.start, (g.end, (g.size, (g.crc, (g.compression, (length g.records, tt))))))

  split : t.content ≡ row front_kinds values [] ++ (g.records ++ (is.layout).0)
  split = let layout = is.layout in let begins = layout.1 in begins.spelled_there ∙ regroup (le 8 g.start) (le 8 g.end) (le 8 g.size) (le 4 g.crc) (string g.compression) (le 8 (length g.records)) g.records layout.0
    where
      regroup : (a b c d e f r x : List ℕ) → a ++ (b ++ (c ++ (d ++ (e ++ ((f ++ r) ++ x))))) ≡ (a ++ (b ++ (c ++ (d ++ (e ++ (f ++ [])))))) ++ (r ++ x)
      regroup a b c d e f r x = simp (append_assoc, append-nil) refl

  size : length (row front_kinds values []) ≡ 40 + length g.compression
  size = simp (length-append, length-le) (omega arith)

  -- the first bytes of a chunk show its compression and the length of its records
  begins : (part : List ℕ) → part ≡ take (40 + length g.compression) t.content → RowBegins front_kinds part values []
  begins part same =
      let layout = is.layout in
      let row_begins = layout.1 in
      let fit = row_begins.fit in
      record {
        spelled_there = same ∙ ap (take (40 + length g.compression)) split ∙ take_at (row front_kinds values []) (g.records ++ layout.0) (40 + length g.compression) size;
        fit = (fit.0, (fit.1.0, (fit.1.1.0, (fit.1.1.1.0, (fit.1.1.1.1.0, (fit.1.1.1.1.1.0, tt))))));
      }

  records_long : 40 + length g.compression + length g.records ≤ length t.content
  records_long = omega (arith, ap length split, size, length-append (row front_kinds values []) (g.records ++ (is.layout).0), length-append g.records (is.layout).0)

own : (file : List ℕ) (at : ℕ) (t u : Top) (g : ChunkFields) → IsThere file at t → IsThere file at u → IsChunk u g → IsChunk t g
own file at t u g there other is = subst (λ (v : Top). IsChunk v g) (same_there file at u t other there) is

-- ---- where no chunk stands

-- a front that can't be read
pub lacks_front_fields : (file part : List ℕ) (at n field : ℕ) (why : Why) (t : Top) → IsThere file at t → text_length t.content 28 ≡ n → part ≡ take (40 + n) t.content → Fails front_kinds part field why → LacksChunk file at
lacks_front_fields file part at n field why t there named same fails = λ u g other is.
    let mine = own file at t u g there other is in
    let size : n ≡ length g.compression = sym named ∙ name_length t g mine in
    not_refused front_kinds part field why fails (values t g mine) [] (begins t g mine part (same ∙ ap (λ (k : ℕ). take (40 + k) t.content) size))

-- records that don't fit behind it
pub lacks_records : (file part name : List ℕ) (at n size : ℕ) (t : Top) → IsThere file at t → text_length t.content 28 ≡ n → part ≡ take (40 + n) t.content → ShowsFront part name size → length t.content < 40 + n + size → LacksChunk file at
lacks_records file part name at n size t there named same (start, end, whole, crc, shows) past = λ u g other is.
    let mine = own file at t u g there other is in
    let long : n ≡ length g.compression = sym named ∙ name_length t g mine in
    let once = shows_decided front_kinds part (start, (end, (whole, (crc, (name, (size, tt)))))) (values t g mine) shows ([], begins t g mine part (same ∙ ap (λ (k : ℕ). take (40 + k) t.content) long)) in
    let declared : size ≡ length g.records = ap (λ (v : Values front_kinds). v.1.1.1.1.1.0) once in
    omega (arith, past, long, declared, records_long t g mine)

-- ---- where one stands

-- a front that is shown, and behind it the records
pub packed_chunk : (file part name : List ℕ) (at n size : ℕ) (t : Top) → IsThere file at t → t.op ≡ 6 → text_length t.content 28 ≡ n → n ≢ 0 → 40 + n + size ≤ length t.content → part ≡ take (40 + n) t.content → ShowsFront part name size → PackedAt file at name
packed_chunk file part name at n size t there six named some long same (start, end, whole, crc, (rest, begins_here)) =
    let more = drop (40 + n) t.content in
    let front = le 8 start ++ (le 8 end ++ (le 8 whole ++ le 4 crc)) in
    let front_size : length front ≡ 28 = simp (length-append, length-le) refl in
    let all : t.content ≡ front ++ (le 4 (length name) ++ (name ++ (le 8 size ++ (rest ++ more)))) =
    sym (take-append-drop (40 + n) t.content) ∙ ap (λ (l : List ℕ). l ++ more) (sym same ∙ begins_here.spelled_there) ∙ regroup (le 8 start) (le 8 end) (le 8 whole) (le 4 crc) (le 4 (length name)) name (le 8 size) rest more in
    let fit = begins_here.fit in
    let behind : drop 28 t.content ≡ le 4 (length name) ++ (name ++ (le 8 size ++ (rest ++ more))) = ap (drop 28) all ∙ drop_at front (le 4 (length name) ++ (name ++ (le 8 size ++ (rest ++ more)))) 28 front_size in
    let name_size : n ≡ length name =
    sym named ∙ ap (λ (l : List ℕ). number (take 4 l)) behind ∙ ap number (take_at (le 4 (length name)) (name ++ (le 8 size ++ (rest ++ more))) 4 (length-le 4 (length name))) ∙ number-le 4 (length name) fit.1.1.1.1.0.0 in
    let tail = rest ++ more in
    let room : size ≤ length tail = omega (
      arith,
      long,
      name_size,
      front_size,
      ap length all,
      length-append front (le 4 (length name) ++ (name ++ (le 8 size ++ tail))),
      length-append (le 4 (length name)) (name ++ (le 8 size ++ tail)),
      length-le 4 (length name),
      length-append name (le 8 size ++ tail),
      length-append (le 8 size) tail,
      length-le 8 size,
    ) in
    let records = take size tail in
    let records_size : length records ≡ size = length-take-le size tail room in
    let fields : ChunkFields = record { start = start; end = end; size = whole; crc = crc; compression = name; records = records } in
    let spelled : t.content ≡ le 8 start ++ (le 8 end ++ (le 8 whole ++ (le 4 crc ++ (string name ++ (prefixed 8 records ++ drop size tail))))) =
    all ∙ ap (λ (l : List ℕ). front ++ (le 4 (length name) ++ (name ++ (le 8 size ++ l)))) (sym (take-append-drop size tail))
    ∙ ap (λ (k : ℕ). front ++ (le 4 (length name) ++ (name ++ (le 8 k ++ (records ++ drop size tail))))) (sym records_size)
    ∙ together (le 8 start) (le 8 end) (le 8 whole) (le 4 crc) (le 4 (length name)) name (le 8 (length records)) records (drop size tail) in
    record {
      chunk = t;
      there = there;
      packed = record {
        shown = fields;
        is = record {
          kind = six;
          layout = (drop size tail, record { spelled_there = spelled; fit = (fit.0, (fit.1.0, (fit.1.1.0, (fit.1.1.1.0, (fit.1.1.1.1.0, (subst (λ (k : ℕ). k < 256 ^ 8) (sym records_size) fit.1.1.1.1.1.0, tt)))))) });
        };
        named = refl;
        some = λ none. some (name_size ∙ ap length none);
      };
    }
  where
    regroup : (a b c d e f g r m : List ℕ) → (a ++ (b ++ (c ++ (d ++ ((e ++ f) ++ (g ++ r)))))) ++ m ≡ (a ++ (b ++ (c ++ d))) ++ (e ++ (f ++ (g ++ (r ++ m))))
    regroup a b c d e f g r m = simp append_assoc refl

    together : (a b c d e f g r x : List ℕ) → (a ++ (b ++ (c ++ d))) ++ (e ++ (f ++ (g ++ (r ++ x)))) ≡ a ++ (b ++ (c ++ (d ++ ((e ++ f) ++ ((g ++ r) ++ x)))))
    together a b c d e f g r x = simp append_assoc refl
