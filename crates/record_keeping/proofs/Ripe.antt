-- What is ripe of a history stands where a writer stopped.
use Rattle.std.proofs.Common.{◌≡◌, ◌⊎◌, ℕ, zero, suc, ◌-◌, ◌≤◌, Bool, true, false, List, [], ◌∷◌, ◌++◌, length, take, map, Option, Some, None, refl, sym, ap, subst, inl, inr, ◌∙◌, append_assoc, append-nil, arith}
use Rattle.std.specs.Prelude.{fold, IsSome, if◌then◌else◌}
use Rattle.std.proofs.lemmas.Bool.{false≢true}
use Rattle.std.proofs.lemmas.List.{length-append, length-take}
use Rattle.std.proofs.lemmas.Grind.{flat_map-append}
use Rattle.mcap_wire.specs.Layout.{framed, magic}
use Rattle.rec_data.specs.declared.owned.Rec.{Rec}
use Rattle.rec_data.specs.Records.{header_opcode, header_text}
use Rattle.mcap_io.specs.Outside.{SourceState, LiveState}
use Rattle.mcap_model.specs.declared.ends.Stop.{Stop}
use Rattle.mcap_model.specs.declared.options.FileOptions.{FileOptions}
use Rattle.mcap_model.specs.declared.refusals.ReadingRefused.{ReadingRefused}
use Rattle.mcap_model.specs.Places.{Each}
use Rattle.mcap_model.specs.Tops.{Top, Begins, top_bytes}
use Rattle.mcap_model.specs.Kept.{Good, reading_limits}
use Rattle.mcap_model.specs.History.{is_inner}
use Rattle.mcap_model.specs.Blocks.{Piece, block, alone, Cuts, no_cuts, is_ripe, cut_behind, alone_behind, put_by, cuts, last_piece, block_in, blocks_in, piece_bytes, pieces_bytes}
use Rattle.mcap_model.specs.File.{front, library}
use Rattle.mcap_model.specs.Histories.{written_of}
use Rattle.mcap_model.specs.Pieces.{joined, back_of, file_pieces, pieces_before}
use Rattle.mcap_model.specs.Repaired.{Repairs}
use Rattle.mcap_scan.specs.Sources.{ReadFromFront}
use Rattle.chunk_writer.specs.declared.phase.Phase.TheVariants as phases
use Rattle.chunk_writer.specs.declared.tape.Written.{Written}
use Rattle.chunk_writer.specs.Stops.{StopsAt}
use Rattle.chunk_writer.specs.Scribes.{KeepsOn, phase_of}
use Rattle.chunk_writer.proofs.Cuts.{cuts_more, one_more}
use Rattle.record_keeping.specs.declared.keeping.Keeping.{Keeping}
use Rattle.record_keeping.specs.Keeping.{KeepingStandsFor, AddsAtLeast, HasWritten}
use Rattle.record_keeping.specs.NewFiles.{recovered_options, LeftAfter, IsUnbegun, Making, AreRipe, BeginsRipe, CutShort}
use Rattle.record_keeping.specs.Readings.{ReadStopped, FirstShows}

-- ---- what is sure stays so

pieces_on : (size span : Option ℕ) (history more : List Rec) → (rest : List Piece) × ((cuts size span (history ++ more)).pieces ≡ (cuts size span history).pieces ++ rest)
pieces_on size span history [] = ([], ap (λ (l : List Rec). (cuts size span l).pieces) (append-nil history) ∙ sym (append-nil (cuts size span history).pieces))
pieces_on size span history (r ∷ rs) =
    let one = one_more size span (cuts size span history) r in
    let rest = pieces_on size span (history ++ r ∷ []) rs in (
      one.0 ++ rest.0,
      ap (λ (l : List Rec). (cuts size span l).pieces) (sym (append_assoc history (r ∷ []) rs)) ∙ rest.1
          ∙ ap (λ (l : List Piece). l ++ rest.0) (ap (λ (c : Cuts). c.pieces) (cuts_more size span history r) ∙ one.1)
          ∙ append_assoc (cuts size span history).pieces one.0 rest.0,
    )

pub written_on : (options : FileOptions) (history more : List Rec) → (rest : List ℕ) × (written_of options (history ++ more) ≡ written_of options history ++ rest)
written_on options history more =
    let (rest, is) = pieces_on options.chunk options.span history more in
    let ps = (cuts options.chunk options.span history).pieces in
    let start = front options.profile in
    (pieces_bytes rest, ap (λ (l : List Piece). start ++ pieces_bytes l) is ∙ ap (λ (l : List ℕ). start ++ l) (flat_map-append piece_bytes ps rest) ∙ sym (append_assoc start (pieces_bytes ps) (pieces_bytes rest)))

-- a store keeps what is sure of the first records, whatever comes after them
pub wrote_first : {L : Type 0} (seen : L → LiveState) (options : FileOptions) (extras : List Top) (opened : LiveState) (history first more : List Rec) (old new : Keeping L)
    → KeepingStandsFor seen options extras opened history old → phase_of old.scribe ≡ phases.Going → KeepsOn (seen old.scribe.store).held (seen new.scribe.store).held → history ≡ first ++ more → HasWritten seen options opened new first
wrote_first seen options extras opened history first more old new keeps going on is start told =
    let (rest, longer) = written_on options first more in
    let whole : written_of options history ≡ written_of options first ++ rest = ap (written_of options) is ∙ longer in
    let stood = (keeps.writes.0.going going).1 start told in
    let (later, held) = on (start ++ written_of options history) stood in
    let text = written_of options first in (
      rest ++ later,
      held ∙ ap Some (ap (λ (l : List ℕ). (start ++ l) ++ later) whole ∙ append_assoc start (text ++ rest) later ∙ ap (λ (l : List ℕ). start ++ l) (append_assoc text rest later)),
    )

-- ---- by how many blocks stand

-- without extras among them all pieces are blocks
all_blocks : (ripe : List Rec → Bool) (c : Cuts) (rs : List Rec) → length (blocks_in c.pieces) ≡ length c.pieces → Each (λ r. is_inner r ≡ true) rs → length (blocks_in (fold (put_by ripe) c rs).pieces) ≡ length (fold (put_by ripe) c rs).pieces
all_blocks ripe c [] same each = same
all_blocks ripe c (r ∷ rs) same each = all_blocks ripe (put_by ripe c r) rs (by (is_inner r) (each zero r refl)) (λ n x at. each (suc n) x at)
  where
    more : (records : List Rec) → length (blocks_in (c.pieces ++ block records ∷ [])) ≡ length (c.pieces ++ block records ∷ [])
    more records =
        let split = ap (λ (l : List (List Rec)). length l) (flat_map-append block_in c.pieces (block records ∷ [])) in
        omega (arith, split, same, length-append (blocks_in c.pieces) (records ∷ []), length-append c.pieces (block records ∷ []))

    ripe_or_not : (b : Bool) → let records = c.waiting ++ r ∷ [] in let next : Cuts = if b then record { pieces = c.pieces ++ block records ∷ []; waiting = [] } else record { pieces = c.pieces; waiting = records } in length (blocks_in next.pieces) ≡ length next.pieces
    ripe_or_not true = more (c.waiting ++ r ∷ [])
    ripe_or_not false = same

    by : (b : Bool) → b ≡ true → length (blocks_in (if b then cut_behind ripe c r else alone_behind c r).pieces) ≡ length (if b then cut_behind ripe c r else alone_behind c r).pieces
    by true is = ripe_or_not (ripe (c.waiting ++ r ∷ []))
    by false is = absurd (cc)

blocks_few : (ps : List Piece) → length (blocks_in ps) ≤ length ps
blocks_few [] = omega arith
blocks_few (block records ∷ ps) = omega (arith, blocks_few ps)
blocks_few (alone r ∷ ps) = omega (arith, blocks_few ps)

-- so many first pieces, and more
first_pieces : (ps rest : List Piece) (tail : List (List ℕ)) (k : ℕ) → length ps ≤ k → (more : List ℕ) × (joined (take k (map piece_bytes (ps ++ rest) ++ tail)) ≡ pieces_bytes ps ++ more)
first_pieces [] rest tail k few = (joined (take k (map piece_bytes rest ++ tail)), refl)
first_pieces (p ∷ ps) rest tail zero few = absurd (omega (arith, few))
first_pieces (p ∷ ps) rest tail (suc k) few =
    let (more, is) = first_pieces ps rest tail k (omega (arith, few)) in
    (more, ap (λ (l : List ℕ). piece_bytes p ++ l) is ∙ sym (append_assoc (piece_bytes p) (pieces_bytes ps) more))

pieces_there : (start : List ℕ) (ps rest : List Piece) (tail : List (List ℕ)) (place : ℕ) → 1 ≤ place → length ps ≤ place - 1 → (more : List ℕ) × (pieces_before (start ∷ (map piece_bytes (ps ++ rest) ++ tail)) place ≡ (start ++ pieces_bytes ps) ++ more)
pieces_there start ps rest tail zero some few = absurd (omega (arith, some))
pieces_there start ps rest tail (suc k) some few =
    let (more, is) = first_pieces ps rest tail k (omega (arith, few)) in
    (more, ap (λ (l : List ℕ). start ++ l) is ∙ sym (append_assoc start (pieces_bytes ps) more))

front_some : (profile : List ℕ) → 1 ≤ length (front profile)
unfolding front
front_some profile = omega (arith, length-append magic (framed header_opcode (header_text (record { profile = profile; library = library }))))

-- the first piece stands where as many bytes do
begun_place : (start : List ℕ) (others : List (List ℕ)) (place bytes : ℕ) → 1 ≤ length start → length start ≤ bytes → bytes ≡ length (pieces_before (start ∷ others) place) → 1 ≤ place
begun_place start others zero bytes some few are = absurd (omega (arith, some, few, are))
begun_place start others (suc k) bytes some few are = omega arith

pub by_blocks : (options : FileOptions) (extras : List Top) (history : List Rec) (opened now : Option (List ℕ)) (stop : Stop) (numbers : Written) → IsSome options.chunk → Each (λ r. is_inner r ≡ true) history → StopsAt options extras history opened now stop numbers
    → length (blocks_in (cuts options.chunk options.span history).pieces) ≤ numbers.blocks → length (front options.profile) ≤ numbers.bytes → AddsAtLeast opened now (written_of options history)
by_blocks options extras history opened now stop numbers some inner stops many begun start told =
    let ps = (cuts options.chunk options.span history).pieces in
    let rest = last_piece (cuts options.chunk options.span history).waiting in
    let head = front options.profile in
    let tail = map top_bytes extras ++ back_of options extras history ∷ [] in
    let among = take (stops.place - 1) (ps ++ rest) in
    let are = stops.blocks_are in
    let there = stops.bytes_are in
    let placed = begun_place head (map piece_bytes (ps ++ rest) ++ tail) stops.place numbers.bytes (front_some options.profile) begun there in
    let far : length ps ≤ stops.place - 1 = omega (arith, blocks options.chunk some, many, are, blocks_few among, length-take (stops.place - 1) (ps ++ rest)) in
    let (more, is) = pieces_there head ps rest tail stops.place placed far in
    let (text, held, stopped) = stops.took start told in
    let behind = take stopped.some stopped.next in (
      more ++ behind,
      held ∙ ap (λ (l : List ℕ). Some (start ++ l)) (stopped.split ∙ ap (λ (l : List ℕ). l ++ behind) is ∙ append_assoc (head ++ pieces_bytes ps) more behind),
    )
  where
    blocks : (chunk : Option ℕ) → IsSome chunk → length (blocks_in (cuts chunk options.span history).pieces) ≡ length (cuts chunk options.span history).pieces
    blocks None none = absurd (false≢true none)
    blocks (Some size) one = all_blocks (is_ripe size options.span) no_cuts history refl inner

-- ---- what is said of a writer that stopped

-- what is ripe of the first records begins the text
ripe_begins : (m : Making) (profile : List ℕ) (tops others : List Top) (history : List Rec) (opened now : Option (List ℕ)) → Repairs tops profile others history → AddsAtLeast opened now (written_of (recovered_options profile m.chunk) (m.written history))
    → (start : List ℕ) → opened ≡ Some start → (text : List ℕ) × (now ≡ Some (start ++ text)) × BeginsRipe m tops text
ripe_begins m profile tops others history opened now repairs adds start told =
    let ripe = written_of (recovered_options profile m.chunk) (m.written history) in
    let (more, held) = adds start told in
    (ripe ++ more, held, inr (ripe, record { profile = profile; extras = others; history = history; repairs = repairs; are = refl }, (more, refl)))

-- it stopped at what the last record shows or holds
pub cut_stopped : {L : Type 0} (seen : L → LiveState) (m : Making) (over : List Top → Type 0) (stands : List Top → List Rec → Type 0) (profile : List ℕ) (before now : SourceState) (opened : LiveState) (k : Keeping L) (stop : Stop) (numbers : Written)
    → (it : ReadStopped stands (λ first. HasWritten seen (recovered_options profile m.chunk) opened k (m.written first)) profile before now)
    → StopsAt (recovered_options profile m.chunk) it.extras (m.written it.history) opened.held (seen k.scribe.store).held stop numbers → CutShort m (ReadFromFront before now) over opened.held (seen k.scribe.store).held stop numbers
cut_stopped seen m over stands profile before now opened k stop numbers it stops = record {
  tops = it.tops;
  good = it.good;
  earlier = it.earlier;
  stopped = inl (it.last, it.are, it.read);
  profile = profile;
  extras = it.extras;
  history = it.history;
  repairs = it.repairs;
  stops = stops;
  ripe = λ start told. elim it.ripe [
    | inl none ↦ let (text, held, stopped) = stops.took start told in (text, held, inl none)
    | inr (others, first, repairs, wrote) ↦ ripe_begins m profile it.earlier others first opened.held (seen k.scribe.store).held repairs wrote start told
  ];
}

-- it stopped after the reading was over
pub cut_over : (m : Making) (read over : List Top → Type 0) (tops extras : List Top) (profile : List ℕ) (history : List Rec) (opened now : Option (List ℕ)) (stop : Stop) (numbers : Written) → Good reading_limits tops → over tops → Repairs tops profile extras history
    → StopsAt (recovered_options profile m.chunk) extras (m.written history) opened now stop numbers → AddsAtLeast opened now (written_of (recovered_options profile m.chunk) (m.written history)) → CutShort m read over opened now stop numbers
cut_over m read over tops extras profile history opened now stop numbers good is_over repairs stops adds = record {
  tops = tops;
  good = good;
  earlier = tops;
  stopped = inr (refl, is_over);
  profile = profile;
  extras = extras;
  history = history;
  repairs = repairs;
  stops = stops;
  ripe = ripe_begins m profile tops extras history opened now repairs adds;
}

-- it stopped at the front
pub cut_begun : (m : Making) (over : List Top → Type 0) (profile : List ℕ) (before now : SourceState) (opened stored : LiveState) (stop : Stop) (numbers : Written) → FirstShows over before now profile
    → StopsAt (recovered_options profile m.chunk) [] (m.written []) opened.held stored.held stop numbers → CutShort m (ReadFromFront before now) over opened.held stored.held stop numbers
cut_begun m over profile before now opened stored stop numbers shows stops = record {
  tops = shows.first;
  good = shows.good;
  earlier = [];
  stopped = shows.stopped;
  profile = profile;
  extras = [];
  history = [];
  repairs = shows.repairs;
  stops = stops;
  ripe = λ start told. let (text, held, stopped) = stops.took start told in (text, held, inl refl);
}

-- the bytes begin with the first records
pub first_begins : (over : List Top → Type 0) (before now : SourceState) (profile : List ℕ) (it : FirstShows over before now profile) → (bytes : List ℕ) → before.left ≡ Some bytes → Begins bytes it.first
first_begins over before now profile it bytes told = elim it.stopped [
  | inl (t, are, read) ↦ let (rest, left, there) = read bytes told in inr (rest, there)
  | inr (none, last) ↦ inl (sym none)
]

-- ---- where the source tells its bytes, and the store held nothing

pub unbegun_told : (why : ReadingRefused) (before now : SourceState) (tops : List Top) (bytes : List ℕ) → before.left ≡ Some bytes → IsUnbegun why (ReadFromFront before now) tops → IsUnbegun why (LeftAfter bytes now.left) tops
unbegun_told why before now tops bytes told (inl none) = inl none
unbegun_told why before now tops bytes told (inr (is, first)) = inr (
  is,
  record {
    header = first.header;
    alone = first.alone;
    just_read = first.just_read bytes told;
    profile = first.profile;
    profile_is = first.profile_is;
    named = first.named;
  },
)

cut_left : (m : Making) (over ended : List Top → Type 0) (before now : SourceState) (opened held : Option (List ℕ)) (stop : Stop) (numbers : Written) (bytes : List ℕ) → before.left ≡ Some bytes → ((tops : List Top) → over tops → ended tops)
    → CutShort m (ReadFromFront before now) over opened held stop numbers → CutShort m (LeftAfter bytes now.left) ended opened held stop numbers
cut_left m over ended before now opened held stop numbers bytes told ends it = record {
  tops = it.tops;
  good = it.good;
  earlier = it.earlier;
  stopped = elim it.stopped [ inl (t, are, read) ↦ inl (t, are, read bytes told) | inr (all, last) ↦ inr (all, ends it.tops last) ];
  profile = it.profile;
  extras = it.extras;
  history = it.history;
  repairs = it.repairs;
  stops = it.stops;
  ripe = it.ripe;
}

pub cut_told : (m : Making) (over ended : List Top → Type 0) (before now : SourceState) (opened held : Option (List ℕ)) (stop : Stop) (numbers : Written) (bytes text : List ℕ) → before.left ≡ Some bytes → opened ≡ Some [] → held ≡ Some text
    → ((tops : List Top) → over tops → ended tops) → CutShort m (ReadFromFront before now) over opened held stop numbers → CutShort m (LeftAfter bytes now.left) ended (Some []) (Some text) stop numbers
cut_told m over ended before now opened held stop numbers bytes text told none holds ends it =
    subst (λ (o : Option (List ℕ)). CutShort m (LeftAfter bytes now.left) ended o (Some text) stop numbers) none
    (subst (λ (o : Option (List ℕ)). CutShort m (LeftAfter bytes now.left) ended opened o stop numbers) holds (cut_left m over ended before now opened held stop numbers bytes told ends it))
