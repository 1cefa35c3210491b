-- The turns of stores that tell, and the messages of their inputs.
use Rattle.std.proofs.Common.{◌≡◌, ◌⊎◌, ℕ, zero, suc, ◌+◌, ◌<◌, ◌≤◌, List, [], ◌∷◌, ◌++◌, length, take, drop, map, Some, refl, sym, ap, subst, inl, inr, ◌∙◌, arith}
use Rattle.std.specs.Prelude.{IsPermutation}
use Rattle.std.specs.List.{AllZip}
use Rattle.std.proofs.lemmas.List.Sorted.{Contains-permutation, IsPermutation-sym}
use Rattle.mcap_io.specs.Stores.{StoreState}
use Rattle.mcap_model.specs.Places.{At, Has}
use Rattle.mcap_model.specs.Tops.{Top, Tops, Begins, spelled, offset_behind, unchunked, records_in}
use Rattle.mcap_model.specs.Fields.{IsMessage}
use Rattle.mcap_model.specs.Kept.{reading_limits, Fits, Good}
use Rattle.mcap_model.specs.Merged.{Sent, IsFrom, MergesBefore}
use Rattle.mcap_model.proofs.Places.{at_none, at_one, each_at, has_kept}
use Rattle.mcap_model.proofs.Members.{has_either, has_second}
use Rattle.mcap_model.proofs.NamedTopics.{contained, has_there, unmapped, zip_front, zip_back}
use Rattle.mcap_model.proofs.Flat.{at_mapped}
use Rattle.merge_walk.specs.declared.spans.Span.{Span}
use Rattle.merge_walk.specs.Times.{times_of}
use Rattle.merge_walk.specs.Surveys.{TimesSpan}
use Rattle.merge_walk.specs.Spans.{spans_one, spans_from, spans_of}
use Rattle.merge_walk.specs.declared.turns.Turn.{Turn}
use Rattle.mcap_scan.specs.declared.message_heads.MessageHead.{MessageHead}
use Rattle.merge_walk.specs.declared.pieces.Piece.{Piece}
use Rattle.mcap_scan.specs.Heads.{heads_in}
use Rattle.merge_walk.specs.SpanHeads.{heads_from}
use Rattle.merge_walk.specs.Heads.{FitsSpan}
use Rattle.merge_walk.proofs.Unchanged.{surveyed_fit}
use Rattle.merge_walk.specs.Pieces.{pieces_with}
use Rattle.merge_walk.specs.Cursors.{turn_of, TurnBefore}
use Rattle.merge_walk.specs.Stores.{files_of}
use Rattle.merge_walk.specs.Walks.{Text, turns_in, IsTextOf, IsMessageAt, ReachesEnd}
use Rattle.merge_walk.proofs.ListedSpans.{times_listed}
use Rattle.merge_walk.specs.WalkLaws.{IsPieceTold}
use Rattle.mcap_merge.specs.declared.input.Input.{Input}
use Rattle.mcap_merge.specs.Inputs.{HoldsInput, HoldInputs}
use Rattle.mcap_merge.specs.ReadInputs.{Read, read_tops}
use Rattle.mcap_merge.specs.Reading.{IsReadOf}
use Rattle.mcap_merge.specs.Pieces.{pieces_from}
use Rattle.mcap_merge.specs.Filed.{AllTell}
use Rattle.mcap_merge.proofs.Laid.{laid, lies}
use Rattle.mcap_merge.proofs.Sound.{time_shown}
use Rattle.mcap_merge.proofs.Sources.{sent, from_read, are_scanned, message_from}
use Rattle.mcap_merge.proofs.ToldSpans.{IsGoodTop, SpanIs, span_is, span_told, SpanBefore, spans_decided}
use Rattle.mcap_merge.proofs.ToldMessages.{SpanMessage, span_message, SpanHas, message_span}

-- The stores were read; these are the pieces of what was read, in some order.
pub record Listed (stores : List StoreState) (reads : List Read) (inputs : List Input) (pieces : List Piece) : Type 0 where
  pub are : AllZip IsReadOf stores reads
  pub hold : HoldInputs reads inputs
  pub same : IsPermutation (pieces_from 0 inputs) pieces

-- and they tell
pub record Told (stores : List StoreState) (reads : List Read) (inputs : List Input) (pieces : List Piece) : Type 0 where
  pub tell : AllTell stores
  pub listed : Listed stores reads inputs pieces

-- the store of that number tells its bytes
abbrev pub TellsAt : List StoreState → ℕ → Type 0
TellsAt stores number = (s : StoreState) → At stores number s → (bytes : List ℕ) × (s.bytes ≡ Some bytes)

-- ---- a message and its turn

-- the turn is that of the message
pub record TurnIs (reads : List Read) (t : Turn) (m : Sent) : Type 0 where
  pub input : t.input ≡ m.input
  pub time : t.log_time ≡ m.seen.message.log_time
  pub top : t.offset ≡ m.seen.place.top
  pub inner : t.inner ≡ m.seen.place.inner
  pub read : Read
  pub at : At reads t.input read
  pub good : Good reading_limits read.tops
  pub span : Span
  pub has : Has (spans_of read.tops) span
  pub offset_is : span.offset ≡ t.offset
  pub at_is : span.at ≡ t.at

-- spans stand at offsets that rise as their places do
offsets_rise : (s r : Span) → (s ≡ r) ⊎ (SpanBefore s r ⊎ SpanBefore r s) → s.at < r.at → s.offset < r.offset
offsets_rise s r (inl same) less = let at = ap (λ (x : Span). x.at) same in omega (arith, at, less)
offsets_rise s r (inr (inl first)) less = first.0
offsets_rise s r (inr (inr last)) less = let at = last.1 in omega (arith, at, less)

one_offset : (s r : Span) → (s ≡ r) ⊎ (SpanBefore s r ⊎ SpanBefore r s) → s.at ≡ r.at → s.offset ≡ r.offset
one_offset s r (inl same) at = ap (λ (x : Span). x.offset) same
one_offset s r (inr (inl first)) at = let less = first.1 in omega (arith, at, less)
one_offset s r (inr (inr last)) at = let less = last.1 in omega (arith, at, less)

module _ (reads : List Read) (t u : Turn) (m n : Sent) (one : TurnIs reads t m) (other : TurnIs reads u n) where
  decided : t.input ≡ u.input → (one.span ≡ other.span) ⊎ (SpanBefore one.span other.span ⊎ SpanBefore other.span one.span)
  decided input =
      let same : other.read ≡ one.read = at_one reads u.input other.read one.read other.at (subst (λ (k : ℕ). At reads k one.read) input one.at) in
      let has : Has (spans_of one.read.tops) other.span = subst (λ (r : Read). Has (spans_of r.tops) other.span) same other.has in
      spans_decided one.read.tops one.span other.span one.good one.has has

  -- turns rise as their messages do
  pub before_merges : TurnBefore t u → MergesBefore m n
  before_merges (inl less) = inl (omega (arith, less, one.time, other.time))
  before_merges (inr (time, inl less)) = inr (omega (arith, time, one.time, other.time), inl (omega (arith, less, one.input, other.input)))
  before_merges (inr (time, inr (input, inl less))) =
      let rise = offsets_rise one.span other.span (decided input) (omega (arith, less, one.at_is, other.at_is)) in
      inr (omega (arith, time, one.time, other.time), inr (omega (arith, input, one.input, other.input), inl (omega (arith, rise, one.offset_is, other.offset_is, one.top, other.top))))
  before_merges (inr (time, inr (input, inr (at, less)))) =
      let same = one_offset one.span other.span (decided input) (omega (arith, at, one.at_is, other.at_is)) in
      inr (omega (arith, time, one.time, other.time), inr (omega (arith, input, one.input, other.input), inr (omega (arith, same, one.offset_is, other.offset_is, one.top, other.top), omega (arith, less, one.inner, other.inner))))

-- ---- pieces

-- a piece is of one of the inputs
pub record IsPieceOf (number : ℕ) (inputs : List Input) (p : Piece) : Type 0 where
  pub place : ℕ
  pub input : Input
  pub at : At inputs place input
  pub is : p.input ≡ number + place
  pub has : Has input.spans.items p.span

abbrev pub piece_at : ℕ → Span → Piece
piece_at number s = record { input = number; span = s }

pub piece_of : (number : ℕ) (inputs : List Input) (p : Piece) → Has (pieces_from number inputs) p → IsPieceOf number inputs p
piece_of number [] p has = absurd (at_none has.0 p has.1)
piece_of number (i ∷ is) p has = elim (has_either (pieces_with number i.spans.items) (pieces_from (suc number) is) p has) [
  | inl here ↦
      let (s, at, same) = unmapped (piece_at number) i.spans.items here.0 p here.1 in
      record {
        place = 0;
        input = i;
        at = refl;
        is = (let input : number ≡ p.input = ap (λ (q : Piece). q.input) same in omega (arith, input));
        has = (here.0, subst (At i.spans.items here.0) (ap (λ (q : Piece). q.span) same) at);
      }
  | inr later ↦
      let found = piece_of (suc number) is p later in
      record { place = suc found.place; input = found.input; at = found.at; is = omega (arith, found.is); has = found.has }
]

piece_there : (number : ℕ) (inputs : List Input) (place : ℕ) (i : Input) (s : Span) → At inputs place i → Has i.spans.items s → Has (pieces_from number inputs) (piece_at (number + place) s)
piece_there number [] place i s at has = absurd (at_none place i at)
piece_there number (x ∷ is) zero i s at has =
    let same : x ≡ i = at_one (x ∷ is) zero x i refl at in
    let there : Has x.spans.items s = subst (λ (y : Input). Has y.spans.items s) (sym same) has in
    let here : Has (pieces_with number x.spans.items) (piece_at number s) = (there.0, at_mapped (piece_at number) x.spans.items there.0 s there.1) in
    let is_there : number ≡ number + 0 = omega arith in
    subst (λ (n : ℕ). Has (pieces_from number (x ∷ is)) (piece_at n s)) is_there (has_kept (pieces_with number x.spans.items) (pieces_from (suc number) is) (piece_at number s) here)
piece_there number (x ∷ is) (suc place) i s at has =
    let is_there : suc number + place ≡ number + suc place = omega arith in
    subst (λ (n : ℕ). Has (pieces_from number (x ∷ is)) (piece_at n s)) is_there
    (has_second (pieces_with number x.spans.items) (pieces_from (suc number) is) (piece_at (suc number + place) s) (piece_there (suc number) is place i s at has))

pub moved : {X : Type 0} (xs ys : List X) (x : X) → IsPermutation xs ys → Has xs x → Has ys x
moved xs ys x same has = has_there ys x (Contains-permutation xs ys x same (contained xs x has))

-- bytes that begin with records which have a span begin with the magic
begins_with : (file : List ℕ) (tops : List Top) (s : Span) → Begins file tops → Has (spans_of tops) s → (rest : List ℕ) × Tops file tops rest
begins_with file tops s (inl none) has = absurd (at_none has.0 s (subst (λ (l : List Top). At (spans_of l) has.0 s) none has.1))
begins_with file tops s (inr some) has = some

-- the bytes of a span in the file are those of one of its records
pub record SpanKnown (file : List ℕ) (front : List Top) (t : Top) (s : Span) : Type 0 where
  pub is : SpanIs (offset_behind front) t s
  pub records : records_in (take s.length (drop s.at file)) ≡ unchunked t
  pub fits : FitsSpan s (take s.length (drop s.at file))

good_at : (tops front : List Top) (t : Top) (back : List Top) → Good reading_limits tops → tops ≡ front ++ t ∷ back → IsGoodTop t
good_at tops front t back good split = (front, each_at (Fits reading_limits) front t back (subst (Good reading_limits) split good))

span_known : (file : List ℕ) (tops front : List Top) (t : Top) (back : List Top) (s : Span) → Begins file tops → Good reading_limits tops → Has (spans_of tops) s → tops ≡ front ++ t ∷ back → Has (spans_one (offset_behind front) t) s → SpanKnown file front t s
span_known file tops front t back s begins good has split one =
    let (rest, stands) = begins_with file tops s begins has in
    let whole = subst (λ (l : List Top). Tops file l rest) split stands in
    let is = span_is (offset_behind front) t s (good_at tops front t back good split) one in
    let records = span_told file front t back rest s whole.split is in
    record {
      is = is;
      records = records;
      fits = surveyed_fit s (take s.length (drop s.at file)) (subst (λ (l : List Top). TimesSpan (times_of l) s.least s.greatest s.in_order) (sym records) is.times) (is.messages ∙ sym (ap (λ (l : List Top). length (times_of l)) records));
    }

module _ (stores : List StoreState) (reads : List Read) (inputs : List Input) (pieces : List Piece) (listed : Listed stores reads inputs pieces) where
  -- ---- what an input tells

  pub record InputTold (number : ℕ) (r : Read) : Type 0 where
    pub file : List ℕ
    pub at_file : At (files_of stores) number (Some file)
    pub begins : Begins file r.tops
    pub input : Input
    pub at : At inputs number input
    pub holds : HoldsInput r input

  input_told : (number : ℕ) (r : Read) → TellsAt stores number → At reads number r → InputTold number r
  input_told number r tell at =
      let (s, at_s, is) = zip_back IsReadOf stores reads number r listed.are at in
      let (file, same) = tell s at_s in
      let (end, halts) = is file same in
      let (input, here, holds) = zip_front HoldsInput reads inputs number r listed.hold at in
      record {
        file = file;
        at_file = subst (At (files_of stores) number) same (at_mapped (λ (x : StoreState). x.bytes) stores number s at_s);
        begins = halts.kept.stands;
        input = input;
        at = here;
        holds = holds;
      }

  -- ---- what a piece is

  -- its bytes are those of one of the records that were read
  pub record PieceIs (p : Piece) : Type 0 where
    pub read : Read
    pub at : At reads p.input read
    pub input : InputTold p.input read
    pub has : Has (spans_of read.tops) p.span
    pub front : List Top
    pub top : Top
    pub back : List Top
    pub split : read.tops ≡ front ++ top ∷ back
    pub known : SpanKnown input.file front top p.span

  piece_by : (p : Piece) (r : Read) → At reads p.input r → InputTold p.input r → Has (spans_of r.tops) p.span → PieceIs p
  piece_by p r at input has =
      let f = laid spans_one spans_from (λ n. refl) (λ n t ts. refl) 8 r.tops p.span has in
      record {
        read = r;
        at = at;
        input = input;
        has = has;
        front = f.front;
        top = f.top;
        back = f.back;
        split = f.split;
        known = span_known input.file r.tops f.front f.top f.back p.span input.begins input.holds.good has f.split f.has;
      }

  pub piece_is : (p : Piece) → TellsAt stores p.input → Has pieces p → PieceIs p
  piece_is p tell has =
      let of = piece_of 0 inputs p (moved pieces (pieces_from 0 inputs) p (IsPermutation-sym (pieces_from 0 inputs) pieces listed.same) has) in
      let place : of.place ≡ p.input = omega (arith, of.is) in
      let (r, at, holds) = zip_back HoldsInput reads inputs of.place of.input listed.hold of.at in
      let there : At reads p.input r = subst (λ (n : ℕ). At reads n r) place at in
      let spans : Has (spans_of r.tops) p.span = (of.has.0, subst (λ (l : List Span). At l of.has.0 p.span) holds.spans_are of.has.1) in
      piece_by p r there (input_told p.input r tell there) spans

  -- the bytes that the input tells for it can be those of its span
  pub piece_told : (p : Piece) → TellsAt stores p.input → Has pieces p → IsPieceTold (files_of stores) p
  piece_told p tell has = let is = piece_is p tell has in (is.input.file, is.input.at_file, is.known.fits)

  -- whatever bytes stand there for it, one of their messages was logged at its greatest time
  pub piece_ends : (p : Piece) → TellsAt stores p.input → Has pieces p → ReachesEnd (files_of stores) p
  piece_ends p tell has bytes are =
      let is = piece_is p tell has in
      let told_is = are.told_is in
      let records : records_in bytes ≡ unchunked is.top = ap records_in (told_is is.input.file is.input.at_file) ∙ is.known.records in
      let there = is.known.is.times.greatest_there in
      (there.0, subst (λ (l : List ℕ). At l there.0 p.span.greatest) (sym (times_listed 0 (records_in bytes) ∙ ap times_of records)) there.1)

  -- ---- the message of a turn

  pub record RecordIs (t : Turn) (r : Top) : Type 0 where
    pub message : Sent
    pub is : TurnIs reads t message
    pub from : IsFrom (read_tops reads) message
    pub shows : IsMessage r message.seen.channel message.seen.message

  record_by : (p : Piece) (x : Text) (t : Turn) (r : Top) (is : PieceIs p) (e : MessageHead) → IsTextOf (files_of stores) p x → turn_of x.piece e ≡ t → (there : IsMessageAt x t r) → SpanMessage is.read.messages (offset_behind is.front) (length (spelled there.front)) r → RecordIs t r
  record_by p x t r is e text same there found =
      let input : p.input ≡ t.input = sym (ap (λ (q : Piece). q.input) text.piece) ∙ ap (λ (u : Turn). u.input) same in
      let offset : p.span.offset ≡ t.offset = sym (ap (λ (q : Piece). q.span.offset) text.piece) ∙ ap (λ (u : Turn). u.offset) same in
      let at : p.span.at ≡ t.at = sym (ap (λ (q : Piece). q.span.at) text.piece) ∙ ap (λ (u : Turn). u.at) same in
      let holds = is.input.holds in
      let here : At reads t.input is.read = subst (λ (n : ℕ). At reads n is.read) input is.at in
      record {
        message = sent t.input found.seen;
        is = record {
          input = refl;
          time = there.time ∙ time_shown r.content found.seen.channel found.seen.message found.is.layout;
          top = sym offset ∙ is.known.is.offset_is ∙ sym found.top;
          inner = there.place ∙ sym found.inside;
          read = is.read;
          at = here;
          good = holds.good;
          span = p.span;
          has = is.has;
          offset_is = offset;
          at_is = at;
        };
        from = message_from reads t.input is.read found.seen here holds.scan found.has;
        shows = found.is;
      }

  pub record_is : (p : Piece) (x : Text) (t : Turn) (r : Top) → TellsAt stores p.input → Has pieces p → IsTextOf (files_of stores) p x → Has (turns_in x) t → IsMessageAt x t r → RecordIs t r
  record_is p x t r tell has text turn there =
      let is = piece_is p tell has in
      let told_is = text.bytes.told_is in
      let (e, at_e, same) = unmapped (turn_of x.piece) (heads_in x.bytes) turn.0 t turn.1 in
      let inside : unchunked is.top ≡ there.front ++ r ∷ there.back = sym is.known.records ∙ sym (ap records_in (told_is is.input.file is.input.at_file)) ∙ there.stands in
      record_by p x t r is e text same there (span_message is.read.tops is.front is.top is.back is.read.messages there.front r there.back is.split is.input.holds.scan inside there.kind)

  -- ---- the turn of a message

  -- whatever text its piece has, its turn is one of that
  pub record MessageTold (m : Sent) : Type 0 where
    pub piece : Piece
    pub has : Has pieces piece
    pub turn : Turn
    pub is : TurnIs reads turn m
    pub least : piece.span.least ≤ turn.log_time
    pub of_input : turn.input ≡ piece.input
    pub begins : turn.at ≡ piece.span.at
    pub given : (x : Text) → IsTextOf (files_of stores) piece x → Has (turns_in x) turn

  message_by : (m : Sent) (r : Read) (front : List Top) (t : Top) → At reads m.input r → (input : InputTold m.input r) (has : SpanHas (offset_behind front) t m.seen) → Has (spans_of r.tops) has.span → SpanKnown input.file front t has.span → MessageTold m
  message_by m r front t at input has spans known =
      let s = has.span in
      let holds = input.holds in
      let held : Has input.input.spans.items s = (spans.0, subst (λ (l : List Span). At l spans.0 s) (sym holds.spans_are) spans.1) in
      let p = piece_at m.input s in
      let place : 0 + m.input ≡ m.input = omega arith in
      let among : Has (pieces_from 0 inputs) p = subst (λ (n : ℕ). Has (pieces_from 0 inputs) (piece_at n s)) place (piece_there 0 inputs m.input input.input s input.at held) in
      let e : MessageHead = record { channel = m.seen.channel; time = m.seen.message.log_time; offset = m.seen.place.inner } in
      let heads : Has (heads_in (take s.length (drop s.at input.file))) e = subst (λ (l : List Top). Has (heads_from 0 l) e) (sym known.records) has.head in
      let within = known.fits.within in
      record {
        piece = p;
        has = moved (pieces_from 0 inputs) pieces p listed.same among;
        turn = turn_of p e;
        is = record {
          input = refl;
          time = refl;
          top = known.is.offset_is ∙ sym has.offset_is;
          inner = refl;
          read = r;
          at = at;
          good = holds.good;
          span = s;
          has = spans;
          offset_is = refl;
          at_is = refl;
        };
        least = (within heads.0 e heads.1).0;
        of_input = refl;
        begins = refl;
        given = λ x text.
            let told_is = text.bytes.told_is in
            let mine : Has (heads_in x.bytes) e = subst (λ (l : List ℕ). Has (heads_in l) e) (sym (told_is input.file input.at_file)) heads in
            subst (λ (q : Piece). Has (map (turn_of q) (heads_in x.bytes)) (turn_of p e)) (sym text.piece) (mine.0, at_mapped (turn_of p) (heads_in x.bytes) mine.0 e mine.1);
      }

  message_in : (m : Sent) (r : Read) (front : List Top) (t : Top) (back : List Top) → At reads m.input r → InputTold m.input r → r.tops ≡ front ++ t ∷ back → SpanHas (offset_behind front) t m.seen → MessageTold m
  message_in m r front t back at input split has =
      let there = lies spans_one spans_from (λ n. refl) (λ n u us. refl) 8 front t back has.span has.has in
      let spans : Has (spans_of r.tops) has.span = subst (λ (l : List Top). Has (spans_of l) has.span) (sym split) there in
      message_by m r front t at input has spans (span_known input.file r.tops front t back has.span input.begins input.holds.good spans split has.has)

  pub message_told : (m : Sent) → TellsAt stores m.input → IsFrom (read_tops reads) m → MessageTold m
  message_told m tell from =
      let found = from_read reads m (are_scanned reads inputs listed.hold) from in
      let r = found.read in
      let input = input_told m.input r tell found.at in
      let of = message_span r.tops r.messages m.seen input.holds.scan found.has in
      message_in m r of.front of.top of.back found.at input of.split of.span_has
