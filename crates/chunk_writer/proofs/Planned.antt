-- A plan is carried on and ended.
use Rattle.std.proofs.Common.{◌≡◌, false, ℕ, ◌+◌, List, [], ◌∷◌, ◌++◌, length, Option, Some, None, Err, refl, sym, ap, subst, ◌∙◌, append-nil, arith}
use Rattle.std.proofs.lemmas.List.{length-append}
use Rattle.mcap_wire.proofs.Numbers.{length-le}
use Rattle.mcap_wire.proofs.Framing.{length-string, length-framed}
use Rattle.mcap_wire.specs.Layout.{le, string, framed, magic}
use Rattle.rec_data.specs.declared.owned.Rec.{Rec}
use Rattle.rec_data.specs.Owned.{rec_bytes}
use Rattle.rec_data.specs.Records.{header_text, data_end_text}
use Rattle.rec_data.proofs.Contents.{length-header_text}
use Rattle.mcap_model.specs.declared.block.Block.{Block}
use Rattle.mcap_model.specs.declared.options.FileOptions.{FileOptions}
use Rattle.mcap_model.specs.declared.ends.Stop.{Stop}
use Rattle.mcap_model.specs.declared.ends.Stop.TheVariants as stops
use Rattle.mcap_model.specs.Built.{IsBlock}
use Rattle.mcap_model.specs.History.{is_inner}
use Rattle.mcap_model.specs.Blocks.{Piece, block, alone, Cuts, cuts, last_piece, pieces_of, piece_bytes, pieces_bytes, blocks_in}
use Rattle.mcap_model.specs.File.{library, front, data_end}
use Rattle.chunk_build.specs.Chunker as chunker
use Rattle.chunk_writer.specs.declared.body.Body.{Body}
use Rattle.chunk_writer.specs.declared.phase.Phase.{Phase}
use Rattle.chunk_writer.specs.declared.next.Next.TheVariants as nexts
use Rattle.mcap_model.specs.Places.{Each}
use Rattle.chunk_writer.specs.Limits.{Holds, HeaderFits, ChunkFits, ContentsFit}
use Rattle.chunk_writer.specs.LimitSteps.{LimitKept, HoldsOrStops}
use Rattle.chunk_writer.specs.Bodies.{noted_of, IsBody, StandsSo, ClosesPiece, ClosesBlock, NextBlock, NextAside, LastBlock, BodyFor, SummaryFor}
use Rattle.chunk_writer.specs.Planning.{Planning}
use Rattle.chunk_writer.specs.Plans.{Plans, HoldsBlock, IsPlanned, PutStopped, IsLastBlock, LastStopped}
use Rattle.chunk_writer.proofs.Contents.{contents_same, contents_more, piece_of_block, no_chunks}
use Rattle.chunk_writer.proofs.Cuts.{cuts_more, closes_aside, bytes_behind, none_waits}
use Rattle.chunk_writer.proofs.Noting.{blocks_more}

-- ---- the body of a plan

pub body_new : (size span : Option ℕ) (at n : ℕ) (b : Body) → size ≡ Some n → ((k : ℕ) → IsBody n span k [] b) → BodyFor size span at [] (Some b)
body_new size span at n b is body = subst (λ (s : Option ℕ). BodyFor s span at [] (Some b)) (sym is) (body at)

pub plans_new : (options : FileOptions) (body : Option Body) (bytes : ℕ) (phase : Phase) → ((k : ℕ) → BodyFor options.chunk options.span k [] body) → bytes ≡ length (front options.profile)
    → HeaderFits options.profile → Plans options [] (record { body = body; blocks = 0; bytes = bytes; phase = phase })
plans_new options body bytes phase stands is fits = record {
  body = stands (length (front options.profile));
  blocks = refl;
  bytes = is ∙ ap (λ (l : List ℕ). length l) (sym (append-nil (front options.profile)));
  contents = record { header = fits; chunks = no_chunks };
}

-- a plan with a body has a chunk size
abbrev pub HasSize : FileOptions → List Rec → Body → ℕ → ℕ → Type 0
HasSize options history b blocks bytes = (size : ℕ) × (options.chunk ≡ Some size) × StandsSo size options.span (length (front options.profile)) history b blocks bytes

size_by : (chunk span : Option ℕ) (start : List ℕ) (history : List Rec) (b : Body) (blocks bytes : ℕ) → BodyFor chunk span (length start) history (Some b) → blocks ≡ length (blocks_in (cuts chunk span history).pieces)
    → bytes ≡ length (start ++ pieces_bytes (cuts chunk span history).pieces) → (size : ℕ) × (chunk ≡ Some size) × StandsSo size span (length start) history b blocks bytes
size_by None span start history b blocks bytes body many long = absurd body
size_by (Some size) span start history b blocks bytes body many long =
    (size, refl, record { body = body; blocks_are = many; bytes_are = long ∙ length-append start (pieces_bytes (cuts (Some size) span history).pieces) })

pub has_size : (options : FileOptions) (history : List Rec) (p : Planning) (b : Body) → p.body ≡ Some b → Plans options history p → HasSize options history b p.blocks p.bytes
has_size options history p b is plans =
    size_by options.chunk options.span (front options.profile) history b p.blocks p.bytes (subst (λ (x : Option Body). BodyFor options.chunk options.span (length (front options.profile)) history x) is plans.body) plans.blocks plans.bytes

none_by : (chunk span : Option ℕ) (at : ℕ) (history : List Rec) → BodyFor chunk span at history None → chunk ≡ None
none_by None span at history body = refl
none_by (Some size) span at history body = absurd body

pub has_none : (options : FileOptions) (history : List Rec) (p : Planning) → p.body ≡ None → Plans options history p → options.chunk ≡ None
has_none options history p is plans =
    none_by options.chunk options.span (length (front options.profile)) history (subst (λ (x : Option Body). BodyFor options.chunk options.span (length (front options.profile)) history x) is plans.body)

-- ---- a record more

-- with a body
body_after : (chunk span : Option ℕ) (at size : ℕ) (history : List Rec) (b : Body) → chunk ≡ Some size → IsBody size span at history b → BodyFor chunk span at history (Some b)
body_after chunk span at size history b is body = subst (λ (s : Option ℕ). BodyFor s span at history (Some b)) (sym is) body

-- the numbers stay where no piece is closed
pub plans_waits : (options : FileOptions) (history : List Rec) (r : Rec) (p : Planning) (b after : Body) (closed : Option Block) (phase : Phase) → closed ≡ None → p.body ≡ Some b → Plans options history p
    → ((size : ℕ) (span : Option ℕ) (at : ℕ) (h : List Rec) → StandsSo size span at h b p.blocks p.bytes → NextBlock size span at h r closed after)
    → IsPlanned options history r nexts.Waits (record { body = Some after; blocks = p.blocks; bytes = p.bytes; phase = phase })
plans_waits options history r p b after closed phase none is plans next =
    let (size, chunk, so) = has_size options history p b is plans in
    let nb : NextBlock size options.span (length (front options.profile)) history r None after =
    subst (λ (x : Option Block). NextBlock size options.span (length (front options.profile)) history r x after) none (next size options.span (length (front options.profile)) history so) in
    let same : (cuts options.chunk options.span (history ++ r ∷ [])).pieces ≡ (cuts options.chunk options.span history).pieces =
    subst (λ (s : Option ℕ). ClosesBlock s options.span history r None) (sym chunk) nb.closes in
    record {
      stands = record {
        body = body_after options.chunk options.span (length (front options.profile)) size (history ++ r ∷ []) after chunk nb.body;
        blocks = plans.blocks ∙ ap (λ (l : List Piece). length (blocks_in l)) (sym same);
        bytes = plans.bytes ∙ ap (λ (l : List Piece). length (front options.profile ++ pieces_bytes l)) (sym same);
        contents = contents_same options.profile _ _ (sym same) plans.contents;
      };
      next_is = same;
    }

-- the numbers and the contents with a piece more
contents_behind : (options : FileOptions) (history : List Rec) (r : Rec) (piece : Piece) → ClosesPiece options.chunk options.span history r piece → Each ChunkFits (blocks_in (piece ∷ [])) → ContentsFit options.profile (blocks_in (cuts options.chunk options.span history).pieces)
    → ContentsFit options.profile (blocks_in (cuts options.chunk options.span (history ++ r ∷ [])).pieces)
contents_behind options history r piece closes one fits = contents_same options.profile _ _ (sym closes) (contents_more options.profile (cuts options.chunk options.span history).pieces piece fits one)

more_blocks : (chunk span : Option ℕ) (history : List Rec) (r : Rec) (piece : Piece) (blocks : ℕ) → ClosesPiece chunk span history r piece → blocks ≡ length (blocks_in (cuts chunk span history).pieces)
    → blocks + length (blocks_in (piece ∷ [])) ≡ length (blocks_in (cuts chunk span (history ++ r ∷ [])).pieces)
more_blocks chunk span history r piece blocks closes is =
    ap (λ (n : ℕ). n + length (blocks_in (piece ∷ []))) is ∙ sym (blocks_more (cuts chunk span history).pieces piece) ∙ ap (λ (l : List Piece). length (blocks_in l)) (sym closes)

pub more_bytes : (start : List ℕ) (ps qs : List Piece) (piece : Piece) (bytes len : ℕ) → qs ≡ ps ++ piece ∷ [] → bytes ≡ length (start ++ pieces_bytes ps) → len ≡ length (piece_bytes piece)
    → bytes + len ≡ length (start ++ pieces_bytes qs)
more_bytes start ps qs piece bytes len closes is size =
    let all = ap (λ (l : List Piece). length (start ++ pieces_bytes l)) closes in
    let last = ap (λ (l : List ℕ). length (start ++ l)) (bytes_behind ps piece) in
    omega (arith, is, size, all, last, length-append start (pieces_bytes ps), length-append start (pieces_bytes ps ++ piece_bytes piece), length-append (pieces_bytes ps) (piece_bytes piece))

pub plans_block : (options : FileOptions) (history : List Rec) (r : Rec) (p : Planning) (b after : Body) (closed : Option Block) (blk : Block) (phase : Phase) (len : ℕ) → closed ≡ Some blk → p.body ≡ Some b → len ≡ length blk.bytes → HoldsBlock p.blocks p.bytes closed → Plans options history p
    → ((size : ℕ) (span : Option ℕ) (at : ℕ) (h : List Rec) → StandsSo size span at h b p.blocks p.bytes → NextBlock size span at h r closed after)
    → IsPlanned options history r (nexts.Block blk) (record { body = Some after; blocks = p.blocks + 1; bytes = p.bytes + len; phase = phase })
plans_block options history r p b after closed blk phase len some is size_is room plans next =
    let (size, chunk, so) = has_size options history p b is plans in
    let nb : NextBlock size options.span (length (front options.profile)) history r (Some blk) after =
    subst (λ (x : Option Block). NextBlock size options.span (length (front options.profile)) history r x after) some (next size options.span (length (front options.profile)) history so) in
    let (records, closes, built) : (records : List Rec) × ClosesPiece options.chunk options.span history r (block records) × IsBlock blk records =
    subst (λ (s : Option ℕ). ClosesBlock s options.span history r (Some blk)) (sym chunk) nb.closes in
    record {
      stands = record {
        body = body_after options.chunk options.span (length (front options.profile)) size (history ++ r ∷ []) after chunk nb.body;
        blocks = more_blocks options.chunk options.span history r (block records) p.blocks closes plans.blocks;
        bytes = more_bytes (front options.profile) (cuts options.chunk options.span history).pieces (cuts options.chunk options.span (history ++ r ∷ [])).pieces (block records) p.bytes len closes plans.bytes
            (size_is ∙ ap (λ (l : List ℕ). length l) built.spelled);
        contents = contents_behind options history r (block records) closes (piece_of_block p.blocks p.bytes blk records built (subst (λ (x : Option Block). HoldsBlock p.blocks p.bytes x) some room)).chunks plans.contents;
      };
      next_is = (records, closes, built);
    }

closes_alone : (span : Option ℕ) (history : List Rec) (r : Rec) → ClosesPiece None span history r (alone r)
closes_alone span history r = ap (λ (c : Cuts). c.pieces) (cuts_more None span history r)

pub closes_record : (options : FileOptions) (history : List Rec) (r : Rec) (p : Planning) → p.body ≡ None → Plans options history p → ClosesPiece options.chunk options.span history r (alone r)
closes_record options history r p is plans = subst (λ (s : Option ℕ). ClosesPiece s options.span history r (alone r)) (sym (has_none options history p is plans)) (closes_alone options.span history r)

pub plans_record : (options : FileOptions) (history : List Rec) (r : Rec) (p : Planning) (piece : List ℕ) (phase : Phase) (len : ℕ) → p.body ≡ None → len ≡ length piece → piece ≡ rec_bytes r → Plans options history p
    → IsPlanned options history r nexts.Record (record { body = p.body; blocks = p.blocks; bytes = p.bytes + len; phase = phase })
plans_record options history r p piece phase len is size_is spelled plans =
    let at = length (front options.profile) in
    let closes = closes_record options history r p is plans in
    let none = has_none options history p is plans in
    record {
      stands = record {
        body = subst (λ (s : Option ℕ). BodyFor s options.span at (history ++ r ∷ []) p.body) (sym none) (subst (λ (x : Option Body). BodyFor None options.span at (history ++ r ∷ []) x) (sym is) tt);
        blocks = omega (arith, more_blocks options.chunk options.span history r (alone r) p.blocks closes plans.blocks);
        bytes = more_bytes (front options.profile) (cuts options.chunk options.span history).pieces (cuts options.chunk options.span (history ++ r ∷ [])).pieces (alone r) p.bytes len closes plans.bytes
            (size_is ∙ ap (λ (l : List ℕ). length l) spelled);
        contents = contents_behind options history r (alone r) closes no_chunks plans.contents;
      };
      next_is = closes;
    }

-- an extra, where there are blocks
pub plans_aside : (options : FileOptions) (history : List Rec) (r : Rec) (p : Planning) (b after : Body) (piece : List ℕ) (phase : Phase) (len : ℕ) → p.body ≡ Some b → len ≡ length piece → piece ≡ rec_bytes r → Plans options history p
    → ((size : ℕ) (span : Option ℕ) (at : ℕ) (h : List Rec) → StandsSo size span at h b p.blocks p.bytes → NextAside size span at h r after)
    → IsPlanned options history r nexts.Aside (record { body = Some after; blocks = p.blocks; bytes = p.bytes + len; phase = phase })
plans_aside options history r p b after piece phase len is size_is spelled plans next =
    let (size, chunk, so) = has_size options history p b is plans in
    let na : NextAside size options.span (length (front options.profile)) history r after = next size options.span (length (front options.profile)) history so in
    let closes : ClosesPiece options.chunk options.span history r (alone r) = subst (λ (s : Option ℕ). ClosesPiece s options.span history r (alone r)) (sym chunk) na.closes in
    record {
      stands = record {
        body = body_after options.chunk options.span (length (front options.profile)) size (history ++ r ∷ []) after chunk na.body;
        blocks = omega (arith, more_blocks options.chunk options.span history r (alone r) p.blocks closes plans.blocks);
        bytes = more_bytes (front options.profile) (cuts options.chunk options.span history).pieces (cuts options.chunk options.span (history ++ r ∷ [])).pieces (alone r) p.bytes len closes plans.bytes
            (size_is ∙ ap (λ (l : List ℕ). length l) spelled);
        contents = contents_behind options history r (alone r) closes no_chunks plans.contents;
      };
      next_is = closes;
    }

aside_by : (size : ℕ) (span : Option ℕ) (history : List Rec) (r : Rec) (blocks bytes : ℕ) (piece : List ℕ) (stop : Stop) → is_inner r ≡ false → piece ≡ rec_bytes r
    → HoldsOrStops {X = Unit} blocks bytes (Holds (blocks + 0) (bytes + length piece)) (Err stop) → PutStopped (Some size) span history r blocks bytes stop
aside_by size span history r blocks bytes piece (stops.Fault faults) extra spelled kept = absurd kept
aside_by size span history r blocks bytes piece (stops.Limit b n) extra spelled kept =
    let long = ap (λ (l : List ℕ). length l) spelled in (
      alone r,
      ap (λ (c : Cuts). c.pieces) (closes_aside size span history r extra),
      kept.0,
      kept.1,
      λ fits. let few = fits.holds.few in let small = fits.holds.small in kept.2 (record { few = omega (arith, few); small = omega (arith, small, long) }),
    )
aside_by size span history r blocks bytes piece stops.Memory extra spelled kept = tt

-- it is refused
pub stopped_aside : (options : FileOptions) (history : List Rec) (r : Rec) (p : Planning) (b : Body) (piece : List ℕ) (stop : Stop) → p.body ≡ Some b → is_inner r ≡ false → piece ≡ rec_bytes r → Plans options history p
    → HoldsOrStops {X = Unit} p.blocks p.bytes (Holds (p.blocks + 0) (p.bytes + length piece)) (Err stop) → PutStopped options.chunk options.span history r p.blocks p.bytes stop
stopped_aside options history r p b piece stop is extra spelled plans kept =
    let (size, chunk, so) = has_size options history p b is plans in
    subst (λ (s : Option ℕ). PutStopped s options.span history r p.blocks p.bytes stop) (sym chunk) (aside_by size options.span history r p.blocks p.bytes piece stop extra spelled kept)

pub stopped_block : (options : FileOptions) (history : List Rec) (r : Rec) (p : Planning) (b : Body) (stop : Stop) → p.body ≡ Some b → Plans options history p
    → ((size : ℕ) (span : Option ℕ) (at : ℕ) (h : List Rec) → StandsSo size span at h b p.blocks p.bytes → PutStopped (Some size) span h r p.blocks p.bytes stop) → PutStopped options.chunk options.span history r p.blocks p.bytes stop
stopped_block options history r p b stop is plans stopped =
    let (size, chunk, so) = has_size options history p b is plans in
    subst (λ (s : Option ℕ). PutStopped s options.span history r p.blocks p.bytes stop) (sym chunk) (stopped size options.span (length (front options.profile)) history so)

pub stopped_record : (options : FileOptions) (history : List Rec) (r : Rec) (p : Planning) (piece : List ℕ) (stop : Stop) → p.body ≡ None → piece ≡ rec_bytes r → Plans options history p
    → LimitKept p.blocks p.bytes (p.blocks + 0) (p.bytes + length piece) (Err stop) → PutStopped options.chunk options.span history r p.blocks p.bytes stop
stopped_record options history r p piece stop is spelled plans (limit, passes) =
    subst (λ (s : Stop). PutStopped options.chunk options.span history r p.blocks p.bytes s) (sym limit)
    (alone r, closes_record options history r p is plans, refl, refl, λ fits. subst (λ (l : List ℕ). Holds (p.blocks + 0) (p.bytes + length l) → ⊥) spelled passes fits.holds)

-- ---- the end

-- the pieces of a history, where no record waits
pub whole_none : (size span : Option ℕ) (history : List Rec) → last_piece (cuts size span history).waiting ≡ [] → pieces_of size span history ≡ (cuts size span history).pieces
whole_none size span history none = ap (λ (l : List Piece). (cuts size span history).pieces ++ l) none ∙ append-nil (cuts size span history).pieces

pub whole_some : (size span : Option ℕ) (history : List Rec) (piece : Piece) → last_piece (cuts size span history).waiting ≡ piece ∷ [] → pieces_of size span history ≡ (cuts size span history).pieces ++ piece ∷ []
whole_some size span history piece last = ap (λ (l : List Piece). (cuts size span history).pieces ++ l) last

is_last_none : (options : FileOptions) (history : List Rec) (p : Planning) (body : Option Body) (phase : Phase) → last_piece (cuts options.chunk options.span history).waiting ≡ [] → Plans options history p
    → SummaryFor options.chunk (noted_of (length (front options.profile)) history (pieces_of options.chunk options.span history)) body
    → IsLastBlock options history None (record { body = body; blocks = p.blocks; bytes = p.bytes; phase = phase })
is_last_none options history p body phase none plans stands =
    let same = whole_none options.chunk options.span history none in
    record {
      whole = record {
        body = stands;
        blocks = plans.blocks ∙ ap (λ (l : List Piece). length (blocks_in l)) (sym same);
        bytes = plans.bytes ∙ ap (λ (l : List Piece). length (front options.profile ++ pieces_bytes l)) (sym same);
        contents = contents_same options.profile _ _ (sym same) plans.contents;
      };
      last_block = none;
    }

pub ended_plain : (options : FileOptions) (history : List Rec) (p : Planning) (phase : Phase) → p.body ≡ None → Plans options history p
    → IsLastBlock options history None (record { body = p.body; blocks = p.blocks; bytes = p.bytes; phase = phase })
ended_plain options history p phase is plans =
    let none = has_none options history p is plans in
    let waits : (cuts options.chunk options.span history).waiting ≡ [] = ap (λ (s : Option ℕ). (cuts s options.span history).waiting) none ∙ none_waits options.span history in
    let n = noted_of (length (front options.profile)) history (pieces_of options.chunk options.span history) in
    is_last_none options history p p.body phase (ap last_piece waits) plans
    (subst (λ (s : Option ℕ). SummaryFor s n p.body) (sym none) (subst (λ (x : Option Body). SummaryFor None n x) (sym is) tt))

pub ended_waits : (options : FileOptions) (history : List Rec) (p : Planning) (b after : Body) (last : Option Block) (phase : Phase) → last ≡ None → p.body ≡ Some b → Plans options history p
    → ((size : ℕ) (span : Option ℕ) (at : ℕ) (h : List Rec) → StandsSo size span at h b p.blocks p.bytes → LastBlock size span at h last after)
    → IsLastBlock options history None (record { body = Some after; blocks = p.blocks; bytes = p.bytes; phase = phase })
ended_waits options history p b after last phase none is plans ends =
    let (size, chunk, so) = has_size options history p b is plans in
    let at = length (front options.profile) in
    let lb : LastBlock size options.span at history None after = subst (λ (x : Option Block). LastBlock size options.span at history x after) none (ends size options.span at history so) in
    is_last_none options history p (Some after) phase (subst (λ (s : Option ℕ). last_piece (cuts s options.span history).waiting ≡ []) (sym chunk) lb.last_block) plans
    (subst (λ (s : Option ℕ). SummaryFor s (noted_of at history (pieces_of s options.span history)) (Some after)) (sym chunk) lb.summary)

pub ended_block : (options : FileOptions) (history : List Rec) (p : Planning) (b after : Body) (last : Option Block) (blk : Block) (phase : Phase) (len : ℕ) → last ≡ Some blk → p.body ≡ Some b → len ≡ length blk.bytes → HoldsBlock p.blocks p.bytes last → Plans options history p
    → ((size : ℕ) (span : Option ℕ) (at : ℕ) (h : List Rec) → StandsSo size span at h b p.blocks p.bytes → LastBlock size span at h last after)
    → IsLastBlock options history (Some blk) (record { body = Some after; blocks = p.blocks + 1; bytes = p.bytes + len; phase = phase })
ended_block options history p b after last blk phase len some is size_is room plans ends =
    let (size, chunk, so) = has_size options history p b is plans in
    let at = length (front options.profile) in
    let lb : LastBlock size options.span at history (Some blk) after = subst (λ (x : Option Block). LastBlock size options.span at history x after) some (ends size options.span at history so) in
    let lasts : chunker.Last (cuts options.chunk options.span history).waiting (Some blk) = subst (λ (s : Option ℕ). chunker.Last (cuts s options.span history).waiting (Some blk)) (sym chunk) lb.last_block in
    let records = (cuts options.chunk options.span history).waiting in
    let same = whole_some options.chunk options.span history (block records) lasts.0 in
    let built = lasts.1 in
    record {
      whole = record {
        body = subst (λ (s : Option ℕ). SummaryFor s (noted_of at history (pieces_of s options.span history)) (Some after)) (sym chunk) lb.summary;
        blocks = ap (λ (n : ℕ). n + 1) plans.blocks ∙ sym (blocks_more (cuts options.chunk options.span history).pieces (block records)) ∙ ap (λ (l : List Piece). length (blocks_in l)) (sym same);
        bytes = more_bytes (front options.profile) (cuts options.chunk options.span history).pieces (pieces_of options.chunk options.span history) (block records) p.bytes len same plans.bytes (size_is ∙ ap (λ (l : List ℕ). length l) built.spelled);
        contents = contents_same options.profile _ _ (sym same)
            (contents_more options.profile (cuts options.chunk options.span history).pieces (block records) plans.contents
            (piece_of_block p.blocks p.bytes blk records built (subst (λ (x : Option Block). HoldsBlock p.blocks p.bytes x) some room)).chunks);
      };
      last_block = lasts;
    }

pub stopped_last : (options : FileOptions) (history : List Rec) (p : Planning) (b : Body) (stop : Stop) → p.body ≡ Some b → Plans options history p
    → ((size : ℕ) (span : Option ℕ) (at : ℕ) (h : List Rec) → StandsSo size span at h b p.blocks p.bytes → LastStopped (Some size) span h p.blocks p.bytes stop) → LastStopped options.chunk options.span history p.blocks p.bytes stop
stopped_last options history p b stop is plans stopped =
    let (size, chunk, so) = has_size options history p b is plans in
    subst (λ (s : Option ℕ). LastStopped s options.span history p.blocks p.bytes stop) (sym chunk) (stopped size options.span (length (front options.profile)) history so)

-- ---- the front and the Data End

pub length-front : (profile : List ℕ) → length (front profile) ≡ 34 + length profile
unfolding front
length-front profile =
    let frame = length-framed 1 (header_text (record { profile = profile; library = library })) in
    let text = length-header_text (record { profile = profile; library = library }) in
    let first = length-string profile in
    let name = length-string library in
    let both = length-append (string profile) (string library) in
    let all = length-append magic (framed 1 (header_text (record { profile = profile; library = library }))) in
    omega arith

pub length-end : length data_end ≡ 13
unfolding data_end
length-end =
    let frame = length-framed 15 (data_end_text 0) in
    let crc = length-le 4 0 in
    let alone = length-append (le 4 0) [] in
    omega arith
