-- What is noted of a history that goes on.
use Rattle.std.proofs.Common.{◌≡◌, ℕ, ◌+◌, ◌^◌, true, false, ◌<◌, ◌≤◌, List, [], ◌∷◌, ◌++◌, length, Option, Some, None, Err, sym, ap, subst, ◌∙◌, append_assoc, arith}
use Rattle.std.proofs.lemmas.List.{append-nil, length-append}
use Rattle.std.proofs.lemmas.Grind.{flat_map-append}
use Rattle.rec_data.specs.declared.owned.Rec.{Rec}
use Rattle.mcap_model.specs.declared.block.Block.{Block}
use Rattle.mcap_model.specs.declared.ends.Stop.{Stop}
use Rattle.mcap_model.specs.declared.ends.Stop.TheVariants as stops
use Rattle.mcap_model.specs.Built.{IsBlock}
use Rattle.mcap_model.specs.Tops.{Top}
use Rattle.mcap_model.specs.History.{is_inner, body_of, rec_top}
use Rattle.mcap_model.specs.Blocks.{Piece, block, alone, Cuts, cuts, last_piece, piece_bytes, pieces_bytes, block_in, blocks_in, block_bytes}
use Rattle.mcap_model.specs.File.{block_at, blocks_from, alone_at, alone_from}
use Rattle.mcap_model.specs.Summary.{Noted}
use Rattle.mcap_model.proofs.Standing.{count_blocks}
use Rattle.mcap_model.proofs.Asides.{body_with, body_without}
use Rattle.summary_write.specs.Tally.{Tally, SummaryStandsFor, with_noted_block, with_noted_record, with_noted_extra}
use Rattle.chunk_build.specs.Opened.{chunk_of_records}
use Rattle.chunk_build.specs.Chunking.{Chunking}
use Rattle.chunk_build.specs.Chunker as chunker
use Rattle.chunk_writer.specs.declared.body.Body.{Body}
use Rattle.chunk_writer.specs.Limits.{Holds}
use Rattle.chunk_writer.specs.LimitSteps.{HoldsOrStops, BlockFits, IsNoFault}
use Rattle.chunk_writer.specs.Bodies.{noted_of, IsBody, BodyTakes, TakesLast, StandsSo, ClosesPiece, NextBlock, NextAside, LastBlock}
use Rattle.chunk_writer.specs.Plans.{PutStopped, LastStopped}
use Rattle.chunk_writer.proofs.Contents.{block_of_piece}
use Rattle.chunk_writer.proofs.Cuts.{few_logged, closes_aside}

pub blocks_append : (at : ℕ) (ps qs : List Piece) → blocks_from at (ps ++ qs) ≡ blocks_from at ps ++ blocks_from (at + length (pieces_bytes ps)) qs
blocks_append at [] qs = ap (λ (k : ℕ). blocks_from k qs) (omega arith)
blocks_append at (p ∷ ps) qs =
    let size = length-append (piece_bytes p) (pieces_bytes ps) in
    let place : at + length (piece_bytes p) + length (pieces_bytes ps) ≡ at + length (pieces_bytes (p ∷ ps)) = omega (arith, size) in
    ap (λ (l : List (ℕ × List Rec)). block_at at p ++ l) (blocks_append (at + length (piece_bytes p)) ps qs
    ∙ ap (λ (k : ℕ). blocks_from (at + length (piece_bytes p)) ps ++ blocks_from k qs) place)
    ∙ sym (append_assoc (block_at at p) (blocks_from (at + length (piece_bytes p)) ps) (blocks_from (at + length (pieces_bytes (p ∷ ps))) qs))

pub alone_append : (at : ℕ) (ps qs : List Piece) → alone_from at (ps ++ qs) ≡ alone_from at ps ++ alone_from (at + length (pieces_bytes ps)) qs
alone_append at [] qs = ap (λ (k : ℕ). alone_from k qs) (omega arith)
alone_append at (p ∷ ps) qs =
    let size = length-append (piece_bytes p) (pieces_bytes ps) in
    let place : at + length (piece_bytes p) + length (pieces_bytes ps) ≡ at + length (pieces_bytes (p ∷ ps)) = omega (arith, size) in
    ap (λ (l : List (ℕ × Top)). alone_at at p ++ l) (alone_append (at + length (piece_bytes p)) ps qs
    ∙ ap (λ (k : ℕ). alone_from (at + length (piece_bytes p)) ps ++ alone_from k qs) place)
    ∙ sym (append_assoc (alone_at at p) (alone_from (at + length (piece_bytes p)) ps) (alone_from (at + length (pieces_bytes (p ∷ ps))) qs))

pub blocks_more : (ps : List Piece) (p : Piece) → length (blocks_in (ps ++ p ∷ [])) ≡ length (blocks_in ps) + length (blocks_in (p ∷ []))
blocks_more ps p = ap (λ (l : List (List Rec)). length l) (flat_map-append block_in ps (p ∷ [])) ∙ length-append (blocks_in ps) (blocks_in (p ∷ []))

-- a block more is noted
pub noted_block : (at k : ℕ) (history records : List Rec) (ps : List Piece) → k ≡ at + length (pieces_bytes ps) → with_noted_block (noted_of at history ps) k records ≡ noted_of at history (ps ++ block records ∷ [])
noted_block at k history records ps is =
    ap (λ (l : List (ℕ × List Rec)). with_both l (alone_from at ps)) (ap (λ (m : ℕ). blocks_from at ps ++ (m, records) ∷ []) is ∙ sym (blocks_append at ps (block records ∷ [])))
    ∙ ap (λ (l : List (ℕ × Top)). with_both (blocks_from at (ps ++ block records ∷ [])) l) (sym (alone_append at ps (block records ∷ []) ∙ append-nil (alone_from at ps)))
  where
    with_both : List (ℕ × List Rec) → List (ℕ × Top) → Noted
    with_both l e = record { records = body_of history; blocks = l; extras = e }

-- a record more is noted
pub noted_inner : (at : ℕ) (history : List Rec) (r : Rec) (ps : List Piece) → is_inner r ≡ true → with_noted_record (noted_of at history ps) r ≡ noted_of at (history ++ r ∷ []) ps
noted_inner at history r ps inner = ap (λ (l : List Rec). with_records l) (sym (body_with history r inner))
  where
    with_records : List Rec → Noted
    with_records l = record { records = l; blocks = blocks_from at ps; extras = alone_from at ps }

-- an extra more is noted
pub noted_aside : (at k : ℕ) (history : List Rec) (r : Rec) (ps : List Piece) → is_inner r ≡ false → k ≡ at + length (pieces_bytes ps) → with_noted_extra (noted_of at history ps) k (rec_top r) ≡ noted_of at (history ++ r ∷ []) (ps ++ alone r ∷ [])
noted_aside at k history r ps extra is =
    ap (λ (l : List (ℕ × Top)). with_all (body_of history) (blocks_from at ps) l) (ap (λ (m : ℕ). alone_from at ps ++ (m, rec_top r) ∷ []) is ∙ sym (alone_append at ps (alone r ∷ [])))
    ∙ ap (λ (l : List (ℕ × List Rec)). with_all (body_of history) l (alone_from at (ps ++ alone r ∷ []))) (sym (blocks_append at ps (alone r ∷ []) ∙ append-nil (blocks_from at ps)))
    ∙ ap (λ (l : List Rec). with_all l (blocks_from at (ps ++ alone r ∷ [])) (alone_from at (ps ++ alone r ∷ []))) (sym (body_without history r extra))
  where
    with_all : List Rec → List (ℕ × List Rec) → List (ℕ × Top) → Noted
    with_all l b e = record { records = l; blocks = b; extras = e }

-- ---- the numbers of a summary

pub few_messages : (size : ℕ) (span : Option ℕ) (at : ℕ) (history : List Rec) (b : Body) (blocks bytes : ℕ) → StandsSo size span at history b blocks bytes → Holds blocks bytes → b.summary.messages < 2 ^ 48
few_messages size span at history b blocks bytes so within =
    let body = so.body in
    let some = body.some in
    let small = body.within in
    let summary = body.summary in
    let same = ap (λ (t : Tally). t.messages) summary.same in
    let place = so.bytes_are in
    let most = within.small in
    let few = few_logged size span history some in
    omega (arith, small, same, place, most, few)

pub few_noted : (t : Tally) (at : ℕ) (history : List Rec) (ps : List Piece) (blocks bytes : ℕ) → SummaryStandsFor t (noted_of at history ps) → blocks ≡ length (blocks_in ps) → Holds blocks bytes → t.blocks < 2 ^ 48
few_noted t at history ps blocks bytes stands is within =
    let same = ap (λ (u : Tally). u.blocks) stands.same in
    let most = within.few in
    omega (arith, same, is, most, count_blocks at ps)

pub few_blocks : (size : ℕ) (span : Option ℕ) (at : ℕ) (history : List Rec) (b : Body) (blocks bytes n : ℕ) → StandsSo size span at history b blocks bytes → Holds blocks bytes → n ≡ b.summary.blocks → n < 2 ^ 48
few_blocks size span at history b blocks bytes n so within is =
    let few = few_noted b.summary at history (cuts (Some size) span history).pieces blocks bytes so.body.summary so.blocks_are within in
    omega (arith, few, is)

-- ---- a record is taken

pub took : (size : ℕ) (span : Option ℕ) (at : ℕ) (history : List Rec) (r : Rec) (b : Body) (ch : Chunking) (t : Tally) (closed : Option Block) → ((n : Noted) → SummaryStandsFor b.summary n → SummaryStandsFor t (with_noted_record n r))
    → ((h : List Rec) → chunker.StandsFor b.chunker h → chunker.PutsRecord b.chunker.size b.chunker.span h r closed ch) → is_inner r ≡ true → IsBody size span at history b → BodyTakes size span at history r closed (record { chunker = ch; summary = t })
took size span at history r b ch t closed noted put inner is =
    let sized : chunker.PutsRecord size b.chunker.span history r closed ch = subst (λ (k : ℕ). chunker.PutsRecord k b.chunker.span history r closed ch) is.size_is (put history is.chunk) in
    let puts : chunker.PutsRecord size span history r closed ch = subst (λ (k : Option ℕ). chunker.PutsRecord size k history r closed ch) is.span_is sized in
    let ps = (cuts (Some size) span history).pieces in
    record {
      size_is = puts.same_size;
      span_is = puts.same_span;
      chunk = puts.stands;
      closes = puts.closes;
      summary = subst (λ (n : Noted). SummaryStandsFor t n) (noted_inner at history r ps inner) (noted (noted_of at history ps) is.summary);
    }

abbrev pub TakesIt : Body → Rec → Option Block → Body → Type 0
TakesIt b r closed after = (size : ℕ) (span : Option ℕ) (at : ℕ) (history : List Rec) → IsBody size span at history b → BodyTakes size span at history r closed after

abbrev pub Notes : Tally → ℕ → Block → Tally → Type 0
Notes t at b after = (records : List Rec) → IsBlock b records → (n : Noted) → SummaryStandsFor t n → SummaryStandsFor after (with_noted_block n at records)

pub next_none : (size : ℕ) (span : Option ℕ) (at : ℕ) (history : List Rec) (r : Rec) (b after : Body) (blocks bytes : ℕ) (closed : Option Block) → closed ≡ None → TakesIt b r closed after
    → StandsSo size span at history b blocks bytes → NextBlock size span at history r None after
next_none size span at history r b after blocks bytes closed none takes so =
    let body = so.body in
    let took : BodyTakes size span at history r None after = subst (λ (x : Option Block). BodyTakes size span at history r x after) none (takes size span at history body) in
    record {
      body = record {
        some = body.some;
        within = body.within;
        size_is = took.size_is;
        span_is = took.span_is;
        chunk = took.chunk;
        summary = subst (λ (ps : List Piece). SummaryStandsFor after.summary (noted_of at (history ++ r ∷ []) ps)) (sym took.closes) took.summary;
      };
      closes = took.closes;
    }

pub next_some : (size : ℕ) (span : Option ℕ) (at : ℕ) (history : List Rec) (r : Rec) (b after : Body) (blocks bytes : ℕ) (closed : Option Block) (blk : Block) (t : Tally) → closed ≡ Some blk → TakesIt b r closed after
    → Notes after.summary bytes blk t → StandsSo size span at history b blocks bytes → NextBlock size span at history r (Some blk) (record { chunker = after.chunker; summary = t })
next_some size span at history r b after blocks bytes closed blk t some takes notes so =
    let body = so.body in
    let took : BodyTakes size span at history r (Some blk) after = subst (λ (x : Option Block). BodyTakes size span at history r x after) some (takes size span at history body) in
    let ps = (cuts (Some size) span history).pieces in
    let records = (cuts (Some size) span history).waiting ++ r ∷ [] in
    let noted : SummaryStandsFor t (noted_of at (history ++ r ∷ []) (ps ++ block records ∷ [])) =
    subst (λ (n : Noted). SummaryStandsFor t n) (noted_block at bytes (history ++ r ∷ []) records ps so.bytes_are) (notes records took.closes.1 (noted_of at (history ++ r ∷ []) ps) took.summary) in
    record {
      body = record {
        some = body.some;
        within = body.within;
        size_is = took.size_is;
        span_is = took.span_is;
        chunk = took.chunk;
        summary = subst (λ (l : List Piece). SummaryStandsFor t (noted_of at (history ++ r ∷ []) l)) (sym took.closes.0) noted;
      };
      closes = (records, took.closes.0, took.closes.1);
    }

-- ---- an extra is put

pub next_aside : (size : ℕ) (span : Option ℕ) (at : ℕ) (history : List Rec) (r : Rec) (b : Body) (t : Tally) (blocks bytes : ℕ) → is_inner r ≡ false → ((n : Noted) → SummaryStandsFor b.summary n → SummaryStandsFor t (with_noted_extra n bytes (rec_top r)))
    → StandsSo size span at history b blocks bytes → NextAside size span at history r (record { chunker = b.chunker; summary = t })
next_aside size span at history r b t blocks bytes extra notes so =
    let body = so.body in
    let c = cuts (Some size) span history in
    let closes : (cuts (Some size) span (history ++ r ∷ [])).pieces ≡ c.pieces ++ alone r ∷ [] = ap (λ (x : Cuts). x.pieces) (closes_aside size span history r extra) in
    let noted : SummaryStandsFor t (noted_of at (history ++ r ∷ []) (c.pieces ++ alone r ∷ [])) =
    subst (λ (n : Noted). SummaryStandsFor t n) (noted_aside at bytes history r c.pieces extra so.bytes_are) (notes (noted_of at history c.pieces) body.summary) in
    record {
      body = record {
        some = body.some;
        within = body.within;
        size_is = body.size_is;
        span_is = body.span_is;
        chunk = body.chunk ∙ ap (λ (x : Cuts). chunk_of_records x.waiting) (sym (closes_aside b.chunker.size b.chunker.span history r extra));
        summary = subst (λ (l : List Piece). SummaryStandsFor t (noted_of at (history ++ r ∷ []) l)) (sym closes) noted;
      };
      closes = closes;
    }

-- ---- a block is refused

stopped_by : (size span : Option ℕ) (history : List Rec) (r : Rec) (blocks bytes : ℕ) (blk : Block) (records : List Rec) (stop : Stop) → ClosesPiece size span history r (block records) → IsBlock blk records
    → HoldsOrStops {X = Unit} blocks bytes (BlockFits blocks bytes blk) (Err stop) → PutStopped size span history r blocks bytes stop
stopped_by size span history r blocks bytes blk records (stops.Fault faults) closes is kept = absurd kept
stopped_by size span history r blocks bytes blk records (stops.Limit b n) closes is kept = (block records, closes, kept.0, kept.1, λ fits. kept.2 (block_of_piece blocks bytes blk records is fits))
stopped_by size span history r blocks bytes blk records stops.Memory closes is kept = tt

pub next_err : (size : ℕ) (span : Option ℕ) (at : ℕ) (history : List Rec) (r : Rec) (b after : Body) (blocks bytes : ℕ) (closed : Option Block) (blk : Block) (stop : Stop) → closed ≡ Some blk → TakesIt b r closed after
    → HoldsOrStops {X = Unit} blocks bytes (BlockFits blocks bytes blk) (Err stop) → StandsSo size span at history b blocks bytes → PutStopped (Some size) span history r blocks bytes stop
next_err size span at history r b after blocks bytes closed blk stop some takes kept so =
    let took : BodyTakes size span at history r (Some blk) after = subst (λ (x : Option Block). BodyTakes size span at history r x after) some (takes size span at history so.body) in
    let built = took.closes.1 in
    stopped_by (Some size) span history r blocks bytes blk ((cuts (Some size) span history).waiting ++ r ∷ []) stop took.closes.0 built kept

pub built_next : (size : ℕ) (span : Option ℕ) (at : ℕ) (history : List Rec) (r : Rec) (b after : Body) (blocks bytes : ℕ) (closed : Option Block) (blk : Block) → closed ≡ Some blk → TakesIt b r closed after
    → StandsSo size span at history b blocks bytes → (records : List Rec) × IsBlock blk records
built_next size span at history r b after blocks bytes closed blk some takes so =
    let took : BodyTakes size span at history r (Some blk) after = subst (λ (x : Option Block). BodyTakes size span at history r x after) some (takes size span at history so.body) in
    ((cuts (Some size) span history).waiting ++ r ∷ [], took.closes.1)

-- ---- the last block

abbrev pub TakesLastOf : Body → Option Block → Body → Type 0
TakesLastOf b last after = (size : ℕ) (span : Option ℕ) (at : ℕ) (history : List Rec) → IsBody size span at history b → TakesLast size span at history last after

pub last_none : (size : ℕ) (span : Option ℕ) (at : ℕ) (history : List Rec) (b after : Body) (blocks bytes : ℕ) (last : Option Block) → last ≡ None → TakesLastOf b last after
    → StandsSo size span at history b blocks bytes → LastBlock size span at history None after
last_none size span at history b after blocks bytes last none takes so =
    let took : TakesLast size span at history None after = subst (λ (x : Option Block). TakesLast size span at history x after) none (takes size span at history so.body) in
    let ps = (cuts (Some size) span history).pieces in
    record {
      last_block = took.last_block;
      summary = subst (λ (l : List Piece). SummaryStandsFor after.summary (noted_of at history l)) (sym (append-nil ps) ∙ ap (λ (l : List Piece). ps ++ l) (sym took.last_block)) took.summary;
    }

pub last_some : (size : ℕ) (span : Option ℕ) (at : ℕ) (history : List Rec) (b after : Body) (blocks bytes : ℕ) (last : Option Block) (blk : Block) (t : Tally) → last ≡ Some blk → TakesLastOf b last after
    → Notes after.summary bytes blk t → StandsSo size span at history b blocks bytes → LastBlock size span at history (Some blk) (record { chunker = after.chunker; summary = t })
last_some size span at history b after blocks bytes last blk t some takes notes so =
    let took : TakesLast size span at history (Some blk) after = subst (λ (x : Option Block). TakesLast size span at history x after) some (takes size span at history so.body) in
    let ps = (cuts (Some size) span history).pieces in
    let records = (cuts (Some size) span history).waiting in
    let noted : SummaryStandsFor t (noted_of at history (ps ++ block records ∷ [])) =
    subst (λ (n : Noted). SummaryStandsFor t n) (noted_block at bytes history records ps so.bytes_are) (notes records took.last_block.1 (noted_of at history ps) took.summary) in
    record {
      last_block = took.last_block;
      summary = subst (λ (l : List Piece). SummaryStandsFor t (noted_of at history (ps ++ l))) (sym took.last_block.0) noted;
    }

last_by : (size span : Option ℕ) (history : List Rec) (blocks bytes : ℕ) (blk : Block) (records : List Rec) (stop : Stop) → last_piece (cuts size span history).waiting ≡ block records ∷ [] → IsBlock blk records
    → HoldsOrStops {X = Unit} blocks bytes (BlockFits blocks bytes blk) (Err stop) → LastStopped size span history blocks bytes stop
last_by size span history blocks bytes blk records (stops.Fault faults) last is kept = absurd kept
last_by size span history blocks bytes blk records (stops.Limit b n) last is kept = (block records, last, kept.0, kept.1, λ fits. kept.2 (block_of_piece blocks bytes blk records is fits))
last_by size span history blocks bytes blk records stops.Memory last is kept = tt

pub last_err : (size : ℕ) (span : Option ℕ) (at : ℕ) (history : List Rec) (b after : Body) (blocks bytes : ℕ) (last : Option Block) (blk : Block) (stop : Stop) → last ≡ Some blk → TakesLastOf b last after
    → HoldsOrStops {X = Unit} blocks bytes (BlockFits blocks bytes blk) (Err stop) → StandsSo size span at history b blocks bytes → LastStopped (Some size) span history blocks bytes stop
last_err size span at history b after blocks bytes last blk stop some takes kept so =
    let took : TakesLast size span at history (Some blk) after = subst (λ (x : Option Block). TakesLast size span at history x after) some (takes size span at history so.body) in
    let built = took.last_block.1 in
    last_by (Some size) span history blocks bytes blk (cuts (Some size) span history).waiting stop took.last_block.0 built kept

pub built_last : (size : ℕ) (span : Option ℕ) (at : ℕ) (history : List Rec) (b after : Body) (blocks bytes : ℕ) (last : Option Block) (blk : Block) → last ≡ Some blk → TakesLastOf b last after
    → StandsSo size span at history b blocks bytes → (records : List Rec) × IsBlock blk records
built_last size span at history b after blocks bytes last blk some takes so =
    let took : TakesLast size span at history (Some blk) after = subst (λ (x : Option Block). TakesLast size span at history x after) some (takes size span at history so.body) in
    ((cuts (Some size) span history).waiting, took.last_block.1)

-- ---- faults

pub no_fault : (blocks bytes : ℕ) (holds : Type 0) (stop : Stop) → HoldsOrStops {X = Unit} blocks bytes holds (Err stop) → IsNoFault stop
no_fault blocks bytes holds (stops.Fault faults) kept = absurd kept
no_fault blocks bytes holds (stops.Limit b n) kept = tt
no_fault blocks bytes holds stops.Memory kept = tt
