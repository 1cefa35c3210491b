-- What a scribe stands for after a put, and how its file ends.
use Rattle.std.proofs.Common.{◌≡◌, ℕ, ◌+◌, ◌≤◌, List, [], ◌∷◌, ◌++◌, length, Option, Some, None, Result, Ok, Err, OnErr, refl, sym, ap, subst, ◌∙◌, append_assoc, append-nil, length-append, arith}
use Rattle.rec_data.specs.declared.owned.Rec.{Rec}
use Rattle.rec_data.specs.Owned.{rec_bytes}
use Rattle.mcap_io.specs.Outside.{Adds}
use Rattle.mcap_io.proofs.Calls.{adds-adds}
use Rattle.mcap_model.specs.declared.block.Block.{Block}
use Rattle.mcap_model.specs.declared.options.FileOptions.{FileOptions}
use Rattle.mcap_model.specs.declared.ends.Stop.{Stop}
use Rattle.mcap_model.specs.Built.{IsBlock}
use Rattle.mcap_model.specs.Blocks.{Piece, block, alone, cuts, pieces_of, piece_bytes, pieces_bytes, block_bytes}
use Rattle.std.proofs.lemmas.Grind.{flat_map-append}
use Rattle.mcap_model.specs.Tops.{Top, top_bytes, spelled}
use Rattle.mcap_model.specs.File.{front, data_end, section, noted, tail_by, file_of, blocks_from, alone_from}
use Rattle.mcap_model.specs.History.{body_of}
use Rattle.mcap_model.specs.Summary.{Noted}
use Rattle.mcap_model.specs.Histories.{written_of}
use Rattle.mcap_model.specs.Pieces.{back_of}
use Rattle.live_entry.specs.declared.entry.Entry.{Entry}
use Rattle.live_entry.specs.Entries.{SeenExtents, HasBlockExtent, TellsPiece}
use Rattle.chunk_writer.specs.declared.phase.Phase.{Phase}
use Rattle.chunk_writer.specs.declared.phase.Phase.TheVariants as phases
use Rattle.chunk_writer.specs.declared.next.Next.{Next}
use Rattle.chunk_writer.specs.declared.next.Next.TheVariants as nexts
use Rattle.chunk_writer.specs.Limits.{Holds}
use Rattle.chunk_writer.specs.Bodies.{ClosesPiece, noted_of, SummaryFor}
use Rattle.chunk_writer.specs.Planning.{Planning}
use Rattle.chunk_writer.proofs.Contents.{piece_of_block, no_chunks}
use Rattle.chunk_writer.specs.Plans.{Plans, PieceFits, IsPlanned, IsToAppend, PutStopped, HoldsBlock, HoldsNext, StoppedBefore, IsFilled, IsLastBlock, LastStopped, ExtraStopped, BackStopped}
use Rattle.chunk_writer.specs.Stops.{numbers, StopsAt, Ends}
use Rattle.chunk_writer.specs.StopSteps.{StopsBehind, Added}
use Rattle.chunk_writer.specs.Scribes.{ScribeStands, AreWaiting, IsEntryWith, AddsLast, FillsExtras, GivesEntry, GivesLast}
use Rattle.chunk_writer.proofs.Cuts.{bytes_behind}
use Rattle.chunk_writer.proofs.Planned.{whole_none, whole_some}
use Rattle.chunk_writer.proofs.Stopping.{Holding, Wholly, extra_refused, extra_append_refused, put_refused, append_refused, last_refused, last_append_refused, back_refused, back_append_refused}

-- ---- phases

pub going_apart : (p : Phase) (stop : Stop) → p ≡ phases.Stopped stop → p ≡ phases.Going → ⊥
going_apart p stop stopped going = cc

ended_apart : (p : Phase) (stop : Stop) → p ≡ phases.Stopped stop → p ≡ phases.Ended → ⊥
ended_apart p stop stopped ended = cc

end_apart : (p : Phase) → p ≡ phases.Going → p ≡ phases.Ended → ⊥
end_apart p going ended = cc

stop_apart : (p : Phase) (stop : Stop) → p ≡ phases.Going → p ≡ phases.Stopped stop → ⊥
stop_apart p stop going stopped = cc

same_stop : (p : Phase) (one other : Stop) → p ≡ phases.Stopped one → p ≡ phases.Stopped other → one ≡ other
same_stop p one other first second = cc

-- ---- a record was put

pub holding : (options : FileOptions) (opened held : Option (List ℕ)) (history : List Rec) (p : Planning) → p.phase ≡ phases.Going → ScribeStands options opened held history p → Holding options opened held history p.blocks p.bytes
holding options opened held history p going stands = let (plans, adds) = stands.going going in (adds, plans.blocks, plans.bytes, plans.contents)

more_written : (start : List ℕ) (ps qs : List Piece) (piece : Piece) → qs ≡ ps ++ piece ∷ [] → (start ++ pieces_bytes ps) ++ piece_bytes piece ≡ start ++ pieces_bytes qs
more_written start ps qs piece closes =
    append_assoc start (pieces_bytes ps) (piece_bytes piece) ∙ ap (λ (l : List ℕ). start ++ l) (sym (bytes_behind ps piece)) ∙ ap (λ (l : List Piece). start ++ pieces_bytes l) (sym closes)

adds_more : (opened held now : Option (List ℕ)) (start : List ℕ) (ps qs : List Piece) (piece : Piece) → qs ≡ ps ++ piece ∷ [] → Adds opened held (start ++ pieces_bytes ps) → Adds held now (piece_bytes piece) → Adds opened now (start ++ pieces_bytes qs)
adds_more opened held now start ps qs piece closes first second =
    subst (λ (l : List ℕ). Adds opened now l) (more_written start ps qs piece closes) (adds-adds opened held now (start ++ pieces_bytes ps) (piece_bytes piece) first second)

pub stands_going : (options : FileOptions) (opened now : Option (List ℕ)) (history : List Rec) (p : Planning) → p.phase ≡ phases.Going → Plans options history p → Adds opened now (written_of options history) → ScribeStands options opened now history p
stands_going options opened now history p going plans adds = record {
  going = λ e. (plans, adds);
  stopped = λ stop e. absurd (stop_apart p.phase stop going e);
  unended = λ e. end_apart p.phase going e;
}

-- the pieces that are sure have the front's bytes
pub plans_begun : (options : FileOptions) (history : List Rec) (p : Planning) → Plans options history p → length (front options.profile) ≤ p.bytes
plans_begun options history p plans = omega (arith, plans.bytes, length-append (front options.profile) (pieces_bytes (cuts options.chunk options.span history).pieces))

pub stands_stopped : (options : FileOptions) (opened now : Option (List ℕ)) (history : List Rec) (p : Planning) (stop : Stop) (blocks bytes : ℕ) → StoppedBefore blocks bytes stop p
    → length (front options.profile) ≤ bytes → ((extras : List Top) (behind : List Rec) → StopsAt options extras (history ++ behind) opened now stop (numbers blocks bytes)) → ScribeStands options opened now history p
stands_stopped options opened now history p stop blocks bytes before begun stops = record {
  going = λ e. absurd (going_apart p.phase stop before.phase e);
  stopped = λ other e extras behind. record {
    stops =
        subst (λ (s : Stop). StopsAt options extras (history ++ behind) opened now s (numbers p.blocks p.bytes)) (same_stop p.phase stop other before.phase e)
        (subst (λ (n : ℕ). StopsAt options extras (history ++ behind) opened now stop (numbers n p.bytes)) (sym before.blocks_are)
        (subst (λ (n : ℕ). StopsAt options extras (history ++ behind) opened now stop (numbers blocks n)) (sym before.bytes_are) (stops extras behind)));
    begun = omega (arith, begun, before.bytes_are);
  };
  unended = λ e. ended_apart p.phase stop before.phase e;
}

abbrev pub Planned : Planning → Rec → Next → Planning → Type 0
Planned p r next mid = (options : FileOptions) (history : List Rec) → Plans options history p → IsPlanned options history r next mid

-- the same extras wait
pub waits_same : (before after : Phase) (extras : List Top) (xs ys : List (List ℕ)) → ys ≡ xs → before ≡ phases.Going → AreWaiting before extras xs → AreWaiting after extras ys
waits_same before after extras xs ys same going waits later = let (are, each) = waits going in (same ∙ are, each)

pub put_waits : (options : FileOptions) (opened held : Option (List ℕ)) (history : List Rec) (r : Rec) (p mid : Planning) (next : Next) → next ≡ nexts.Waits → Planned p r next mid
    → mid.phase ≡ phases.Going → p.phase ≡ phases.Going → ScribeStands options opened held history p → ScribeStands options opened held (history ++ r ∷ []) mid
put_waits options opened held history r p mid next is planned going before stands =
    let (plans, first) = stands.going before in
    let made = planned options history plans in
    let same : IsToAppend options.chunk options.span history r nexts.Waits = subst (λ (n : Next). IsToAppend options.chunk options.span history r n) is made.next_is in
    stands_going options opened held (history ++ r ∷ []) mid going made.stands (subst (λ (ps : List Piece). Adds opened held (front options.profile ++ pieces_bytes ps)) (sym same) first)

pub put_block : (options : FileOptions) (opened held now : Option (List ℕ)) (history : List Rec) (r : Rec) (p mid after : Planning) (next : Next) (blk : Block) → next ≡ nexts.Block blk → Planned p r next mid
    → mid.phase ≡ phases.Going → after ≡ mid → p.phase ≡ phases.Going → Adds held now blk.bytes → ScribeStands options opened held history p → ScribeStands options opened now (history ++ r ∷ []) after
put_block options opened held now history r p mid after next blk is planned going same before adds stands =
    let (plans, first) = stands.going before in
    let made = planned options history plans in
    let (records, closes, built) : (records : List Rec) × ClosesPiece options.chunk options.span history r (block records) × IsBlock blk records = subst (λ (n : Next). IsToAppend options.chunk options.span history r n) is made.next_is in
    let piece : Adds held now (piece_bytes (block records)) = subst (λ (l : List ℕ). Adds held now l) built.spelled adds in
    subst (λ (q : Planning). ScribeStands options opened now (history ++ r ∷ []) q) (sym same)
    (stands_going options opened now (history ++ r ∷ []) mid going made.stands (adds_more opened held now (front options.profile) (cuts options.chunk options.span history).pieces (cuts options.chunk options.span (history ++ r ∷ [])).pieces (block records) closes first piece))

-- an extra is appended as a record that stands at top level
as_record : (options : FileOptions) (history : List Rec) (r : Rec) (mid : Planning) (next : Next) → next ≡ nexts.Aside → IsPlanned options history r next mid → IsPlanned options history r nexts.Record mid
as_record options history r mid next is planned = record {
  stands = planned.stands;
  next_is = (let closes : IsToAppend options.chunk options.span history r nexts.Aside = subst (λ (n : Next). IsToAppend options.chunk options.span history r n) is planned.next_is in closes);
}

pub put_record : (options : FileOptions) (opened held now : Option (List ℕ)) (history : List Rec) (r : Rec) (p mid after : Planning) (next : Next) (bytes : List ℕ) → next ≡ nexts.Record → bytes ≡ rec_bytes r → Planned p r next mid
    → mid.phase ≡ phases.Going → after ≡ mid → p.phase ≡ phases.Going → Adds held now bytes → ScribeStands options opened held history p → ScribeStands options opened now (history ++ r ∷ []) after
put_record options opened held now history r p mid after next bytes is spelled planned going same before adds stands =
    let (plans, first) = stands.going before in
    let made = planned options history plans in
    let closes : ClosesPiece options.chunk options.span history r (alone r) = subst (λ (n : Next). IsToAppend options.chunk options.span history r n) is made.next_is in
    let piece : Adds held now (piece_bytes (alone r)) = subst (λ (l : List ℕ). Adds held now l) spelled adds in
    subst (λ (q : Planning). ScribeStands options opened now (history ++ r ∷ []) q) (sym same)
    (stands_going options opened now (history ++ r ∷ []) mid going made.stands (adds_more opened held now (front options.profile) (cuts options.chunk options.span history).pieces (cuts options.chunk options.span (history ++ r ∷ [])).pieces (alone r) closes first piece))

-- an extra that was put where there are blocks
pub put_aside : (options : FileOptions) (opened held now : Option (List ℕ)) (history : List Rec) (r : Rec) (p mid after : Planning) (next : Next) (bytes : List ℕ) → next ≡ nexts.Aside → bytes ≡ rec_bytes r → Planned p r next mid
    → mid.phase ≡ phases.Going → after ≡ mid → p.phase ≡ phases.Going → Adds held now bytes → ScribeStands options opened held history p → ScribeStands options opened now (history ++ r ∷ []) after
put_aside options opened held now history r p mid after next bytes is spelled planned going same before adds stands =
    put_record options opened held now history r p mid after nexts.Record bytes refl spelled (λ o h plans. as_record o h r mid next is (planned o h plans)) going same before adds stands

pub block_refused : (options : FileOptions) (opened held now : Option (List ℕ)) (history : List Rec) (r : Rec) (p mid after : Planning) (next : Next) (framed : List ℕ) (blk : Block) (stop : Stop) (blocks bytes : ℕ) → next ≡ nexts.Block blk → Planned p r next mid
    → HoldsNext p.blocks p.bytes framed next → blocks ≡ p.blocks → bytes ≡ p.bytes → StoppedBefore blocks bytes stop after → p.phase ≡ phases.Going → Added held now blk.bytes (Err stop) → ScribeStands options opened held history p
    → ScribeStands options opened now (history ++ r ∷ []) after
block_refused options opened held now history r p mid after next framed blk stop blocks bytes is planned room same_b same_n before going added stands =
    let (plans, first) = stands.going going in
    let made = planned options history plans in
    let (records, closes, built) : (records : List Rec) × ClosesPiece options.chunk options.span history r (block records) × IsBlock blk records = subst (λ (n : Next). IsToAppend options.chunk options.span history r n) is made.next_is in
    let piece : Added held now (piece_bytes (block records)) (Err stop) = subst (λ (l : List ℕ). Added held now l (Err stop)) built.spelled added in
    let fits = piece_of_block p.blocks p.bytes blk records built (subst (λ (n : Next). HoldsNext p.blocks p.bytes framed n) is room) in
    let stopped : StoppedBefore p.blocks p.bytes stop after = record { phase = before.phase; blocks_are = before.blocks_are ∙ same_b; bytes_are = before.bytes_are ∙ same_n } in
    stands_stopped options opened now (history ++ r ∷ []) after stop p.blocks p.bytes stopped (plans_begun options history p (stands.going going).0)
    (λ extras behind. append_refused options extras opened held now history r (block records) stop p.blocks p.bytes behind (holding options opened held history p going stands) closes fits piece)

pub record_refused : (options : FileOptions) (opened held now : Option (List ℕ)) (history : List Rec) (r : Rec) (p mid after : Planning) (next : Next) (piece : List ℕ) (stop : Stop) (blocks bytes : ℕ) → next ≡ nexts.Record → piece ≡ rec_bytes r → Planned p r next mid
    → HoldsNext p.blocks p.bytes piece next → blocks ≡ p.blocks → bytes ≡ p.bytes → StoppedBefore blocks bytes stop after → p.phase ≡ phases.Going → Added held now piece (Err stop) → ScribeStands options opened held history p
    → ScribeStands options opened now (history ++ r ∷ []) after
record_refused options opened held now history r p mid after next piece stop blocks bytes is spelled planned room same_b same_n before going added stands =
    let (plans, first) = stands.going going in
    let made = planned options history plans in
    let closes : ClosesPiece options.chunk options.span history r (alone r) = subst (λ (n : Next). IsToAppend options.chunk options.span history r n) is made.next_is in
    let left : Added held now (piece_bytes (alone r)) (Err stop) = subst (λ (l : List ℕ). Added held now l (Err stop)) spelled added in
    let holds : Holds p.blocks (p.bytes + length piece) = subst (λ (n : Next). HoldsNext p.blocks p.bytes piece n) is room in
    let long = ap (λ (l : List ℕ). length l) spelled in
    let few = holds.few in
    let small = holds.small in
    let fits : PieceFits p.blocks p.bytes (alone r) = record { holds = record { few = omega (arith, few); small = omega (arith, small, long) }; chunks = no_chunks } in
    let stopped : StoppedBefore p.blocks p.bytes stop after = record { phase = before.phase; blocks_are = before.blocks_are ∙ same_b; bytes_are = before.bytes_are ∙ same_n } in
    stands_stopped options opened now (history ++ r ∷ []) after stop p.blocks p.bytes stopped (plans_begun options history p (stands.going going).0)
    (λ extras behind. append_refused options extras opened held now history r (alone r) stop p.blocks p.bytes behind (holding options opened held history p going stands) closes fits left)

pub aside_refused : (options : FileOptions) (opened held now : Option (List ℕ)) (history : List Rec) (r : Rec) (p mid after : Planning) (next : Next) (piece : List ℕ) (stop : Stop) (blocks bytes : ℕ) → next ≡ nexts.Aside → piece ≡ rec_bytes r → Planned p r next mid
    → HoldsNext p.blocks p.bytes piece next → blocks ≡ p.blocks → bytes ≡ p.bytes → StoppedBefore blocks bytes stop after → p.phase ≡ phases.Going → Added held now piece (Err stop) → ScribeStands options opened held history p
    → ScribeStands options opened now (history ++ r ∷ []) after
aside_refused options opened held now history r p mid after next piece stop blocks bytes is spelled planned room same_b same_n before going added stands =
    let holds : HoldsNext p.blocks p.bytes piece nexts.Aside = subst (λ (n : Next). HoldsNext p.blocks p.bytes piece n) is room in
    record_refused options opened held now history r p mid after nexts.Record piece stop blocks bytes refl spelled (λ o h plans. as_record o h r mid next is (planned o h plans)) holds same_b same_n before going added stands

pub add_refused : (options : FileOptions) (opened held : Option (List ℕ)) (history : List Rec) (r : Rec) (p after : Planning) (stop : Stop) → p.phase ≡ phases.Going
    → ((o : FileOptions) (h : List Rec) → Plans o h p → PutStopped o.chunk o.span h r p.blocks p.bytes stop) → StoppedBefore p.blocks p.bytes stop after → ScribeStands options opened held history p
    → ScribeStands options opened held (history ++ r ∷ []) after
add_refused options opened held history r p after stop going refused before stands =
    stands_stopped options opened held (history ++ r ∷ []) after stop p.blocks p.bytes before (plans_begun options history p (stands.going going).0)
    (λ extras behind. put_refused options extras opened held history r stop p.blocks p.bytes behind (holding options opened held history p going stands) (refused options history (stands.going going).0))

-- ---- entries

pub entry_of_block : {X : Type 0} (seen : SeenExtents X) (e : Entry X) (offset : ℕ) (blk : Block) (records : List Rec) → IsEntryWith e e.extent offset blk → IsBlock blk records
    → seen.size e.extent ≡ length blk.bytes → TellsPiece (seen.tells e.extent) seen.held blk.bytes → HasBlockExtent seen e offset records
entry_of_block seen e offset blk records is built long told = record {
  numbers = record {
    offset_is = is.offset_is;
    chunk = is.chunk ∙ built.chunk;
    start = is.start ∙ built.start;
    end = is.end ∙ built.end;
    counted = is.counted ∙ built.counted;
    declaring = is.declaring ∙ built.declaring;
  };
  long = long ∙ ap (λ (l : List ℕ). length l) built.spelled;
  told = record { there = λ before holds. told.there before holds ∙ ap Some built.spelled; only = λ said is. told.only said is ∙ built.spelled };
}

-- the entry of the block that a record closed
pub block_entry : {X : Type 0} (seen : SeenExtents X) (options : FileOptions) (opened held : Option (List ℕ)) (history : List Rec) (r : Rec) (p mid : Planning) (next : Next) (blk : Block) (e : Entry X) (bytes : ℕ) → next ≡ nexts.Block blk → Planned p r next mid
    → p.phase ≡ phases.Going → bytes ≡ p.bytes → IsEntryWith e e.extent bytes blk → seen.size e.extent ≡ length blk.bytes → TellsPiece (seen.tells e.extent) seen.held blk.bytes
    → ScribeStands options opened held history p → GivesEntry seen options history r (Some e)
block_entry seen options opened held history r p mid next blk e bytes is planned going place with_it long told stands =
    let (plans, first) = stands.going going in
    let made = planned options history plans in
    let (records, closes, built) : (records : List Rec) × ClosesPiece options.chunk options.span history r (block records) × IsBlock blk records = subst (λ (n : Next). IsToAppend options.chunk options.span history r n) is made.next_is in
    let offset : bytes ≡ length (written_of options history) = place ∙ plans.bytes in
    (records, closes, entry_of_block seen e (length (written_of options history)) blk records (subst (λ (n : ℕ). IsEntryWith e e.extent n blk) offset with_it) built long told)

-- ---- the last block

abbrev pub Lasts : Planning → Option Block → Planning → Type 0
Lasts p last mid = (options : FileOptions) (history : List Rec) → Plans options history p → IsLastBlock options history last mid

pub adds_last : (options : FileOptions) (opened held now : Option (List ℕ)) (history : List Rec) (p mid after : Planning) (last : Option Block) (blk : Block) → last ≡ Some blk → Lasts p last mid → after ≡ mid → p.phase ≡ phases.Going
    → Adds held now blk.bytes → ScribeStands options opened held history p → AddsLast options opened now history after
adds_last options opened held now history p mid after last blk is lasts same going adds stands =
    let (plans, first) = stands.going going in
    let made : IsLastBlock options history (Some blk) mid = subst (λ (x : Option Block). IsLastBlock options history x mid) is (lasts options history plans) in
    let piece : Adds held now (piece_bytes (block (cuts options.chunk options.span history).waiting)) = subst (λ (l : List ℕ). Adds held now l) made.last_block.1.spelled adds in
    subst (λ (q : Planning). AddsLast options opened now history q) (sym same) (record {
      whole = made.whole;
      adds = adds_more opened held now (front options.profile) (cuts options.chunk options.span history).pieces (pieces_of options.chunk options.span history) (block (cuts options.chunk options.span history).waiting)
          (whole_some options.chunk options.span history (block (cuts options.chunk options.span history).waiting) made.last_block.0) first piece;
    })

pub adds_none : (options : FileOptions) (opened held : Option (List ℕ)) (history : List Rec) (p mid : Planning) (last : Option Block) → last ≡ None → Lasts p last mid → p.phase ≡ phases.Going
    → ScribeStands options opened held history p → AddsLast options opened held history mid
adds_none options opened held history p mid last is lasts going stands =
    let (plans, first) = stands.going going in
    let made : IsLastBlock options history None mid = subst (λ (x : Option Block). IsLastBlock options history x mid) is (lasts options history plans) in
    record {
      whole = made.whole;
      adds = subst (λ (l : List Piece). Adds opened held (front options.profile ++ pieces_bytes l)) (sym (whole_none options.chunk options.span history made.last_block)) first;
    }

pub last_entry : {X : Type 0} (seen : SeenExtents X) (options : FileOptions) (opened held : Option (List ℕ)) (history : List Rec) (p mid : Planning) (last : Option Block) (blk : Block) (e : Entry X) (bytes : ℕ)
    → last ≡ Some blk → Lasts p last mid → p.phase ≡ phases.Going → bytes ≡ p.bytes → IsEntryWith e e.extent bytes blk → seen.size e.extent ≡ length blk.bytes
    → TellsPiece (seen.tells e.extent) seen.held blk.bytes → ScribeStands options opened held history p → GivesLast seen options history (Some e)
last_entry seen options opened held history p mid last blk e bytes is lasts going place with_it long told stands =
    let (plans, first) = stands.going going in
    let made : IsLastBlock options history (Some blk) mid = subst (λ (x : Option Block). IsLastBlock options history x mid) is (lasts options history plans) in
    let offset : bytes ≡ length (written_of options history) = place ∙ plans.bytes in (
      made.last_block.0,
      entry_of_block seen e (length (written_of options history)) blk (cuts options.chunk options.span history).waiting
          (subst (λ (n : ℕ). IsEntryWith e e.extent n blk) offset with_it) made.last_block.1 long told,
    )

stops_so : (options : FileOptions) (extras : List Top) (opened now : Option (List ℕ)) (history : List Rec) (p : Planning) (stop : Stop) (blocks bytes : ℕ) → StoppedBefore blocks bytes stop p → StopsAt options extras history opened now stop (numbers blocks bytes)
    → StopsAt options extras history opened now stop (numbers p.blocks p.bytes)
stops_so options extras opened now history p stop blocks bytes before stops =
    subst (λ (n : ℕ). StopsAt options extras history opened now stop (numbers n p.bytes)) (sym before.blocks_are) (subst (λ (n : ℕ). StopsAt options extras history opened now stop (numbers blocks n)) (sym before.bytes_are) stops)

pub block_last_refused : (options : FileOptions) (extras : List Top) (opened held now : Option (List ℕ)) (history : List Rec) (p mid after : Planning) (last : Option Block) (blk : Block) (stop : Stop) (blocks bytes : ℕ) → last ≡ Some blk → Lasts p last mid
    → HoldsBlock p.blocks p.bytes last → blocks ≡ p.blocks → bytes ≡ p.bytes → StoppedBefore blocks bytes stop after → p.phase ≡ phases.Going → Added held now blk.bytes (Err stop) → ScribeStands options opened held history p
    → StopsAt options extras history opened now stop (numbers after.blocks after.bytes)
block_last_refused options extras opened held now history p mid after last blk stop blocks bytes is lasts room same_b same_n before going added stands =
    let (plans, first) = stands.going going in
    let made : IsLastBlock options history (Some blk) mid = subst (λ (x : Option Block). IsLastBlock options history x mid) is (lasts options history plans) in
    let records = (cuts options.chunk options.span history).waiting in
    let built = made.last_block.1 in
    let piece : Added held now (piece_bytes (block records)) (Err stop) = subst (λ (l : List ℕ). Added held now l (Err stop)) built.spelled added in
    let fits = piece_of_block p.blocks p.bytes blk records built (subst (λ (x : Option Block). HoldsBlock p.blocks p.bytes x) is room) in
    let stopped : StoppedBefore p.blocks p.bytes stop after = record { phase = before.phase; blocks_are = before.blocks_are ∙ same_b; bytes_are = before.bytes_are ∙ same_n } in
    stops_so options extras opened now history after stop p.blocks p.bytes stopped
    (last_append_refused options extras opened held now history (block records) stop p.blocks p.bytes (holding options opened held history p going stands) made.last_block.0 fits piece)

pub last_stopped : (options : FileOptions) (extras : List Top) (opened held : Option (List ℕ)) (history : List Rec) (p after : Planning) (stop : Stop) → p.phase ≡ phases.Going
    → ((o : FileOptions) (h : List Rec) → Plans o h p → LastStopped o.chunk o.span h p.blocks p.bytes stop) → StoppedBefore p.blocks p.bytes stop after → ScribeStands options opened held history p
    → StopsAt options extras history opened held stop (numbers after.blocks after.bytes)
last_stopped options extras opened held history p after stop going refused before stands =
    stops_so options extras opened held history after stop p.blocks p.bytes before
    (last_refused options extras opened held history stop p.blocks p.bytes (holding options opened held history p going stands) (refused options history (stands.going going).0))

-- ---- the extras

file_whole : (options : FileOptions) (extras : List Top) (history : List Rec) → section options extras history ++ back_of options extras history ≡ file_of options extras history
unfolding file_of
file_whole options extras history = sym (append_assoc (section options extras history) data_end (tail_by options.chunk (noted options extras history) (length (section options extras history ++ data_end))))

noted_none : (options : FileOptions) (history : List Rec) → noted_of (length (front options.profile)) history (pieces_of options.chunk options.span history) ≡ noted options [] history
noted_none options history = ap with_extras (sym (append-nil (alone_from (length (front options.profile)) (pieces_of options.chunk options.span history))))
  where
    with_extras : List (ℕ × Top) → Noted
    with_extras l = record { records = body_of history; blocks = blocks_from (length (front options.profile)) (pieces_of options.chunk options.span history); extras = l }

-- behind the pieces no extras stand yet
pub fills_none : (options : FileOptions) (opened now : Option (List ℕ)) (history : List Rec) (p : Planning) → AddsLast options opened now history p → FillsExtras options [] opened now history p
fills_none options opened now history p lasts =
    let whole = lasts.whole in
    let ps = pieces_bytes (pieces_of options.chunk options.span history) in
    let same : front options.profile ++ ps ≡ section options [] history = ap (λ (l : List ℕ). front options.profile ++ l) (sym (append-nil ps)) in
    record {
      filled = record {
        body = subst (λ (n : Noted). SummaryFor options.chunk n p.body) (noted_none options history) whole.body;
        blocks = whole.blocks;
        bytes = whole.bytes ∙ ap (λ (l : List ℕ). length l) same;
        contents = whole.contents;
      };
      adds = subst (λ (l : List ℕ). Adds opened now l) same lasts.adds;
    }

section_more : (options : FileOptions) (extras : List Top) (t : Top) (history : List Rec) → section options (extras ++ t ∷ []) history ≡ section options extras history ++ top_bytes t
section_more options extras t history =
    let ps = pieces_bytes (pieces_of options.chunk options.span history) in
    ap (λ (l : List ℕ). front options.profile ++ (ps ++ l)) (flat_map-append top_bytes extras (t ∷ []) ∙ ap (λ (l : List ℕ). spelled extras ++ l) (append-nil (top_bytes t)))
    ∙ ap (λ (l : List ℕ). front options.profile ++ l) (sym (append_assoc ps (spelled extras) (top_bytes t)))
    ∙ sym (append_assoc (front options.profile) (ps ++ spelled extras) (top_bytes t))

pub wholly : (options : FileOptions) (extras : List Top) (opened held : Option (List ℕ)) (history : List Rec) (p : Planning) → FillsExtras options extras opened held history p → Wholly options extras opened held history p.blocks p.bytes
wholly options extras opened held history p fills = (fills.adds, fills.filled.blocks, fills.filled.bytes, fills.filled.contents)

pub fills_more : (options : FileOptions) (extras : List Top) (t : Top) (opened held now : Option (List ℕ)) (history : List Rec) (p after : Planning) (piece : List ℕ) → piece ≡ top_bytes t → IsFilled options (extras ++ t ∷ []) history after
    → Adds held now piece → FillsExtras options extras opened held history p → FillsExtras options (extras ++ t ∷ []) opened now history after
fills_more options extras t opened held now history p after piece is filled adds fills = record {
  filled = filled;
  adds = subst (λ (l : List ℕ). Adds opened now l) (ap (λ (l : List ℕ). section options extras history ++ l) is ∙ sym (section_more options extras t history)) (adds-adds opened held now (section options extras history) piece fills.adds adds);
}

-- the front's bytes are among those of a file's section
section_begun : (options : FileOptions) (extras : List Top) (history : List Rec) → length (front options.profile) ≤ length (section options extras history)
section_begun options extras history = omega (arith, length-append (front options.profile) (pieces_bytes (pieces_of options.chunk options.span history) ++ spelled extras))

fills_begun : (options : FileOptions) (extras : List Top) (opened held : Option (List ℕ)) (history : List Rec) (p : Planning) → FillsExtras options extras opened held history p → length (front options.profile) ≤ p.bytes
fills_begun options extras opened held history p fills = let long = fills.filled.bytes in omega (arith, long, section_begun options extras history)

-- an extra stopped the writer
extra_so : (options : FileOptions) (extras : List Top) (opened now : Option (List ℕ)) (history : List Rec) (p : Planning) (stop : Stop) (blocks bytes : ℕ) → StoppedBefore blocks bytes stop p → length (front options.profile) ≤ bytes
    → StopsAt options extras history opened now stop (numbers blocks bytes) → StopsBehind options extras history opened now stop (numbers p.blocks p.bytes)
extra_so options extras opened now history p stop blocks bytes before begun stops = record {
  stops = stops_so options extras opened now history p stop blocks bytes before stops;
  begun = let same = before.bytes_are in omega (arith, begun, same);
}

pub extra_stopped : (options : FileOptions) (extras : List Top) (t : Top) (behind : List Top) (opened held : Option (List ℕ)) (history : List Rec) (p after : Planning) (framed : List ℕ) (stop : Stop) → framed ≡ top_bytes t
    → ExtraStopped p.blocks p.bytes framed stop → StoppedBefore p.blocks p.bytes stop after → FillsExtras options extras opened held history p
    → StopsBehind options (extras ++ t ∷ behind) history opened held stop (numbers after.blocks after.bytes)
extra_stopped options extras t behind opened held history p after framed stop is why before fills =
    extra_so options (extras ++ t ∷ behind) opened held history after stop p.blocks p.bytes before (fills_begun options extras opened held history p fills)
    (extra_refused options extras t behind opened held history stop p.blocks p.bytes (wholly options extras opened held history p fills) (subst (λ (l : List ℕ). ExtraStopped p.blocks p.bytes l stop) is why))

pub extra_not_appended : (options : FileOptions) (extras : List Top) (t : Top) (behind : List Top) (opened held now : Option (List ℕ)) (history : List Rec) (p after : Planning) (framed : List ℕ) (stop : Stop) (blocks bytes : ℕ) → framed ≡ top_bytes t
    → Holds p.blocks (p.bytes + length framed) → blocks ≡ p.blocks → bytes ≡ p.bytes → StoppedBefore blocks bytes stop after → Added held now framed (Err stop) → FillsExtras options extras opened held history p
    → StopsBehind options (extras ++ t ∷ behind) history opened now stop (numbers after.blocks after.bytes)
extra_not_appended options extras t behind opened held now history p after framed stop blocks bytes is holds same_b same_n before added fills =
    let stopped : StoppedBefore p.blocks p.bytes stop after = record { phase = before.phase; blocks_are = before.blocks_are ∙ same_b; bytes_are = before.bytes_are ∙ same_n } in
    extra_so options (extras ++ t ∷ behind) opened now history after stop p.blocks p.bytes stopped (fills_begun options extras opened held history p fills)
    (extra_append_refused options extras t behind opened held now history stop p.blocks p.bytes (wholly options extras opened held history p fills) (subst (λ (l : List ℕ). Holds p.blocks (p.bytes + length l)) is holds) (subst (λ (l : List ℕ). Added held now l (Err stop)) is added))

-- ---- the back

pub back_ends : (options : FileOptions) (extras : List Top) (opened held now : Option (List ℕ)) (history : List Rec) (p after : Planning) (piece : List ℕ) → ((o : FileOptions) (e : List Top) (h : List Rec) → IsFilled o e h p → piece ≡ back_of o e h)
    → after.blocks ≡ p.blocks → after.bytes ≡ p.bytes + length piece → Adds held now piece → FillsExtras options extras opened held history p → Ends options extras opened now history (numbers after.blocks after.bytes) (Ok tt)
back_ends options extras opened held now history p after piece is many long adds fills =
    let filled = fills.filled in
    let back : piece ≡ back_of options extras history = is options extras history filled in
    let start = section options extras history in
    let all : start ++ piece ≡ file_of options extras history = ap (λ (l : List ℕ). start ++ l) back ∙ file_whole options extras history in (
      subst (λ (l : List ℕ). Adds opened now l) all (adds-adds opened held now start piece fills.adds adds),
      many ∙ filled.blocks,
      long ∙ ap (λ (n : ℕ). n + length piece) filled.bytes ∙ sym (length-append start piece) ∙ ap (λ (l : List ℕ). length l) all,
      filled.contents,
    )

pub back_stopped : (options : FileOptions) (extras : List Top) (opened held : Option (List ℕ)) (history : List Rec) (p after : Planning) (stop : Stop)
    → ((o : FileOptions) (e : List Top) (h : List Rec) → IsFilled o e h p → BackStopped o e h p.blocks p.bytes stop) → StoppedBefore p.blocks p.bytes stop after → FillsExtras options extras opened held history p
    → StopsAt options extras history opened held stop (numbers after.blocks after.bytes)
back_stopped options extras opened held history p after stop refused before fills =
    stops_so options extras opened held history after stop p.blocks p.bytes before
    (back_refused options extras opened held history stop p.blocks p.bytes (wholly options extras opened held history p fills) (refused options extras history fills.filled))

pub back_not_appended : (options : FileOptions) (extras : List Top) (opened held now : Option (List ℕ)) (history : List Rec) (p after : Planning) (piece : List ℕ) (stop : Stop) (blocks bytes : ℕ) → ((o : FileOptions) (e : List Top) (h : List Rec) → IsFilled o e h p → piece ≡ back_of o e h)
    → Holds p.blocks (p.bytes + length piece) → blocks ≡ p.blocks → bytes ≡ p.bytes → StoppedBefore blocks bytes stop after → Added held now piece (Err stop) → FillsExtras options extras opened held history p
    → StopsAt options extras history opened now stop (numbers after.blocks after.bytes)
back_not_appended options extras opened held now history p after piece stop blocks bytes is holds same_b same_n before added fills =
    let back : piece ≡ back_of options extras history = is options extras history fills.filled in
    let stopped : StoppedBefore p.blocks p.bytes stop after = record { phase = before.phase; blocks_are = before.blocks_are ∙ same_b; bytes_are = before.bytes_are ∙ same_n } in
    stops_so options extras opened now history after stop p.blocks p.bytes stopped
    (back_append_refused options extras opened held now history stop p.blocks p.bytes (wholly options extras opened held history p fills) (subst (λ (l : List ℕ). Holds p.blocks (p.bytes + length l)) back holds) (subst (λ (l : List ℕ). Added held now l (Err stop)) back added))

-- the same end, told in other numbers
pub ends_so : (options : FileOptions) (extras : List Top) (opened now : Option (List ℕ)) (history : List Rec) (blocks bytes blocks' bytes' : ℕ) (end end' : Result Unit Stop) → end' ≡ end → blocks' ≡ blocks → bytes' ≡ bytes
    → Ends options extras opened now history (numbers blocks bytes) end → Ends options extras opened now history (numbers blocks' bytes') end'
ends_so options extras opened now history blocks bytes blocks' bytes' end end' same_end same_b same_n ends =
    subst (λ (e : Result Unit Stop). Ends options extras opened now history (numbers blocks' bytes') e) (sym same_end)
    (subst (λ (n : ℕ). Ends options extras opened now history (numbers n bytes') end) (sym same_b) (subst (λ (n : ℕ). Ends options extras opened now history (numbers blocks n) end) (sym same_n) ends))

-- a history ends where the scribe had stopped
pub stopped_ends : (options : FileOptions) (extras : List Top) (opened now : Option (List ℕ)) (history : List Rec) (p : Planning) (stop : Stop) → p.phase ≡ phases.Stopped stop → ScribeStands options opened now history p
    → StopsBehind options extras history opened now stop (numbers p.blocks p.bytes)
stopped_ends options extras opened now history p stop is stands = subst (λ (l : List Rec). StopsBehind options extras l opened now stop (numbers p.blocks p.bytes)) (append-nil history) (stands.stopped stop is extras [])

-- it had not, and stopped at its last block
pub last_begun : (options : FileOptions) (opened now : Option (List ℕ)) (history : List Rec) (p : Planning) → p.phase ≡ phases.Going → ScribeStands options opened now history p → length (front options.profile) ≤ p.bytes
last_begun options opened now history p going stands = plans_begun options history p (stands.going going).0

-- ---- the front

-- the bytes of a whole file have those of its front
whole_begun : (options : FileOptions) (extras : List Top) (history : List Rec) → length (front options.profile) ≤ length (file_of options extras history)
whole_begun options extras history =
    let all = ap (λ (l : List ℕ). length l) (file_whole options extras history) in
    omega (arith, all, section_begun options extras history, length-append (section options extras history) (back_of options extras history))

-- behind the last piece no bytes are lost
pub back_begun : (options : FileOptions) (extras : List Top) (opened held now : Option (List ℕ)) (history : List Rec) (p : Planning) (blocks bytes : ℕ) (end : Result Unit Stop) → FillsExtras options extras opened held history p
    → Ends options extras opened now history (numbers blocks bytes) end → OnErr end ((blocks ≡ p.blocks) × (bytes ≡ p.bytes)) → length (front options.profile) ≤ bytes
back_begun options extras opened held now history p blocks bytes (Ok it) fills ends same = omega (arith, whole_begun options extras history, ends.2)
back_begun options extras opened held now history p blocks bytes (Err stop) fills ends same = omega (arith, same.1, fills_begun options extras opened held history p fills)
