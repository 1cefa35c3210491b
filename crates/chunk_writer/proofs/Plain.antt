-- A buffer's records, which stand at top level, are appended in one call.
use Rattle.std.proofs.Common.{◌≡◌, ℕ, ◌+◌, ◌<◌, ◌≤◌, List, [], ◌∷◌, ◌++◌, length, map, take, Option, Some, None, Ok, Err, refl, sym, ap, subst, ◌∙◌, append_assoc, append-nil, length-append, arith}
use Rattle.std.specs.List.{concat}
use Rattle.std.proofs.lemmas.List.{take_all}
use Rattle.std.proofs.lemmas.Grind.{flat_map-append}
use Rattle.mcap_wire.specs.Limits.{file_limit}
use Rattle.rec_data.specs.declared.owned.Rec.{Rec}
use Rattle.rec_data.specs.Owned.{rec_bytes}
use Rattle.mcap_io.specs.declared.outside.AppendRefused.{AppendRefused}
use Rattle.mcap_io.specs.declared.outside.AppendRefused.TheVariants as append_refusals
use Rattle.mcap_io.specs.declared.outside.EachRefused.{EachRefused}
use Rattle.mcap_io.specs.Outside.{LiveState, Adds}
use Rattle.mcap_io.specs.OutsideCalls.{AppendCause}
use Rattle.mcap_io.specs.Appending.{EachLeaves, EachCause}
use Rattle.mcap_model.specs.declared.options.FileOptions.{FileOptions}
use Rattle.mcap_model.specs.declared.ends.Stop.{Stop}
use Rattle.mcap_model.specs.declared.ends.Stop.TheVariants as stops
use Rattle.mcap_model.specs.History.{history_bytes}
use Rattle.mcap_model.specs.Blocks.{Piece, alone, Cuts, cuts, piece_bytes, pieces_bytes, block_in, blocks_in}
use Rattle.mcap_model.specs.File.{front}
use Rattle.mcap_model.specs.Histories.{written_of}
use Rattle.live_entry.specs.Entries.{SeenExtents}
use Rattle.chunk_writer.specs.declared.body.Body.{Body}
use Rattle.chunk_writer.specs.declared.phase.Phase.TheVariants as phases
use Rattle.chunk_writer.specs.declared.next.Next.TheVariants as nexts
use Rattle.chunk_writer.specs.Limits.{Holds, ContentsFit}
use Rattle.chunk_writer.specs.Bodies.{BodyFor}
use Rattle.chunk_writer.specs.Planning.{Planning}
use Rattle.chunk_writer.specs.Plans.{Plans, counted_on, StoppedBefore}
use Rattle.chunk_writer.specs.Stops.{Cause}
use Rattle.chunk_writer.specs.StopSteps.{Added, refusal}
use Rattle.chunk_writer.specs.Buffered.{framed_each, AppendRefusedAt}
use Rattle.chunk_writer.specs.Scribes.{ScribeStands, KeepsOn, GivesEntries, PutsFront, sure_blocks}
use Rattle.mcap_io.proofs.Calls.{adds-adds}
use Rattle.record_cache.proofs.Apart.{framed_bytes}
use Rattle.chunk_writer.proofs.Cuts.{cuts_more}
use Rattle.chunk_writer.proofs.Uncut.{uncut, front_of}
use Rattle.chunk_writer.proofs.Stopping.{refused_appends, added_err}
use Rattle.chunk_writer.proofs.Entries.{same_from}
use Rattle.chunk_writer.proofs.Planned.{has_none, plans_record}
use Rattle.chunk_writer.proofs.Taking.{stopped_on, keeps_more}
use Rattle.chunk_writer.proofs.Writing.{stands_going, record_refused}

-- ---- the pieces of records that stand at top level

alone_more : (span : Option ℕ) (history records : List Rec) → (cuts None span (history ++ records)).pieces ≡ (cuts None span history).pieces ++ map alone records
alone_more span history [] = ap (λ (l : List Rec). (cuts None span l).pieces) (append-nil history) ∙ sym (append-nil (cuts None span history).pieces)
alone_more span history (r ∷ rs) =
    ap (λ (l : List Rec). (cuts None span l).pieces) (sym (append_assoc history (r ∷ []) rs))
    ∙ alone_more span (history ++ r ∷ []) rs
    ∙ ap (λ (c : Cuts). c.pieces ++ map alone rs) (cuts_more None span history r)
    ∙ append_assoc (cuts None span history).pieces (alone r ∷ []) (map alone rs)

alone_bytes : (rs : List Rec) → pieces_bytes (map alone rs) ≡ history_bytes rs
alone_bytes [] = refl
alone_bytes (r ∷ rs) = ap (λ (l : List ℕ). rec_bytes r ++ l) (alone_bytes rs)

alone_blocks : (rs : List Rec) → blocks_in (map alone rs) ≡ []
alone_blocks [] = refl
alone_blocks (r ∷ rs) = alone_blocks rs

plain_more : (options : FileOptions) (history records : List Rec) → options.chunk ≡ None → (cuts options.chunk options.span (history ++ records)).pieces ≡ (cuts options.chunk options.span history).pieces ++ map alone records
plain_more options history records none = subst (λ (s : Option ℕ). (cuts s options.span (history ++ records)).pieces ≡ (cuts s options.span history).pieces ++ map alone records) (sym none) (alone_more options.span history records)

same_blocks : (options : FileOptions) (history records : List Rec) → options.chunk ≡ None → blocks_in (cuts options.chunk options.span (history ++ records)).pieces ≡ blocks_in (cuts options.chunk options.span history).pieces
same_blocks options history records none =
    let old = (cuts options.chunk options.span history).pieces in
    ap blocks_in (plain_more options history records none) ∙ flat_map-append block_in old (map alone records) ∙ ap (λ (l : List (List Rec)). blocks_in old ++ l) (alone_blocks records) ∙ append-nil (blocks_in old)

plain_written : (options : FileOptions) (history records : List Rec) → options.chunk ≡ None → written_of options (history ++ records) ≡ written_of options history ++ history_bytes records
plain_written options history records none =
    let old = (cuts options.chunk options.span history).pieces in
    let start = front options.profile in
    ap (λ (l : List Piece). start ++ pieces_bytes l) (plain_more options history records none)
    ∙ ap (λ (l : List ℕ). start ++ l) (flat_map-append piece_bytes old (map alone records) ∙ ap (λ (l : List ℕ). pieces_bytes old ++ l) (alone_bytes records))
    ∙ sym (append_assoc start (pieces_bytes old) (history_bytes records))

-- ---- the plan, with all of them

pub whole_plans : (options : FileOptions) (history records : List Rec) (p : Planning) (len : ℕ) → p.body ≡ None → len ≡ length (history_bytes records) → Plans options history p → Plans options (history ++ records) (counted_on p len)
whole_plans options history records p len is long plans =
    let none = has_none options history p is plans in
    let at = length (front options.profile) in
    let all = ap (λ (l : List ℕ). length l) (plain_written options history records none) in
    let old = plans.bytes in
    record {
      body = subst (λ (s : Option ℕ). BodyFor s options.span at (history ++ records) p.body) (sym none) (subst (λ (x : Option Body). BodyFor None options.span at (history ++ records) x) (sym is) tt);
      blocks = plans.blocks ∙ ap (λ (l : List (List Rec)). length l) (sym (same_blocks options history records none));
      bytes = omega (arith, all, old, long, length-append (written_of options history) (history_bytes records));
      contents = subst (λ (l : List (List Rec)). ContentsFit options.profile l) (sym (same_blocks options history records none)) plans.contents;
    }

pub whole_put : (options : FileOptions) (opened held now : Option (List ℕ)) (history records : List Rec) (p after : Planning) (len : ℕ) → p.body ≡ None → p.phase ≡ phases.Going → after ≡ counted_on p len → len ≡ length (history_bytes records)
    → Adds held now (history_bytes records) → ScribeStands options opened held history p → ScribeStands options opened now (history ++ records) after
whole_put options opened held now history records p after len is going same long adds stands =
    let (plans, first) = stands.going going in
    let none = has_none options history p is plans in
    subst (λ (q : Planning). ScribeStands options opened now (history ++ records) q) (sym same)
    (stands_going options opened now (history ++ records) (counted_on p len) going (whole_plans options history records p len is long plans)
    (subst (λ (l : List ℕ). Adds opened now l) (sym (plain_written options history records none)) (adds-adds opened held now (written_of options history) (history_bytes records) first adds)))

-- they would pass what a file may hold
pub past_limit : (options : FileOptions) (history records : List Rec) (p after : Planning) → options.chunk ≡ None → Plans options history p → Plans options (history ++ records) after
    → file_limit < p.bytes + length (history_bytes records) → Holds after.blocks after.bytes → ⊥
past_limit options history records p after none before behind past holds =
    let all = ap (λ (l : List ℕ). length l) (plain_written options history records none) in
    let old = before.bytes in
    let new = behind.bytes in
    let small = holds.small in
    omega (arith, all, old, new, small, past, length-append (written_of options history) (history_bytes records))

-- ---- no entries

plain_entries : {X : Type 0} (seen : SeenExtents X) (options : FileOptions) (history records : List Rec) → options.chunk ≡ None → GivesEntries seen options history records []
plain_entries seen options history records none = record {
  closed = [];
  sure = same_from (length (front options.profile)) (cuts options.chunk options.span history).pieces (cuts options.chunk options.span (history ++ records)).pieces (map alone records) (plain_more options history records none) (same_blocks options history records none)
      ∙ sym (append-nil (sure_blocks options history));
  each = tt;
}

pub whole_front : {X : Type 0} (seen : SeenExtents X) (options : FileOptions) (opened held : Option (List ℕ)) (history records : List Rec) (p : Planning) (bytes len : ℕ) → p.body ≡ None → p.phase ≡ phases.Going → bytes ≡ p.bytes + len → len ≡ length (history_bytes records)
    → ScribeStands options opened held history p → PutsFront seen options history records [] bytes (Ok tt)
whole_front seen options opened held history records p bytes len is going same long stands =
    let plans = (stands.going going).0 in
    let all : take (length records) records ≡ records = take_all (length records) records (omega arith) in
    record {
      count = length records;
      entries_are = plain_entries seen options history (take (length records) records) (has_none options history p is plans);
      bytes_are = same ∙ (whole_plans options history records p len is long plans).bytes ∙ ap (λ (l : List Rec). length (written_of options (history ++ l))) (sym all);
      all = refl;
      before = tt;
    }

pub stopped_front : {X : Type 0} (seen : SeenExtents X) (options : FileOptions) (opened held now : Option (List ℕ)) (history records : List Rec) (p : Planning) (bytes at : ℕ) (stop : Stop) → p.body ≡ None → p.phase ≡ phases.Going → bytes ≡ p.bytes + at → AppendRefusedAt held now records at stop
    → ScribeStands options opened held history p → PutsFront seen options history records [] bytes (Err stop)
stopped_front seen options opened held now history records p bytes at stop is going same cut stands =
    let plans = (stands.going going).0 in
    let front = front_of records cut.before cut.rec cut.behind cut.cut in
    let sizes = ap (λ (l : List Rec). length l) cut.cut in
    record {
      count = length cut.before;
      entries_are = plain_entries seen options history (take (length cut.before) records) (has_none options history p is plans);
      bytes_are = same ∙ (whole_plans options history cut.before p at is cut.place plans).bytes ∙ ap (λ (l : List Rec). length (written_of options (history ++ l))) (sym front);
      all = tt;
      before = omega (arith, sizes, length-append cut.before (cut.rec ∷ cut.behind));
    }

-- ---- where an append was refused

pub plain_refused : (options : FileOptions) (opened held now : Option (List ℕ)) (history records : List Rec) (p after : Planning) (at : ℕ) (stop : Stop) → p.body ≡ None → p.phase ≡ phases.Going → AppendRefusedAt held now records at stop
    → Holds p.blocks (p.bytes + length (history_bytes records)) → StoppedBefore p.blocks (p.bytes + at) stop after → ScribeStands options opened held history p → ScribeStands options opened now (history ++ records) after
plain_refused options opened held now history records p after at stop is going cut holds before stands =
    let one = rec_bytes cut.rec in
    let place = cut.place in
    let split : history_bytes records ≡ history_bytes cut.before ++ (one ++ history_bytes cut.behind) =
    ap history_bytes cut.cut ∙ flat_map-append rec_bytes cut.before (cut.rec ∷ cut.behind) in
    let mid = counted_on p at in
    let stood = whole_put options opened held cut.between history cut.before p mid at is going refl place cut.front stands in
    let few = holds.few in
    let small = holds.small in
    let sizes = ap (λ (l : List ℕ). length l) split in
    let fits : Holds p.blocks ((p.bytes + at) + length one) = record {
      few = few;
      small = omega (arith, small, sizes, place, length-append (history_bytes cut.before) (one ++ history_bytes cut.behind), length-append one (history_bytes cut.behind));
    } in
    let stopped = record_refused options opened cut.between now (history ++ cut.before) cut.rec mid (counted_on mid (length one)) after nexts.Record one stop p.blocks (p.bytes + at) refl refl
    (λ o h plans. plans_record o h cut.rec mid one p.phase (length one) is refl refl plans) fits refl refl before going cut.added stood in
    let all : ((history ++ cut.before) ++ cut.rec ∷ []) ++ cut.behind ≡ history ++ records =
    ap (λ (l : List Rec). l ++ cut.behind) (append_assoc history cut.before (cut.rec ∷ [])) ∙ append_assoc history (cut.before ++ cut.rec ∷ []) cut.behind
    ∙ ap (λ (l : List Rec). history ++ l) (append_assoc cut.before (cut.rec ∷ []) cut.behind ∙ sym cut.cut) in
    subst (λ (l : List Rec). ScribeStands options opened now l after) all (stopped_on options opened now ((history ++ cut.before) ++ cut.rec ∷ []) cut.behind after stop before.phase stopped)

-- it begins within the bytes of all
pub refused_within : (held now : Option (List ℕ)) (records : List Rec) (at : ℕ) (stop : Stop) → AppendRefusedAt held now records at stop → at ≤ length (history_bytes records)
refused_within held now records at stop cut =
    let place = cut.place in
    let sizes = ap (λ (l : List ℕ). length l) (ap history_bytes cut.cut ∙ flat_map-append rec_bytes cut.before (cut.rec ∷ cut.behind)) in
    omega (arith, place, sizes, length-append (history_bytes cut.before) (rec_bytes cut.rec ++ history_bytes cut.behind))

added_keeps : (held now : Option (List ℕ)) (piece : List ℕ) (stop : Stop) → Added held now piece (Err stop) → KeepsOn held now
added_keeps held now piece (stops.Fault faults) added = λ before told. let part = added before told in (take part.0 piece, part.3)
added_keeps held now piece (stops.Limit b n) added = absurd added
added_keeps held now piece stops.Memory added = λ before told. ([], added ∙ told ∙ ap Some (sym (append-nil before)))

pub refused_keeps : (held now : Option (List ℕ)) (records : List Rec) (at : ℕ) (stop : Stop) → AppendRefusedAt held now records at stop → KeepsOn held now
refused_keeps held now records at stop cut = keeps_more held cut.between now (λ before told. (history_bytes cut.before, cut.front before told)) (added_keeps cut.between now (rec_bytes cut.rec) stop cut.added)

-- ---- what the store answered

pub each_refused : (old new : Option (List ℕ)) (records : List Rec) (refused : EachRefused) (faults : ℕ) (stop : Stop) → EachLeaves old new (framed_each records) refused → stop ≡ refusal faults refused.why → AppendRefusedAt old new records refused.whole stop
each_refused old new records refused faults stop leaves same =
    let it = uncut records leaves.at.before leaves.at.piece leaves.at.behind leaves.at.cut in
    let mid : LiveState = record { held = leaves.between; faults = 0; waiting = 0 } in
    let now : LiveState = record { held = new; faults = 0; waiting = 0 } in
    let appends = refused_appends {X = Unit {0}} (λ e. None) (λ e. 0) mid now leaves.at.piece faults refused.why stop same leaves.leaves in
    record {
      before = it.front;
      rec = it.rec;
      behind = it.behind;
      cut = it.cut;
      place = leaves.at.place ∙ ap (λ (l : List ℕ). length l) it.front_is;
      between = leaves.between;
      front = subst (λ (l : List ℕ). Adds old leaves.between l) it.front_is leaves.front;
      added = subst (λ (l : List ℕ). Added leaves.between new l (Err stop)) it.piece_is (added_err {X = Unit {0}} (λ e. None) (λ e. 0) mid now leaves.at.piece stop appends);
    }

pub each_added : (old new : Option (List ℕ)) (records : List Rec) → Adds old new (concat (framed_each records)) → Adds old new (history_bytes records)
each_added old new records adds = subst (λ (l : List ℕ). Adds old new l) (framed_bytes records) adds

why_cause : (before now : ℕ) (why : AppendRefused) → AppendCause {T = Unit} before now (Err why) → Cause {X = Unit} before now (Err (refusal now why))
why_cause before now (append_refusals.Failed taken) cause = (cause, refl)
why_cause before now append_refusals.Memory cause = cause

pub each_cause : (before now : ℕ) (refused : EachRefused) (stop : Stop) → EachCause before now (Err refused) → stop ≡ refusal now refused.why → Cause {X = Unit} before now (Err stop)
each_cause before now refused stop cause same = subst (λ (s : Stop). Cause {X = Unit} before now (Err s)) (sym same) (why_cause before now refused.why cause)
