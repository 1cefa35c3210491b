-- The steps of a reader.
use Rattle.std.proofs.Common.{◌≡◌, ℕ, ◌+◌, ◌-◌, ◌^◌, ◌<◌, ◌≤◌, min, Bool, true, false, eqb, List, [], ◌∷◌, ◌++◌, length, take, drop, ◌⊎◌, Option, Some, None, refl, sym, ap, subst, inl, inr, ◌∙◌, append_assoc, arith}
use Rattle.std.specs.Prelude.{nat_lt, if◌then◌else◌}
use Rattle.std.proofs.lemmas.Bool.{or_parts, ltb-false, eqb-true, eqb-false}
use Rattle.std.proofs.lemmas.List.{length-append, take-append-drop}
use Rattle.mcap_wire.specs.Layout.{magic}
use Rattle.mcap_io.specs.Outside.{SourceState, RisesOnce}
use Rattle.mcap_model.specs.Tops.{Top, Tops, top_bytes, spelled, offset_behind, opcode, declared_length, behind_first, flat}
use Rattle.mcap_model.specs.Rules.{V1, HasDataEnd, Breaks}
use Rattle.mcap_model.specs.Kept.{reading_limits, is_beyond, NamesCompression, Fits, Good, Kept, Halt, at_end, grammar, compressed, beyond, IsDue, IsPacked, HaltsThere, packed_chunk, broken_rule, no_magic, at_data_end, behind_kept, HaltsAt}
use Rattle.mcap_model.proofs.Places.{at_none, each_more, each_at}
use Rattle.mcap_model.proofs.Readings.{Begun, begun, length-top, fits_opcode, halts_are_last, good_from_the_front}
use Rattle.mcap_model.specs.declared.refusals.ReadingRefused.{ReadingRefused}
use Rattle.mcap_model.specs.declared.refusals.ReadingRefused.TheVariants as refusals
use Rattle.mcap_scan.specs.declared.answers.Step.{Step}
use Rattle.mcap_scan.specs.declared.answers.Step.TheVariants as steps
use Rattle.mcap_scan.specs.declared.reader.Stage.{Stage}
use Rattle.mcap_scan.specs.declared.reader.Stage.TheVariants as stages
use Rattle.mcap_scan.specs.declared.reader.Reader.{Reader}
use Rattle.mcap_model.specs.declared.tables.Tables.{Tables}
use Rattle.mcap_model.specs.declared.tops.Judged.{Judged}
use Rattle.mcap_model.specs.declared.tops.Judged.TheVariants as judged
use Rattle.mcap_model.specs.Made.{top}
use Rattle.mcap_model.specs.Declarations.{TablesOf}
use Rattle.mcap_model.specs.Judging.{KeepsRules, JudgedAs}
use Rattle.mcap_model.specs.WantsOfMemory.{NamesNoCompression, MayWantMemory}
use Rattle.mcap_model.proofs.Judging.{fits_may_want}
use Rattle.mcap_model.proofs.TakenRecords.{ended_more, spelled_more, halted, unended_more}
use Rattle.mcap_model.proofs.Unpacking.{left_behind}
use Rattle.mcap_model.proofs.Prefixes.{next_stands}
use Rattle.mcap_model.specs.declared.rules.Rule.{Rule}
use Rattle.mcap_model.specs.declared.rules.Rule.TheVariants as rules
use Rattle.mcap_scan.specs.Sources.{ReadFromFront, unread_behind, IsCutOff}
use Rattle.mcap_scan.specs.Taking.{RefusalCause, MagicRefused, RecordRefused, TakesFrontRecord, IsTakable}
use Rattle.mcap_scan.proofs.Taking.{unread_broken}
use Rattle.mcap_scan.specs.Scanning.{content_of, IsUnfinished, IsEnded, IsFresh, StageStands, Stands, Advanced, RefusedAt, Given, IsGoing, Moves}
use Rattle.mcap_scan.specs.RefusedReadings.{HaltsSo, MemoryStands, RefusalStands}

-- ---- where a reading halts

-- what stands behind the records halts the reading, and leaves so much
halts_so : (tables : Tables) (offset : ℕ) (before now now_new : SourceState) (tops : List Top) (halt : Halt) → IsUnfinished tables offset before now tops → now_new.faults ≡ now.faults
    → ((rest : List ℕ) → now.left ≡ Some rest → HaltsThere reading_limits tops rest halt × (now_new.left ≡ Some (unread_behind rest halt))) → HaltsSo before now_new tops halt
halts_so tables offset before now now_new tops halt was same there = record {
  still = same ∙ was.still;
  halts = λ bytes known. let r = was.read bytes known in let t = there r.0 r.1 in halted bytes tops r.0 halt r.2 was.good was.unended t.0;
  leaves = λ bytes known. let r = was.read bytes known in let t = there r.0 r.1 in inr (r.0, r.2, t.1);
}

pub ended_so : (tables : Tables) (offset : ℕ) (before now : SourceState) (tops : List Top) → IsEnded tables offset before now tops → HaltsSo before now tops (at_end offset)
ended_so tables offset before now tops was = record {
  still = was.still;
  halts = λ bytes known.
      let r = was.read bytes known in
      record {
        kept = halts_are_last bytes tops r.0 (at_end offset) r.2 was.good (inl was.ended);
        there = subst (λ (n : ℕ). HaltsAt reading_limits bytes tops (at_end n)) (sym was.place) (at_data_end r.0 r.2 was.ended);
      };
  leaves = λ bytes known. let r = was.read bytes known in inr (r.0, r.2, r.1);
}

-- ---- refusals before a record was taken

part_given : (bytes : List ℕ) (tops : List Top) (rest : List ℕ) (n : ℕ) → Tops bytes tops rest → bytes ≡ (magic ++ (spelled tops ++ take n rest)) ++ drop n rest
part_given bytes tops rest n stands =
    stands.split
    ∙ ap (λ (l : List ℕ). magic ++ (spelled tops ++ l)) (sym (take-append-drop n rest))
    ∙ ap (λ (l : List ℕ). magic ++ l) (sym (append_assoc (spelled tops) (take n rest) (drop n rest)))
    ∙ sym (append_assoc magic (spelled tops ++ take n rest) (drop n rest))

-- a part of the bytes that is cut off in the next record
cut_off : (part : List ℕ) (tops : List Top) (rest : List ℕ) (offset : ℕ) → offset ≡ offset_behind tops → Tops part tops rest → Good reading_limits tops → (HasDataEnd tops → ⊥) → HaltsThere reading_limits tops rest (grammar offset rules.V4) → IsCutOff part tops
cut_off part tops rest offset place stands good unended there = record {
  kept = halts_are_last part tops rest (grammar offset rules.V4) stands good (inr there);
  cut = inr (subst (λ (n : ℕ). HaltsAt reading_limits part tops (grammar n rules.V4)) place (behind_kept rest stands unended (grammar offset rules.V4) there));
}

pub record_refused : (tables : Tables) (offset : ℕ) (before now now_new : SourceState) (tops : List Top) (why : ReadingRefused) → IsUnfinished tables offset before now tops
    → RefusalCause now.faults now_new.faults why → ((rest : List ℕ) → now.left ≡ Some rest → RecordRefused rest offset now_new.left why) → RefusalStands why before now_new tops
record_refused tables offset before now now_new tops (refusals.Fault faults) was cause refused = record {
  rises = subst (λ (n : ℕ). RisesOnce n now_new.faults) was.still cause.0;
  carried = cause.1;
  leaves = λ bytes known.
      let r = was.read bytes known in
      let f = refused r.0 r.1 in
      let part = magic ++ (spelled tops ++ take f.0 r.0) in
      record {
        part = part;
        rest = drop f.0 r.0;
        split = part_given bytes tops r.0 f.0 r.2;
        left_is = f.1;
        cut_off = cut_off part tops (take f.0 r.0) offset was.place (record { split = refl }) was.good was.unended (f.2 tops was.place);
      };
}
record_refused tables offset before now now_new tops (refusals.Grammar at rule) was cause refused =
    halts_so tables offset before now now_new tops (grammar at rule) was cause (λ rest there. let f = refused rest there in (f.0 tops was.place, f.1))
record_refused tables offset before now now_new tops (refusals.Compressed at name) was cause refused =
    halts_so tables offset before now now_new tops (compressed at name) was cause (λ rest there. absurd (refused rest there))
record_refused tables offset before now now_new tops (refusals.Limit at) was cause refused =
    halts_so tables offset before now now_new tops (beyond at) was cause (λ rest there. let f = refused rest there in (f.0 tops was.place, f.1))
record_refused tables offset before now now_new tops refusals.Memory was cause refused = record {
  still = cause ∙ was.still;
  good = was.good;
  leaves = λ bytes known.
      let r = was.read bytes known in
      elim (refused r.0 r.1) [
        | inl all ↦ inr (r.0, r.2, inl all)
        | inr head ↦ inr (r.0, r.2, inr (head.0 tops was.place, inl head.1))
      ];
}

-- ---- the magic

none_good : Good reading_limits []
none_good n t at = absurd (at_none n t at)

-- bytes without the magic keep nothing
kept_none : (bytes : List ℕ) → (V1 bytes → ⊥) → Kept reading_limits bytes []
kept_none bytes none = record {
  stands = inl refl;
  good = none_good;
  longest = λ others begins good. elim begins [
    | inl empty ↦ let size = ap length empty in omega (arith, size)
    | inr there ↦ let stands = there.1 in absurd (none (spelled others ++ there.0, stands.split))
  ];
}

short_magic : (bytes : List ℕ) → length bytes < 8 → V1 bytes → ⊥
short_magic bytes few (rest, split) = omega (arith, few, ap length split, length-append magic rest)

pub magic_refused : (tables : Tables) (offset : ℕ) (before now now_new : SourceState) (tops : List Top) (why : ReadingRefused) → IsFresh tables offset before now tops
    → RefusalCause now.faults now_new.faults why → ((bytes : List ℕ) → now.left ≡ Some bytes → MagicRefused bytes now_new.left why) → RefusalStands why before now_new tops
magic_refused tables offset before now now_new tops why was cause refused =
    subst (RefusalStands why before now_new) (sym was.none)
    (subst (λ (s : SourceState). RefusalStands why s now_new []) was.unread (by why cause refused))
  where
    by : (w : ReadingRefused) → RefusalCause now.faults now_new.faults w → ((bytes : List ℕ) → now.left ≡ Some bytes → MagicRefused bytes now_new.left w) → RefusalStands w now now_new []
    by (refusals.Fault faults) c r = record {
      rises = c.0;
      carried = c.1;
      leaves = λ bytes known.
          let f = r bytes known in
          record {
            part = take f.0 bytes;
            rest = drop f.0 bytes;
            split = sym (take-append-drop f.0 bytes);
            left_is = f.1;
            cut_off = record { kept = kept_none (take f.0 bytes) (short_magic (take f.0 bytes) f.2); cut = inl f.2 };
          };
    }
    by (refusals.Grammar at rule) c r = record {
      still = c;
      halts = λ bytes known.
          let f = r bytes known in
          let is : grammar at rule ≡ grammar 0 rules.V1 = ap (λ (n : ℕ). grammar n rule) f.0 ∙ ap (grammar 0) f.1 in
          record { kept = kept_none bytes f.2; there = subst (HaltsAt reading_limits bytes []) (sym is) (no_magic f.2) };
      leaves = λ bytes known. let f = r bytes known in inl (f.2, f.3);
    }
    by (refusals.Compressed at name) c r = record { still = c; halts = λ bytes known. absurd (r bytes known); leaves = λ bytes known. absurd (r bytes known) }
    by (refusals.Limit at) c r = record { still = c; halts = λ bytes known. absurd (r bytes known); leaves = λ bytes known. absurd (r bytes known) }
    by refusals.Memory c r = record { still = c; good = none_good; leaves = λ bytes known. inl (refl, r bytes known) }

-- behind the magic
pub magic_taken : (tables : Tables) (offset : ℕ) (before now now_new : SourceState) (tops : List Top) → IsFresh tables offset before now tops → now_new.faults ≡ now.faults
    → ((bytes : List ℕ) → now.left ≡ Some bytes → (rest : List ℕ) × (now_new.left ≡ Some rest) × (bytes ≡ magic ++ rest)) → IsUnfinished tables offset before now_new []
magic_taken tables offset before now now_new tops was same taken = record {
  good = none_good;
  unended = λ none. none;
  place = was.place;
  tables_are = was.tables_are;
  still = same ∙ ap (λ (s : SourceState). s.faults) was.unread;
  read = λ bytes known. let t = taken bytes (ap (λ (s : SourceState). s.left) was.unread ∙ known) in (t.0, t.1, record { split = t.2 });
}

-- ---- a record that was taken

read_more : (before now now_new : SourceState) (tops : List Top) (op : ℕ) (content : List ℕ) → ReadFromFront before now tops → ((rest : List ℕ) → now.left ≡ Some rest → TakesFrontRecord rest now_new.left op content) → ReadFromFront before now_new (tops ++ top op content ∷ [])
read_more before now now_new tops op content read taken bytes known =
    let r = read bytes known in
    let t = taken r.0 r.1 in
    (t.after, t.left_after, next_stands bytes tops (top op content) r.0 t.after r.2 t.split)

good_more : (tops : List Top) (t : Top) → Good reading_limits tops → KeepsRules tops t → is_beyond reading_limits (offset_behind tops) (length t.content) ≡ false → (HasDataEnd tops → ⊥) → Good reading_limits (tops ++ t ∷ [])
good_more tops t good keeps within unended =
    each_more (Fits reading_limits) tops t good
    (record { v3 = keeps.v3; v5 = keeps.v5; v6 = keeps.v6; v7 = keeps.v7; v8 = keeps.v8; v10 = keeps.v10; plain = keeps.plain; within = within; unended = unended })

-- what stays within the limits
record IsNear (at len : ℕ) : Type 0 where
  short : len ≤ 268435456
  near : at + 9 + len ≤ 1099511627776

near_there : (at len : ℕ) → is_beyond reading_limits at len ≡ false → IsNear at len
near_there at len within =
    let parts = or_parts (nat_lt 268435456 len) (nat_lt 1099511627776 (at + 9 + len)) within in
    record { short = ltb-false 268435456 len parts.0; near = ltb-false 1099511627776 (at + 9 + len) parts.1 }

offset_more : (tops : List Top) (t : Top) (at new : ℕ) → at ≡ offset_behind tops → is_beyond reading_limits at (length t.content) ≡ false → new ≡ min (min (at + 9) (2 ^ 64 - 1) + length t.content) (2 ^ 64 - 1) → new ≡ offset_behind (tops ++ t ∷ [])
offset_more tops t at new place within is =
    let near = near_there at (length t.content) within in
    let size : length (spelled (tops ++ t ∷ [])) ≡ length (spelled tops) + (9 + length t.content) =
    ap length (spelled_more tops t) ∙ length-append (spelled tops) (top_bytes t) ∙ ap (λ (n : ℕ). length (spelled tops) + n) (length-top t) in
    omega (arith, near.near, size, place, is)

not_empty : (tops : List Top) (t : Top) → tops ++ t ∷ [] ≡ [] → ⊥
not_empty tops t e = let size : length (tops ++ t ∷ []) ≡ 0 = ap length e in omega (arith, size, length-append tops (t ∷ []))

-- the record at the front of what was left
front_begun : (rest : List ℕ) (left : Option (List ℕ)) (at op : ℕ) (content : List ℕ) → TakesFrontRecord rest left op content → is_beyond reading_limits at (length content) ≡ false → Begun rest (top op content)
front_begun rest left at op content taken within =
    let near = near_there at (length content) within in
    begun rest (top op content) taken.after taken.split (omega (arith, near.short))

front_due : (tops : List Top) (rest : List ℕ) (at op : ℕ) (content : List ℕ) → at ≡ offset_behind tops → Begun rest (top op content) → IsTakable at op (length content) → IsDue reading_limits tops rest
front_due tops rest at op content place front takable = record {
  head = (front.head, λ (e : opcode rest ≡ 0). let valid = takable.valid in valid (sym front.op_is ∙ e));
  within = subst (λ (n : ℕ). is_beyond reading_limits n (declared_length rest) ≡ false) place (ap (is_beyond reading_limits at) front.len_is ∙ takable.within);
}

broken_there : (tops : List Top) (rest : List ℕ) (at op : ℕ) (content : List ℕ) (rule : Rule) → at ≡ offset_behind tops → Begun rest (top op content) → IsTakable at op (length content) → ((tops ≡ [] → ⊥) → NamesNoCompression (top op content)) → Breaks tops (top op content) rule → HaltsThere reading_limits tops rest (grammar at rule)
broken_there tops rest at op content rule place front takable plain breaks =
    subst (λ (n : ℕ). HaltsThere reading_limits tops rest (grammar n rule)) (sym place)
    (broken_rule rule (front_due tops rest at op content place front takable) front.whole
    (λ name packed. plain packed.0 name (subst (λ (x : Top). NamesCompression x name) front.first packed.1))
    (subst (λ (x : Top). Breaks tops x rule) (sym front.first) breaks))

compressed_there : (tops : List Top) (rest : List ℕ) (at op : ℕ) (content name : List ℕ) → at ≡ offset_behind tops → Begun rest (top op content) → IsTakable at op (length content) → (tops ≡ [] → ⊥) → NamesCompression (top op content) name → HaltsThere reading_limits tops rest (compressed at name)
compressed_there tops rest at op content name place front takable some names =
    subst (λ (n : ℕ). HaltsThere reading_limits tops rest (compressed n name)) (sym place)
    (packed_chunk name (front_due tops rest at op content place front takable) front.whole (some, subst (λ (x : Top). NamesCompression x name) (sym front.first) names))

taken_whole : (rest : List ℕ) (left : Option (List ℕ)) (op : ℕ) (content : List ℕ) (taken : TakesFrontRecord rest left op content) → Begun rest (top op content) → left ≡ Some (behind_first rest)
taken_whole rest left op content taken front = taken.left_after ∙ ap Some (sym (left_behind rest (top op content) taken.after taken.split front))

-- ---- one step

stage_of : (tops : List Top) (op : ℕ) (content : List ℕ) (tables new : Tables) (offset offset_new : ℕ) (before now now_new : SourceState) (b : Bool) → eqb op 15 ≡ b
    → IsUnfinished tables offset before now tops → now_new.faults ≡ now.faults → ((rest : List ℕ) → now.left ≡ Some rest → TakesFrontRecord rest now_new.left op content) → IsTakable offset op (length content)
    → KeepsRules tops (top op content) → TablesOf (flat (tops ++ top op content ∷ [])) new → offset_new ≡ offset_behind (tops ++ top op content ∷ [])
    → StageStands (if b then stages.Ended else stages.Inside) new offset_new before now_new (tops ++ top op content ∷ [])
stage_of tops op content tables new offset offset_new before now now_new true is was same taken takable keeps are place = record {
  good = good_more tops (top op content) was.good keeps (subst (λ (n : ℕ). is_beyond reading_limits n (length content) ≡ false) was.place takable.within) was.unended;
  ended = ended_more tops (top op content) (eqb-true op 15 is);
  place = place;
  tables_are = are;
  still = same ∙ was.still;
  read = read_more before now now_new tops op content was.read taken;
}
stage_of tops op content tables new offset offset_new before now now_new false is was same taken takable keeps are place = record {
  some = not_empty tops (top op content);
  reading = record {
    good = good_more tops (top op content) was.good keeps (subst (λ (n : ℕ). is_beyond reading_limits n (length content) ≡ false) was.place takable.within) was.unended;
    unended = unended_more tops (top op content) was.unended (eqb-false op 15 is);
    place = place;
    tables_are = are;
    still = same ∙ was.still;
    read = read_more before now now_new tops op content was.read taken;
  };
}

-- a reader of records that keeps no refusal has their tables
pub tables_stand : (reader : Reader) (before now : SourceState) (tops : List Top) → IsGoing reader.stage → Stands reader before now tops → TablesOf (flat tops) reader.tables
tables_stand reader before now tops going stands = by reader.stage going stands
  where
    by : (s : Stage) → IsGoing s → StageStands s reader.tables reader.offset before now tops → TablesOf (flat tops) reader.tables
    by stages.Fresh going was = subst (λ (l : List Top). TablesOf (flat l) reader.tables) (sym was.none) was.tables_are
    by stages.Inside going was = was.reading.tables_are
    by stages.Ended going was = was.tables_are
    by (stages.Stopped why) going was = absurd going

-- and they are good
pub good_stand : (reader : Reader) (before now : SourceState) (tops : List Top) → IsGoing reader.stage → Stands reader before now tops → Good reading_limits tops
good_stand reader before now tops going stands = by reader.stage going stands
  where
    by : (s : Stage) → IsGoing s → StageStands s reader.tables reader.offset before now tops → Good reading_limits tops
    by stages.Fresh going was = subst (Good reading_limits) (sym was.none) none_good
    by stages.Inside going was = was.reading.good
    by stages.Ended going was = was.good
    by (stages.Stopped why) going was = absurd going

-- memory that lacks for another need leaves a reader's records as they are
pub lacks_behind : (reader : Reader) (before now : SourceState) (tops : List Top) → IsGoing reader.stage → Stands reader before now tops → MemoryStands before now tops
lacks_behind reader before now tops going stands = by reader.stage going stands
  where
    by : (s : Stage) → IsGoing s → StageStands s reader.tables reader.offset before now tops → MemoryStands before now tops
    by stages.Fresh going was = record {
      still = ap (λ (s : SourceState). s.faults) was.unread;
      good = subst (Good reading_limits) (sym was.none) none_good;
      leaves = λ bytes known. inl (was.none, ap (λ (s : SourceState). s.left) was.unread ∙ known);
    }
    by stages.Inside going was = record {
      still = was.reading.still;
      good = was.reading.good;
      leaves = λ bytes known. let r = was.reading.read bytes known in inr (r.0, r.2, inl r.1);
    }
    by stages.Ended going was = record {
      still = was.still;
      good = was.good;
      leaves = λ bytes known. let r = was.read bytes known in inr (r.0, r.2, inl r.1);
    }
    by (stages.Stopped why) going was = absurd going

going_on : (b : Bool) → IsGoing (if b then stages.Ended else stages.Inside)
going_on true = tt
going_on false = tt

-- a record that was read and refused for want of memory
lacks_there : (tables : Tables) (offset : ℕ) (before now now_new : SourceState) (tops : List Top) (op : ℕ) (content : List ℕ)
    → IsUnfinished tables offset before now tops → now_new.faults ≡ now.faults → ((rest : List ℕ) → now.left ≡ Some rest → TakesFrontRecord rest now_new.left op content) → IsTakable offset op (length content)
    → MayWantMemory tops (top op content) ⊎ ((name : List ℕ) × IsPacked tops (top op content) name) → MemoryStands before now_new tops
lacks_there tables offset before now now_new tops op content was same taken takable free = record {
  still = same ∙ was.still;
  good = was.good;
  leaves = λ bytes known.
      let r = was.read bytes known in
      let t = taken r.0 r.1 in
      let front = front_begun r.0 now_new.left offset op content t takable.within in
      let there = subst (λ (u : Top). MayWantMemory tops u ⊎ ((name : List ℕ) × IsPacked tops u name)) (sym front.first) free in
      inr (r.0, r.2, inr (front_due tops r.0 offset op content was.place front takable, inr (front.whole, taken_whole r.0 now_new.left op content t front, there)));
}

-- a step that is refused
pub refused_step : (reader : Reader) (before now : SourceState) (tops : List Top) (why : ReadingRefused) (step : Step) → step ≡ steps.Refused → reader.stage ≡ stages.Stopped why → RefusalStands why before now tops → Advanced reader before now tops step
refused_step reader before now tops why step step_is stage_is stands =
    subst (Advanced reader before now tops) (sym step_is) (record { why = why; stage = stage_is; stands = stands })

refused_given : (reader : Reader) (before now : SourceState) (tops : List Top) (at len op : ℕ) (refused : Option ReadingRefused) (why : ReadingRefused) (step : Step)
    → refused ≡ Some why → Given at len reader.offset reader.stage op refused step → RefusalStands why before now tops → Advanced reader before now tops step
refused_given reader before now tops at len op refused why step is given stands =
    let there : (step ≡ steps.Refused) × (reader.stage ≡ stages.Stopped why) = subst (λ (r : Option ReadingRefused). Given at len reader.offset reader.stage op r step) is given in
    refused_step reader before now tops why step there.0 there.1 stands

pub stepped : (reader : Reader) (tables : Tables) (offset : ℕ) (before now now_new : SourceState) (tops : List Top) (op : ℕ) (content : List ℕ) (how : Judged) (refused : Option ReadingRefused) (step : Step)
    → IsUnfinished tables offset before now tops → now_new.faults ≡ now.faults → ((rest : List ℕ) → now.left ≡ Some rest → TakesFrontRecord rest now_new.left op content) → IsTakable offset op (length content)
    → JudgedAs tops (top op content) reader.tables how → RefusedAt offset how refused → Given offset (length content) reader.offset reader.stage op refused step → content_of reader ≡ content → Advanced reader before now_new tops step
stepped reader tables offset before now now_new tops op content judged.Fits refused step was same taken takable (keeps, are) none given room =
    let there = subst (λ (r : Option ReadingRefused). Given offset (length content) reader.offset reader.stage op r step) none given in
    by there.0 there.1 there.2
  where
    by : step ≡ steps.Record op offset → reader.offset ≡ min (min (offset + 9) (2 ^ 64 - 1) + length content) (2 ^ 64 - 1) → reader.stage ≡ (if eqb op 15 then stages.Ended else stages.Inside) → Advanced reader before now_new tops step
    by step_is offset_is stage_is = subst (Advanced reader before now_new tops) (sym step_is)
        (record {
          place = was.place;
          stands = subst (λ (l : List ℕ). Stands reader before now_new (tops ++ top op l ∷ [])) (sym room)
              (subst (λ (s : Stage). StageStands s reader.tables reader.offset before now_new (tops ++ top op content ∷ [])) (sym stage_is)
              (stage_of tops op content tables reader.tables offset reader.offset before now now_new (eqb op 15) refl was same taken takable keeps are (offset_more tops (top op content) offset reader.offset was.place takable.within offset_is)));
          going = subst IsGoing (sym stage_is) (going_on (eqb op 15));
        })
stepped reader tables offset before now now_new tops op content (judged.Breaks rule) refused step was same taken takable (plain, breaks) is given room =
    refused_given reader before now_new tops offset (length content) op refused (refusals.Grammar offset rule) step is given
    (halts_so tables offset before now now_new tops (grammar offset rule) was same (λ rest there.
    let t = taken rest there in
    let front = front_begun rest now_new.left offset op content t takable.within in
    let valid = takable.valid in (
      broken_there tops rest offset op content rule was.place front takable plain breaks,
      taken_whole rest now_new.left op content t front ∙ ap Some (sym (unread_broken rest offset rule (λ (e : opcode rest ≡ 0). valid (sym front.op_is ∙ e)))),
    )))
stepped reader tables offset before now now_new tops op content (judged.Compressed name) refused step was same taken takable (some, names) (inl is) given room =
    refused_given reader before now_new tops offset (length content) op refused (refusals.Compressed offset name.now) step is given
    (halts_so tables offset before now now_new tops (compressed offset name.now) was same (λ rest there.
    let t = taken rest there in
    let front = front_begun rest now_new.left offset op content t takable.within in
    (compressed_there tops rest offset op content name.now was.place front takable some names, taken_whole rest now_new.left op content t front)))
stepped reader tables offset before now now_new tops op content (judged.Compressed name) refused step was same taken takable (some, names) (inr is) given room =
    refused_given reader before now_new tops offset (length content) op refused refusals.Memory step is given
    (lacks_there tables offset before now now_new tops op content was same taken takable (inr (name.now, (some, names))))
stepped reader tables offset before now now_new tops op content judged.Memory refused step was same taken takable lacks is given room =
    refused_given reader before now_new tops offset (length content) op refused refusals.Memory step is given
    (lacks_there tables offset before now now_new tops op content was same taken takable (inl lacks))

-- ---- the first record

-- records that are some begin with one
pub some_tops : (P : List Top → Type 0) (tops : List Top) → (tops ≡ [] → ⊥) → ((first : Top) (more : List Top) → P (first ∷ more)) → P tops
some_tops P [] some each = absurd (some refl)
some_tops P (first ∷ more) some each = each first more

-- ---- a record that was read and couldn't be copied

begins_less : (bytes : List ℕ) (tops : List Top) (t : Top) (rest : List ℕ) → Tops bytes (tops ++ t ∷ []) rest → Tops bytes tops (top_bytes t ++ rest)
begins_less bytes tops t rest stands = record {
  split = stands.split
      ∙ ap (λ (l : List ℕ). magic ++ (l ++ rest)) (spelled_more tops t)
      ∙ ap (λ (l : List ℕ). magic ++ l) (append_assoc (spelled tops) (top_bytes t) rest);
}

-- the last of good records was due
last_due : (tops : List Top) (t : Top) (rest : List ℕ) → Good reading_limits (tops ++ t ∷ []) → rest ≡ top_bytes t ++ behind_first rest → Begun rest t → IsDue reading_limits tops rest
last_due tops t rest good is front =
    let fits = each_at (Fits reading_limits) tops t [] good in
    front_due tops rest (offset_behind tops) t.op t.content refl front (record { valid = fits_opcode reading_limits tops t fits; within = fits.within })

begun_again : (tops : List Top) (t : Top) (after : List ℕ) → Good reading_limits (tops ++ t ∷ []) → Begun (top_bytes t ++ after) t
begun_again tops t after good =
    let fits = each_at (Fits reading_limits) tops t [] good in
    let near = near_there (offset_behind tops) (length t.content) fits.within in
    begun (top_bytes t ++ after) t after refl (omega (arith, near.short))

lacks_back : (before now : SourceState) (tops : List Top) (t : Top) → now.faults ≡ before.faults → Good reading_limits (tops ++ t ∷ []) → ReadFromFront before now (tops ++ t ∷ []) → RefusalStands refusals.Memory before now tops
lacks_back before now tops t still good read = record {
  still = still;
  good = good_from_the_front reading_limits tops (t ∷ []) good;
  leaves = λ bytes known.
      let r = read bytes known in
      let rest = top_bytes t ++ r.0 in
      let front = begun_again tops t r.0 good in
      let behind = left_behind rest t r.0 refl front in
      inr (rest, begins_less bytes tops t r.0 r.2, inr (last_due tops t rest good (ap (λ (l : List ℕ). top_bytes t ++ l) (sym behind)) front, inr (front.whole, r.1 ∙ ap Some (sym behind), inl (subst (MayWantMemory tops) (sym front.first) (fits_may_want reading_limits tops t (each_at (Fits reading_limits) tops t [] good))))));
}

pub given_back : (reader : Reader) (before now : SourceState) (tops : List Top) (t : Top) → IsGoing reader.stage → Stands reader before now (tops ++ t ∷ []) → RefusalStands refusals.Memory before now tops
given_back reader before now tops t = by reader.stage
  where
    by : (s : Stage) → IsGoing s → StageStands s reader.tables reader.offset before now (tops ++ t ∷ []) → RefusalStands refusals.Memory before now tops
    by stages.Fresh going stands = absurd (not_empty tops t stands.none)
    by stages.Inside going stands = let was = stands.reading in lacks_back before now tops t was.still was.good was.read
    by stages.Ended going stands = lacks_back before now tops t stands.still stands.good stands.read
    by (stages.Stopped why) going stands = absurd going

-- ---- a reading moves on

pub moved : (at op len new : ℕ) (stage : Stage) (refused : Option ReadingRefused) (step : Step) → IsTakable at op len → Given at len new stage op refused step → Moves at new step
moved at op len new stage None step takable given =
    let near = near_there at len takable.within in
    subst (Moves at new) (sym given.0) (omega (arith, near.near, given.1), omega (arith, near.near, given.1))
moved at op len new stage (Some why) step takable given = subst (Moves at new) (sym given.0) tt
