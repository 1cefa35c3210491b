-- What stands for the records of a source with a record more, and where its reading ended.
use Rattle.std.proofs.Common.{◌≡◌, ℕ, zero, suc, ◌+◌, ◌-◌, ◌≤◌, Bool, true, false, ◌||◌, List, [], ◌∷◌, ◌++◌, length, Option, Some, None, refl, sym, ap, subst, inl, inr, ◌∙◌, arith}
use Rattle.std.specs.Prelude.{filter, fold, nat_lt, if◌then◌else◌}
use Rattle.std.specs.List.{AllZip}
use Rattle.std.proofs.lemmas.Bool.{both_ways, ltb-false}
use Rattle.std.proofs.lemmas.List.{length-append}
use Rattle.std.proofs.lemmas.Grind.{flat_map-append}
use Rattle.mcap_wire.proofs.Framing.{length-framed, length-string}
use Rattle.mcap_wire.specs.Layout.{string, framed, part}
use Rattle.rec_data.specs.declared.owned.Rec.{Rec}
use Rattle.rec_data.specs.Fields.{HeaderFields}
use Rattle.rec_data.specs.Records.{ShowsHeader}
use Rattle.mcap_io.specs.Outside.{SourceState}
use Rattle.mcap_model.specs.Places.{Each}
use Rattle.mcap_model.proofs.Places.{each_at, each_front, at_none}
use Rattle.mcap_model.proofs.Lists.{at_second}
use Rattle.mcap_model.specs.Tops.{Top, Placed, Tops, top_bytes, spelled, offset_behind, flat, is_flat_kind}
use Rattle.mcap_model.specs.WalkedRecords.{walked}
use Rattle.mcap_model.specs.declared.replay.Place.{Place}
use Rattle.mcap_model.specs.Fields.{IsHeader}
use Rattle.mcap_model.specs.Rules.{V6, HasDataEnd}
use Rattle.mcap_model.specs.Kept.{Fits, Good, reading_limits}
use Rattle.mcap_model.specs.History.{kept_with}
use Rattle.mcap_model.specs.Made.{top}
use Rattle.mcap_model.specs.Written.{IsRec}
use Rattle.mcap_model.specs.Repaired.{is_extra, ProfileIs, Repairs}
use Rattle.mcap_model.proofs.Repairs.{fold_more, zip_join}
use Rattle.mcap_scan.specs.declared.reader.Reader.{Reader}
use Rattle.mcap_scan.specs.declared.reader.Stage.TheVariants as stages
use Rattle.mcap_scan.specs.declared.reader.Stage.{Stage}
use Rattle.mcap_scan.specs.Scanning.{content_of, Stands, StageStands, IsGoing}
use Rattle.mcap_scan.specs.RefusedReadings.{RefusalStands}
use Rattle.mcap_scan.specs.Sources.{ReadFromFront}
use Rattle.mcap_scan.proofs.Scanning.{good_stand, lacks_behind}
use Rattle.mcap_scan.specs.declared.flat_reader.FlatReader.{FlatReader}
use Rattle.mcap_scan.specs.Walking.{flat_content, flat_frame, IsHeldFrame, ahead_of, placed_at, FlatGives, FlatFinds, FlatRefuses, IsFlatDone}
use Rattle.mcap_scan.proofs.Walked.{walked_v6}
use Rattle.record_keeping.specs.declared.ending.Over.TheVariants as overs
use Rattle.record_keeping.specs.Keeping.{extras_of, IsFrame, tops_at}
use Rattle.record_keeping.specs.NewFiles.{HeaderAlone}
use Rattle.record_keeping.specs.Readings.{RepairsGiven, ReadSoFar, StandsOn, ReadToEnd, ReadStopped, BeginsFile}
use Rattle.record_keeping.proofs.Given.{first_part, flat_given, repairs_whole, profile_given, given_none, tops_some, recs_ahead, recs_one, repairs_more, not_none}
use denote.Ref.{Bor}

-- ---- a record of a good list

or_right : (x y : Bool) → (x || y) ≡ false → y ≡ false
or_right true y e = absurd (both_ways true e refl)
or_right false y e = e

or_left : (x y : Bool) → (x || y) ≡ false → x ≡ false
or_left true y e = absurd (both_ways true e refl)
or_left false y e = refl

pub last_fits : (tops : List Top) (t : Top) → Good reading_limits (tops ++ t ∷ []) → Fits reading_limits tops t
last_fits tops t good = each_at (Fits reading_limits) tops t [] good

pub behind_more : (tops : List Top) (t : Top) → offset_behind (tops ++ t ∷ []) ≡ offset_behind tops + 9 + length t.content
behind_more tops t =
    let all = ap (λ (l : List ℕ). length l) (flat_map-append top_bytes tops (t ∷ [])) in
    omega (arith, all, length-append (spelled tops) (top_bytes t ++ []), length-append (top_bytes t) [], length-framed t.op t.content)

pub within_more : (tops : List Top) (t : Top) → Good reading_limits (tops ++ t ∷ []) → offset_behind (tops ++ t ∷ []) ≤ 1099511627776
within_more tops t good =
    let fits = last_fits tops t good in
    let near = ltb-false 1099511627776 (offset_behind tops + 9 + length t.content) (or_right (nat_lt 268435456 (length t.content)) (nat_lt 1099511627776 (offset_behind tops + 9 + length t.content)) fits.within) in
    omega (arith, near, behind_more tops t)

pub content_within : (tops : List Top) (t : Top) → Good reading_limits (tops ++ t ∷ []) → length t.content ≤ 268435456
content_within tops t good =
    let fits = last_fits tops t good in
    let near = ltb-false 268435456 (length t.content) (or_left (nat_lt 268435456 (length t.content)) (nat_lt 1099511627776 (offset_behind tops + 9 + length t.content)) fits.within) in
    omega (arith, near)

-- the last of some records
split_last : (t : Top) (ts : List Top) → (front : List Top) × (last : Top) × (t ∷ ts ≡ front ++ last ∷ [])
split_last t [] = ([], t, refl)
split_last t (u ∷ us) = let (front, last, is) = split_last u us in (t ∷ front, last, ap (λ (l : List Top). t ∷ l) is)

pub good_within : (tops : List Top) → Good reading_limits tops → offset_behind tops ≤ 1099511627776
good_within [] good = omega arith
good_within (t ∷ ts) good =
    let (front, last, is) = split_last t ts in
    subst (λ (l : List Top). offset_behind l ≤ 1099511627776) (sym is) (within_more front last (subst (Good reading_limits) is good))

-- what was read of the bytes
pub read_stand : (reader : Reader) (before now : SourceState) (tops : List Top) → IsGoing reader.stage → Stands reader before now tops → (tops ≡ [] → ⊥) → (bytes : List ℕ) → before.left ≡ Some bytes → (rest : List ℕ) × (now.left ≡ Some rest) × Tops bytes tops rest
read_stand reader before now tops going stands some = by reader.stage going stands
  where
    by : (s : Stage) → IsGoing s → StageStands s reader.tables reader.offset before now tops → (bytes : List ℕ) → before.left ≡ Some bytes → (rest : List ℕ) × (now.left ≡ Some rest) × Tops bytes tops rest
    by stages.Fresh it was = absurd (some was.none)
    by stages.Inside it was = was.reading.read
    by stages.Ended it was = was.read
    by (stages.Stopped why) it was = absurd it

-- the frame that a reader holds is that of the record
pub frame_held : (flat : FlatReader) (op : ℕ) (content : List ℕ) (frame : Option (Bor (List ℕ))) → content ≡ flat_content flat → IsHeldFrame flat frame → ((bytes : List ℕ) → flat_frame flat ≡ Some bytes → bytes ≡ framed op (flat_content flat)) → IsFrame op content frame
frame_held flat op content None same held each = tt
frame_held flat op content (Some bytes) same held each = each bytes.now held ∙ ap (framed op) (sym same)

-- an extra is kept exactly where it was read by this step
kept_of : (flat : FlatReader) (frame : Option (Bor (List ℕ))) (more : List Top) (t : Top) → IsHeldFrame flat frame → (flat.inside ≡ true → more ≡ []) → (flat.inside ≡ false → more ≡ t ∷ []) → extras_of frame t ≡ filter is_extra more
kept_of flat frame more t held within alone = by flat.inside refl frame held
  where
    lent : Bool → Option (List ℕ)
    lent b = if b then Some (part (flat.lo - 9) flat.hi (content_of flat.reader)) else None

    by : (b : Bool) → flat.inside ≡ b → (f : Option (Bor (List ℕ))) → IsHeldFrame flat f → extras_of f t ≡ filter is_extra more
    by true inside (Some bytes) is = ap (filter is_extra) (sym (within inside))
    by true inside None is = let none : lent true ≡ None = sym (ap lent inside) ∙ is in absurd (cc)
    by false inside None is = ap (filter is_extra) (sym (alone inside))
    by false inside (Some bytes) is = let some : lent false ≡ Some bytes.now = sym (ap lent inside) ∙ is in absurd (cc)

-- one record more was read, and something stands for it
pub reading_on : (old new : List Top → List Rec → Type 0) (profile : List ℕ) (before mid now : SourceState) (flat next : FlatReader) (op : ℕ) (place : Place) (frame : Option (Bor (List ℕ)))
    → (was : ReadSoFar old profile before mid flat) → (IsFlatDone flat → ⊥) → FlatGives next before now was.tops was.given op place → IsHeldFrame next frame → StandsOn old new was.extras was.history frame (top op (flat_content next))
    → ReadSoFar new profile before now next
reading_on old new profile before mid now flat next op place frame was undone gives held takes =
    let t = top op (flat_content next) in
    let p = placed_at place op (flat_content next) in
    let stands = gives.stands in
    let good = good_stand next.reader before now gives.tops gives.going stands.stands in
    let some = tops_some gives.tops was.given (ahead_of next) p stands.all in
    let (rs, zip) = recs_one t gives.v6 in
    record {
      tops = gives.tops;
      given = was.given ++ p ∷ [];
      stands = stands;
      good = good;
      read = λ bytes told. let (rest, left, there) = read_stand next.reader before now gives.tops gives.going stands.stands some bytes told in inr (rest, there);
      magic = was.magic;
      begun = λ none. absurd (not_none was.given p none);
      extras = was.extras ++ extras_of frame t;
      history = fold kept_with was.history rs;
      repairs = subst (λ (l : List Top). RepairsGiven l (was.given ++ p ∷ []) profile (was.extras ++ extras_of frame t) (fold kept_with was.history rs)) (sym gives.grown)
          (repairs_more was.tops gives.more was.given p profile was.extras (extras_of frame t) was.history rs (λ none. undone (was.begun none).0) was.repairs (kept_of next frame gives.more t held gives.within gives.alone) zip);
      keeps = takes rs zip was.keeps;
    }

pub ended_some : (tops : List Top) → HasDataEnd tops → tops ≡ [] → ⊥
ended_some [] ended none = ended
ended_some (t ∷ ts) ended none = cc

-- It was read, and the writer stopped at what it shows: what stands for the records then stands for those of the chunk too that
-- weren't given. What was written of the records before the last one at top level is handed in.
pub stopped_reading : (old new stopped : List Top → List Rec → Type 0) (wrote : List Rec → Type 0) (profile : List ℕ) (before mid now : SourceState) (flat next : FlatReader) (op : ℕ) (place : Place) (frame : Option (Bor (List ℕ)))
    → (was : ReadSoFar old profile before mid flat) → (IsFlatDone flat → ⊥) → FlatGives next before now was.tops was.given op place → IsHeldFrame next frame → StandsOn old new was.extras was.history frame (top op (flat_content next))
    → ((later : ReadSoFar new profile before now next) (ss : List Rec) → stopped later.extras (fold kept_with later.history ss))
    → ((earlier others : List Top) (first more : List Rec) → Good reading_limits earlier → Repairs earlier profile others first → was.history ≡ first ++ more → wrote first) → ReadStopped stopped wrote profile before now
unfolding reading_on
stopped_reading old new stopped wrote profile before mid now flat next op place frame was undone gives held takes each written =
    let p = placed_at place op (flat_content next) in
    let later = reading_on old new profile before mid now flat next op place frame was undone gives held takes in
    let given = was.given ++ p ∷ [] in
    let ahead = ahead_of next in
    let stands = gives.stands in
    let good = good_stand next.reader before now gives.tops gives.going stands.stands in
    let some = tops_some gives.tops was.given ahead p stands.all in
    let meets : Each (λ (q : Placed). V6 q.top) ahead = λ n q at. subst (λ (l : List Placed). Each (λ (r : Placed). V6 r.top) l) stands.all (walked_v6 gives.tops good) (length given + n) q (at_second given ahead n q at) in
    let (ss, more) = recs_ahead ahead meets in
    let repairs = later.repairs in
    let reaches = gives.last in
    let earlier_good = each_front (Fits reading_limits) reaches.earlier (reaches.last ∷ []) (subst (Good reading_limits) reaches.are good) in
    record {
      tops = gives.tops;
      good = good;
      read = read_stand next.reader before now gives.tops gives.going stands.stands some;
      still = (lacks_behind next.reader before now gives.tops gives.going stands.stands).still;
      extras = filter is_extra gives.tops;
      history = fold kept_with later.history ss;
      repairs = record {
        profile_is = profile_given gives.tops given ahead profile stands.all (not_none was.given p) repairs.profile_is;
        extras_are = refl;
        flattened = repairs.flattened ++ ss;
        are_flattened = subst (λ (l : List Top). AllZip IsRec l (repairs.flattened ++ ss)) (sym (flat_given gives.tops given ahead stands.all))
            (zip_join IsRec (filter is_flat_kind (tops_at given)) (filter is_flat_kind (tops_at ahead)) repairs.flattened ss repairs.are_flattened more);
        history_is = ap (λ (l : List Rec). fold kept_with l ss) repairs.history_is ∙ sym (fold_more [] repairs.flattened ss);
      };
      gathered = later.extras;
      keeps = each later ss;
      earlier = reaches.earlier;
      last = reaches.last;
      are = reaches.are;
      ripe = first_part wrote reaches.earlier was.tops was.given reaches.behind profile was.extras was.history reaches.split was.repairs
          (λ others first later_ones made is. written reaches.earlier others first later_ones earlier_good made is);
    }

-- the Data End was given
pub ended_reading : (stands_for : List Top → List Rec → Type 0) (profile : List ℕ) (before mid now : SourceState) (flat next : FlatReader) (offset : ℕ)
    → (was : ReadSoFar stands_for profile before mid flat) → FlatFinds next before now was.tops was.given offset → ReadToEnd stands_for profile before now next.reader (overs.Ended offset)
ended_reading stands_for profile before mid now flat next offset was finds =
    let end = finds.finds in
    let is = end.is in
    record {
      kept = record {
        tops = finds.tops;
        good = is.good;
        read = λ bytes told. let (rest, left, there) = is.read bytes told in inr (rest, there);
        magic = was.magic;
        begun = λ none. absurd (ended_some finds.tops is.ended none);
        extras = was.extras;
        history = was.history;
        repairs = repairs_whole finds.tops was.given profile was.extras was.history finds.whole (subst (λ (l : List Top). RepairsGiven l was.given profile was.extras was.history) (sym finds.same) was.repairs);
        keeps = was.keeps;
      };
      over_so = end.halts;
    }

-- the reading was refused
pub refused_reading : (stands_for : List Top → List Rec → Type 0) (profile : List ℕ) (before mid now : SourceState) (flat next : FlatReader)
    → (was : ReadSoFar stands_for profile before mid flat) → FlatRefuses next before now was.tops was.given → ReadToEnd stands_for profile before now next.reader overs.Refused
refused_reading stands_for profile before mid now flat next was refuses =
    let it = refuses.refuses in
    let same = refuses.same in
    let stands = was.stands in
    record {
      kept = record {
        tops = was.tops;
        good = was.good;
        read = was.read;
        magic = was.magic;
        begun = λ none. (was.begun (given_none was.tops was.given (ahead_of flat) stands.all none)).2;
        extras = was.extras;
        history = was.history;
        repairs = repairs_whole was.tops was.given profile was.extras was.history (refuses.whole ∙ ap walked same) was.repairs;
        keeps = was.keeps;
      };
      over_so = (it.why, it.stage, subst (λ (l : List Top). RefusalStands it.why before now l) same it.stands);
    }

-- ---- the first record

first_header : (t : Top) → Good reading_limits (t ∷ []) → IsHeader t
first_header t good = (last_fits [] t good).v3

header_long : (t : Top) (header : IsHeader t) → length header.profile ≤ length t.content
header_long t header =
    let row = header.layout.1 in
    let size = ap (λ (l : List ℕ). length l) row.spelled_there in
    omega (arith, size, length-append (string header.profile) (string header.library ++ header.layout.0), length-string header.profile)

header_repairs : (t : Top) (header : IsHeader t) → Repairs (t ∷ []) header.profile [] []
header_repairs t header = record {
  profile_is = (header, refl);
  extras_are = subst (λ (n : ℕ). [] ≡ filter is_extra (top n t.content ∷ [])) (sym header.kind) refl;
  flattened = [];
  are_flattened = subst (λ (n : ℕ). AllZip IsRec (flat (top n t.content ∷ [])) []) (sym header.kind) tt;
  history_is = refl;
}

header_given : (tops : List Top) (p : Placed) (header : IsHeader p.top) → tops ≡ p.top ∷ [] → RepairsGiven tops (p ∷ []) header.profile [] []
header_given tops p header are = let t = p.top in record {
  profile_is = (header, refl);
  extras_are = subst (λ (n : ℕ). [] ≡ filter is_extra (top n t.content ∷ [])) (sym header.kind) refl ∙ ap (filter is_extra) (sym are);
  flattened = [];
  are_flattened = subst (λ (n : ℕ). AllZip IsRec (filter is_flat_kind (top n t.content ∷ [])) []) (sym header.kind) tt;
  history_is = refl;
}

-- the first record that is given is the first of all
first_top : (tops : List Top) (p : Placed) (more : List Placed) → walked tops ≡ p ∷ more → (ts : List Top) × (tops ≡ p.top ∷ ts)
first_top [] p more all = absurd (cc)
first_top (t ∷ ts) p more all =
    let same : record { place = record { top = 8; inner = 0 }; top = t } ≡ p = cc in
    (ts, ap (λ (q : Placed). q.top ∷ ts) same)

-- where none was read before, the record that is given stands at top level
first_alone : (flat : FlatReader) (tops more : List Top) (t : Top) → tops ≡ [] ++ more → (tops ≡ [] → ⊥) → (flat.inside ≡ true → more ≡ []) → (flat.inside ≡ false → more ≡ t ∷ []) → tops ≡ t ∷ []
first_alone flat tops more t grown some within alone = by flat.inside refl
  where
    by : (b : Bool) → flat.inside ≡ b → tops ≡ t ∷ []
    by true inside = absurd (some (grown ∙ within inside))
    by false outside = grown ∙ alone outside

one_good : (t : Top) (ts : List Top) → Good reading_limits (t ∷ ts) → Good reading_limits (t ∷ [])
one_good t ts good zero u at = good zero u at
one_good t ts good (suc n) u at = absurd (at_none n u at)

pub begun_header : (over : List Top → Type 0) (flat : FlatReader) (before now : SourceState) (op : ℕ) (place : Place) (profile : List ℕ) → FlatGives flat before now [] [] op place → ((f : HeaderFields) → ShowsHeader (flat_content flat) f → profile ≡ f.profile)
    → BeginsFile over before now flat profile
begun_header over flat before now op place profile gives reads =
    let p = placed_at place op (flat_content flat) in
    let t = p.top in
    let stands = gives.stands in
    let good = good_stand flat.reader before now gives.tops gives.going stands.stands in
    let (ts, are) = first_top gives.tops p (ahead_of flat) stands.all in
    let one = one_good t ts (subst (Good reading_limits) are good) in
    let header = first_header t one in
    let same = reads (record { profile = header.profile; library = header.library }) header.layout in
    let some = tops_some gives.tops [] (ahead_of flat) p stands.all in
    let alone = first_alone flat gives.tops gives.more t gives.grown some gives.within gives.alone in
    record {
      tops = gives.tops;
      given = p ∷ [];
      stands = stands;
      good = good;
      read = λ bytes told. let (rest, left, there) = read_stand flat.reader before now gives.tops gives.going stands.stands some bytes told in inr (rest, there);
      magic = λ bytes told. let (rest, left, there) = read_stand flat.reader before now gives.tops gives.going stands.stands some bytes told in (spelled gives.tops ++ rest, there.split);
      begun = λ none. absurd (not_none [] p none);
      repairs = subst (λ (l : List ℕ). RepairsGiven gives.tops (p ∷ []) l [] []) (sym same) (header_given gives.tops p header alone);
      shows = record {
        first = t ∷ [];
        good = one;
        stopped = inl (t, refl, subst (ReadFromFront before now) alone (read_stand flat.reader before now gives.tops gives.going stands.stands some));
        none = λ none. absurd (not_none [] t none);
        repairs = subst (λ (l : List ℕ). Repairs (t ∷ []) l [] []) (sym same) (header_repairs t header);
      };
      short = (let size = ap (λ (l : List ℕ). length l) same in omega (arith, size, header_long t header, content_within [] t one));
      still = (lacks_behind flat.reader before now gives.tops gives.going stands.stands).still;
    }

-- it was read alone, and its profile isn't empty
pub header_alone : (flat : FlatReader) (before now : SourceState) (op : ℕ) (place : Place) (gives : FlatGives flat before now [] [] op place) → ((f : HeaderFields) → ShowsHeader (flat_content flat) f → f.profile ≡ [] → ⊥)
    → HeaderAlone (ReadFromFront before now) gives.tops
header_alone flat before now op place gives named =
    let p = placed_at place op (flat_content flat) in
    let t = p.top in
    let stands = gives.stands in
    let good = good_stand flat.reader before now gives.tops gives.going stands.stands in
    let some = tops_some gives.tops [] (ahead_of flat) p stands.all in
    let alone = first_alone flat gives.tops gives.more t gives.grown some gives.within gives.alone in
    let header = first_header t (subst (Good reading_limits) alone good) in
    record {
      header = t;
      alone = alone;
      just_read = read_stand flat.reader before now gives.tops gives.going stands.stands some;
      profile = header.profile;
      profile_is = subst (λ (l : List Top). ProfileIs l header.profile) (sym alone) (header, refl);
      named = named (record { profile = header.profile; library = header.library }) header.layout;
    }

-- behind a profile nothing is kept yet
pub begin_reading : (over : List Top → Type 0) (stands_for : List Top → List Rec → Type 0) (profile : List ℕ) (before now : SourceState) (flat : FlatReader) → BeginsFile over before now flat profile → stands_for [] [] → ReadSoFar stands_for profile before now flat
begin_reading over stands_for profile before now flat begins keeps = record {
  tops = begins.tops;
  given = begins.given;
  stands = begins.stands;
  good = begins.good;
  read = begins.read;
  magic = begins.magic;
  begun = begins.begun;
  extras = [];
  history = [];
  repairs = begins.repairs;
  keeps = keeps;
}
