-- The steps of a flat reader.
use Rattle.std.proofs.Common.{◌≡◌, ℕ, ◌+◌, ◌-◌, ◌≤◌, Bool, true, false, List, [], ◌∷◌, ◌++◌, length, take, drop, Some, None, refl, sym, ap, subst, ◌∙◌, append_assoc, append-nil, arith, length-append, length-drop, length-take}
use Rattle.std.specs.Prelude.{if◌then◌else◌}
use Rattle.std.proofs.lemmas.Bool.{false≢true}
use Rattle.std.proofs.lemmas.List.{drop-drop, take_at, drop_at, take_all, take-append-drop}
use Rattle.std.proofs.lemmas.Option.{same_Some}
use Rattle.mcap_io.specs.Outside.{SourceState}
use Rattle.mcap_wire.specs.Layout.{le, framed, part}
use Rattle.mcap_wire.proofs.Numbers.{length-le}
use Rattle.mcap_model.specs.declared.replay.Place.{Place}
use Rattle.mcap_model.specs.Places.{At}
use Rattle.mcap_model.specs.Tops.{Top, top_bytes, records_in, inner_tops, is_chunk, chunk_records, offset_behind, Placed, placed_inside}
use Rattle.mcap_model.specs.WalkedRecords.{walked_one, walked}
use Rattle.mcap_model.specs.Rules.{V6, V10}
use Rattle.mcap_model.specs.Kept.{reading_limits, Good}
use Rattle.mcap_model.specs.Made.{top}
use Rattle.mcap_model.proofs.Places.{at_last}
use Rattle.mcap_model.proofs.Readings.{length-top}
use Rattle.mcap_scan.specs.declared.reader.Reader.{Reader}
use Rattle.mcap_scan.specs.Scanning.{Stands, Gives, IsGoing, content_of}
use Rattle.mcap_scan.proofs.Scanning.{good_stand}
use Rattle.mcap_scan.specs.declared.flat_reader.FlatReader.{FlatReader}
use Rattle.mcap_scan.specs.declared.flat_reader.FlatStep.{FlatStep}
use Rattle.mcap_scan.specs.declared.flat_reader.FlatStep.TheVariants as steps
use Rattle.mcap_scan.specs.Heads.{LiesInside}
use Rattle.mcap_scan.specs.Walking.{flat_content, ahead_of, placed_at, ReachesLast, FlatStands, FlatGives, FlatAdvanced, StepsInside}
use Rattle.mcap_scan.proofs.Walked.{walked_more, walked_meet}

-- ---- parts

-- a part of some bytes is cut in two there
pub record IsParted (bytes : List ℕ) (from mid to : ℕ) (one other : List ℕ) : Type 0 where
  pub first : part from mid bytes ≡ one
  pub second : part mid to bytes ≡ other
  pub within : mid ≤ to

pub parted : (bytes : List ℕ) (from mid to : ℕ) (one other : List ℕ) → part from to bytes ≡ one ++ other → mid ≡ from + length one → from ≤ to → to ≤ length bytes → IsParted bytes from mid to one other
parted bytes from mid to one other is cut begins ends =
    let size : length one + length other ≡ to - from = omega (arith, ap length is, length-append one other, length-take (to - from) (drop from bytes), length-drop from bytes, begins, ends) in
    let behind = drop (to - from) (drop from bytes) in
    let split : drop from bytes ≡ one ++ (other ++ behind) = sym (take-append-drop (to - from) (drop from bytes)) ∙ ap (λ (l : List ℕ). l ++ behind) is ∙ append_assoc one other behind in
    let front : mid - from ≡ length one = omega (arith, cut) in
    let back : to - mid ≡ length other = omega (arith, cut, size, begins) in
    let there : drop mid bytes ≡ other ++ behind =
    ap (λ (n : ℕ). drop n bytes) cut ∙ sym (drop-drop (length one) from bytes) ∙ ap (drop (length one)) split ∙ drop_at one (other ++ behind) (length one) refl in
    record {
      first = ap (λ (n : ℕ). take n (drop from bytes)) front ∙ ap (take (length one)) split ∙ take_at one (other ++ behind) (length one) refl;
      second = ap (λ (n : ℕ). take n (drop mid bytes)) back ∙ ap (take (length other)) there ∙ take_at other behind (length other) refl;
      within = omega (arith, cut, size, begins);
    }

-- all of some bytes
part_whole : (bytes : List ℕ) → part 0 (length bytes) bytes ≡ bytes
part_whole bytes = take_all (length bytes - 0) bytes (omega arith)

records_none : records_in [] ≡ []
unfolding records_in
records_none = refl

-- nothing is due where nothing lies between
pub nothing_due : (chunk at n : ℕ) (bytes : List ℕ) → placed_inside chunk at (records_in (part n n bytes)) ≡ []
nothing_due chunk at n bytes =
    let none : n - n ≡ 0 = omega arith in
    ap (λ (k : ℕ). placed_inside chunk at (records_in (take k (drop n bytes)))) none ∙ ap (placed_inside chunk at) records_none

-- ---- the next record inside a chunk

-- a record was found at the front of what is due of a chunk
pub record FindsInside (bytes : List ℕ) (at to op : ℕ) (content behind : List ℕ) : Type 0 where
  pub frame : part at (at + 9 + length content) bytes ≡ framed op content
  pub content_there : part (at + 9) (at + 9 + length content) bytes ≡ content
  pub rest_there : part (at + 9 + length content) to bytes ≡ behind
  pub within : at + 9 + length content ≤ to

pub finds_inside : (bytes : List ℕ) (at to op : ℕ) (content behind : List ℕ) → part at to bytes ≡ framed op content ++ behind → at ≤ to → to ≤ length bytes → FindsInside bytes at to op content behind
finds_inside bytes at to op content behind is begins ends =
    let head = op ∷ le 8 (length content) in
    let mid = at + 9 + length content in
    let size : length head ≡ 9 = omega (arith, length-le 8 (length content)) in
    let whole : length (framed op content) ≡ 9 + length content = length-top (top op content) in
    let cut = parted bytes at mid to (framed op content) behind is (omega (arith, whole)) begins ends in
    let inner = parted bytes at (at + 9) mid head content cut.first (omega (arith, size)) (omega arith) (let within = cut.within in omega (arith, within, ends)) in
    record { frame = cut.first; content_there = inner.second; rest_there = cut.second; within = cut.within }

-- what was due is that record, and what is due behind it
pub due_inside : (bytes : List ℕ) (chunk from at to op : ℕ) (content behind : List ℕ) → FindsInside bytes at to op content behind → records_in (part at to bytes) ≡ top op content ∷ records_in behind → from ≤ at
    → placed_inside chunk (at - from) (records_in (part at to bytes)) ≡ placed_at (record { top = chunk; inner = at - from }) op (part (at + 9) (at + 9 + length content) bytes) ∷ placed_inside chunk (at + 9 + length content - from) (records_in (part (at + 9 + length content) to bytes))
due_inside bytes chunk from at to op content behind found first begins =
    let mid = at + 9 + length content in
    let whole : length (top_bytes (top op content)) ≡ 9 + length content = length-top (top op content) in
    let next : at - from + length (top_bytes (top op content)) ≡ mid - from = omega (arith, whole, begins) in
    let place : Place = record { top = chunk; inner = at - from } in
    ap (placed_inside chunk (at - from)) first
    ∙ ap (λ (n : ℕ). placed_at place op content ∷ placed_inside chunk n (records_in behind)) next
    ∙ ap (λ (l : List ℕ). placed_at place op content ∷ placed_inside chunk (mid - from) (records_in l)) (sym found.rest_there)
    ∙ ap (λ (l : List ℕ). placed_at place op l ∷ placed_inside chunk (mid - from) (records_in (part mid to bytes))) (sym found.content_there)

pub frame_inside : (bytes : List ℕ) (at to op : ℕ) (content behind given : List ℕ) → FindsInside bytes at to op content behind → Some (part (at + 9 - 9) (at + 9 + length content) bytes) ≡ Some given → given ≡ framed op (part (at + 9) (at + 9 + length content) bytes)
frame_inside bytes at to op content behind given found is =
    let mid = at + 9 + length content in
    let back : at + 9 - 9 ≡ at = omega arith in
    sym (same_Some (part (at + 9 - 9) mid bytes) given is)
    ∙ ap (λ (n : ℕ). part n mid bytes) back
    ∙ found.frame
    ∙ ap (framed op) (sym found.content_there)

not_none : {X : Type 0} (x : X) (xs : List X) → x ∷ xs ≡ [] → ⊥
not_none x xs e = let size : length (x ∷ xs) ≡ 0 = ap length e in omega (arith, size)

reaches_on : (tops : List Top) (given : List Placed) (p : Placed) → ReachesLast tops given → ReachesLast tops (given ++ p ∷ [])
reaches_on tops given p last = record {
  earlier = last.earlier;
  last = last.last;
  are = last.are;
  behind = last.behind ++ p ∷ [];
  split = ap (λ (l : List Placed). l ++ p ∷ []) last.split ∙ append_assoc (walked last.earlier) last.behind (p ∷ []);
}

pub given_inside : (old new : FlatReader) (step : FlatStep) (before now : SourceState) (tops : List Top) (given : List Placed) → FlatStands old before now tops given → StepsInside old new (Some step) → FlatAdvanced new before now tops given step
given_inside old new (steps.Record op place) before now tops given was gives =
    let p = placed_at place op (flat_content new) in
    let going = was.going (λ none. not_none p (ahead_of new) (sym gives.due ∙ none)) in
    let last = was.inside (λ none. not_none p (ahead_of new) (sym gives.due ∙ none)) in
    let good = good_stand old.reader before now tops going was.stands in
    let all : walked tops ≡ given ++ p ∷ ahead_of new = was.all ∙ ap (λ (l : List Placed). given ++ l) gives.due in
    let meets = walked_meet tops good (length given) p (subst (λ (l : List Placed). At l (length given) p) (sym all) (at_last given p (ahead_of new))) in
    let still = subst (λ (r : Reader). IsGoing r.stage) (sym gives.same) going in
    record {
      tops = tops;
      more = [];
      grown = sym (append-nil tops);
      last = last;
      stands = record {
        stands = subst (λ (r : Reader). Stands r before now tops) (sym gives.same) was.stands;
        all = all ∙ sym (append_assoc given (p ∷ []) (ahead_of new));
        going = λ some. still;
        inside = λ some. reaches_on tops given p last;
      };
      v6 = meets.0;
      v10 = meets.1;
      frame = gives.frame;
      within = λ is. refl;
      alone = λ outside. absurd (false≢true (sym outside ∙ gives.lent));
      going = still;
    }
given_inside old new (steps.End offset) before now tops given was gives = absurd gives
given_inside old new steps.Refused before now tops given was gives = absurd gives

-- a step inside gives a record that was due
pub due_before : (old new : FlatReader) (step : FlatStep) → StepsInside old new (Some step) → ahead_of old ≡ [] → ⊥
due_before old new (steps.Record op place) gives none = not_none (placed_at place op (flat_content new)) (ahead_of new) (sym gives.due ∙ none)
due_before old new (steps.End offset) gives none = gives
due_before old new steps.Refused gives none = gives

-- ---- the next record of the top level

-- what is due behind a record of the top level
due_behind : (at : ℕ) (t : Top) → placed_inside at 0 (records_in (if is_chunk t then chunk_records t.content else [])) ≡ (if is_chunk t then placed_inside at 0 (inner_tops t) else [])
due_behind at t = by (is_chunk t)
  where
    by : (b : Bool) → placed_inside at 0 (records_in (if b then chunk_records t.content else [])) ≡ (if b then placed_inside at 0 (inner_tops t) else [])
    by true = refl
    by false = ap (placed_inside at 0) records_none

last_fits : (tops : List Top) (t : Top) → Good reading_limits (tops ++ t ∷ []) → V6 t × V10 t
last_fits tops t good = let fits = good (length tops) t (at_last tops t []) in (fits.v6, fits.v10)

-- the reader holds the record that was read, of which nothing was given yet
pub record HoldsTop (flat : FlatReader) (offset : ℕ) : Type 0 where
  pub place : flat.top ≡ offset
  pub front : flat.at ≡ flat.from
  pub lo : flat.lo ≡ 0
  pub hi : flat.hi ≡ length (content_of flat.reader)
  pub outside : flat.inside ≡ false

pub given_top : (flat : FlatReader) (before now : SourceState) (tops : List Top) (given : List Placed) (op offset : ℕ) → walked tops ≡ given → Gives flat.reader before now tops op offset → HoldsTop flat offset → LiesInside (top op (content_of flat.reader)) flat.from flat.to
    → FlatGives flat before now tops given op (record { top = offset; inner = 0 })
given_top flat before now tops given op offset whole gives holds lies =
    let bytes = content_of flat.reader in
    let t = top op bytes in
    let more = tops ++ t ∷ [] in
    let good = good_stand flat.reader before now more gives.going gives.stands in
    let fits = last_fits tops t good in
    let content_is : flat_content flat ≡ bytes = ap (λ (n : ℕ). part n flat.hi bytes) holds.lo ∙ ap (λ (n : ℕ). part 0 n bytes) holds.hi ∙ part_whole bytes in
    let place : Place = record { top = offset; inner = 0 } in
    let none : flat.at - flat.from ≡ 0 = let front = holds.front in omega (arith, front) in
    let ahead : ahead_of flat ≡ (if is_chunk t then placed_inside offset 0 (inner_tops t) else []) =
    ap (λ (n : ℕ). placed_inside n (flat.at - flat.from) (records_in (part flat.at flat.to bytes))) holds.place
    ∙ ap (λ (n : ℕ). placed_inside offset n (records_in (part flat.at flat.to bytes))) none
    ∙ ap (λ (n : ℕ). placed_inside offset 0 (records_in (part n flat.to bytes))) holds.front
    ∙ ap (λ (l : List ℕ). placed_inside offset 0 (records_in l)) (lies.records fits.0)
    ∙ due_behind offset t in
    let p = placed_at place op (flat_content flat) in
    record {
      tops = more;
      more = t ∷ [];
      grown = refl;
      last = record { earlier = tops; last = t; are = refl; behind = []; split = sym whole ∙ sym (append-nil (walked tops)) };
      stands = record {
        stands = gives.stands;
        all =
            walked_more tops t
            ∙ ap (λ (l : List Placed). l ++ walked_one (offset_behind tops) t) whole
            ∙ ap (λ (n : ℕ). given ++ walked_one n t) (sym gives.place)
            ∙ ap (λ (l : List ℕ). given ++ placed_at place op l ∷ (if is_chunk t then placed_inside offset 0 (inner_tops t) else [])) (sym content_is)
            ∙ ap (λ (l : List Placed). given ++ placed_at place op (flat_content flat) ∷ l) (sym ahead)
            ∙ sym (append_assoc given (placed_at place op (flat_content flat) ∷ []) (ahead_of flat));
        going = λ some. gives.going;
        inside = λ some. record { earlier = tops; last = t; are = refl; behind = p ∷ []; split = ap (λ (l : List Placed). l ++ p ∷ []) (sym whole) };
      };
      v6 = subst (λ (l : List ℕ). V6 (top op l)) (sym content_is) fits.0;
      v10 = subst (λ (l : List ℕ). V10 (top op l)) (sym content_is) fits.1;
      frame = λ found is. absurd (no_frame (sym (ap (λ (b : Bool). if b then Some (part (flat.lo - 9) flat.hi bytes) else None) holds.outside) ∙ is));
      within = λ is. absurd (false≢true (sym holds.outside ∙ is));
      alone = λ outside. ap (λ (l : List ℕ). top op l ∷ []) (sym content_is);
      going = gives.going;
    }
  where
    no_frame : {found : List ℕ} → None ≡ Some found → ⊥
    no_frame e = cc

-- ---- no record more

-- a reader of which nothing is due stands as its source does
pub still_stands : (flat : FlatReader) (before now : SourceState) (tops : List Top) (given : List Placed) → Stands flat.reader before now tops → walked tops ≡ given → flat.at ≡ 0 → flat.to ≡ 0 → FlatStands flat before now tops given
still_stands flat before now tops given stands whole front back =
    let bytes = content_of flat.reader in
    let none : ahead_of flat ≡ [] =
    ap (λ (n : ℕ). placed_inside flat.top (flat.at - flat.from) (records_in (part n flat.to bytes))) front
    ∙ ap (λ (n : ℕ). placed_inside flat.top (flat.at - flat.from) (records_in (part 0 n bytes))) back
    ∙ nothing_due flat.top (flat.at - flat.from) 0 bytes in
    record {
      stands = stands;
      all = whole ∙ sym (append-nil given) ∙ ap (λ (l : List Placed). given ++ l) (sym none);
      going = λ some. absurd (some none);
      inside = λ some. absurd (some none);
    }
