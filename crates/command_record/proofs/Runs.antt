-- What the openings, the recording and the keepings of all names come to.
use Rattle.std.proofs.Common.{◌≡◌, ℕ, zero, suc, ◌+◌, ◌^◌, ◌<◌, ◌≤◌, Bool, true, false, ◌||◌, List, [], ◌∷◌, ◌++◌, length, map, take, append_assoc, length-append, Option, Some, None, Err, refl, sym, ap, subst, inl, inr, ◌∙◌, arith}
use Rattle.std.specs.List.{AllZip, list_any}
use Rattle.std.proofs.lemmas.Option.{same_Some}
use Rattle.std.proofs.lemmas.List.{append-nil, map-append, length-map}
use Rattle.std.proofs.lemmas.Grind.{flat_map-append}
use Rattle.mcap_io.specs.Outside.{added, Opening, Keeping, Told, SourceState, WorldState, TellsName}
use Rattle.mcap_io.specs.OutsideCalls.{Opens, OpenCause, CountsStand, with_opening, NoneIsOut}
use Rattle.mcap_io.specs.declared.outside.ObjectKind.{ObjectKind}
use Rattle.mcap_io.specs.declared.outside.ObjectKind.TheVariants as kinds
use Rattle.mcap_io.specs.declared.outside.OutsideRefused.{OutsideRefused}
use Rattle.mcap_io.specs.declared.outside.OutsideRefused.TheVariants as outside_refusals
use Rattle.mcap_model.specs.Places.{At, Each}
use Rattle.mcap_model.proofs.Places.{at_none}
use Rattle.mcap_model.proofs.Lists.{at_either, cut_at}
use Rattle.recorder.specs.declared.report.Report.{Report}
use Rattle.command_base.specs.Outputs.{inputs_and_output, failed_of, LeftUnderName}
use Rattle.command_record.specs.declared.watched_names.WatchedOutcome.{WatchedOutcome}
use Rattle.command_base.specs.Ran.{Wanted, wanted, AreOpened, Leaves, CountsKept, kept, refused, has_failed, failed_names, blamed_among, blamed_names, named_when, input_faults, output_faults, world_faults}
use Rattle.command_record.specs.Record.{FeedKept, feed_entry, feed_names_kept, back_sources, Unreported, SparesOutput}
use Rattle.command_base.specs.InputsSteps.{input_given, with_openings, NoneOut, flags_with}
use Rattle.command_record.specs.Sources.{FeedsOpened, FeedRefused, FeedsKept}
use Rattle.command_record.proofs.Sources.{feeds_tell, feeds_unused}
use Rattle.command_base.proofs.Counting.{added_none}
use Rattle.command_base.proofs.Opened.{tells_more, not_missing, SameNames, leaves_same, holds_same}

-- ---- lists of entries

pub world_faults-append : (xs ys : List Opening) → world_faults (xs ++ ys) ≡ world_faults xs + world_faults ys
world_faults-append [] ys = omega arith
world_faults-append (x ∷ xs) ys = let more = world_faults-append xs ys in omega (arith, more)

pub input_faults-append : (xs ys : List Opening) → input_faults (xs ++ ys) ≡ input_faults xs + input_faults ys
input_faults-append [] ys = omega arith
input_faults-append (x ∷ xs) ys = let more = input_faults-append xs ys in omega (arith, more)

pub output_faults-append : (xs ys : List Opening) → output_faults (xs ++ ys) ≡ output_faults xs + output_faults ys
output_faults-append [] ys = omega arith
output_faults-append (x ∷ xs) ys = let more = output_faults-append xs ys in omega (arith, more)

pub sources_write_nothing : (ks : List FeedKept) → output_faults (map feed_entry ks) ≡ 0
sources_write_nothing [] = refl
sources_write_nothing (k ∷ ks) = let more = sources_write_nothing ks in omega (arith, more)

pub unused_count_nothing : (ks : List FeedKept) → Each (λ (s : SourceState). s.faults ≡ 0) (back_sources ks) → input_faults (map feed_entry ks) ≡ 0
unused_count_nothing [] unused = refl
unused_count_nothing (k ∷ ks) unused = let more = unused_count_nothing ks (λ n s at. unused (suc n) s at) in let first = unused 0 k.back refl in omega (arith, more, first)

pub each_both : {X : Type 0} (P : X → Type 0) (xs ys : List X) → Each P xs → Each P ys → Each P (xs ++ ys)
each_both P xs ys first second n x at = elim (at_either xs ys n x at) [
  | inl within ↦ first n x within
  | inr (k, there, behind) ↦ second k x behind
]

pub each_none : {X : Type 0} (P : X → Type 0) → Each P []
each_none P n x at = absurd (at_none n x at)

pub each_alone : {X : Type 0} (P : X → Type 0) (x : X) → P x → Each P (x ∷ [])
each_alone P x is zero y at = subst P (same_Some x y at) is
each_alone P x is (suc n) y at = absurd (at_none n y at)

pub are_sources : (ks : List FeedKept) → Each (λ (entry : Opening). entry.kind ≡ kinds.Source) (map feed_entry ks)
are_sources [] n entry at = absurd (at_none n entry at)
are_sources (k ∷ ks) zero entry at = ap (λ (e : Opening). e.kind) (sym (same_Some (feed_entry k) entry at))
are_sources (k ∷ ks) (suc n) entry at = are_sources ks n entry at

-- ---- what is left of a feed that wasn't read

abbrev kept_in : Opening → Option Keeping
kept_in entry = entry.kept

abbrev name_in : Opening → List ℕ
name_in entry = entry.name

left_one : (told : Told) (k : FeedKept) → k.back.left ≡ told.names k.name → LeftUnderName told (feed_entry k)
left_one told k left feed keeping is =
    let keepings : Some (record { well = k.well; faults = k.back.faults; left = k.back.left; asked = 0 }) ≡ Some keeping = ap kept_in is in
    let name : k.name ≡ feed = ap name_in is in
    ap (λ (x : Keeping). x.left) (sym (same_Some (record { well = k.well; faults = k.back.faults; left = k.back.left; asked = 0 }) keeping keepings)) ∙ left ∙ ap told.names name

pub left_all : (w : WorldState) (told : Told) (ks : List FeedKept) → w.told ≡ Some told → AllZip (TellsName w) (feed_names_kept ks) (back_sources ks) → Each (LeftUnderName told) (map feed_entry ks)
left_all w told [] here tells n entry at = absurd (at_none n entry at)
left_all w told (k ∷ ks) here tells zero entry at = subst (LeftUnderName told) (same_Some (feed_entry k) entry at) (left_one told k (tells.0 told here).0)
left_all w told (k ∷ ks) here tells (suc n) entry at = left_all w told ks here tells.1 n entry at

-- ---- what was opened

pub opened_all : (ks : List FeedKept) (rest : List Wanted) (behind : List Opening) → AreOpened rest behind → AreOpened (map (λ (name : List ℕ). (kinds.Source, name)) (feed_names_kept ks) ++ rest) (map feed_entry ks ++ behind)
opened_all [] rest behind opens = opens
opened_all (k ∷ ks) rest behind opens = inr (record { well = k.well; faults = k.back.faults; left = k.back.left; asked = 0 }, refl, opened_all ks rest behind opens)

-- ---- an opening that is refused

abbrev pub refusal_of : ObjectKind → List ℕ → OutsideRefused → List Opening
refusal_of kind name outside_refusals.Failed = refused kind name ∷ []
refusal_of kind name outside_refusals.Memory = []

-- it leaves the names, and the counts but for its own failure; it gives nothing to be kept or written
record Refusal (old new : WorldState) (behind : List Opening) : Type 0 where
  told : (told : Told) → old.told ≡ Some told → (now : Told) × (new.told ≡ Some now) × (now.names ≡ told.names) × (now.log ≡ told.log ++ behind)
  stands : CountsStand old new
  world : old.faults < 2 ^ 64 → new.faults ≡ added old.faults (world_faults behind)
  inputs : input_faults behind ≡ 0
  outputs : output_faults behind ≡ 0
  out : NoneOut kinds.Source behind
  left : (told : Told) → Each (LeftUnderName told) behind
  failed : map has_failed behind ≡ map (λ (entry : Opening). true) behind

not_out : (kind : ObjectKind) (other : List ℕ) (name : List ℕ) → NoneIsOut kinds.Source name (refused kind other ∷ [])
not_out kind other name zero d within = λ is. let given = is.given in absurd cc
not_out kind other name (suc n) d within = absurd (omega (arith, within))

refused_so : (kind : ObjectKind) (name : List ℕ) (old new : WorldState) (why : OutsideRefused) → ((n : ℕ) → input_faults (refused kind name ∷ []) ≡ 0) → ((n : ℕ) → output_faults (refused kind name ∷ []) ≡ 0) → Opens {T = Unit} old new kind name (Err why) → CountsStand old new → OpenCause {T = Unit} old.faults new.faults (Err why)
    → Refusal old new (refusal_of kind name why)
refused_so kind name old new outside_refusals.Failed no_inputs no_outputs opens stands cause = record {
  told = λ told here. (with_opening told (refused kind name), tells_more old.told new.told (refused kind name) told opens here, refl, refl);
  stands = stands;
  world = λ fits. cause.once;
  inputs = no_inputs 0;
  outputs = no_outputs 0;
  out = not_out kind name;
  left = λ told. each_alone (LeftUnderName told) (refused kind name) (λ feed keeping is. let none : None ≡ Some keeping = ap kept_in is in absurd cc);
  failed = refl;
}
refused_so kind name old new outside_refusals.Memory no_inputs no_outputs opens stands cause = record {
  told = λ told here. (told, opens ∙ here, refl, sym (append-nil told.log));
  stands = stands;
  world = λ fits. added_none old.faults new.faults fits cause;
  inputs = refl;
  outputs = refl;
  out = λ n k d within. absurd (omega (arith, within));
  left = λ told. each_none (LeftUnderName told);
  failed = refl;
}

-- ---- nothing was recorded

-- What became of all names where the output or a feed wasn't given, or memory lacked before: nothing was recorded.
pub record NamesUnrecorded (out : List ℕ) (feeds : List (List ℕ)) (old new : WorldState) (outcome : WatchedOutcome) : Type 0 where
  pub entries : List Opening
  pub opened : AreOpened (wanted (inputs_and_output kinds.Source feeds out)) entries
  pub leaves : Leaves old new entries
  pub counts : CountsKept old new entries
  pub none : outcome.report ≡ None
  pub unreported : Unreported out old new entries
  pub spares : SparesOutput out feeds old new
  -- the entries of the feeds failed so, and then that of the output, if it was reached
  pub inputs : List Opening
  pub outputs : List Opening
  pub few : length inputs ≤ length feeds
  pub parts : entries ≡ inputs ++ outputs
  pub sources : Each (λ (entry : Opening). entry.kind ≡ kinds.Source) inputs
  pub stores : Each (λ (entry : Opening). entry.kind ≡ kinds.Live) outputs
  pub feeds_failed : outcome.feeds_failed.items ≡ map has_failed inputs
  pub out_failed : outcome.out_failed ≡ list_any has_failed outputs
  pub failed : failed_names entries ≡ blamed_names (inputs_and_output kinds.Source feeds out) (failed_of outcome.feeds_failed.items outcome.out_failed)

abbrev pub unmade : List Bool → Bool → WatchedOutcome → Type 0
unmade flags out_failed outcome = (outcome.report ≡ None) × (outcome.feeds_failed.items ≡ flags) × (outcome.out_failed ≡ out_failed)

pub none_some : (r : Report) → None ≡ Some r → ⊥
none_some r e = cc

-- these feeds were opened, then an opening was refused, and the feeds were kept
record Unread (w0 w1 w2 w3 : WorldState) (fs : List (List ℕ)) (ss : List SourceState) (behind : List Opening) (flags : List Bool) : Type 0 where
  opened : FeedsOpened w0 w1 fs ss
  refusal : Refusal w1 w2 behind
  kept : FeedsKept w2 w3 fs ss flags
  world_fits : w0.faults < 2 ^ 64
  inputs_fit : w0.input_faults < 2 ^ 64
  outputs_fit : w0.output_faults < 2 ^ 64

module _ (w0 w1 w2 w3 : WorldState) (fs : List (List ℕ)) (ss : List SourceState) (behind : List Opening) (flags : List Bool) (it : Unread w0 w1 w2 w3 fs ss behind flags) where
  abbrev entries : List Opening
  entries = map feed_entry it.kept.kept ++ behind

  same : SameNames w0 w3 entries
  same told here =
      let second = it.refusal.told (with_openings told (map (input_given kinds.Source) fs)) (it.opened.told told here) in
      let third = it.kept.told second.0 told.log behind second.1 (second.3 ∙ append_assoc told.log (map (input_given kinds.Source) fs) behind) it.refusal.out in
      (third.0, third.1, third.3, third.2 ∙ second.2)

  back_tells : AllZip (TellsName w0) (feed_names_kept it.kept.kept) (back_sources it.kept.kept)
  back_tells = subst (λ (l : List SourceState). AllZip (TellsName w0) (feed_names_kept it.kept.kept) l) it.kept.backs_are (subst (λ (l : List (List ℕ)). AllZip (TellsName w0) l ss) it.kept.names_are (feeds_tell w0 w1 fs ss it.opened))

  no_inputs : input_faults entries ≡ 0
  no_inputs =
      let first = unused_count_nothing it.kept.kept (subst (Each (λ (s : SourceState). s.faults ≡ 0)) it.kept.backs_are (feeds_unused w0 w1 fs ss it.opened)) in
      omega (arith, input_faults-append (map feed_entry it.kept.kept) behind, first, it.refusal.inputs)

  no_outputs : output_faults entries ≡ 0
  no_outputs = omega (arith, output_faults-append (map feed_entry it.kept.kept) behind, sources_write_nothing it.kept.kept, it.refusal.outputs)

  unrecorded : (out : List ℕ) (feeds : List (List ℕ)) (outcome : WatchedOutcome) (inputs outputs : List Opening) → AreOpened (wanted (inputs_and_output kinds.Source feeds out)) entries → entries ≡ inputs ++ outputs → length inputs ≤ length feeds
      → Each (λ (entry : Opening). entry.kind ≡ kinds.Source) inputs → Each (λ (entry : Opening). entry.kind ≡ kinds.Live) outputs
      → outcome.report ≡ None → outcome.feeds_failed.items ≡ map has_failed inputs → outcome.out_failed ≡ list_any has_failed outputs
      → failed_names entries ≡ blamed_names (inputs_and_output kinds.Source feeds out) (failed_of outcome.feeds_failed.items outcome.out_failed) → NamesUnrecorded out feeds w0 w3 outcome
  unrecorded out feeds outcome inputs outputs opens parts few sources stores none flags_are out_is names =
      let second = it.refusal.world (omega (arith, it.opened.still, it.world_fits)) in
      let third = it.kept.world (omega (arith, second)) in
      let rest = it.kept.inputs (omega (arith, it.refusal.stands.inputs, it.opened.stands.inputs, it.inputs_fit)) in
      record {
        entries = entries;
        opened = opens;
        leaves = leaves_same w0 w3 entries same;
        counts = record {
          world = omega (arith, world_faults-append (map feed_entry it.kept.kept) behind, it.opened.still, second, third);
          inputs = omega (arith, input_faults-append (map feed_entry it.kept.kept) behind, it.refusal.inputs, rest, it.refusal.stands.inputs, it.opened.stands.inputs);
          outputs = omega (arith, no_outputs, it.kept.outputs, it.refusal.stands.outputs, it.opened.stands.outputs, it.outputs_fit);
        };
        none = none;
        unreported = record {
          inputs = no_inputs;
          outputs = no_outputs;
          left = λ told here. each_both (LeftUnderName told) (map feed_entry it.kept.kept) behind (left_all w0 told it.kept.kept here back_tells) (it.refusal.left told);
          file = λ told now here here_now. inl (holds_same out w0 w3 entries same told now here here_now);
        };
        spares = λ told now here here_now feed has missing. holds_same out w0 w3 entries same told now here here_now;
        inputs = inputs;
        outputs = outputs;
        few = few;
        parts = parts;
        sources = sources;
        stores = stores;
        feeds_failed = flags_are;
        out_failed = out_is;
        failed = names;
      }

pub map_kept : (ks : List FeedKept) → map has_failed (map feed_entry ks) ≡ map (λ (k : FeedKept). has_failed (feed_entry k)) ks
map_kept [] = refl
map_kept (k ∷ ks) = ap (λ (l : List Bool). has_failed (feed_entry k) ∷ l) (map_kept ks)

-- the names of feeds that were kept and failed, and those behind
blamed_kept : (ks : List FeedKept) (names : List (List ℕ)) (flags : List Bool) (behind : List (List ℕ)) → blamed_among (feed_names_kept ks ++ names) (map has_failed (map feed_entry ks) ++ flags) behind ≡ failed_names (map feed_entry ks) ++ blamed_among names flags behind
blamed_kept [] names flags behind = refl
blamed_kept (k ∷ ks) names flags behind =
    ap (λ (l : List (List ℕ)). named_when (has_failed (feed_entry k)) k.name ++ l) (blamed_kept ks names flags behind)
    ∙ sym (append_assoc (named_when (has_failed (feed_entry k)) k.name) (failed_names (map feed_entry ks)) (blamed_among names flags behind))

-- the names of the outcome are those of the entries
pub names_same : (out : List ℕ) (feeds more : List (List ℕ)) (ks : List FeedKept) (behind : List Opening) (flags : List Bool) (o : Bool) (all : List Bool) → feeds ≡ feed_names_kept ks ++ more → all ≡ map has_failed (map feed_entry ks) ++ flags
    → failed_names behind ≡ blamed_among more flags (named_when o out ++ []) → failed_names (map feed_entry ks ++ behind) ≡ blamed_names (inputs_and_output kinds.Source feeds out) (failed_of all o)
names_same out feeds more ks behind flags o all feeds_are all_are behind_are =
    flat_map-append (λ (entry : Opening). named_when (has_failed entry) entry.name) (map feed_entry ks) behind
    ∙ ap (λ (l : List (List ℕ)). failed_names (map feed_entry ks) ++ l) behind_are
    ∙ sym (blamed_kept ks more flags (named_when o out ++ []))
    ∙ ap (λ (l : List Bool). blamed_among (feed_names_kept ks ++ more) l (named_when o out ++ [])) (sym all_are)
    ∙ ap (λ (l : List (List ℕ)). blamed_among l all (named_when o out ++ [])) (sym feeds_are)

-- ---- the output wasn't given

pub out_refused : (out : List ℕ) (feeds : List (List ℕ)) (w0 w1 w2 w3 : WorldState) (ss : List SourceState) (flags : List Bool) (why : OutsideRefused) (failed : Bool) (outcome : WatchedOutcome) → FeedsOpened w0 w1 feeds ss
    → Opens {T = Unit} w1 w2 kinds.Live out (Err why) → CountsStand w1 w2 → OpenCause {T = Unit} w1.faults w2.faults (Err why) → FeedsKept w2 w3 feeds ss flags
    → w0.faults < 2 ^ 64 → w0.input_faults < 2 ^ 64 → w0.output_faults < 2 ^ 64
    → (failed ≡ true → why ≡ outside_refusals.Failed) → (failed ≡ false → why ≡ outside_refusals.Memory) → unmade flags failed outcome → NamesUnrecorded out feeds w0 w3 outcome
out_refused out feeds w0 w1 w2 w3 ss flags why failed outcome opened opens stands cause kept world_fits inputs_fit outputs_fit is_failed is_memory made =
    let it : Unread w0 w1 w2 w3 feeds ss (refusal_of kinds.Live out why) flags = record { opened = opened; refusal = refused_so kinds.Live out w1 w2 why (λ n. refl) (λ n. refl) opens stands cause; kept = kept; world_fits = world_fits; inputs_fit = inputs_fit; outputs_fit = outputs_fit } in
    unrecorded w0 w1 w2 w3 feeds ss (refusal_of kinds.Live out why) flags it out feeds outcome (map feed_entry kept.kept) (refusal_of kinds.Live out why)
    (subst (λ (l : List (List ℕ)). AreOpened (wanted (inputs_and_output kinds.Source l out)) (map feed_entry kept.kept ++ refusal_of kinds.Live out why)) (sym kept.names_are) (opened_all kept.kept ((kinds.Live, out) ∷ []) (refusal_of kinds.Live out why) (opens_out why)))
    refl
    (omega (arith, length-map kept.kept feed_entry, length-map kept.kept (λ (k : FeedKept). k.name), ap length kept.names_are))
    (are_sources kept.kept)
    (is_store why)
    made.0
    (made.1 ∙ kept.failed_are ∙ sym (map_kept kept.kept))
    (made.2 ∙ told_so why failed is_failed is_memory)
    (names_same out feeds [] kept.kept (refusal_of kinds.Live out why) [] outcome.out_failed outcome.feeds_failed.items (kept.names_are ∙ sym (append-nil (feed_names_kept kept.kept))) (made.1 ∙ kept.failed_are ∙ sym (map_kept kept.kept) ∙ sym (append-nil (map has_failed (map feed_entry kept.kept))))
    (named_so why failed is_failed is_memory ∙ ap (λ (b : Bool). named_when b out ++ []) (sym made.2)))
  where
    named_so : (why : OutsideRefused) (failed : Bool) → (failed ≡ true → why ≡ outside_refusals.Failed) → (failed ≡ false → why ≡ outside_refusals.Memory) → failed_names (refusal_of kinds.Live out why) ≡ named_when failed out ++ []
    named_so outside_refusals.Failed true a b = refl
    named_so outside_refusals.Failed false a b = absurd (let e = b refl in cc)
    named_so outside_refusals.Memory true a b = absurd (let e = a refl in cc)
    named_so outside_refusals.Memory false a b = refl

    opens_out : (why : OutsideRefused) → AreOpened ((kinds.Live, out) ∷ []) (refusal_of kinds.Live out why)
    opens_out outside_refusals.Failed = inl (refl, refl)
    opens_out outside_refusals.Memory = tt

    is_store : (why : OutsideRefused) → Each (λ (entry : Opening). entry.kind ≡ kinds.Live) (refusal_of kinds.Live out why)
    is_store outside_refusals.Failed = each_alone (λ (entry : Opening). entry.kind ≡ kinds.Live) (refused kinds.Live out) refl
    is_store outside_refusals.Memory = each_none (λ (entry : Opening). entry.kind ≡ kinds.Live)

    told_so : (why : OutsideRefused) (failed : Bool) → (failed ≡ true → why ≡ outside_refusals.Failed) → (failed ≡ false → why ≡ outside_refusals.Memory) → failed ≡ list_any has_failed (refusal_of kinds.Live out why)
    told_so outside_refusals.Failed true a b = refl
    told_so outside_refusals.Failed false a b = absurd (let e = b refl in cc)
    told_so outside_refusals.Memory true a b = absurd (let e = a refl in cc)
    told_so outside_refusals.Memory false a b = refl

-- ---- a feed wasn't given

pub feed_refused : (out : List ℕ) (feeds : List (List ℕ)) (w0 w2 w3 : WorldState) (ss : List SourceState) (flags : List Bool) (why : OutsideRefused) (failed : Bool) (outcome : WatchedOutcome) → FeedRefused w0 w2 feeds ss why → FeedsKept w2 w3 (take (length ss) feeds) ss flags
    → w0.faults < 2 ^ 64 → w0.input_faults < 2 ^ 64 → w0.output_faults < 2 ^ 64
    → (failed ≡ true → why ≡ outside_refusals.Failed) → (failed ≡ false → why ≡ outside_refusals.Memory) → unmade (flags_with flags failed) false outcome → NamesUnrecorded out feeds w0 w3 outcome
feed_refused out feeds w0 w2 w3 ss flags why failed outcome refuses kept world_fits inputs_fit outputs_fit is_failed is_memory made =
    let name = refuses.name in
    let behind = refusal_of kinds.Source name why in
    let cut = cut_at feeds (length ss) name refuses.next in
    let split : feeds ≡ feed_names_kept kept.kept ++ name ∷ cut.0 = cut.1 ∙ ap (λ (l : List (List ℕ)). l ++ name ∷ cut.0) kept.names_are in
    let it : Unread w0 refuses.between w2 w3 (take (length ss) feeds) ss behind flags = record { opened = refuses.first; refusal = refused_so kinds.Source name refuses.between w2 why (λ n. refl) (λ n. refl) refuses.refuses refuses.stands refuses.cause; kept = kept; world_fits = world_fits; inputs_fit = inputs_fit; outputs_fit = outputs_fit } in
    let wanted_are : map (λ (n : List ℕ). (kinds.Source, n)) (feed_names_kept kept.kept) ++ (map (λ (n : List ℕ). (kinds.Source, n)) (name ∷ cut.0) ++ (kinds.Live, out) ∷ []) ≡ wanted (inputs_and_output kinds.Source feeds out) =
    sym (append_assoc (map (λ (n : List ℕ). (kinds.Source, n)) (feed_names_kept kept.kept)) (map (λ (n : List ℕ). (kinds.Source, n)) (name ∷ cut.0)) ((kinds.Live, out) ∷ []))
    ∙ ap (λ (l : List Wanted). l ++ (kinds.Live, out) ∷ []) (sym (map-append (λ (n : List ℕ). (kinds.Source, n)) (feed_names_kept kept.kept) (name ∷ cut.0)))
    ∙ ap (λ (l : List (List ℕ)). wanted (inputs_and_output kinds.Source l out)) (sym split) in
    let lengths : length feeds ≡ length kept.kept + suc (length cut.0) = ap length split ∙ length-append (feed_names_kept kept.kept) (name ∷ cut.0) ∙ ap (λ (n : ℕ). n + suc (length cut.0)) (length-map kept.kept (λ (k : FeedKept). k.name)) in
    unrecorded w0 refuses.between w2 w3 (take (length ss) feeds) ss behind flags it out feeds outcome (map feed_entry kept.kept ++ behind) []
    (subst (λ (l : List Wanted). AreOpened l (map feed_entry kept.kept ++ behind)) wanted_are (opened_all kept.kept (map (λ (n : List ℕ). (kinds.Source, n)) (name ∷ cut.0) ++ (kinds.Live, out) ∷ []) behind (opens_next why name (map (λ (n : List ℕ). (kinds.Source, n)) cut.0 ++ (kinds.Live, out) ∷ []))))
    (sym (append-nil (map feed_entry kept.kept ++ behind)))
    (omega (arith, lengths, length-append (map feed_entry kept.kept) behind, length-map kept.kept feed_entry, at_most_one why name))
    (each_both (λ (entry : Opening). entry.kind ≡ kinds.Source) (map feed_entry kept.kept) behind (are_sources kept.kept) (is_source why name))
    (each_none (λ (entry : Opening). entry.kind ≡ kinds.Live))
    made.0
    (made.1 ∙ told_so why failed name is_failed is_memory kept.kept flags kept.failed_are)
    made.2
    (names_same out feeds (name ∷ cut.0) kept.kept behind (flag_of failed) outcome.out_failed outcome.feeds_failed.items split (made.1 ∙ flags_so failed flags kept.kept kept.failed_are)
    (named_so why failed name cut.0 is_failed is_memory ∙ ap (λ (b : Bool). blamed_among (name ∷ cut.0) (flag_of failed) (named_when b out ++ [])) (sym made.2)))
  where
    flag_of : Bool → List Bool
    flag_of true = true ∷ []
    flag_of false = []

    none_more : (more behind : List (List ℕ)) → blamed_among more [] behind ≡ behind
    none_more [] behind = refl
    none_more (n ∷ more) behind = refl

    flags_so : (failed : Bool) (flags : List Bool) (ks : List FeedKept) → flags ≡ map (λ (k : FeedKept). has_failed (feed_entry k)) ks → flags_with flags failed ≡ map has_failed (map feed_entry ks) ++ flag_of failed
    flags_so true flags ks are = ap (λ (l : List Bool). l ++ true ∷ []) (are ∙ sym (map_kept ks))
    flags_so false flags ks are = are ∙ sym (map_kept ks) ∙ sym (append-nil (map has_failed (map feed_entry ks)))

    named_so : (why : OutsideRefused) (failed : Bool) (name : List ℕ) (more : List (List ℕ)) → (failed ≡ true → why ≡ outside_refusals.Failed) → (failed ≡ false → why ≡ outside_refusals.Memory) → failed_names (refusal_of kinds.Source name why) ≡ blamed_among (name ∷ more) (flag_of failed) (named_when false out ++ [])
    named_so outside_refusals.Failed true name more a b = ap (λ (l : List (List ℕ)). name ∷ l) (sym (none_more more []))
    named_so outside_refusals.Failed false name more a b = absurd (let e = b refl in cc)
    named_so outside_refusals.Memory true name more a b = absurd (let e = a refl in cc)
    named_so outside_refusals.Memory false name more a b = refl

    opens_next : (why : OutsideRefused) (name : List ℕ) (more : List Wanted) → AreOpened ((kinds.Source, name) ∷ more) (refusal_of kinds.Source name why)
    opens_next outside_refusals.Failed name more = inl (refl, refl)
    opens_next outside_refusals.Memory name more = tt

    at_most_one : (why : OutsideRefused) (name : List ℕ) → length (refusal_of kinds.Source name why) ≤ 1
    at_most_one outside_refusals.Failed name = omega arith
    at_most_one outside_refusals.Memory name = omega arith

    is_source : (why : OutsideRefused) (name : List ℕ) → Each (λ (entry : Opening). entry.kind ≡ kinds.Source) (refusal_of kinds.Source name why)
    is_source outside_refusals.Failed name = each_alone (λ (entry : Opening). entry.kind ≡ kinds.Source) (refused kinds.Source name) refl
    is_source outside_refusals.Memory name = each_none (λ (entry : Opening). entry.kind ≡ kinds.Source)

    told_so : (why : OutsideRefused) (failed : Bool) (name : List ℕ) → (failed ≡ true → why ≡ outside_refusals.Failed) → (failed ≡ false → why ≡ outside_refusals.Memory) → (ks : List FeedKept) (flags : List Bool) → flags ≡ map (λ (k : FeedKept). has_failed (feed_entry k)) ks
        → flags_with flags failed ≡ map has_failed (map feed_entry ks ++ refusal_of kinds.Source name why)
    told_so outside_refusals.Failed true name a b ks flags are = ap (λ (l : List Bool). l ++ true ∷ []) (are ∙ sym (map_kept ks)) ∙ sym (map-append has_failed (map feed_entry ks) (refused kinds.Source name ∷ []))
    told_so outside_refusals.Failed false name a b ks flags are = absurd (let e = b refl in cc)
    told_so outside_refusals.Memory true name a b ks flags are = absurd (let e = a refl in cc)
    told_so outside_refusals.Memory false name a b ks flags are = are ∙ sym (map_kept ks) ∙ ap (map has_failed) (sym (append-nil (map feed_entry ks)))

-- ---- memory lacked before anything was opened

pub nothing_opened : (out : List ℕ) (feeds : List (List ℕ)) (w : WorldState) (outcome : WatchedOutcome) → 1 ≤ length feeds → w.faults < 2 ^ 64 → w.input_faults < 2 ^ 64 → w.output_faults < 2 ^ 64 → unmade [] false outcome → NamesUnrecorded out feeds w w outcome
nothing_opened out [] w outcome some world_fits inputs_fit outputs_fit made = absurd (omega (arith, some))
nothing_opened out (feed ∷ feeds) w outcome some world_fits inputs_fit outputs_fit made =
    let same : SameNames w w [] = λ told here. (told, here, sym (append-nil told.log), refl) in
    record {
      entries = [];
      opened = tt;
      leaves = leaves_same w w [] same;
      counts = record { world = added_none w.faults w.faults world_fits refl; inputs = added_none w.input_faults w.input_faults inputs_fit refl; outputs = added_none w.output_faults w.output_faults outputs_fit refl };
      none = made.0;
      unreported = record { inputs = refl; outputs = refl; left = λ told here. each_none (LeftUnderName told); file = λ told now here here_now. inl (holds_same out w w [] same told now here here_now) };
      spares = λ told now here here_now other has missing. holds_same out w w [] same told now here here_now;
      inputs = [];
      outputs = [];
      few = omega arith;
      parts = refl;
      sources = each_none (λ (entry : Opening). entry.kind ≡ kinds.Source);
      stores = each_none (λ (entry : Opening). entry.kind ≡ kinds.Live);
      feeds_failed = made.1;
      out_failed = made.2;
      failed = ap (λ (b : Bool). named_when b out ++ []) (sym made.2) ∙ ap (λ (l : List Bool). blamed_among (feed ∷ feeds) l (named_when outcome.out_failed out ++ [])) (sym made.1);
    }

-- ---- for recordings that are made

pub or_nothing : (a : Bool) → a ≡ (a || false)
or_nothing true = refl
or_nothing false = refl

-- a name that is told is there
pub has_there : (w : WorldState) (told : Told) (feeds : List (List ℕ)) (ss : List SourceState) (n : ℕ) (feed : List ℕ) (A : Type 0) → w.told ≡ Some told → AllZip (TellsName w) feeds ss → At feeds n feed → told.names feed ≡ None → A
has_there w told [] ss n feed A here tells at missing = absurd (at_none n feed at)
has_there w told (f ∷ fs) [] n feed A here tells at missing = absurd tells
has_there w told (f ∷ fs) (s ∷ ss) zero feed A here tells at missing = not_missing (told.names f) A (tells.0 told here).1 (ap told.names (same_Some f feed at) ∙ missing)
has_there w told (f ∷ fs) (s ∷ ss) (suc n) feed A here tells at missing = has_there w told fs ss n feed A here tells.1 at missing
