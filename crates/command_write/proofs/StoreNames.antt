-- What the openings and the keepings of stores and of an output come to.
use Rattle.std.proofs.Common.{◌≡◌, ◌⊎◌, ℕ, zero, suc, ◌+◌, ◌^◌, ◌<◌, ◌≤◌, Bool, true, false, ◌||◌, List, [], ◌∷◌, ◌++◌, length, map, take, append_assoc, length-append, Some, None, Result, Err, refl, sym, ap, subst, inl, inr, ◌∙◌, arith}
use Rattle.std.specs.List.{AllZip, list_any}
use Rattle.std.specs.Option.{option_map}
use Rattle.std.proofs.lemmas.Option.{same_Some}
use Rattle.std.proofs.lemmas.List.{append-nil, map-append, length-map}
use Rattle.std.proofs.lemmas.List.Folds.{list_any-append}
use Rattle.std.proofs.lemmas.Grind.{flat_map-append}
use Rattle.mcap_io.specs.Outside.{added, Opening, Keeping, Told, opened, LiveState, WorldState, Names}
use Rattle.mcap_io.specs.OutsideCalls.{HasCause, Opens, OpenCause, CountsStand, with_opening, went_well, TellsNothingYet, KeepsLive, KeepsName, NoneIsOut}
use Rattle.mcap_io.specs.Stores.{StoreState, IsUnused, TellsStore}
use Rattle.mcap_io.specs.declared.outside.Failed.{Failed}
use Rattle.mcap_io.specs.declared.outside.ObjectKind.{ObjectKind}
use Rattle.mcap_io.specs.declared.outside.ObjectKind.TheVariants as kinds
use Rattle.mcap_io.specs.declared.outside.OutsideRefused.{OutsideRefused}
use Rattle.mcap_io.specs.declared.outside.OutsideRefused.TheVariants as outside_refusals
use Rattle.mcap_io.proofs.Notes.{noted_in}
use Rattle.mcap_model.specs.Places.{Each}
use Rattle.mcap_model.proofs.Places.{at_none, has_last}
use Rattle.mcap_model.proofs.Lists.{each_joined, cut_at}
use Rattle.command_base.specs.Ran.{Wanted, wanted, kept, refused, has_failed, failed_so, failed_names, blamed_among, blamed_names, named_when, input_faults, output_faults, world_faults, AreOpened, IsGivenLive}
use Rattle.command_base.proofs.Counting.{added_none, kept_adds}
use Rattle.command_base.specs.InputKinds.{store_input}
use Rattle.command_base.proofs.Opened.{tells_more, live_keeping, SameNames, leaves_same, holds_same, same_told}
use Rattle.command_base.specs.OutputSteps.{NamesKept}
use Rattle.command_base.specs.Inputs.{store_keeping, names_kept, backs_of}
use Rattle.command_base.specs.InputsSteps.{StoreSeen, input_given, with_openings, InputsOpened, InputOpeningRefused, NoneOut, InputsKept, flags_with}
use Rattle.command_base.specs.Outputs.{inputs_and_output, failed_of, some_failed, IsUnasked, LeftUnderName, Unreached}
use Rattle.command_write.specs.Merge.{StoreKept, store_entry, some_refused}
use Rattle.command_base.proofs.NameEntries.{AreKind, world_faults-append, input_faults-append, output_faults-append, names_kept_by}

-- ---- lists of entries

inputs_write_nothing : (ks : List StoreKept) → output_faults (map store_entry ks) ≡ 0
inputs_write_nothing [] = refl
inputs_write_nothing (k ∷ ks) = let more = inputs_write_nothing ks in omega (arith, more)

unused_count_nothing : (ks : List StoreKept) → Each IsUnused (backs_of ks) → input_faults (map store_entry ks) ≡ 0
unused_count_nothing [] unused = refl
unused_count_nothing (k ∷ ks) unused = let more = unused_count_nothing ks (λ n s at. unused (suc n) s at) in let first = (unused 0 k.back refl).faults in omega (arith, more, first)

each_none : {X : Type 0} (P : X → Type 0) → Each P []
each_none P n x at = absurd (at_none n x at)

each_alone : {X : Type 0} (P : X → Type 0) (x : X) → P x → Each P (x ∷ [])
each_alone P x is zero y at = subst P (same_Some x y at) is
each_alone P x is (suc n) y at = absurd (at_none n y at)

are_stores : (ks : List StoreKept) → AreKind kinds.Store (map store_entry ks)
are_stores [] n entry at = absurd (at_none n entry at)
are_stores (k ∷ ks) zero entry at = ap (λ (e : Opening). e.kind) (sym (same_Some (store_entry k) entry at))
are_stores (k ∷ ks) (suc n) entry at = are_stores ks n entry at

map_kept : (ks : List StoreKept) → map has_failed (map store_entry ks) ≡ map (λ (k : StoreKept). has_failed (store_entry k)) ks
map_kept [] = refl
map_kept (k ∷ ks) = ap (λ (l : List Bool). has_failed (store_entry k) ∷ l) (map_kept ks)

-- those that were kept were given
given_first : (ks : List StoreKept) (behind : List Opening) → some_refused (map store_entry ks ++ behind) ≡ some_refused behind
given_first [] behind = refl
given_first (k ∷ ks) behind = given_first ks behind

-- a store that is unused was asked for nothing
unasked_one : (k : StoreKept) → IsUnused k.back → IsUnasked (store_entry k)
unasked_one k unused keeping is =
    ap (λ (x : Keeping). x.asked) (sym (same_Some (store_keeping k.back k.well) keeping is)) ∙ unused.asked

unasked_all : (ks : List StoreKept) → Each IsUnused (backs_of ks) → Each IsUnasked (map store_entry ks)
unasked_all [] unused n entry at = absurd (at_none n entry at)
unasked_all (k ∷ ks) unused zero entry at = subst IsUnasked (same_Some (store_entry k) entry at) (unasked_one k (unused 0 k.back refl))
unasked_all (k ∷ ks) unused (suc n) entry at = unasked_all ks (λ m s there. unused (suc m) s there) n entry at

-- no store is a source
left_one : (told : Told) (k : StoreKept) → LeftUnderName told (store_entry k)
left_one told k name keeping is = let kind = ap (λ (e : Opening). e.kind) is in absurd cc

left_all : (told : Told) (ks : List StoreKept) → Each (LeftUnderName told) (map store_entry ks)
left_all told [] n entry at = absurd (at_none n entry at)
left_all told (k ∷ ks) zero entry at = subst (LeftUnderName told) (same_Some (store_entry k) entry at) (left_one told k)
left_all told (k ∷ ks) (suc n) entry at = left_all told ks n entry at

-- what is seen of the stores that were opened
pub stores_tell : (w : WorldState) (names : List (List ℕ)) (ss : List StoreState) → AllZip (StoreSeen w) names ss → AllZip (TellsStore w) names ss
stores_tell w [] [] seen = tt
stores_tell w [] (s ∷ ss) seen = absurd seen
stores_tell w (n ∷ names) [] seen = absurd seen
stores_tell w (n ∷ names) (s ∷ ss) seen = (seen.0.tells, stores_tell w names ss seen.1)

pub stores_unused : (w : WorldState) (names : List (List ℕ)) (ss : List StoreState) → AllZip (StoreSeen w) names ss → Each IsUnused ss
stores_unused w [] [] seen n s at = absurd (at_none n s at)
stores_unused w [] (x ∷ ss) seen n s at = absurd seen
stores_unused w (name ∷ names) [] seen n s at = absurd seen
stores_unused w (name ∷ names) (x ∷ ss) seen zero s at = subst IsUnused (same_Some x s at) seen.0.unused
stores_unused w (name ∷ names) (x ∷ ss) seen (suc n) s at = stores_unused w names ss seen.1 n s at

-- ---- what was opened

opened_all : (ks : List StoreKept) (rest : List Wanted) (behind : List Opening) → AreOpened rest behind → AreOpened (map (λ (name : List ℕ). (kinds.Store, name)) (names_kept ks) ++ rest) (map store_entry ks ++ behind)
opened_all [] rest behind opens = opens
opened_all (k ∷ ks) rest behind opens = inr (store_keeping k.back k.well, refl, opened_all ks rest behind opens)

-- the names of inputs that were kept and failed, and those behind
blamed_kept : (ks : List StoreKept) (names : List (List ℕ)) (flags : List Bool) (behind : List (List ℕ)) → blamed_among (names_kept ks ++ names) (map has_failed (map store_entry ks) ++ flags) behind ≡ failed_names (map store_entry ks) ++ blamed_among names flags behind
blamed_kept [] names flags behind = refl
blamed_kept (k ∷ ks) names flags behind =
    ap (λ (l : List (List ℕ)). named_when (has_failed (store_entry k)) k.name ++ l) (blamed_kept ks names flags behind)
    ∙ sym (append_assoc (named_when (has_failed (store_entry k)) k.name) (failed_names (map store_entry ks)) (blamed_among names flags behind))

-- the names that are told of are those of the entries
names_same : (out : List ℕ) (inputs more : List (List ℕ)) (ks : List StoreKept) (behind : List Opening) (flags : List Bool) (o : Bool) (all : List Bool) → inputs ≡ names_kept ks ++ more → all ≡ map has_failed (map store_entry ks) ++ flags
    → failed_names behind ≡ blamed_among more flags (named_when o out ++ []) → failed_names (map store_entry ks ++ behind) ≡ blamed_names (inputs_and_output kinds.Store inputs out) (failed_of all o)
names_same out inputs more ks behind flags o all inputs_are all_are behind_are =
    flat_map-append (λ (entry : Opening). named_when (has_failed entry) entry.name) (map store_entry ks) behind
    ∙ ap (λ (l : List (List ℕ)). failed_names (map store_entry ks) ++ l) behind_are
    ∙ sym (blamed_kept ks more flags (named_when o out ++ []))
    ∙ ap (λ (l : List Bool). blamed_among (names_kept ks ++ more) l (named_when o out ++ [])) (sym all_are)
    ∙ ap (λ (l : List (List ℕ)). blamed_among l all (named_when o out ++ [])) (sym inputs_are)

-- ---- an opening that is refused

abbrev pub refusal_of : ObjectKind → List ℕ → OutsideRefused → List Opening
refusal_of kind name outside_refusals.Failed = refused kind name ∷ []
refusal_of kind name outside_refusals.Memory = []

-- it leaves the names, and the counts but for its own failure; it gives nothing to be kept or written
record Refusal (old new : WorldState) (behind : List Opening) : Type 0 where
  told : (told : Told) → old.told ≡ Some told → (now : Told) × (new.told ≡ Some now) × (now.names ≡ told.names) × (now.log ≡ told.log ++ behind)
  stands : CountsStand old new
  world : old.faults < 2 ^ 64 → new.faults ≡ added old.faults (world_faults behind)
  inputs : input_faults behind ≡ 0
  outputs : output_faults behind ≡ 0
  out : NoneOut kinds.Store behind
  unasked : Each IsUnasked behind
  left : (told : Told) → Each (LeftUnderName told) behind

not_out : (kind : ObjectKind) (other : List ℕ) (name : List ℕ) → NoneIsOut kinds.Store name (refused kind other ∷ [])
not_out kind other name zero d within = λ is. let given = is.given in absurd cc
not_out kind other name (suc n) d within = absurd (omega (arith, within))

refused_so : (kind : ObjectKind) (name : List ℕ) (old new : WorldState) (why : OutsideRefused) → input_faults (refused kind name ∷ []) ≡ 0 → output_faults (refused kind name ∷ []) ≡ 0 → Opens {T = Unit} old new kind name (Err why) → CountsStand old new
    → OpenCause {T = Unit} old.faults new.faults (Err why) → Refusal old new (refusal_of kind name why)
refused_so kind name old new outside_refusals.Failed no_inputs no_outputs opens stands cause = record {
  told = λ told here. (with_opening told (refused kind name), tells_more old.told new.told (refused kind name) told opens here, refl, refl);
  stands = stands;
  world = λ fits. cause.once;
  inputs = no_inputs;
  outputs = no_outputs;
  out = not_out kind name;
  unasked = each_alone IsUnasked (refused kind name) (λ keeping is. absurd (none_kept keeping is));
  left = λ told. each_alone (LeftUnderName told) (refused kind name) (λ other keeping is. absurd (none_kept keeping (ap (λ (e : Opening). e.kept) is)));
}
  where
    none_kept : (keeping : Keeping) → None ≡ Some keeping → ⊥
    none_kept keeping e = cc
refused_so kind name old new outside_refusals.Memory no_inputs no_outputs opens stands cause = record {
  told = λ told here. (told, opens ∙ here, refl, sym (append-nil told.log));
  stands = stands;
  world = λ fits. added_none old.faults new.faults fits cause;
  inputs = refl;
  outputs = refl;
  out = λ n k d within. absurd (omega (arith, within));
  unasked = each_none IsUnasked;
  left = λ told. each_none (LeftUnderName told);
}

-- whether it failed, as its entry says
refused_is : (kind : ObjectKind) (name : List ℕ) (why : OutsideRefused) (failed : Bool) → (failed ≡ true → why ≡ outside_refusals.Failed) → (failed ≡ false → why ≡ outside_refusals.Memory) → some_refused (refusal_of kind name why) ≡ failed
refused_is kind name outside_refusals.Failed true a b = refl
refused_is kind name outside_refusals.Failed false a b = absurd (let e = b refl in cc)
refused_is kind name outside_refusals.Memory true a b = absurd (let e = a refl in cc)
refused_is kind name outside_refusals.Memory false a b = refl

none_entered : (kind : ObjectKind) (name : List ℕ) (why : OutsideRefused) → some_refused (refusal_of kind name why) ≡ false → length (refusal_of kind name why) ≡ 0
none_entered kind name outside_refusals.Failed is = absurd cc
none_entered kind name outside_refusals.Memory is = refl

-- ---- nothing was read

-- where a name failed some part did
pub told_or : {A B : Type 0} (some : Bool) → A ⊎ B → A ⊎ (B ⊎ (some ≡ true))
told_or some (inl is) = inl is
told_or some (inr is) = inr (inl is)

-- What became of the names of stores and of an output where nothing was read: an opening was refused, or memory lacked for one.
pub record NoneRead (inputs : List (List ℕ)) (out : List ℕ) (old new : WorldState) (inputs_failed : List Bool) (out_failed failed : Bool) : Type 0 where
  pub entries : List Opening
  pub refused_are : some_refused entries ≡ failed
  pub fewer : some_refused entries ≡ false → length entries ≤ length inputs
  pub unreached : Unreached out old new entries
  pub names : NamesKept (inputs_and_output kinds.Store inputs out) old new entries inputs_failed out_failed
  pub sure : failed ≡ true → (some_failed inputs_failed ≡ true) ⊎ (out_failed ≡ true)

-- these inputs were opened, then an opening was refused, and the inputs were kept
record Unread (w0 w1 w2 w3 : WorldState) (fs : List (List ℕ)) (ss : List StoreState) (behind : List Opening) (flags : List Bool) : Type 0 where
  opened : InputsOpened kinds.Store StoreSeen w0 w1 fs ss
  refusal : Refusal w1 w2 behind
  kept : InputsKept kinds.Store store_keeping w2 w3 fs ss flags
  world_fits : w0.faults < 2 ^ 64
  inputs_fit : w0.input_faults < 2 ^ 64
  outputs_fit : w0.output_faults < 2 ^ 64

module _ (w0 w1 w2 w3 : WorldState) (fs : List (List ℕ)) (ss : List StoreState) (behind : List Opening) (flags : List Bool) (it : Unread w0 w1 w2 w3 fs ss behind flags) where
  abbrev entries : List Opening
  entries = map store_entry it.kept.kept ++ behind

  same : SameNames w0 w3 entries
  same told here =
      let second = it.refusal.told (with_openings told (map (input_given kinds.Store) fs)) (it.opened.told told here) in
      let third = it.kept.told second.0 told.log behind second.1 (second.3 ∙ append_assoc told.log (map (input_given kinds.Store) fs) behind) it.refusal.out in
      (third.0, third.1, third.3, third.2 ∙ second.2)

  back_unused : Each IsUnused (backs_of it.kept.kept)
  back_unused = subst (Each IsUnused) it.kept.backs_are (stores_unused w0 fs ss it.opened.seen)

  no_inputs : input_faults entries ≡ 0
  no_inputs =
      let first = unused_count_nothing it.kept.kept back_unused in
      omega (arith, input_faults-append (map store_entry it.kept.kept) behind, first, it.refusal.inputs)

  no_outputs : output_faults entries ≡ 0
  no_outputs = omega (arith, output_faults-append (map store_entry it.kept.kept) behind, inputs_write_nothing it.kept.kept, it.refusal.outputs)

  none_read : (out : List ℕ) (inputs : List (List ℕ)) (flags_are : List Bool) (out_failed failed : Bool) (read written : List Opening) → AreOpened (wanted (inputs_and_output kinds.Store inputs out)) entries → entries ≡ read ++ written → length read ≤ length inputs
      → AreKind kinds.Store read → AreKind kinds.Live written → flags_are ≡ map has_failed read → out_failed ≡ list_any has_failed written
      → failed_names entries ≡ blamed_names (inputs_and_output kinds.Store inputs out) (failed_of flags_are out_failed)
      → some_refused behind ≡ failed → (some_refused behind ≡ false → length behind ≡ 0) → length it.kept.kept ≤ length inputs
      → (failed ≡ true → (some_failed flags_are ≡ true) ⊎ (out_failed ≡ true)) → NoneRead inputs out w0 w3 flags_are out_failed failed
  none_read out inputs flags_are out_failed failed read written opens parts few stores lives flags_so out_so names refused_so_is fewer few_kept told_failed =
      let second = it.refusal.world (omega (arith, it.opened.still, it.world_fits)) in
      let third = it.kept.world (omega (arith, second)) in
      let rest = it.kept.inputs (omega (arith, it.refusal.stands.inputs, it.opened.stands.inputs, it.inputs_fit)) in
      record {
        entries = entries;
        refused_are = given_first it.kept.kept behind ∙ refused_so_is;
        fewer = λ none.
            let last = fewer (sym (given_first it.kept.kept behind) ∙ none) in
            omega (arith, length-append (map store_entry it.kept.kept) behind, length-map it.kept.kept store_entry, last, few_kept);
        unreached = record {
          unread = record {
            inputs = no_inputs;
            outputs = no_outputs;
            unasked = each_joined IsUnasked (map store_entry it.kept.kept) behind (unasked_all it.kept.kept back_unused) it.refusal.unasked;
            left = λ told here. each_joined (LeftUnderName told) (map store_entry it.kept.kept) behind (left_all told it.kept.kept) (it.refusal.left told);
          };
          file = λ told now here here_now. holds_same out w0 w3 entries same told now here here_now;
        };
        names = names_kept_by kinds.Store inputs out w0 w3 entries flags_are out_failed (record {
          reads = store_input;
          read = read;
          written = written;
          few = few;
          parts = parts;
          sources = stores;
          lives = lives;
          flags_are = flags_so;
          out_is = out_so;
          counts = record {
            world = omega (arith, world_faults-append (map store_entry it.kept.kept) behind, it.opened.still, second, third);
            inputs = omega (arith, input_faults-append (map store_entry it.kept.kept) behind, it.refusal.inputs, rest, it.refusal.stands.inputs, it.opened.stands.inputs);
            outputs = omega (arith, no_outputs, it.kept.outputs, it.refusal.stands.outputs, it.opened.stands.outputs, it.outputs_fit);
          };
        }) opens (leaves_same w0 w3 entries same) names it.world_fits it.inputs_fit it.outputs_fit;
        sure = told_failed;
      }

-- as many were kept as were opened
kept_long : (ks : List StoreKept) (names : List (List ℕ)) → names ≡ names_kept ks → length ks ≡ length names
kept_long ks names are = sym (length-map ks (λ (k : StoreKept). k.name)) ∙ ap length (sym are)

-- ---- the output wasn't given

pub out_unread : (out : List ℕ) (inputs : List (List ℕ)) (w0 w1 w2 w3 : WorldState) (ss : List StoreState) (flags : List Bool) (why : OutsideRefused) (failed : Bool) → InputsOpened kinds.Store StoreSeen w0 w1 inputs ss
    → Opens {T = Unit} w1 w2 kinds.Live out (Err why) → CountsStand w1 w2 → OpenCause {T = Unit} w1.faults w2.faults (Err why) → InputsKept kinds.Store store_keeping w2 w3 inputs ss flags
    → w0.faults < 2 ^ 64 → w0.input_faults < 2 ^ 64 → w0.output_faults < 2 ^ 64
    → (failed ≡ true → why ≡ outside_refusals.Failed) → (failed ≡ false → why ≡ outside_refusals.Memory) → NoneRead inputs out w0 w3 flags failed failed
out_unread out inputs w0 w1 w2 w3 ss flags why failed opened opens stands cause kept world_fits inputs_fit outputs_fit is_failed is_memory =
    let behind = refusal_of kinds.Live out why in
    let it : Unread w0 w1 w2 w3 inputs ss behind flags = record { opened = opened; refusal = refused_so kinds.Live out w1 w2 why refl refl opens stands cause; kept = kept; world_fits = world_fits; inputs_fit = inputs_fit; outputs_fit = outputs_fit } in
    let long = kept_long kept.kept inputs kept.names_are in
    none_read w0 w1 w2 w3 inputs ss behind flags it out inputs flags failed failed (map store_entry kept.kept) behind
    (subst (λ (l : List (List ℕ)). AreOpened (wanted (inputs_and_output kinds.Store l out)) (map store_entry kept.kept ++ behind)) (sym kept.names_are) (opened_all kept.kept ((kinds.Live, out) ∷ []) behind (opens_out why)))
    refl
    (omega (arith, length-map kept.kept store_entry, long))
    (are_stores kept.kept)
    (is_live why)
    (kept.failed_are ∙ sym (map_kept kept.kept))
    (told_so why failed is_failed is_memory)
    (names_same out inputs [] kept.kept behind [] failed flags (kept.names_are ∙ sym (append-nil (names_kept kept.kept))) (kept.failed_are ∙ sym (map_kept kept.kept) ∙ sym (append-nil (map has_failed (map store_entry kept.kept))))
    (named_so why failed is_failed is_memory))
    (refused_is kinds.Live out why failed is_failed is_memory)
    (none_entered kinds.Live out why)
    (omega (arith, long))
    (λ is. inr is)
  where
    named_so : (why : OutsideRefused) (failed : Bool) → (failed ≡ true → why ≡ outside_refusals.Failed) → (failed ≡ false → why ≡ outside_refusals.Memory) → failed_names (refusal_of kinds.Live out why) ≡ named_when failed out ++ []
    named_so outside_refusals.Failed true a b = refl
    named_so outside_refusals.Failed false a b = absurd (let e = b refl in cc)
    named_so outside_refusals.Memory true a b = absurd (let e = a refl in cc)
    named_so outside_refusals.Memory false a b = refl

    opens_out : (why : OutsideRefused) → AreOpened ((kinds.Live, out) ∷ []) (refusal_of kinds.Live out why)
    opens_out outside_refusals.Failed = inl (refl, refl)
    opens_out outside_refusals.Memory = tt

    is_live : (why : OutsideRefused) → AreKind kinds.Live (refusal_of kinds.Live out why)
    is_live outside_refusals.Failed = each_alone (λ (entry : Opening). entry.kind ≡ kinds.Live) (refused kinds.Live out) refl
    is_live outside_refusals.Memory = each_none (λ (entry : Opening). entry.kind ≡ kinds.Live)

    told_so : (why : OutsideRefused) (failed : Bool) → (failed ≡ true → why ≡ outside_refusals.Failed) → (failed ≡ false → why ≡ outside_refusals.Memory) → failed ≡ list_any has_failed (refusal_of kinds.Live out why)
    told_so outside_refusals.Failed true a b = refl
    told_so outside_refusals.Failed false a b = absurd (let e = b refl in cc)
    told_so outside_refusals.Memory true a b = absurd (let e = a refl in cc)
    told_so outside_refusals.Memory false a b = refl

-- ---- an input wasn't given

pub input_unread : (out : List ℕ) (inputs : List (List ℕ)) (w0 w2 w3 : WorldState) (ss : List StoreState) (flags : List Bool) (why : OutsideRefused) (failed : Bool) → InputOpeningRefused kinds.Store StoreSeen w0 w2 inputs ss why → InputsKept kinds.Store store_keeping w2 w3 (take (length ss) inputs) ss flags
    → w0.faults < 2 ^ 64 → w0.input_faults < 2 ^ 64 → w0.output_faults < 2 ^ 64
    → (failed ≡ true → why ≡ outside_refusals.Failed) → (failed ≡ false → why ≡ outside_refusals.Memory) → NoneRead inputs out w0 w3 (flags_with flags failed) false failed
input_unread out inputs w0 w2 w3 ss flags why failed refuses kept world_fits inputs_fit outputs_fit is_failed is_memory =
    let name = refuses.name in
    let behind = refusal_of kinds.Store name why in
    let store_wanted : List ℕ → Wanted = λ n. (kinds.Store, n) in
    let cut = cut_at inputs (length ss) name refuses.next in
    let split : inputs ≡ names_kept kept.kept ++ name ∷ cut.0 = cut.1 ∙ ap (λ (l : List (List ℕ)). l ++ name ∷ cut.0) kept.names_are in
    let it : Unread w0 refuses.between w2 w3 (take (length ss) inputs) ss behind flags = record { opened = refuses.first; refusal = refused_so kinds.Store name refuses.between w2 why refl refl refuses.refuses refuses.stands refuses.cause; kept = kept; world_fits = world_fits; inputs_fit = inputs_fit; outputs_fit = outputs_fit } in
    let wanted_are : map (λ (n : List ℕ). (kinds.Store, n)) (names_kept kept.kept) ++ (map (λ (n : List ℕ). (kinds.Store, n)) (name ∷ cut.0) ++ (kinds.Live, out) ∷ []) ≡ wanted (inputs_and_output kinds.Store inputs out) =
    sym (append_assoc (map (λ (n : List ℕ). (kinds.Store, n)) (names_kept kept.kept)) (map (λ (n : List ℕ). (kinds.Store, n)) (name ∷ cut.0)) ((kinds.Live, out) ∷ []))
    ∙ ap (λ (l : List Wanted). l ++ (kinds.Live, out) ∷ []) (sym (map-append (λ (n : List ℕ). (kinds.Store, n)) (names_kept kept.kept) (name ∷ cut.0)))
    ∙ ap (λ (l : List (List ℕ)). wanted (inputs_and_output kinds.Store l out)) (sym split) in
    let lengths : length inputs ≡ length kept.kept + suc (length cut.0) = ap length split ∙ length-append (names_kept kept.kept) (name ∷ cut.0) ∙ ap (λ (n : ℕ). n + suc (length cut.0)) (length-map kept.kept (λ (k : StoreKept). k.name)) in
    none_read w0 refuses.between w2 w3 (take (length ss) inputs) ss behind flags it out inputs (flags_with flags failed) false failed (map store_entry kept.kept ++ behind) []
    (subst (λ (l : List Wanted). AreOpened l (map store_entry kept.kept ++ behind)) wanted_are (opened_all kept.kept (map (λ (n : List ℕ). (kinds.Store, n)) (name ∷ cut.0) ++ (kinds.Live, out) ∷ []) behind (opens_next why name (map (λ (n : List ℕ). (kinds.Store, n)) cut.0 ++ (kinds.Live, out) ∷ []))))
    (sym (append-nil (map store_entry kept.kept ++ behind)))
    (omega (arith, lengths, length-append (map store_entry kept.kept) behind, length-map kept.kept store_entry, at_most_one why name))
    (each_joined (λ (entry : Opening). entry.kind ≡ kinds.Store) (map store_entry kept.kept) behind (are_stores kept.kept) (is_store why name))
    (each_none (λ (entry : Opening). entry.kind ≡ kinds.Live))
    (told_so why failed name is_failed is_memory kept.kept flags kept.failed_are)
    refl
    (names_same out inputs (name ∷ cut.0) kept.kept behind (flag_of failed) false (flags_with flags failed) split (flags_so failed flags kept.kept kept.failed_are)
    (named_so why failed name cut.0 is_failed is_memory))
    (refused_is kinds.Store name why failed is_failed is_memory)
    (none_entered kinds.Store name why)
    (omega (arith, lengths))
    (λ is. inl (last_fails failed flags is))
  where
    flag_of : Bool → List Bool
    flag_of true = true ∷ []
    flag_of false = []

    or_true : (a : Bool) → (a || true) ≡ true
    or_true true = refl
    or_true false = refl

    last_fails : (failed : Bool) (flags : List Bool) → failed ≡ true → some_failed (flags_with flags failed) ≡ true
    last_fails true flags is = list_any-append (λ (b : Bool). b) flags (true ∷ []) ∙ or_true (some_failed flags)
    last_fails false flags is = absurd cc

    none_more : (more behind : List (List ℕ)) → blamed_among more [] behind ≡ behind
    none_more [] behind = refl
    none_more (n ∷ more) behind = refl

    flags_so : (failed : Bool) (flags : List Bool) (ks : List StoreKept) → flags ≡ map (λ (k : StoreKept). has_failed (store_entry k)) ks → flags_with flags failed ≡ map has_failed (map store_entry ks) ++ flag_of failed
    flags_so true flags ks are = ap (λ (l : List Bool). l ++ true ∷ []) (are ∙ sym (map_kept ks))
    flags_so false flags ks are = are ∙ sym (map_kept ks) ∙ sym (append-nil (map has_failed (map store_entry ks)))

    named_so : (why : OutsideRefused) (failed : Bool) (name : List ℕ) (more : List (List ℕ)) → (failed ≡ true → why ≡ outside_refusals.Failed) → (failed ≡ false → why ≡ outside_refusals.Memory) → failed_names (refusal_of kinds.Store name why) ≡ blamed_among (name ∷ more) (flag_of failed) (named_when false out ++ [])
    named_so outside_refusals.Failed true name more a b = ap (λ (l : List (List ℕ)). name ∷ l) (sym (none_more more []))
    named_so outside_refusals.Failed false name more a b = absurd (let e = b refl in cc)
    named_so outside_refusals.Memory true name more a b = absurd (let e = a refl in cc)
    named_so outside_refusals.Memory false name more a b = refl

    opens_next : (why : OutsideRefused) (name : List ℕ) (more : List Wanted) → AreOpened ((kinds.Store, name) ∷ more) (refusal_of kinds.Store name why)
    opens_next outside_refusals.Failed name more = inl (refl, refl)
    opens_next outside_refusals.Memory name more = tt

    at_most_one : (why : OutsideRefused) (name : List ℕ) → length (refusal_of kinds.Store name why) ≤ 1
    at_most_one outside_refusals.Failed name = omega arith
    at_most_one outside_refusals.Memory name = omega arith

    is_store : (why : OutsideRefused) (name : List ℕ) → AreKind kinds.Store (refusal_of kinds.Store name why)
    is_store outside_refusals.Failed name = each_alone (λ (entry : Opening). entry.kind ≡ kinds.Store) (refused kinds.Store name) refl
    is_store outside_refusals.Memory name = each_none (λ (entry : Opening). entry.kind ≡ kinds.Store)

    told_so : (why : OutsideRefused) (failed : Bool) (name : List ℕ) → (failed ≡ true → why ≡ outside_refusals.Failed) → (failed ≡ false → why ≡ outside_refusals.Memory) → (ks : List StoreKept) (flags : List Bool) → flags ≡ map (λ (k : StoreKept). has_failed (store_entry k)) ks
        → flags_with flags failed ≡ map has_failed (map store_entry ks ++ refusal_of kinds.Store name why)
    told_so outside_refusals.Failed true name a b ks flags are = ap (λ (l : List Bool). l ++ true ∷ []) (are ∙ sym (map_kept ks)) ∙ sym (map-append has_failed (map store_entry ks) (refused kinds.Store name ∷ []))
    told_so outside_refusals.Failed false name a b ks flags are = absurd (let e = b refl in cc)
    told_so outside_refusals.Memory true name a b ks flags are = absurd (let e = a refl in cc)
    told_so outside_refusals.Memory false name a b ks flags are = are ∙ sym (map_kept ks) ∙ ap (map has_failed) (sym (append-nil (map store_entry ks)))

-- ---- memory lacked before anything was opened

pub none_opened : (out : List ℕ) (inputs : List (List ℕ)) (w : WorldState) → 1 ≤ length inputs → w.faults < 2 ^ 64 → w.input_faults < 2 ^ 64 → w.output_faults < 2 ^ 64 → NoneRead inputs out w w [] false false
none_opened out [] w some world_fits inputs_fit outputs_fit = absurd (omega (arith, some))
none_opened out (input ∷ inputs) w some world_fits inputs_fit outputs_fit =
    let all : List (List ℕ) = input ∷ inputs in
    let same : SameNames w w [] = λ told here. (told, here, sym (append-nil told.log), refl) in
    record {
      entries = [];
      refused_are = refl;
      fewer = λ none. omega arith;
      unreached = record { unread = record { inputs = refl; outputs = refl; unasked = each_none IsUnasked; left = λ told here. each_none (LeftUnderName told) }; file = λ told now here here_now. holds_same out w w [] same told now here here_now };
      names = names_kept_by kinds.Store all out w w [] [] false (record {
        reads = store_input;
        read = [];
        written = [];
        few = omega arith;
        parts = refl;
        sources = each_none (λ (entry : Opening). entry.kind ≡ kinds.Store);
        lives = each_none (λ (entry : Opening). entry.kind ≡ kinds.Live);
        flags_are = refl;
        out_is = refl;
        counts = record { world = added_none w.faults w.faults world_fits refl; inputs = added_none w.input_faults w.input_faults inputs_fit refl; outputs = added_none w.output_faults w.output_faults outputs_fit refl };
      }) tt (leaves_same w w [] same) refl world_fits inputs_fit outputs_fit;
      sure = λ is. absurd cc;
    }

-- ---- all were given

-- what was seen of the world, of the stores of the inputs and of that of the output at each of the calls
pub record AllGiven (out : List ℕ) (inputs : List (List ℕ)) (w0 w1 w2 w3 w4 : WorldState) (ss ss_now : List StoreState) (live live_now : LiveState) (flags : List Bool) (live_kept : Result Unit Failed) : Type 0 where
  pub opens : InputsOpened kinds.Store StoreSeen w0 w1 inputs ss
  pub opens_out : w2.told ≡ option_map (λ (t : Told). with_opening t (opened kinds.Live out true)) w1.told
  pub stands_out : CountsStand w1 w2
  pub still_out : w2.faults ≡ w1.faults
  pub nothing : TellsNothingYet w1 live
  pub new : live.faults ≡ 0
  pub keeps : InputsKept kinds.Store store_keeping w2 w3 inputs ss_now flags
  pub keeps_out : KeepsLive w3 w4 out live_now live_kept
  pub inputs_now : w4.input_faults ≡ w3.input_faults
  pub outputs_now : w4.output_faults ≡ added w3.output_faults live_now.faults
  pub cause_out : HasCause w3.faults w4.faults live_kept
  pub world_fits : w0.faults < 2 ^ 64
  pub inputs_fit : w0.input_faults < 2 ^ 64
  pub outputs_fit : w0.output_faults < 2 ^ 64

or_nothing : (a : Bool) → a ≡ (a || false)
or_nothing true = refl
or_nothing false = refl

live_alone : (out : List ℕ) (name : List ℕ) → NoneIsOut kinds.Store name (opened kinds.Live out true ∷ [])
live_alone out name zero d within = λ is. let kind = is.kind_is in absurd cc
live_alone out name (suc n) d within = absurd (omega (arith, within))

none_behind : (name : List ℕ) → NoneIsOut kinds.Live name []
none_behind name k d within = absurd (omega (arith, within))

module _ (out : List ℕ) (inputs : List (List ℕ)) (w0 w1 w2 w3 w4 : WorldState) (ss ss_now : List StoreState) (live live_now : LiveState) (flags : List Bool) (live_kept : Result Unit Failed) (b : AllGiven out inputs w0 w1 w2 w3 w4 ss ss_now live live_now flags live_kept) where
  abbrev pub ks : List StoreKept
  ks = b.keeps.kept

  abbrev store : Opening
  store = kept kinds.Live out (live_keeping live_now live_kept)

  abbrev pub all_entries : List Opening
  all_entries = map store_entry ks ++ store ∷ []

  all_told : (told : Told) → w0.told ≡ Some told → (now : Told) × (w4.told ≡ Some now) × KeepsName told.names now.names out live_now.held live_kept × (now.log ≡ told.log ++ all_entries)
  all_told told here =
      let first = with_openings told (map (input_given kinds.Store) inputs) in
      let second = with_opening first (opened kinds.Live out true) in
      let here2 = tells_more w1.told w2.told (opened kinds.Live out true) first b.opens_out (b.opens.told told here) in
      let back = b.keeps.told second told.log (opened kinds.Live out true ∷ []) here2 (append_assoc told.log (map (input_given kinds.Store) inputs) (opened kinds.Live out true ∷ [])) (live_alone out) in
      let placed = b.keeps_out back.0 back.1 in
      let noted = noted_in back.0.log placed.0.log (told.log ++ map store_entry ks) [] (opened kinds.Live out true) kinds.Live out (live_keeping live_now live_kept) (record {
        there = back.3 ∙ sym (append_assoc told.log (map store_entry ks) (opened kinds.Live out true ∷ []));
        out = record { kind_is = refl; name_is = refl; given = refl; out = refl };
        newest = none_behind out;
      }) placed.3 in (
        placed.0,
        placed.1,
        subst (λ (n : Names). KeepsName n placed.0.names out live_now.held live_kept) back.2 placed.2,
        noted ∙ append_assoc told.log (map store_entry ks) (store ∷ []),
      )

  pub all_placed : (told now : Told) → w0.told ≡ Some told → w4.told ≡ Some now → KeepsName told.names now.names out live_now.held live_kept
  all_placed told now here here_now =
      let t = all_told told here in
      subst (λ (n : Told). KeepsName told.names n.names out live_now.held live_kept) (same_told t.0 now (sym t.1 ∙ here_now)) t.2

  pub nothing_yet : (told : Told) → w0.told ≡ Some told → live.held ≡ Some []
  nothing_yet told here = b.nothing (with_openings told (map (input_given kinds.Store) inputs)) (b.opens.told told here)

  all_world : w4.faults ≡ added w0.faults (world_faults all_entries)
  all_world =
      let first = b.keeps.world (omega (arith, b.still_out, b.opens.still, b.world_fits)) in
      let second = kept_adds w3.faults w4.faults live_kept (omega (arith, first)) b.cause_out in
      omega (arith, world_faults-append (map store_entry ks) (store ∷ []), b.still_out, b.opens.still, first, second)

  all_inputs : w4.input_faults ≡ added w0.input_faults (input_faults all_entries)
  all_inputs =
      let first = b.keeps.inputs (omega (arith, b.stands_out.inputs, b.opens.stands.inputs, b.inputs_fit)) in
      omega (arith, input_faults-append (map store_entry ks) (store ∷ []), b.stands_out.inputs, b.opens.stands.inputs, first, b.inputs_now)

  all_outputs : w4.output_faults ≡ added w0.output_faults (output_faults all_entries)
  all_outputs = omega (arith, output_faults-append (map store_entry ks) (store ∷ []), inputs_write_nothing ks, b.stands_out.outputs, b.opens.stands.outputs, b.keeps.outputs, b.outputs_now)

  unwritten_others : (all now : Names) → ((other : List ℕ) → (other ≡ out → ⊥) → now other ≡ all other) → (name : List ℕ) → (IsGivenLive all_entries name → ⊥) → now name ≡ all name
  unwritten_others all now same name unwritten = same name (λ is. unwritten (record { entry = store; there = has_last (map store_entry ks) store []; live = refl; given = refl; named = sym is }))

  -- what became of the names, whatever was answered
  pub all_kept : (failed : List Bool) (out_failed : Bool) → failed ≡ flags → out_failed ≡ failed_so (went_well live_kept) live_now.faults → NamesKept (inputs_and_output kinds.Store inputs out) w0 w4 all_entries failed out_failed
  all_kept failed out_failed flags_are out_is = names_kept_by kinds.Store inputs out w0 w4 all_entries failed out_failed (record {
    reads = store_input;
    read = map store_entry ks;
    written = store ∷ [];
    few = omega (arith, length-map ks store_entry, kept_long ks inputs b.keeps.names_are);
    parts = refl;
    sources = are_stores ks;
    lives = each_alone (λ (entry : Opening). entry.kind ≡ kinds.Live) store refl;
    flags_are = flags_are ∙ b.keeps.failed_are ∙ sym (map_kept ks);
    out_is = out_is ∙ or_nothing (failed_so (went_well live_kept) live_now.faults);
    counts = record { world = all_world; inputs = all_inputs; outputs = all_outputs };
  }) (subst (λ (l : List (List ℕ)). AreOpened (wanted (inputs_and_output kinds.Store l out)) all_entries) (sym b.keeps.names_are) (opened_all ks ((kinds.Live, out) ∷ []) (store ∷ []) (inr (live_keeping live_now live_kept, refl, refl))))
      (λ told here. let t = all_told told here in (t.0, t.1, t.3, unwritten_others told.names t.0.names t.2.others))
      (names_same out inputs [] ks (store ∷ []) [] out_failed failed (b.keeps.names_are ∙ sym (append-nil (names_kept ks))) (flags_are ∙ b.keeps.failed_are ∙ sym (map_kept ks) ∙ sym (append-nil (map has_failed (map store_entry ks))))
      (ap (λ (x : Bool). named_when x out ++ []) (sym out_is)))
      b.world_fits b.inputs_fit b.outputs_fit
