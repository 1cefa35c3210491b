-- What a merge left keeps all rules.
use Rattle.std.proofs.Common.{◌≡◌, ℕ, zero, suc, ◌^◌, ◌<◌, ◌≤◌, Bool, true, false, List, [], ◌∷◌, ◌++◌, length, map, Option, Some, None, Result, Ok, Err, refl, sym, ap, subst, inl, inr, ◌∙◌, arith}
use Rattle.std.specs.Prelude.{filter, nat_le, IsSome, IsUtf8, ◌==◌, ◌||◌}
use Rattle.std.specs.List.{AllZip, flat_map}
use Rattle.std.specs.Str.{bytes_eq}
use Rattle.std.proofs.lemmas.Bool.{both_ways}
use Rattle.std.proofs.lemmas.Slice.Eq.{bytes_eq-Decides}
use Rattle.mcap_wire.specs.Limits.{block_limit, file_limit}
use Rattle.mcap_wire.proofs.Contents.{shows_decided}
use Rattle.mcap_io.specs.Outside.{WorldState, Told, Opening}
use Rattle.mcap_io.specs.Stores.{StoreState, TellsStore}
use Rattle.mcap_io.specs.declared.outside.ObjectKind.TheVariants as kinds
use Rattle.rec_data.specs.Records.{header_kinds, header_values}
use Rattle.rec_data.specs.declared.owned.Rec.{Rec}
use Rattle.mcap_model.specs.declared.options.FileOptions.{FileOptions}
use Rattle.mcap_model.specs.Places.{Each}
use Rattle.mcap_model.specs.Tops.{Top}
use Rattle.mcap_model.specs.Fields.{IsHeader}
use Rattle.mcap_model.specs.Kept.{Good, Halts, reading_limits, at_end}
use Rattle.mcap_model.specs.Repaired.{is_extra, ProfileIs}
use Rattle.mcap_model.specs.Merged.{CommonProfile, AreRead, Merged as MergesTo}
use Rattle.mcap_model.specs.Laws.{CanBeWritten}
use Rattle.mcap_model.specs.ReadBack.{IsReadBack, IsExtraKind, IsExtra}
use Rattle.mcap_model.specs.Blocks.{pieces_of, blocks_in}
use Rattle.mcap_model.specs.File.{file_of}
use Rattle.mcap_model.specs.History.{extras_in}
use Rattle.mcap_model.specs.Whole.{count_of}
use Rattle.mcap_model.proofs.Asides.{no_extras}
use Rattle.mcap_model.proofs.Places.{at_none}
use Rattle.mcap_model.proofs.Lists.{each_joined, filter_passed}
use Rattle.mcap_model.proofs.NamedTopics.{zip_back}
use Rattle.mcap_model.proofs.Histories.{numbered_ids_agree}
use Rattle.mcap_model.proofs.WrittenChunks.{empty_utf8}
use Rattle.mcap_laws.proofs.Ranges.{small_blocks_fit}
use Rattle.mcap_laws.proofs.Validity.{files_are_valid, files_are_indexed}
use Rattle.chunk_writer.specs.Limits.{FileHolds}
use Rattle.mcap_merge.specs.declared.answers.Merged.{Merged}
use Rattle.mcap_merge.specs.declared.answers.MergeRefused.{MergeRefused}
use Rattle.mcap_merge.specs.Filed.{merged_options}
use Rattle.command_base.specs.declared.statuses.Status.TheVariants as statuses
use Rattle.command_base.specs.Printing.{TellsAll}
use Rattle.command_base.specs.Ran.{Scene, kept, has_failed, named_when, failed_names}
use Rattle.command_write.specs.declared.merging.Merging.{Merging}
use Rattle.command_write.specs.declared.merging.Merging.TheVariants as mergings
use Rattle.command_write.specs.Merge.{HoldsBytes, HoldsMerged, store_entry, Reached, unopened_so, some_refused, merging_of, IsMerging, merged_line, MergesFiles}
use Rattle.command_write.proofs.Merges.{was_merged}
use Rattle.mcap_app.specs.Laws.{IsChunkSize, AreCounted, MergesAreSound}

-- ---- the inputs are good lists

pub good_inputs : (files : List (List ℕ)) (inputs : List (List Top)) → AreRead files inputs → Each (Good reading_limits) inputs
good_inputs files inputs read n tops at =
    let (bytes, there, found) = zip_back (λ (b : List ℕ) (ts : List Top). (end : ℕ) × Halts reading_limits b ts (at_end end)) files inputs n tops read at in
    let whole : (end : ℕ) × Halts reading_limits bytes tops (at_end end) = found in
    whole.1.kept.good

-- ---- the extras

kind_of : (n : ℕ) → ((n == 9) || ((n == 12) || nat_le 128 n)) ≡ true → IsExtraKind n
kind_of n is = grind arith

extras_of_one : (tops : List Top) → Good reading_limits tops → Each IsExtra (filter is_extra tops)
extras_of_one tops good n t at =
    let passed = filter_passed is_extra tops n t at in
    let fits = good passed.0.0 t passed.0.1 in
    record { kind = kind_of t.op passed.1; v6 = fits.v6; v10 = fits.v10 }

pub extras_meet : (inputs : List (List Top)) → Each (Good reading_limits) inputs → Each IsExtra (flat_map (filter is_extra) inputs)
extras_meet [] good = λ n t at. absurd (at_none n t at)
extras_meet (tops ∷ more) good = each_joined IsExtra (filter is_extra tops) (flat_map (filter is_extra) more) (extras_of_one tops (good zero tops refl)) (extras_meet more (λ n. good (suc n)))

-- ---- the profile

-- a profile that fits its field
abbrev FitsField : List ℕ → Type 0
FitsField profile = IsUtf8 profile × (length profile < 2 ^ 32)

none_fits : FitsField []
none_fits = (empty_utf8, omega arith)

-- records have one profile
profile_once : (tops : List Top) (p q : List ℕ) → ProfileIs tops p → ProfileIs tops q → p ≡ q
profile_once [] p q one other = one ∙ sym other
profile_once (t ∷ ts) p q (h, one) (g, other) =
    let same = shows_decided header_kinds t.content (header_values (record { profile = h.profile; library = h.library })) (header_values (record { profile = g.profile; library = g.library })) h.layout g.layout in
    let equal : h.profile ≡ g.profile = cc same in
    sym one ∙ equal ∙ other

profile_there : (tops : List Top) → Good reading_limits tops → (p : List ℕ) × ProfileIs tops p × FitsField p
profile_there [] good = ([], refl, none_fits)
profile_there (t ∷ ts) good =
    let header : IsHeader t = (good zero t refl).v3 in
    let fit = header.layout.1.fit in
    (header.profile, (header, refl), (fit.0.1, (let few = fit.0.0 in omega (arith, few))))

common_fits : (tops : List Top) (more : List (List Top)) (profile p : List ℕ) (b : Bool) → CommonProfile (tops ∷ more) profile → ProfileIs tops p → FitsField p → bytes_eq profile p ≡ b → FitsField profile
common_fits tops more profile p true is shown fits same = subst FitsField (sym ((bytes_eq-Decides profile p).0 same)) fits
common_fits tops more profile p false is shown fits differ =
    subst FitsField (sym (is.none (λ q each. both_ways (bytes_eq profile p) differ ((bytes_eq-Decides profile p).1 (is.common q each ∙ profile_once tops q p (each zero tops refl) shown))))) none_fits

pub profile_fits : (inputs : List (List Top)) (profile : List ℕ) → Each (Good reading_limits) inputs → CommonProfile inputs profile → FitsField profile
profile_fits [] profile good is = subst FitsField (sym (is.common [] (λ n t at. absurd (at_none n t at)))) none_fits
profile_fits (tops ∷ more) profile good is =
    let (p, shown, fits) = profile_there tops (good zero tops refl) in
    common_fits tops more profile p (bytes_eq profile p) is shown fits refl

-- ---- of what merging makes a file can be written

few_enough : (blocks : ℕ) → blocks ≤ block_limit → blocks < 2 ^ 32
few_enough blocks few = omega (arith, few)

small_enough : (bytes : ℕ) → bytes ≤ file_limit → bytes < 2 ^ 64
small_enough bytes small = omega (arith, small)

pub can_be_written : (files : List (List ℕ)) (profile : List ℕ) (extras : List Top) (history : List Rec) (chunk : ℕ) → MergesTo files profile extras history → Each IsReadBack history → IsChunkSize chunk
    → FileHolds profile (blocks_in (pieces_of (Some chunk) None history)) (length (file_of (merged_options profile chunk) extras history)) → AreCounted extras → CanBeWritten (merged_options profile chunk) extras history
can_be_written files profile extras history chunk it back size within few =
    let good = good_inputs files it.inputs it.read in
    let fits = profile_fits it.inputs profile good it.merge.profile_is in
    let ids = numbered_ids_agree history back it.merge.numbered in
    let alone : extras_in history ++ extras ≡ extras = ap (λ (l : List Top). l ++ extras) (no_extras history it.merge.inner) in
    record {
      profile = fits.0;
      profile_fits = fits.1;
      records_fit = back;
      numbered = ids.1;
      ids_agree = ids.0;
      extras_meet = subst (Each IsExtra) (sym (alone ∙ it.merge.extras_are)) (extras_meet it.inputs good);
      entries_fit = small_blocks_fit chunk None history (omega (arith, size.0)) size.1;
      few_blocks = few_enough (length (blocks_in (pieces_of (Some chunk) None history))) within.holds.few;
      few_attachments = omega (arith, few.0, ap (count_of 9) alone);
      few_metadata = omega (arith, few.1, ap (count_of 12) alone);
      size_fits = small_enough (length (file_of (merged_options profile chunk) extras history)) within.holds.small;
    }

-- ---- what it came to

unopened_made : (failed : Bool) (m : Merged) → unopened_so failed ≡ mergings.Made m → ⊥
unopened_made true m e = absurd cc
unopened_made false m e = absurd cc

made_result : (result : Result Merged MergeRefused) (m : Merged) → merging_of result ≡ mergings.Made m → result ≡ Ok m
made_result (Ok x) m e = cc
made_result (Err why) m e = absurd cc

-- all names were given
reached : (chunk : ℕ) (inputs : List (List ℕ)) (out : List ℕ) (old new : WorldState) (entries : List Opening) (merging : Merging) (m : Merged) → IsMerging chunk inputs out old new entries merging → merging ≡ mergings.Made m → Reached chunk inputs out old new entries (Ok m)
reached chunk inputs out old new entries merging m (inl (refusal, unreached)) is = absurd (unopened_made (some_refused entries) m (sym refusal.answer ∙ is))
reached chunk inputs out old new entries merging m (inr (result, same, it)) is = subst (Reached chunk inputs out old new entries) (made_result result m (sym same ∙ is)) it

-- ---- the output was kept

-- what stands behind names is none of them where there is none
none_behind : (xs ys : List (List ℕ)) → xs ++ ys ≡ [] → ys ≡ []
none_behind [] ys e = e
none_behind (x ∷ xs) ys e = absurd cc

some_named : (x : List ℕ) (xs : List (List ℕ)) → x ∷ xs ≡ [] → ⊥
some_named x xs e = absurd cc

last_unnamed : (entries : List Opening) (entry : Opening) → failed_names (entries ++ entry ∷ []) ≡ [] → failed_names (entry ∷ []) ≡ []
last_unnamed [] entry none = none
last_unnamed (x ∷ xs) entry none = last_unnamed xs entry (none_behind (named_when (has_failed x) x.name) (failed_names (xs ++ entry ∷ [])) none)

well_kept : (out : List ℕ) (well : Bool) (faults : ℕ) → failed_names (kept kinds.Live out (record { well = well; faults = faults; left = None; asked = 0 }) ∷ []) ≡ [] → well ≡ true
well_kept out true faults none = refl
well_kept out false faults none = absurd (some_named out [] none)

-- ---- the files that were merged

bytes_of : (found : Option (List ℕ)) → IsSome found → (bytes : List ℕ) × (found ≡ Some bytes)
bytes_of None some = absurd (both_ways false refl some)
bytes_of (Some bytes) some = (bytes, refl)

files_there : (world : WorldState) (told : Told) (inputs : List (List ℕ)) (given : List StoreState) → world.told ≡ Some told → AllZip (TellsStore world) inputs given → (files : List (List ℕ)) × AllZip (HoldsBytes told) inputs files
files_there world told [] given here tells = ([], tt)
files_there world told (i ∷ is) [] here tells = absurd tells
files_there world told (i ∷ is) (s ∷ ss) here tells =
    let (bytes, there) = bytes_of (told.names i) (tells.0 told here).1 in
    let (files, rest) = files_there world told is ss here tells.1 in
    (bytes ∷ files, (there, rest))

-- ---- the law

-- what was printed, and what stands under the output's name of the files under those of the inputs
pub record WasMade (chunk : ℕ) (inputs : List (List ℕ)) (out : List ℕ) (old new : Scene) (told : Told) (merging : Merging) : Type 0 where
  pub merged : Merged
  pub is : merging ≡ mergings.Made merged
  pub line : TellsAll old.out new.out (merged_line (length inputs) merged)
  pub now : Told
  pub tells : new.world.told ≡ Some now
  pub files : List (List ℕ)
  pub there : AllZip (HoldsBytes told) inputs files
  pub holds : HoldsMerged chunk files merged true (told.names out) (now.names out)

pub made : (chunk : ℕ) (inputs : List (List ℕ)) (out : List ℕ) (old new : Scene) (told : Told) → (it : MergesFiles chunk inputs out old new statuses.Done) → old.world.told ≡ Some told → WasMade chunk inputs out old new told it.merging
made chunk inputs out old new told it here =
    let whole = was_merged chunk inputs out old new it in
    let m = whole.merged in
    let all = reached chunk inputs out old.world new.world it.entries it.merging m it.comes whole.is in
    let left = it.ran.ran.leaves told here in
    let (files, there) = files_there old.world told inputs all.given here all.tells in
    let entry : Opening = kept kinds.Live out (record { well = all.live_kept; faults = all.stored.faults; left = None; asked = 0 }) in
    let well = well_kept out all.live_kept all.stored.faults (last_unnamed (map store_entry all.kept_inputs) entry (ap failed_names (sym all.kept_are) ∙ whole.unfailed)) in
    record {
      merged = m;
      is = whole.is;
      line = whole.line;
      now = left.0;
      tells = left.1;
      files = files;
      there = there;
      holds = subst (λ (b : Bool). HoldsMerged chunk files m b (told.names out) (left.0.names out)) well (all.file told left.0 files here left.1 there);
    }

unfoldable pub merges_are_sound : MergesAreSound
merges_are_sound chunk inputs out old new told size it here =
    let all = made chunk inputs out old new told it here in
    let holds = all.holds in
    let options : FileOptions = merged_options holds.profile chunk in
    let written : AreCounted holds.extras → CanBeWritten options holds.extras holds.history = λ few.
    can_be_written all.files holds.profile holds.extras holds.history chunk holds.merges holds.back size holds.within few in
    record {
      merged = all.merged;
      is_made = all.is;
      line = all.line;
      files = all.files;
      were_there = all.there;
      profile = holds.profile;
      extras = holds.extras;
      history = holds.history;
      merges = holds.merges;
      messages = holds.messages;
      records = holds.records;
      told = all.now;
      tells = all.tells;
      there = holds.placed;
      valid = λ few. files_are_valid options holds.extras holds.history (written few);
      indexed = λ few. files_are_indexed options holds.extras holds.history chunk refl (written few);
    }
