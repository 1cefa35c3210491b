-- What a recovery or a merge left is printed.
use Rattle.std.proofs.Common.{◌≡◌, ℕ, ◌≤◌, List, ◌++◌, length, Some, None, sym, ap, subst, ◌∙◌}
use Rattle.std.specs.Prelude.{filter, IsUtf8}
use Rattle.std.proofs.lemmas.Option.{same_Some}
use Rattle.rec_data.specs.declared.owned.Rec.{Rec}
use Rattle.mcap_io.specs.Outside.{WorldState}
use Rattle.mcap_model.specs.declared.options.FileOptions.{FileOptions}
use Rattle.mcap_model.specs.Places.{Each}
use Rattle.mcap_model.specs.Tops.{Top}
use Rattle.mcap_model.specs.Kept.{Kept, reading_limits}
use Rattle.mcap_model.specs.History.{extras_in}
use Rattle.mcap_model.specs.Histories.{IdsAgree}
use Rattle.mcap_model.specs.Blocks.{pieces_of, blocks_in}
use Rattle.mcap_model.specs.File.{file_of}
use Rattle.mcap_model.specs.ReadBack.{IsReadBack, IsExtra}
use Rattle.mcap_model.specs.Repaired.{is_extra, Repairs}
use Rattle.mcap_model.specs.Laws.{IsNumberedRec, CanBeRead}
use Rattle.mcap_model.proofs.Asides.{no_extras}
use Rattle.mcap_model.proofs.Histories.{numbered_ids_agree}
use Rattle.mcap_model.proofs.Readings.{kept_once}
use Rattle.mcap_model.proofs.Repairs.{repairs_once}
use Rattle.mcap_model.proofs.Section.{each_flat}
use Rattle.mcap_laws.specs.Repairs.{RepairsKeepRules}
use Rattle.mcap_laws.proofs.Scanned.{files_are_scanned}
use Rattle.recorder.specs.Laws.{ReadsAs}
use Rattle.chunk_writer.specs.Limits.{FileHolds}
use Rattle.record_keeping.specs.NewFiles.{recovered_options}
use Rattle.mcap_merge.specs.Filed.{merged_options}
use Rattle.mcap_app.specs.Readable.{RecoveriesArePrinted, MergesArePrinted}
use Rattle.mcap_app.proofs.ShortContents.{extras_short, repairs_inner, can_be_read}
use Rattle.mcap_app.proofs.RoundTrip.{file_printed}
use Rattle.mcap_app.proofs.Recovered as recovered
use Rattle.mcap_app.proofs.Merges.{merges_are_sound}
use Rattle.mcap_app.proofs.Merges as merged

-- a file that can be read holds the history that it was written of
reads_as : (options : FileOptions) (extras : List Top) (history : List Rec) → IsUtf8 options.profile → Each IsReadBack history → Each IsNumberedRec history → IdsAgree history → Each IsExtra (extras_in history ++ extras) → CanBeRead options extras history
    → ReadsAs (file_of options extras history) history
reads_as options extras history utf8 back numbered agree meet readable =
    let (tops, end, halts, flat_are, messages_are) = files_are_scanned options extras history utf8 back numbered agree meet readable in
    record { tops = tops; end = end; halts = halts; flat_are = flat_are; messages_are = messages_are }

pub recoveries_are_printed : RepairsKeepRules → RecoveriesArePrinted
recoveries_are_printed repairs_keep_rules chunk input out old new later last answer told size it here same cats quiet bytes profile extras history there repaired =
    let all = recovered.made chunk input out old new told it here in
    let holds = all.holds in
    let same_bytes : all.bytes ≡ bytes = same_Some all.bytes bytes (sym all.there ∙ there) in
    let tops : holds.tops ≡ repaired.tops = kept_once bytes holds.tops repaired.tops (subst (λ (l : List ℕ). Kept reading_limits l holds.tops) same_bytes holds.halts.kept) repaired.kept in
    let (profiles, extra, histories) = repairs_once repaired.tops holds.extras extras holds.profile profile holds.history history (subst (λ (l : List Top). Repairs l holds.profile holds.extras holds.history) tops holds.repairs) repaired.repairs in
    let options : FileOptions = recovered_options profile chunk in
    let file_is : file_of (recovered_options holds.profile chunk) holds.extras holds.history ≡ file_of options extras history =
    ap (λ (p : List ℕ). file_of (recovered_options p chunk) holds.extras holds.history) profiles ∙ ap (λ (l : List Top). file_of options l holds.history) extra ∙ ap (λ (l : List Rec). file_of options extras l) histories in
    let good = repaired.kept.good in
    let keeps = repairs_keep_rules repaired.tops extras profile history good repaired.repairs in
    let meet = subst (Each IsExtra) (sym (ap (λ (l : List Top). l ++ extras) keeps.no_extras)) keeps.extras_meet in
    let within : FileHolds profile (blocks_in (pieces_of (Some chunk) None history)) (length (file_of options extras history)) =
    subst (λ (l : List ℕ). FileHolds profile (blocks_in (pieces_of (Some chunk) None history)) (length l)) file_is
    (subst (λ (p : List ℕ). FileHolds p (blocks_in (pieces_of (Some chunk) None history)) (length (file_of (recovered_options holds.profile chunk) holds.extras holds.history))) profiles
    (subst (λ (l : List Rec). FileHolds holds.profile (blocks_in (pieces_of (Some chunk) None l)) (length (file_of (recovered_options holds.profile chunk) holds.extras holds.history))) histories holds.within)) in
    let inner = repairs_inner repaired.tops extras profile history repaired.repairs in
    let readable = can_be_read chunk profile extras history inner within (subst (Each (λ t. length t.content ≤ 268435456)) (sym repaired.repairs.extras_are) (extras_short repaired.tops good)) in
    file_printed out (file_of options extras history) history later last answer all.now (ap (λ (w : WorldState). w.told) same ∙ all.tells) (holds.placed ∙ ap Some file_is)
    (reads_as options extras history keeps.profile_utf8 keeps.records_fit keeps.numbered keeps.ids_agree meet readable) cats quiet

pub merges_are_printed : MergesArePrinted
unfolding merges_are_sound
merges_are_printed chunk inputs out old new later last answer told size it here same cats quiet =
    let all = merged.made chunk inputs out old new told it here in
    let holds = all.holds in
    let options : FileOptions = merged_options holds.profile chunk in
    let good = merged.good_inputs all.files holds.merges.inputs holds.merges.read in
    let fits = merged.profile_fits holds.merges.inputs holds.profile good holds.merges.merge.profile_is in
    let ids = numbered_ids_agree holds.history holds.back holds.merges.merge.numbered in
    let extras_are = holds.merges.merge.extras_are in
    let alone : extras_in holds.history ++ holds.extras ≡ holds.extras = ap (λ (l : List Top). l ++ holds.extras) (no_extras holds.history holds.merges.merge.inner) in
    let meet = subst (Each IsExtra) (sym (alone ∙ extras_are)) (merged.extras_meet holds.merges.inputs good) in
    let shortened = subst (Each (λ t. length t.content ≤ 268435456)) (sym extras_are) (each_flat (λ t. length t.content ≤ 268435456) (filter is_extra) holds.merges.inputs (λ n tops at. extras_short tops (good n tops at))) in (
      merges_are_sound chunk inputs out old new told size it here,
      file_printed out (file_of options holds.extras holds.history) holds.history later last answer all.now (ap (λ (w : WorldState). w.told) same ∙ all.tells) holds.placed
          (reads_as options holds.extras holds.history fits.0 holds.back ids.1 ids.0 meet (can_be_read chunk holds.profile holds.extras holds.history holds.merges.merge.inner holds.within shortened)) cats quiet,
    )
