-- The merge of inputs is there before anything is written.
use Rattle.std.proofs.Common.{ℕ, zero, suc, List, [], ◌∷◌, refl, sym, subst}
use Rattle.std.specs.Prelude.{filter}
use Rattle.std.specs.List.{AllZip, flat_map}
use Rattle.mcap_model.specs.Places.{Each}
use Rattle.mcap_model.specs.Tops.{Top}
use Rattle.mcap_model.specs.Repaired.{is_extra}
use Rattle.mcap_model.specs.Merged.{Sent, IsFrom, CommonProfile}
use Rattle.mcap_merge.specs.declared.input.Input.{Input}
use Rattle.mcap_merge.specs.Inputs.{HoldInputs}
use Rattle.mcap_merge.specs.ReadInputs.{Read, read_tops}
use Rattle.mcap_merge.specs.Uses.{Use, IsUse, AreUses}
use Rattle.mcap_merge.specs.Contents.{IdsSuffice}
use Rattle.mcap_merge.specs.GatheringSteps.{IsPrepared}
use Rattle.mcap_merge.specs.Writing.{extras_of}
use Rattle.mcap_model.proofs.NamedTopics.{zip_back}
use Rattle.mcap_merge.proofs.ReadBack.{scan_back}
use Rattle.mcap_merge.proofs.Merging.{merges_all, inner_all, zip_weaker}
use Rattle.mcap_merge.proofs.Sources.{AreScanned, are_scanned}
use Rattle.mcap_merge.proofs.InTurn.{messages_there, extras_are}
use Rattle.mcap_merge.proofs.FewIds.{IsWholeUse, history_back}

zip_from : {A B : Type 0} (R : A → B → Type 0) (xs : List A) → Each (λ x. (y : B) × R x y) xs → (ys : List B) × AllZip R xs ys
zip_from R [] each = ([], tt)
zip_from R (x ∷ xs) each =
    let one = each zero x refl in
    let rest = zip_from R xs (λ n y at. each (suc n) y at) in
    (one.0 ∷ rest.0, (one.1, rest.1))

-- the use of a message, whose content is known
abbrev WholeUse : List (List Top) → Sent → Use → Type 0
WholeUse inputs m u = IsUse inputs m u × IsWholeUse inputs u

whole_use : (inputs : List (List Top)) (m : Sent) → IdsSuffice inputs → IsFrom inputs m → (u : Use) × WholeUse inputs m u
whole_use inputs m suffice from =
    let contents = suffice.contents in
    let (d, has) = contents m from in (
      record { content = d; message = m.seen.message },
      (
        record { tops = has.tops; at = has.at; content = has.is; message = refl },
        record {
          used = record { message = m; from = from; tops = has.tops; at = has.at; is = has.is };
          fits = has.fits;
          back = λ id small. scan_back from.tops from.messages from.has.0 id m.seen from.scan from.has.1 small;
        },
      ),
    )

pub merge_there : (reads : List Read) (profile : List ℕ) → AreScanned reads → IdsSuffice (read_tops reads) → CommonProfile (read_tops reads) profile → IsPrepared reads profile (flat_map (filter is_extra) (read_tops reads))
merge_there reads profile scanned suffice common =
    let inputs = read_tops reads in
    let (messages, turn) = messages_there reads scanned in
    let are = turn.are in
    let (uses, zip) = zip_from (WholeUse inputs) messages (λ n m at. whole_use inputs m suffice (are m (n, at))) in
    let used : AreUses inputs messages uses = zip_weaker (WholeUse inputs) (IsUse inputs) messages uses (λ m u one. one.0) zip in
    let whole : Each (IsWholeUse inputs) uses = λ n u at. (zip_back (WholeUse inputs) messages uses n u zip at).2.1 in
    let merges = merges_all inputs messages uses used in
    record {
      suffice = suffice;
      messages = messages;
      in_turn = turn;
      uses = uses;
      used = used;
      back = history_back inputs uses suffice whole;
      merge = record {
        profile_is = common;
        extras_are = refl;
        inner = inner_all uses;
        numbered = merges.numbered;
        messages = messages;
        in_turn = turn;
        merged = merges.merged;
        placed = merges.placed;
      };
    }

pub prepared : (reads : List Read) (inputs : List Input) (profile : List ℕ) → HoldInputs reads inputs → IdsSuffice (read_tops reads) → CommonProfile (read_tops reads) profile → IsPrepared reads profile (extras_of inputs)
prepared reads inputs profile hold suffice common =
    subst (IsPrepared reads profile) (sym (extras_are reads inputs hold)) (merge_there reads profile (are_scanned reads inputs hold) suffice common)
