-- The sums of the records so far, and what a reading comes to.
use Rattle.std.proofs.Common.{◌≡◌, ℕ, ◌+◌, ◌%◌, ◌^◌, List, [], ◌∷◌, ◌++◌, length, sym, ap, subst, ◌∙◌, append_assoc, arith}
use Rattle.std.specs.Prelude.{filter}
use Rattle.std.specs.List.{AllZip, fold, sum_by}
use Rattle.std.proofs.Math.Nat.{mod-add-mod}
use Rattle.std.proofs.lemmas.List.{append-nil, length-append}
use Rattle.std.proofs.lemmas.List.Sums.{sum_by-append}
use Rattle.mcap_io.specs.Outside.{SourceState}
use Rattle.mcap_model.specs.declared.replay.Place.{Place}
use Rattle.mcap_model.specs.Tops.{Top, Placed, placed}
use Rattle.mcap_model.specs.Fields.{MessageFields}
use Rattle.mcap_model.specs.Kept.{reading_limits}
use Rattle.mcap_model.specs.Scan.{Seen, IsSeen, tops_of}
use Rattle.mcap_model.proofs.Flat.{good_lists_are_scanned}
use Rattle.mcap_model.proofs.ShownMessages.{is_message_placed}
use Rattle.mcap_scan.specs.declared.flat_reader.FlatReader.{FlatReader}
use Rattle.mcap_scan.specs.Walking.{flat_content, placed_at, FlatStands, FlatGives, FlatFinds}
use Rattle.mcap_scan.proofs.Walked.{walked_messages}
use Rattle.command_generate.specs.declared.sums.Sums.{Sums}
use Rattle.command_generate.specs.Sums.{value_of, bytes_in_payload, sums_of}
use Rattle.command_generate.specs.SumSteps.{with_message, with_messages, AddsToSums}
use Rattle.command_generate.specs.SumReading.{fields_seen, SumsAll}
use Rattle.command_generate.proofs.Added.{adds_none, adds_more}

-- ---- sums

one_more : (before : List MessageFields) (m : MessageFields) → with_message (sums_of before) m ≡ sums_of (before ++ m ∷ [])
one_more before m =
    let k = 2 ^ 64 in
    let count : (length before % k + 1) % k ≡ length (before ++ m ∷ []) % k =
    mod-add-mod (length before) k 1 ∙ ap (λ (n : ℕ). n % k) (sym (length-append before (m ∷ []))) in
    let more : (f : MessageFields → ℕ) → (sum_by f before % k + f m) % k ≡ sum_by f (before ++ m ∷ []) % k = λ f.
    let last : sum_by f before + f m ≡ sum_by f before + sum_by f (m ∷ []) = omega arith in
    mod-add-mod (sum_by f before) k (f m) ∙ ap (λ (n : ℕ). n % k) (last ∙ sym (sum_by-append f before (m ∷ []))) in
    ap (λ (n : ℕ). record { messages = n; bytes = (sum_by bytes_in_payload before % k + bytes_in_payload m) % k; total = (sum_by value_of before % k + value_of m) % k }) count
    ∙ ap (λ (n : ℕ). record { messages = length (before ++ m ∷ []) % k; bytes = n; total = (sum_by value_of before % k + value_of m) % k }) (more bytes_in_payload)
    ∙ ap (λ (n : ℕ). record { messages = length (before ++ m ∷ []) % k; bytes = sum_by bytes_in_payload (before ++ m ∷ []) % k; total = n }) (more value_of)

folded : (before ms : List MessageFields) → fold with_message (sums_of before) ms ≡ sums_of (before ++ ms)
folded before [] = ap sums_of (sym (append-nil before))
folded before (m ∷ ms) =
    ap (λ (s : Sums). fold with_message s ms) (one_more before m)
    ∙ folded (before ++ m ∷ []) ms
    ∙ ap sums_of (append_assoc before (m ∷ []) ms)

pub all_summed : (messages : List Seen) (sums : Sums) → sums ≡ with_messages (sums_of []) messages → sums ≡ sums_of (fields_seen messages)
all_summed messages sums are = are ∙ folded [] (fields_seen messages)

-- ---- records that are read

-- the reader stands for records, and these are the sums of the messages among those that it gave
pub record SumsSoFar (flat : FlatReader) (before now : SourceState) (sums : Sums) : Type 0 where
  pub tops : List Top
  pub given : List Placed
  pub stands : FlatStands flat before now tops given
  pub adds : AddsToSums given (sums_of []) sums

-- nothing was read
pub sums_begin : (flat : FlatReader) (before : SourceState) (sums : Sums) → FlatStands flat before before [] [] → sums ≡ sums_of [] → SumsSoFar flat before before sums
sums_begin flat before sums stands none = record { tops = []; given = []; stands = stands; adds = subst (AddsToSums [] (sums_of [])) (sym none) (adds_none (sums_of [])) }

-- a record more
pub sums_on : (flat flat_new : FlatReader) (before now now_new : SourceState) (old new : Sums) (op : ℕ) (place : Place) (was : SumsSoFar flat before now old) → FlatGives flat_new before now_new was.tops was.given op place
    → AddsToSums (placed_at place op (flat_content flat_new) ∷ []) old new → SumsSoFar flat_new before now_new new
sums_on flat flat_new before now now_new old new op place was gives adds =
    let p = placed_at place op (flat_content flat_new) in
    record { tops = gives.tops; given = was.given ++ p ∷ []; stands = gives.stands; adds = adds_more was.given (p ∷ []) (sums_of []) old new was.adds adds }

-- the Data End was given
pub sums_end : (flat flat_new : FlatReader) (before now now_new : SourceState) (sums : Sums) (offset : ℕ) (was : SumsSoFar flat before now sums) → FlatFinds flat_new before now_new was.tops was.given offset → SumsAll before now_new sums
sums_end flat flat_new before now now_new sums offset was found =
    let finds = found.finds in
    let is = finds.is in
    let scan = good_lists_are_scanned reading_limits found.tops is.good in
    let same : filter is_message_placed (placed found.tops) ≡ filter is_message_placed was.given =
    sym (walked_messages found.tops) ∙ ap (filter is_message_placed) (sym found.whole) in
    let zip = subst (λ (l : List Placed). AllZip (IsSeen (tops_of (placed found.tops))) l scan.0) same scan.1 in
    record {
      tops = found.tops;
      end = offset;
      messages = scan.0;
      halts = finds.halts;
      scan = scan.1;
      sums_are = all_summed scan.0 sums (was.adds (tops_of (placed found.tops)) scan.0 zip);
    }
