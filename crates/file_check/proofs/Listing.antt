-- The numbers of channels as a list.
use Rattle.std.proofs.Common.{◌≡◌, ℕ, ◌+◌, ◌<◌, ◌≤◌, List, [], ◌∷◌, ◌++◌, length, sym, ap, inl, inr, ◌∙◌, arith}
use Rattle.std.specs.Prelude.{◌≢◌, slice_index}
use Rattle.std.proofs.lemmas.Bool.{cases_lt}
use Rattle.std.proofs.lemmas.List.{get_or_past}
use Rattle.mcap_model.specs.Places.{Has}
use Rattle.mcap_model.proofs.Places.{at_none, at_kept, at_last, at_more}
use Rattle.index_check.specs.Tally.{HasChannelCount}
use Rattle.file_check.specs.MessageCounts.{ListsCounts}

-- the channels below that one are listed
pub record ListsSoFar (counts : List ℕ) (i : ℕ) (list : List (ℕ × ℕ)) : Type 0 where
  pub right : (channel count : ℕ) → Has list (channel, count) → (count ≡ slice_index counts channel) × (count ≢ 0)
  pub all : (channel : ℕ) → channel < i → slice_index counts channel ≢ 0 → HasChannelCount list channel

abbrev pub pair : ℕ → ℕ → ℕ × ℕ
pair a b = (a, b)

pub lists_none : (counts : List ℕ) → ListsSoFar counts 0 []
lists_none counts = record {
  right = λ channel count has. absurd (at_none has.0 (pair channel count) has.1);
  all = λ channel less some. absurd (omega (arith, less));
}

-- the channel has a number
pub lists_more : (counts : List ℕ) (i count : ℕ) (list : List (ℕ × ℕ)) → ListsSoFar counts i list → count ≡ slice_index counts i → count ≢ 0 → ListsSoFar counts (i + 1) (list ++ pair i count ∷ [])
lists_more counts i count list was is some = record {
  right = λ channel number has. elim (at_more list (pair i count) has.0 (pair channel number) has.1) [
    | inl old ↦ was.right channel number (has.0, old)
    | inr (_, same) ↦
        let own : channel ≡ i = ap {B = ℕ} (λ (p : ℕ × ℕ). p.0) same in
        let its : number ≡ count = ap {B = ℕ} (λ (p : ℕ × ℕ). p.1) same in
        (its ∙ is ∙ ap (slice_index counts) (sym own), λ none. some (sym its ∙ none))
  ];
  all = λ channel less other. elim (cases_lt channel i) [
    | inl before ↦ let key = was.all channel before other in (key.0, key.1, at_kept list (pair i count ∷ []) key.0 key.1 key.2, key.3)
    | inr behind ↦ let same : i ≡ channel = omega (arith, less, behind) in (length list, pair i count, at_last list (pair i count) [], same)
  ];
}

-- it has none
pub lists_skip : (counts : List ℕ) (i count : ℕ) (list : List (ℕ × ℕ)) → ListsSoFar counts i list → count ≡ slice_index counts i → count ≡ 0 → ListsSoFar counts (i + 1) list
lists_skip counts i count list was is none = record {
  right = was.right;
  all = λ channel less other. elim (cases_lt channel i) [
    | inl before ↦ was.all channel before other
    | inr behind ↦ let same : channel ≡ i = omega (arith, less, behind) in absurd (other (ap (slice_index counts) same ∙ sym is ∙ none))
  ];
}

-- those behind the end have none
pub lists_all : (counts : List ℕ) (i : ℕ) (list : List (ℕ × ℕ)) → ListsSoFar counts i list → length counts ≤ i → ListsCounts counts list
lists_all counts i list was end = record {
  right = was.right;
  all = λ channel some. elim (cases_lt channel i) [
    | inl before ↦ was.all channel before some
    | inr behind ↦ absurd (some (get_or_past counts channel 0 (omega (arith, end, behind))))
  ];
}
