-- What is kept of a whole data section.
use Rattle.std.proofs.Common.{◌≡◌, ◌⊎◌, ℕ, suc, Bool, true, false, eqb, List, [], ◌∷◌, ◌++◌, length, filter, cond, Some, refl, sym, ap, subst, inl, inr, ◌∙◌, append_assoc, arith}
use Rattle.std.proofs.lemmas.Bool.{both_ways, eq-eqb, eqb-true}
use Rattle.std.specs.Prelude.{slice_index}
use Rattle.std.proofs.lemmas.List.{append-nil}
use Rattle.mcap_model.specs.Places.{Has, Each}
use Rattle.mcap_model.specs.Tops.{Top, is_flat_kind, flat}
use Rattle.mcap_model.specs.Made.{top}
use Rattle.mcap_model.specs.Rules.{HasDataEnd, stands_in_section, HasSchema, HasChannel}
use Rattle.mcap_model.specs.Kept.{reading_limits, Fits, Good}
use Rattle.mcap_model.specs.Times.{TimesOf}
use Rattle.mcap_model.specs.Whole.{IsSection, count_of, AreChannels, on_channel, AreIds}
use Rattle.mcap_model.proofs.Cutting.{last_of}
use Rattle.mcap_model.proofs.Flat.{flat_more}
use Rattle.mcap_model.proofs.Lists.{filter_has}
use Rattle.mcap_model.proofs.Places.{at_within, each_at}
use Rattle.mcap_model.proofs.TakenRecords.{ended_more}
use Rattle.index_check.specs.declared.spots.Spot.{Spot}
use Rattle.index_check.specs.declared.tally.Tally.{Tally}
use Rattle.index_check.specs.declared.tally.IdCounts.{IdCounts}
use Rattle.index_check.specs.Spots.{NamedBy}
use Rattle.index_check.specs.Chunks.{IndexesChunk}
use Rattle.index_check.specs.Extras.{IndexesAttachment, IndexesMetadata}
use Rattle.index_check.specs.Tally.{IdsAre, ChannelsCounted, TallyOf}
use Rattle.file_check.specs.MessageCounts.{ListsCounts}
use Rattle.file_check.proofs.Counting.{filter_no, count_other}
use Rattle.file_check.proofs.Flattening.{opened_other}

-- ---- the section in front of the Data End

has_end : (tops : List Top) (t : Top) → HasDataEnd (tops ++ t ∷ []) → HasDataEnd tops ⊎ (t.op ≡ 15)
has_end [] t (inl is) = inr is
has_end [] t (inr none) = absurd none
has_end (x ∷ xs) t (inl is) = inl (inl is)
has_end (x ∷ xs) t (inr more) = elim (has_end xs t more) [ inl old ↦ inl (inr old) | inr last ↦ inr last ]

pub data_section : (tops : List Top) → Good reading_limits tops → HasDataEnd tops → (section : List Top) × IsSection tops section
data_section [] good ended = absurd ended
data_section (t ∷ ts) good ended =
    let (front, last, split) = last_of t ts in
    let fits = each_at (Fits reading_limits) front last [] (subst (Good reading_limits) split good) in
    elim (has_end front last (subst HasDataEnd split ended)) [
      | inl before ↦ absurd (fits.unended before)
      | inr kind ↦ (front, record { end = last; behind = []; joined = split; kind = kind; unended = fits.unended })
    ]

-- nothing stands behind the Data End
pub ends_section : (tops section : List Top) → (is : IsSection tops section) → Good reading_limits tops → tops ≡ section ++ is.end ∷ []
ends_section tops section is good = by is.behind refl
  where
    by : (behind : List Top) → is.behind ≡ behind → tops ≡ section ++ is.end ∷ []
    by [] none = is.joined ∙ ap (λ (l : List Top). section ++ is.end ∷ l) none
    by (b ∷ bs) some =
        let split : tops ≡ (section ++ is.end ∷ []) ++ b ∷ bs =
        is.joined ∙ ap (λ (l : List Top). section ++ is.end ∷ l) some ∙ sym (append_assoc section (is.end ∷ []) (b ∷ bs)) in
        let fits = each_at (Fits reading_limits) (section ++ is.end ∷ []) b bs (subst (Good reading_limits) split good) in
        absurd (fits.unended (ended_more section is.end is.kind))

end_flat : (section : List Top) (end : Top) → end.op ≡ 15 → flat (section ++ end ∷ []) ≡ flat section
end_flat section end kind =
    flat_more section end ∙ ap (λ (l : List Top). flat section ++ filter is_flat_kind l) (opened_other end (λ six. omega (arith, six, kind)))
    ∙ ap (λ (l : List Top). flat section ++ l) (filter_no is_flat_kind [] end (ap (λ (op : ℕ). is_flat_kind (top op end.content)) kind)) ∙ append-nil (flat section)

-- ---- records that don't stand in a section

no_kind : (op : ℕ) (before : List Top) (t : Top) → Fits reading_limits before t → stands_in_section op ≡ false → (op ≡ 1 → ⊥) → t.op ≡ op → ⊥
no_kind op [] t fits out other is = let header = fits.v3 in other (sym is ∙ header.kind)
no_kind op (x ∷ xs) t fits out other is = elim fits.v5.1 [
  | inl ended ↦ fits.unended ended
  | inr stands ↦ both_ways (stands_in_section op) out (ap stands_in_section (sym is) ∙ stands)
]

-- so no index of these names a record
unnamed : (Names : Top → ℕ → Type 0) (op : ℕ) (tops : List Top) (spots : List Spot) → Each (λ s. s.named ≡ false) spots → Good reading_limits tops → stands_in_section op ≡ false → (op ≡ 1 → ⊥) → ((t : Top) (offset : ℕ) → Names t offset → t.op ≡ op)
    → NamedBy Names tops (length tops) spots
unnamed Names op tops spots none good out other kinds = record {
  named = λ k s at. (
    λ e. absurd (both_ways s.named (none k s at) e),
    λ b. let (i, u, less, at_u, names) = b in absurd (no_kind op _ u (good i u at_u) out other (kinds u s.offset names)),
  );
}

pub chunks_unnamed : (tops : List Top) (spots : List Spot) → Each (λ s. s.named ≡ false) spots → Good reading_limits tops → NamedBy IndexesChunk tops (length tops) spots
chunks_unnamed tops spots none good = unnamed IndexesChunk 8 tops spots none good refl (λ e. omega (arith, e)) (λ t offset names. let is = names.1 in is.kind)

pub attachments_unnamed : (tops : List Top) (spots : List Spot) → Each (λ s. s.named ≡ false) spots → Good reading_limits tops → NamedBy IndexesAttachment tops (length tops) spots
attachments_unnamed tops spots none good = unnamed IndexesAttachment 10 tops spots none good refl (λ e. omega (arith, e)) (λ t offset names. let is = names.1 in is.kind)

pub metadata_unnamed : (tops : List Top) (spots : List Spot) → Each (λ s. s.named ≡ false) spots → Good reading_limits tops → NamedBy IndexesMetadata tops (length tops) spots
metadata_unnamed tops spots none good = unnamed IndexesMetadata 13 tops spots none good refl (λ e. omega (arith, e)) (λ t offset names. let is = names.2 in is.kind)

-- ---- the numbers of channels

on_some : (channels : List ℕ) (channel : ℕ) → (on_channel channels channel ≡ 0 → ⊥) → Has channels channel
on_some [] channel some = absurd (some refl)
on_some (x ∷ xs) channel some = by (eqb x channel) refl (on_some xs channel)
  where
    by : (b : Bool) → eqb x channel ≡ b → ((on_channel xs channel ≡ 0 → ⊥) → Has xs channel) → Has (x ∷ xs) channel
    by true is rest = (0, ap Some (eqb-true x channel is))
    by false is rest =
        let more = rest (λ none. some (ap (λ (b : Bool). length (cond b (x ∷ filter (λ c. eqb c channel) xs) (filter (λ c. eqb c channel) xs))) is ∙ none)) in
        (suc more.0, more.1)

on_has : (channels : List ℕ) (channel : ℕ) → Has channels channel → on_channel channels channel ≡ 0 → ⊥
on_has channels channel has none =
    let there = filter_has (λ c. eqb c channel) channels has.0 channel has.1 (eq-eqb channel channel refl) in
    let within = at_within (filter (λ c. eqb c channel) channels) there.0 channel there.1 in
    omega (arith, within, none)

pub counts_are : (by_channel channels : List ℕ) (list : List (ℕ × ℕ)) → ((channel : ℕ) → slice_index by_channel channel ≡ on_channel channels channel) → ListsCounts by_channel list → ChannelsCounted channels list
counts_are by_channel channels list same lists = record {
  right = λ channel count has.
      let listed = lists.right channel count has in
      (on_some channels channel (λ none. listed.1 (listed.0 ∙ same channel ∙ none)), listed.0 ∙ same channel);
  all = λ channel has. lists.all channel (λ none. on_has channels channel has (sym (same channel) ∙ none));
}

-- ---- the tally

ids_of : (P : List Top → ℕ → Type 0) (tops section : List Top) (ids : List ℕ) (counts : IdCounts) → flat tops ≡ flat section → AreIds (P (flat tops)) ids → counts.in_section ≡ length ids → counts.in_file ≡ length ids → IdsAre P section tops counts
ids_of P tops section ids counts same are low high = record {
  low = ids;
  high = ids;
  are_low = subst (λ (l : List Top). AreIds (P l) ids) same are;
  are_high = are;
  in_section = low;
  in_file = high;
}

pub tallied : (tops section : List Top) (t : Tally) (channels_of schemas channels : List ℕ) → IsSection tops section → Good reading_limits tops
    → t.messages ≡ count_of 5 (flat tops) → t.attachments ≡ count_of 9 tops → t.metadata ≡ count_of 12 tops → t.chunks ≡ count_of 6 tops → TimesOf (flat tops) (record { any = t.any; least = t.least; greatest = t.greatest })
    → AreChannels (flat tops) channels_of → ChannelsCounted channels_of t.counts.items → AreIds (HasSchema (flat tops)) schemas → AreIds (HasChannel (flat tops)) channels
    → t.schemas.in_section ≡ length schemas → t.schemas.in_file ≡ length schemas → t.channels.in_section ≡ length channels → t.channels.in_file ≡ length channels → TallyOf tops section t
tallied tops section t channels_of schemas channels is good messages attachments metadata chunks times are_channels counts are_schemas are_ids schemas_low schemas_high channels_low channels_high = record {
  is = inl is;
  messages = messages ∙ ap (count_of 5) same;
  attachments = attachments ∙ count 9 (λ e. omega (arith, e));
  metadata = metadata ∙ count 12 (λ e. omega (arith, e));
  chunks = chunks ∙ count 6 (λ e. omega (arith, e));
  times = subst (λ (l : List Top). TimesOf l (record { any = t.any; least = t.least; greatest = t.greatest })) same times;
  channels_of = channels_of;
  are_channels = subst (λ (l : List Top). AreChannels l channels_of) same are_channels;
  counts = counts;
  schemas = ids_of HasSchema tops section schemas t.schemas same are_schemas schemas_low schemas_high;
  channels = ids_of HasChannel tops section channels t.channels same are_ids channels_low channels_high;
}
  where
    same : flat tops ≡ flat section
    same = ap flat (ends_section tops section is good) ∙ end_flat section is.end is.kind

    count : (op : ℕ) → (15 ≡ op → ⊥) → count_of op tops ≡ count_of op section
    count op other = ap (count_of op) (ends_section tops section is good) ∙ count_other op section is.end (λ e. other (sym is.kind ∙ e))
