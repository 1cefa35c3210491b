-- Statistics, over what was counted.
use Rattle.std.proofs.Common.{◌≡◌, ◌⊎◌, ℕ, zero, suc, ◌≤◌, Bool, true, false, eqb, not, ◌||◌, ◌&&◌, List, [], ◌∷◌, ◌++◌, length, take, filter, cond, refl, sym, ap, subst, inl, inr, ◌∙◌, arith}
use Rattle.std.specs.Prelude.{◌≢◌, AllPairs}
use Rattle.std.specs.List.{AllZip}
use Rattle.std.proofs.lemmas.Bool.{ne_eqb, eqb-true, eqb-false}
use Rattle.std.proofs.lemmas.List.{length-append}
use Rattle.std.proofs.lemmas.Option.{same_Some}
use Rattle.mcap_model.specs.Places.{At, Has, Each}
use Rattle.mcap_model.specs.Tops.{Top, flat}
use Rattle.mcap_model.specs.Fields.{MessageFields, IsMessage, StatisticsFields}
use Rattle.mcap_model.specs.Rules.{HasDataEnd, HasSchema, HasChannel, TimesAre}
use Rattle.mcap_model.specs.Scan.{is_message_top}
use Rattle.mcap_model.specs.Whole.{IsDataSection, count_of, AreChannels, on_channel, AreIds, LiesBetween, AreCounted, StatisticsAreRight}
use Rattle.mcap_model.proofs.Places.{at_none, heads, tails}
use Rattle.mcap_model.proofs.Lists.{cut_at, pairs_at, pairs_from}
use Rattle.mcap_model.proofs.Maps.{message_once}
use Rattle.mcap_model.proofs.Logged.{pair_same}
use Rattle.mcap_model.proofs.Spans.{times_right, times_wrong, test_holds, test_fails}
use Rattle.index_check.specs.declared.tally.Tally.{Tally}
use Rattle.index_check.specs.declared.tally.IdCounts.{IdCounts}
use Rattle.index_check.specs.Tally.{HasChannelCount, CountsTallied, HasTallied, IdsAre, ChannelsCounted, TallyOf}

-- ---- the data section is one

ended : (section : List Top) (end : Top) (behind : List Top) → end.op ≡ 15 → HasDataEnd (section ++ end ∷ behind)
ended [] end behind kind = inl kind
ended (t ∷ ts) end behind kind = inr (ended ts end behind kind)

same_front : (xs ys : List Top) (c d : Top) (e f : List Top) → xs ++ c ∷ e ≡ ys ++ d ∷ f → c.op ≡ 15 → d.op ≡ 15 → (HasDataEnd xs → ⊥) → (HasDataEnd ys → ⊥) → xs ≡ ys
same_front [] [] c d e f same one other none never = refl
same_front [] (y ∷ ys) c d e f same one other none never = absurd (never (inl (sym (ap (λ (t : Top). t.op) (heads c y e (ys ++ d ∷ f) same)) ∙ one)))
same_front (x ∷ xs) [] c d e f same one other none never = absurd (none (inl (ap (λ (t : Top). t.op) (heads x d (xs ++ c ∷ e) f same) ∙ other)))
same_front (x ∷ xs) (y ∷ ys) c d e f same one other none never =
    let rest = same_front xs ys c d e f (tails x y (xs ++ c ∷ e) (ys ++ d ∷ f) same) one other (λ has. none (inr has)) (λ has. never (inr has)) in
    ap (λ (t : Top). t ∷ xs) (heads x y (xs ++ c ∷ e) (ys ++ d ∷ f) same) ∙ ap (λ (l : List Top). y ∷ l) rest

pub section_one : (tops xs ys : List Top) → IsDataSection tops xs → IsDataSection tops ys → xs ≡ ys
section_one tops xs ys (inl one) (inl other) = same_front xs ys one.end other.end one.behind other.behind (sym one.joined ∙ other.joined) one.kind other.kind one.unended other.unended
section_one tops xs ys (inl one) (inr other) = absurd (other.0 (subst HasDataEnd (sym one.joined) (ended xs one.end one.behind one.kind)))
section_one tops xs ys (inr one) (inl other) = absurd (one.0 (subst HasDataEnd (sym other.joined) (ended ys other.end other.behind other.kind)))
section_one tops xs ys (inr one) (inr other) = one.1 ∙ sym other.1

-- ---- ids are as many in each list of them

few : (xs ys : List ℕ) → AllPairs (λ a b. a ≢ b) xs → Each (Has ys) xs → length xs ≤ length ys
few [] ys apart has = omega arith
few (x ∷ xs) ys apart has =
    let (n, at) = has 0 x refl in
    let (more, split) = cut_at ys n x at in
    let rest = few xs (take n ys ++ more)
    (pairs_from (λ (a b : ℕ). a ≢ b) xs (λ i j a b less one other. pairs_at (λ (a b : ℕ). a ≢ b) (x ∷ xs) apart (suc i) (suc j) a b (omega (arith, less)) one other))
    (λ k y there. without (take n ys) more y (λ e. pairs_at (λ (a b : ℕ). a ≢ b) (x ∷ xs) apart 0 (suc k) x y (omega arith) refl there (sym e)) (subst (λ (l : List ℕ). Has l y) split (has (suc k) y there))) in
    let size = ap length split in
    omega (arith, rest, size, length-append (take n ys) (x ∷ more), length-append (take n ys) more)
  where
    without : (front more : List ℕ) (y : ℕ) → (y ≡ x → ⊥) → Has (front ++ x ∷ more) y → Has (front ++ more) y
    without [] more y other (zero, at) = absurd (other (sym (same_Some x y at)))
    without [] more y other (suc k, at) = (k, at)
    without (f ∷ fs) more y other (zero, at) = (0, at)
    without (f ∷ fs) more y other (suc k, at) = let there = without fs more y other (k, at) in (suc there.0, there.1)

ids_same : (P : ℕ → Type 0) (xs ys : List ℕ) → AreIds P xs → AreIds P ys → length xs ≡ length ys
ids_same P xs ys one other =
    let up = few xs ys one.apart (λ k x at. other.all x (one.have k x at)) in
    let down = few ys xs other.apart (λ k y at. one.all y (other.have k y at)) in
    omega (arith, up, down)

lies : (P : List Top → ℕ → Type 0) (section tops : List Top) (counts : IdCounts) (n : ℕ) → IdsAre P section tops counts → counts.in_section ≤ n → n ≤ counts.in_file → LiesBetween P section tops n
lies P section tops counts n ids low high = (ids.low, ids.high, ids.are_low, ids.are_high, (let size = ids.in_section in omega (arith, low, size)), (let size = ids.in_file in omega (arith, high, size)))

lie : (P : List Top → ℕ → Type 0) (section tops : List Top) (counts : IdCounts) (n : ℕ) → IdsAre P section tops counts → LiesBetween P section tops n → (counts.in_section ≤ n) × (n ≤ counts.in_file)
lie P section tops counts n ids (low, high, are_low, are_high, from, upto) =
    let one = ids_same (P (flat section)) ids.low low ids.are_low are_low in
    let other = ids_same (P (flat tops)) ids.high high ids.are_high are_high in
    ((let size = ids.in_section in omega (arith, from, one, size)), (let size = ids.in_file in omega (arith, upto, other, size)))

-- ---- numbers by channel

channels_once : (records : List Top) (a b : List ℕ) → AllZip (λ t channel. (m : MessageFields) × IsMessage t channel m) records a → AllZip (λ t channel. (m : MessageFields) × IsMessage t channel m) records b → a ≡ b
channels_once [] [] [] one other = refl
channels_once [] [] (y ∷ ys) one other = absurd other
channels_once [] (x ∷ xs) b one other = absurd one
channels_once (t ∷ ts) [] b one other = absurd one
channels_once (t ∷ ts) (x ∷ xs) [] one other = absurd other
channels_once (t ∷ ts) (x ∷ xs) (y ∷ ys) one other =
    let head = message_once t x y one.0.0 other.0.0 one.0.1 other.0.1 in
    ap (λ (c : ℕ). c ∷ xs) head.0 ∙ ap (λ (l : List ℕ). y ∷ l) (channels_once ts xs ys one.1 other.1)

on_none : (channels : List ℕ) (channel : ℕ) → (Has channels channel → ⊥) → on_channel channels channel ≡ 0
on_none [] channel none = refl
on_none (x ∷ xs) channel none =
    let other : eqb x channel ≡ false = ne_eqb x channel (λ e. none (0, subst (λ (c : ℕ). At (x ∷ xs) 0 c) e refl)) in
    ap (λ (b : Bool). length (cond b (x ∷ filter (λ c. eqb c channel) xs) (filter (λ c. eqb c channel) xs))) other
    ∙ on_none xs channel (λ has. none (suc has.0, has.1))

key_or_none : (counts : List (ℕ × ℕ)) (channel : ℕ) → HasChannelCount counts channel ⊎ (HasChannelCount counts channel → ⊥)
key_or_none [] channel = inr (λ key. at_none key.0 key.1 key.2)
key_or_none (e ∷ es) channel = elim (key_or_none es channel) [
  | inl key ↦ inl (suc key.0, key.1, key.2, key.3)
  | inr none ↦ by (eqb e.0 channel) refl none
]
  where
    by : (b : Bool) → eqb e.0 channel ≡ b → (HasChannelCount es channel → ⊥) → HasChannelCount (e ∷ es) channel ⊎ (HasChannelCount (e ∷ es) channel → ⊥)
    by true is none = inl (0, e, refl, eqb-true e.0 channel is)
    by false is none = inr lacks
      where
        lacks : HasChannelCount (e ∷ es) channel → ⊥
        lacks (zero, entry, at, same) = eqb-false e.0 channel is (ap {B = ℕ} (λ (p : ℕ × ℕ). p.0) (same_Some e entry at) ∙ same)
        lacks (suc k, entry, at, same) = none (k, entry, at, same)

-- the entry of a key
entry_of : (counts : List (ℕ × ℕ)) (k : ℕ) (entry : ℕ × ℕ) (channel : ℕ) → At counts k entry → entry.0 ≡ channel → Has {X = ℕ × ℕ} counts (channel, entry.1)
entry_of counts k entry channel at is = (k, subst {A = ℕ × ℕ} (λ e. At counts k e) (pair_same entry channel entry.1 is refl) at)

counts_right : (section : List Top) (map : List (ℕ × ℕ)) (channels : List ℕ) (counts : List (ℕ × ℕ)) → AreChannels (flat section) channels → ChannelsCounted channels counts → CountsTallied map counts → (map ≡ []) ⊎ AreCounted section map
counts_right section map channels counts are counted tallied = elim tallied [
  | inl none ↦ inl none
  | inr (each, keys) ↦ inr (record {
    channels_of = channels;
    are_channels = are;
    right = λ channel count has. elim (each has.0 (channel, count) has.1) [
      | inl there ↦ (counted.right channel count there).1
      | inr (none, lacks) ↦ none ∙ sym (on_none channels channel (λ on. lacks (counted.all channel on)))
    ];
    all = λ channel on.
        let key = counted.all channel on in
        let mapped = keys key.0 key.1 key.2 in
        (mapped.1.1, entry_of map mapped.0 mapped.1 channel mapped.2 (mapped.3 ∙ key.3));
  })
]

counts_back : (section : List Top) (map : List (ℕ × ℕ)) (channels : List ℕ) (counts : List (ℕ × ℕ)) → AreChannels (flat section) channels → ChannelsCounted channels counts → (map ≡ []) ⊎ AreCounted section map → CountsTallied map counts
counts_back section map channels counts are counted right = elim right [
  | inl none ↦ inl none
  | inr own ↦
      let same = channels_once (filter is_message_top (flat section)) own.channels_of channels own.are_channels are in
      inr (
        λ n entry at.
            let its = own.right entry.0 entry.1 (n, at) ∙ ap (λ (l : List ℕ). on_channel l entry.0) same in
            elim (key_or_none counts entry.0) [
              | inl key ↦
                  let has = entry_of counts key.0 key.1 entry.0 key.2 key.3 in
                  let counted_is = (counted.right entry.0 key.1.1 has).1 in
                  inl (subst (λ (c : ℕ). Has {X = ℕ × ℕ} counts (entry.0, c)) (counted_is ∙ sym its) has)
              | inr lacks ↦ inr (its ∙ on_none channels entry.0 (λ on. lacks (counted.all entry.0 on)), lacks)
            ],
        λ n entry at.
            let on = (counted.right entry.0 entry.1 (n, at)).0 in
            let mapped = own.all entry.0 (subst (λ (l : List ℕ). Has l entry.0) (sym same) on) in
            let has = mapped.1 in
            (has.0, (entry.0, mapped.0), has.1, refl),
      )
]

-- ---- all of it

pub statistics_right : (tops section : List Top) (t : Tally) (f : StatisticsFields) → TallyOf tops section t → HasTallied t f → (not t.any || (eqb t.least f.start && eqb t.greatest f.end)) ≡ true → CountsTallied f.counts t.counts.items → StatisticsAreRight tops f
statistics_right tops section t f of numbers times counts = record {
  section = section;
  is = of.is;
  messages = numbers.0 ∙ of.messages;
  attachments = numbers.1 ∙ of.attachments;
  metadata = numbers.2 ∙ of.metadata;
  chunks = numbers.3 ∙ of.chunks;
  times = times_right (flat section) (record { any = t.any; least = t.least; greatest = t.greatest }) f.start f.end of.times (test_holds t.any t.least f.start t.greatest f.end times);
  counts = counts_right section f.counts of.channels_of t.counts.items of.are_channels of.counts counts;
  schemas = lies HasSchema section tops t.schemas f.schemas of.schemas numbers.4 numbers.5;
  channels = lies HasChannel section tops t.channels f.channels of.channels numbers.6 numbers.7;
}

module _ (tops section : List Top) (t : Tally) (f : StatisticsFields) (of : TallyOf tops section t) (right : StatisticsAreRight tops f) where
  same : right.section ≡ section
  same = section_one tops right.section section right.is of.is

  pub right_numbers : HasTallied t f
  right_numbers =
      let schemas = lie HasSchema section tops t.schemas f.schemas of.schemas (subst (λ (l : List Top). LiesBetween HasSchema l tops f.schemas) same right.schemas) in
      let channels = lie HasChannel section tops t.channels f.channels of.channels (subst (λ (l : List Top). LiesBetween HasChannel l tops f.channels) same right.channels) in (
        right.messages ∙ ap (λ (l : List Top). count_of 5 (flat l)) same ∙ sym of.messages,
        right.attachments ∙ ap (count_of 9) same ∙ sym of.attachments,
        right.metadata ∙ ap (count_of 12) same ∙ sym of.metadata,
        right.chunks ∙ ap (count_of 6) same ∙ sym of.chunks,
        schemas.0,
        schemas.1,
        channels.0,
        channels.1,
      )

  pub right_times : (not t.any || (eqb t.least f.start && eqb t.greatest f.end)) ≡ false → ⊥
  right_times wrong =
      let fails = test_fails t.any t.least f.start t.greatest f.end wrong in
      times_wrong (flat section) (record { any = t.any; least = t.least; greatest = t.greatest }) f.start f.end of.times fails.0 fails.1 (subst (λ (l : List Top). TimesAre (flat l) f.start f.end) same right.times)

  pub right_counts : CountsTallied f.counts t.counts.items
  right_counts = counts_back section f.counts of.channels_of t.counts.items of.are_channels of.counts (subst (λ (l : List Top). (f.counts ≡ []) ⊎ AreCounted l f.counts) same right.counts)
