-- The Message Index and the Chunk Index of the file of one message keep their rules.
use Rattle.std.proofs.Common.{◌≡◌, ℕ, zero, suc, ◌+◌, ◌^◌, ◌<◌, List, [], ◌∷◌, ◌++◌, length, Option, Some, refl, sym, ap, subst, inl, inr, ◌∙◌, arith}
use Rattle.std.specs.Prelude.{All, IsUtf8}
use Rattle.mcap_wire.specs.Layout.{le, number}
use Rattle.mcap_wire.specs.Arrays.{EntryFits}
use Rattle.mcap_wire.specs.Maps.{IsTextMap}
use Rattle.mcap_wire.proofs.Numbers.{length-le}
use Rattle.std.proofs.lemmas.List.{length-append}
use Rattle.mcap_wire.proofs.Contents.{row_shown, shows_decided, begins_decided}
use Rattle.mcap_crc.specs.Remainder.{remainder}
use Rattle.rec_data.specs.declared.owned.Rec.{Rec}
use Rattle.rec_data.specs.Records.{channel_kinds, channel_values, message_text, message_kinds, message_values}
use Rattle.rec_data.proofs.Contents.{message_shown}
use Rattle.rec_index.specs.Records.{message_index_text, message_index_kinds, message_index_values, ShowsMessageIndex}
use Rattle.mcap_model.specs.Places.{At, Has, Each}
use Rattle.mcap_model.specs.Tops.{Top, top_bytes, spelled, records_in, chunk_records, inner_tops}
use Rattle.mcap_model.specs.Fields.{MessageFields, IsMessage, IsMessageIndex, ChunkFields, ChunkIndexFields}
use Rattle.mcap_model.specs.History.{rec_top, history_bytes}
use Rattle.mcap_model.specs.Whole.{offset_of, indexes_behind, offset_among, IsEntryOf, AreEntries, IndexIsRight, V9, IsNamed, IsIndexOf, ChunkIndexIsRight}
use Rattle.mcap_model.specs.Laws.{chunk_top, index_top}
use Rattle.mcap_model.specs.ReadBack.{IsReadBack}
use Rattle.mcap_model.proofs.Places.{at_none, at_last, last_apart}
use Rattle.mcap_model.proofs.Edges.{header_top, end_top}
use Rattle.mcap_model.proofs.WrittenChunks.{written_shows}
use Rattle.mcap_laws.proofs.Sizes.{channel_a, first}
use Rattle.mcap_model.specs.Blocks.{written_fields}
use Rattle.std.proofs.lemmas.Option.{same_Some}

abbrev pub one : List Rec
one = channel_a ∷ first ∷ []

abbrev inside : List Top
inside = rec_top channel_a ∷ rec_top first ∷ []

opened_one : inner_tops (chunk_top one) ≡ inside
unfolding le number remainder records_in chunk_records
opened_one = refl

-- the records up to the Data End
abbrev tops : Top → List Top
tops index = header_top [] ∷ chunk_top one ∷ index ∷ end_top ∷ []

-- a Message Index of channel 1 with these entries
abbrev index_of : List (ℕ × ℕ) → Top
index_of entries = record { op = 7; content = message_index_text 1 entries }

written_index : index_top one 1 ≡ index_of ((10, 27) ∷ [])
unfolding le
written_index = refl

behind_chunk : (entries : List (ℕ × ℕ)) → indexes_behind (tops (index_of entries)) 1 ≡ index_of entries ∷ []
behind_chunk entries = refl

-- ---- what the Message Index holds

abbrev shown_message : MessageFields
shown_message = record { sequence = 1; log_time = 10; publish_time = 9; payload = 170 ∷ [] }

message_there : IsMessage (rec_top first) 1 shown_message
message_there = record { kind = refl; layout = message_shown 1 shown_message (omega arith) (omega arith) (omega arith) (omega arith) }

message_is : (channel : ℕ) (m : MessageFields) → IsMessage (rec_top first) channel m → (1 ≡ channel) × (10 ≡ m.log_time)
message_is channel m is =
    let same = (begins_decided message_kinds (message_text 1 shown_message) (message_values 1 shown_message) (message_values channel m) (170 ∷ []) m.payload message_there.layout is.layout).0 in
    (ap (λ v. v.0) same, ap (λ v. v.1.1.0) same)

place_27 : offset_among inside 1 ≡ 27
unfolding le
place_27 = refl

entry_there : IsEntryOf inside 1 (10, 27)
entry_there = record { place = 1; top = rec_top first; message = shown_message; at = refl; is = message_there; time = refl; offset = sym place_27 }

pair : ℕ → ℕ → ℕ × ℕ
pair a b = (a, b)

both : (a b : ℕ) → 10 ≡ a → 27 ≡ b → pair 10 27 ≡ pair a b
both a b x y = ap (λ (n : ℕ). pair n 27) x ∙ ap (pair a) y

pair_of : (e : ℕ × ℕ) → 10 ≡ e.0 → 27 ≡ e.1 → ◌≡◌ {A = ℕ × ℕ} (10, 27) e
unfolding pair
pair_of e x y = both e.0 e.1 x y

entry_is : (channel : ℕ) (entry : ℕ × ℕ) → IsEntryOf inside channel entry → (1 ≡ channel) × (◌≡◌ {A = ℕ × ℕ} (10, 27) entry)
entry_is channel entry is = by is.place is.top is.message is.at is.is is.time is.offset
  where
    by : (place : ℕ) (top : Top) (m : MessageFields) → At inside place top → IsMessage top channel m → entry.0 ≡ m.log_time → entry.1 ≡ offset_among inside place → (1 ≡ channel) × (◌≡◌ {A = ℕ × ℕ} (10, 27) entry)
    by zero top m at is time offset = absurd (omega (arith, is.kind, ap (λ (t : Top). t.op) (same_Some (rec_top channel_a) top at)))
    by (suc zero) top m at is time offset =
        let here = message_is channel m (subst (λ (t : Top). IsMessage t channel m) (sym (same_Some (rec_top first) top at)) is) in
        (here.0, pair_of entry (here.1 ∙ sym time) (sym place_27 ∙ sym offset))
    by (suc (suc n)) top m at is time offset = absurd (at_none n top at)

shows_one : (entries : List (ℕ × ℕ)) → ShowsMessageIndex (message_index_text 1 entries) 1 entries → (channel : ℕ) (others : List (ℕ × ℕ)) → IsMessageIndex (index_of entries) channel others → (1 ≡ channel) × (entries ≡ others)
shows_one entries shown channel others is =
    let same = shows_decided message_index_kinds (message_index_text 1 entries) (message_index_values 1 entries) (message_index_values channel others) shown is.layout in
    (ap (λ v. v.0) same, ap (λ v. v.1.0) same)

-- ---- V9

entries_fit : ShowsMessageIndex (message_index_text 1 ((10, 27) ∷ [])) 1 ((10, 27) ∷ [])
entries_fit = row_shown message_index_kinds (message_index_values 1 ((10, 27) ∷ [])) (omega arith, ((small, fit), tt))
  where
    small : length ((le 8 10 ++ le 8 27) ++ []) < 2 ^ 32
    small = omega (arith, length-append (le 8 10 ++ le 8 27) [], length-append (le 8 10) (le 8 27), length-le 8 10, length-le 8 27)

    fit : All (EntryFits 8) ((10, 27) ∷ [])
    fit zero d less = record { first_fits = omega arith; second_fits = omega arith }
    fit (suc k) d less = absurd (omega (arith, less))

only_entry : AreEntries inside 1 ((10, 27) ∷ [])
only_entry = record {
  are = λ entry has. subst (IsEntryOf inside 1) (alone entry has.0 has.1) entry_there;
  all = λ entry is. (0, ap Some (entry_is 1 entry is).1);
  once = λ i j entry a b. zero_of i entry a ∙ sym (zero_of j entry b);
}
  where
    alone : (entry : ℕ × ℕ) (n : ℕ) → At ((10, 27) ∷ []) n entry → ◌≡◌ {A = ℕ × ℕ} (10, 27) entry
    alone entry zero at = same_Some (10, 27) entry at
    alone entry (suc n) at = absurd (at_none n entry at)

    zero_of : (n : ℕ) (entry : ℕ × ℕ) → At ((10, 27) ∷ []) n entry → n ≡ 0
    zero_of zero entry at = refl
    zero_of (suc n) entry at = absurd (at_none n entry at)

index_right : IndexIsRight (chunk_top one) [] (index_of ((10, 27) ∷ []))
index_right = record {
  entries = λ channel entries is.
      let same = shows_one ((10, 27) ∷ []) entries_fit channel entries is in
      subst (λ (l : List Top). AreEntries l channel entries) (sym opened_one)
      (subst (λ (c : ℕ). AreEntries inside c entries) same.0 (subst (AreEntries inside 1) same.1 only_entry));
  only = λ channel u entries others has other is. absurd (at_none has.0 u has.1);
}

index_keeps : V9 (tops (index_of ((10, 27) ∷ []))) 2 (index_of ((10, 27) ∷ []))
index_keeps = (
  (λ kind. record {
    front = header_top [] ∷ [];
    neighbour = chunk_top one;
    follows = refl;
    is = inl refl;
    right = λ others chunk earlier joined kind each.
        let same = last_apart (λ (u : Top). u.op ≡ 7) (header_top [] ∷ []) others (chunk_top one) chunk [] earlier joined (λ e. omega (arith, e)) (λ e. omega (arith, e, kind)) (λ n u at. absurd (at_none n u at)) each in
        subst (λ (c : Top). IndexIsRight c earlier (index_of ((10, 27) ∷ []))) same.0 (subst (λ (l : List Top). IndexIsRight (chunk_top one) l (index_of ((10, 27) ∷ []))) same.1 index_right);
  }),
  λ kind. absurd (omega (arith, kind)),
)

chunk_keeps : V9 (tops (index_of ((10, 27) ∷ []))) 1 (chunk_top one)
chunk_keeps = ((λ kind. absurd (omega (arith, kind))), λ kind followed. inr (λ j channel u m at is. found j channel u m (subst (λ (l : List Top). At l j u) opened_one at) is))
  where
    found : (j channel : ℕ) (u : Top) (m : MessageFields) → At inside j u → IsMessage u channel m
        → (k : ℕ) × (i : Top) × (entries : List (ℕ × ℕ)) × At (indexes_behind (tops (index_of ((10, 27) ∷ []))) 1) k i × IsMessageIndex i channel entries
    found zero channel u m at is = absurd (omega (arith, is.kind, ap (λ (t : Top). t.op) (same_Some (rec_top channel_a) u at)))
    found (suc zero) channel u m at is =
        let here = message_is channel m (subst (λ (t : Top). IsMessage t channel m) (sym (same_Some (rec_top first) u at)) is) in
        (0, index_of ((10, 27) ∷ []), (10, 27) ∷ [], refl, subst (λ (c : ℕ). IsMessageIndex (index_of ((10, 27) ∷ [])) c ((10, 27) ∷ [])) here.0 (record { kind = refl; layout = entries_fit }))
    found (suc (suc n)) channel u m at is = absurd (at_none n u at)

-- without the entry the Message Index breaks V9
none_shown : ShowsMessageIndex (message_index_text 1 []) 1 []
none_shown = row_shown message_index_kinds (message_index_values 1 []) (omega arith, ((omega arith, λ k d less. absurd (omega (arith, less))), tt))

missing_breaks : V9 (tops (index_of [])) 2 (index_of []) → ⊥
missing_breaks keeps =
    let belongs = keeps.0 refl in
    let right = belongs.right (header_top [] ∷ []) (chunk_top one) [] refl refl (λ n u at. absurd (at_none n u at)) in
    let all = right.entries 1 [] (record { kind = refl; layout = none_shown }) in
    let entries = subst (λ (l : List Top). AreEntries l 1 []) opened_one all in
    let none = entries.all (10, 27) entry_there in
    at_none none.0 (10, 27) none.1

-- Behind a Message Index that has no chunk another one keeps the rule, and the first one breaks it.
abbrev astray : List Top
astray = header_top [] ∷ index_of [] ∷ index_of [] ∷ []

first_astray : V9 astray 1 (index_of []) → ⊥
first_astray keeps =
    let belongs = keeps.0 refl in
    let same = last_apart (λ (u : Top). ⊥) [] belongs.front (header_top []) belongs.neighbour [] [] belongs.follows (λ e. e) (λ e. e) (λ n u at. absurd (at_none n u at)) (λ n u at. absurd (at_none n u at)) in
    let kind : 1 ≡ belongs.neighbour.op = ap (λ (t : Top). t.op) same.0 in
    elim belongs.is [
      | inl six ↦ omega (arith, kind, six)
      | inr seven ↦ omega (arith, kind, seven)
    ]

second_astray : V9 astray 2 (index_of [])
second_astray = (
  (λ kind. record {
    front = header_top [] ∷ [];
    neighbour = index_of [];
    follows = refl;
    is = inr refl;
    right = λ others chunk earlier joined six each. absurd (no_chunk (length others) chunk (subst (λ (l : List Top). At l (length others) chunk) (sym joined) (at_last others chunk earlier)) six);
  }),
  λ kind. absurd (omega (arith, kind)),
)
  where
    no_chunk : (n : ℕ) (c : Top) → At (header_top [] ∷ index_of [] ∷ []) n c → c.op ≡ 6 → ⊥
    no_chunk zero c at six = omega (arith, six, ap (λ (t : Top). t.op) (same_Some (header_top []) c at))
    no_chunk (suc zero) c at six = omega (arith, six, ap (λ (t : Top). t.op) (same_Some (index_of []) c at))
    no_chunk (suc (suc n)) c at six = at_none n c at

-- ---- V12

index_fields : ChunkIndexFields
index_fields = record { start = 10; end = 10; offset = 34; size = 108; indexes = (1, 142) ∷ []; indexes_size = 31; compression = []; compressed = 59; uncompressed = 59 }

channel_back : IsReadBack channel_a
unfolding lib.Utf8.encode
channel_back = (refl, row_shown channel_kinds (channel_values 1 (record { schema = 0; topic = 47 ∷ 97 ∷ []; encoding = []; metadata = [] })) (omega arith, (omega arith, ((omega arith, topic), ((omega arith, ([], (refl, refl))), ((omega arith, no_pairs), tt))))))
  where
    topic : IsUtf8 (47 ∷ 97 ∷ [])
    topic = (47 ∷ 97 ∷ [], (refl, refl))

    no_pairs : IsTextMap []
    no_pairs = record { texts = λ k d less. absurd (omega (arith, less)); keys_differ = λ i j d less within. absurd (omega (arith, within)) }

pub one_back : Each IsReadBack one
one_back zero r at = subst IsReadBack (same_Some channel_a r at) channel_back
one_back (suc zero) r at = subst IsReadBack (same_Some first r at) (refl, message_shown 1 shown_message (omega arith) (omega arith) (omega arith) (omega arith))
one_back (suc (suc n)) r at = absurd (at_none n r at)

abbrev pub with_index : List Top
with_index = tops (index_of ((10, 27) ∷ []))

numbers_there : (34 ≡ offset_of with_index 1) × (108 ≡ length (top_bytes (chunk_top one))) × (59 ≡ length (history_bytes one)) × (142 ≡ offset_of with_index 2) × (31 ≡ length (spelled (indexes_behind with_index 1))) × (length (history_bytes one) < 2 ^ 64)
unfolding le number remainder
numbers_there = (refl, refl, refl, refl, refl, omega arith)

chunk_index_right : ChunkIndexIsRight with_index 4 index_fields
unfolding index_fields
chunk_index_right =
    let n = numbers_there in
    record {
      k = 1;
      chunk = chunk_top one;
      shown = written_fields one;
      is = record {
        at = refl;
        is = written_shows one one_back n.5;
        offset = n.0;
        size = n.1;
        start = refl;
        end = refl;
        compression = refl;
        compressed = n.2;
        uncompressed = n.2;
      };
      names = inr ((λ channel offset has. named channel offset has.0 has.1), (λ channel offset entries is some. reached channel offset entries is), n.4);
      only = λ i u other less at is. absurd (none i u at is.kind);
    }
  where
    there : IsNamed with_index 1 1 142 ((10, 27) ∷ [])
    there = record { place = 0; top = index_of ((10, 27) ∷ []); at = refl; is = record { kind = refl; layout = entries_fit }; there = numbers_there.3 }

    named : (channel offset k : ℕ) → At {X = ℕ × ℕ} ((1, 142) ∷ []) k (channel, offset) → (entries : List (ℕ × ℕ)) × IsNamed with_index 1 channel offset entries
    named channel offset zero at =
        let same = same_Some {A = ℕ × ℕ} (1, 142) (channel, offset) at in
        ((10, 27) ∷ [], subst (λ (p : ℕ × ℕ). IsNamed with_index 1 p.0 p.1 ((10, 27) ∷ [])) same there)
    named channel offset (suc k) at = absurd (at_none {X = ℕ × ℕ} k (channel, offset) at)

    reached : (channel offset : ℕ) (entries : List (ℕ × ℕ)) → IsNamed with_index 1 channel offset entries → Has {X = ℕ × ℕ} ((1, 142) ∷ []) (channel, offset)
    reached channel offset entries is = by is.place is.top is.at is.is is.there
      where
        by : (place : ℕ) (top : Top) → At (indexes_behind with_index 1) place top → IsMessageIndex top channel entries → offset ≡ offset_of with_index (2 + place) → Has {X = ℕ × ℕ} ((1, 142) ∷ []) (channel, offset)
        by zero top at is place =
            let shown = subst (λ (t : Top). IsMessageIndex t channel entries) (sym (same_Some (index_of ((10, 27) ∷ [])) top at)) is in
            let same = shows_one ((10, 27) ∷ []) entries_fit channel entries shown in
            (0, ap {B = Option (ℕ × ℕ)} (λ (c : ℕ). Some (c, 142)) same.0 ∙ ap {B = Option (ℕ × ℕ)} (λ (o : ℕ). Some (channel, o)) (numbers_there.3 ∙ sym place))
        by (suc n) top at is place = absurd (at_none n top at)

    none : (i : ℕ) (u : Top) → At with_index i u → u.op ≡ 8 → ⊥
    none zero u at e = omega (arith, e, ap (λ (t : Top). t.op) (same_Some (header_top []) u at))
    none (suc zero) u at e = omega (arith, e, ap (λ (t : Top). t.op) (same_Some (chunk_top one) u at))
    none (suc (suc zero)) u at e = omega (arith, e, ap (λ (t : Top). t.op) (same_Some (index_of ((10, 27) ∷ [])) u at))
    none (suc (suc (suc zero))) u at e = omega (arith, e, ap (λ (t : Top). t.op) (same_Some end_top u at))
    none (suc (suc (suc (suc n)))) u at e = at_none n u at

-- a Chunk Index with another offset is that of no chunk
other_offset : (f : ChunkIndexFields) (k : ℕ) (c : Top) (g : ChunkFields) → f.offset ≡ 35 → IsIndexOf with_index f k c g → ⊥
other_offset f k c g other is = by k c is.at is.is.kind is.offset
  where
    by : (k : ℕ) (c : Top) → At with_index k c → c.op ≡ 6 → f.offset ≡ offset_of with_index k → ⊥
    by zero c at kind there = omega (arith, kind, ap (λ (t : Top). t.op) (same_Some (header_top []) c at))
    by (suc zero) c at kind there = omega (arith, other, there, numbers_there.0)
    by (suc (suc zero)) c at kind there = omega (arith, kind, ap (λ (t : Top). t.op) (same_Some (index_of ((10, 27) ∷ [])) c at))
    by (suc (suc (suc zero))) c at kind there = omega (arith, kind, ap (λ (t : Top). t.op) (same_Some end_top c at))
    by (suc (suc (suc (suc n)))) c at kind there = at_none n c at

offset_breaks : (n : ℕ) (f : ChunkIndexFields) → f.offset ≡ 35 → ChunkIndexIsRight with_index n f → ⊥
offset_breaks n f other right = other_offset f right.k right.chunk right.shown other right.is
