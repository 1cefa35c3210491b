-- What stands behind a chunk.
use Rattle.std.proofs.Common.{◌≡◌, ℕ, suc, false, List, [], ◌∷◌, ◌++◌, length, drop, refl, sym, ap, subst, inl, inr, ◌∙◌, append_assoc, arith}
use Rattle.std.specs.Prelude.{take_while}
use Rattle.std.proofs.lemmas.Bool.{ne_eqb, eq-eqb}
use Rattle.std.proofs.lemmas.Option.{same_Some}
use Rattle.rec_index.specs.Records.{ShowsMessageIndex}
use Rattle.mcap_model.specs.Places.{At, Has, Each}
use Rattle.mcap_model.specs.Tops.{Top, inner_tops}
use Rattle.mcap_model.specs.Fields.{IsMessageIndex}
use Rattle.mcap_model.specs.Whole.{is_index, indexes_behind, offset_among, IsEntryOf, AreEntries, IndexIsRight, BelongsTo, IsIndexed}
use Rattle.mcap_model.specs.Made.{top}
use Rattle.mcap_model.proofs.Places.{at_none, at_last, last_apart}
use Rattle.mcap_model.proofs.Lists.{take_while_front}
use Rattle.mcap_model.proofs.Cutting.{last_of}
use Rattle.mcap_model.proofs.Once.{message_index_once}
use Rattle.mcap_scan.specs.declared.message_heads.MessageHead.{MessageHead}
use Rattle.index_check.specs.Behind.{IsChunkOpen}
use Rattle.index_check.specs.Messages.{message_at_entry, AreOn}

-- ---- a Message Index

pub as_index : (content : List ℕ) (channel : ℕ) (entries : List (ℕ × ℕ)) → ShowsMessageIndex content channel entries → IsMessageIndex (top 7 content) channel entries
as_index content channel entries shows = record { kind = refl; layout = shows }

pub index_belongs : (before : List Top) (messages : List MessageHead) (channels content : List ℕ) (channel : ℕ) (entries : List (ℕ × ℕ)) → (o : IsChunkOpen before messages channels) → ShowsMessageIndex content channel entries
    → AreEntries (inner_tops o.chunk) channel entries → (Has channels channel → ⊥) → BelongsTo before (top 7 content)
index_belongs before messages channels content channel entries o shows are fresh = by o.earlier refl
  where
    right : (others : List Top) (chunk : Top) (earlier : List Top) → before ≡ others ++ chunk ∷ earlier → chunk.op ≡ 6 → Each (λ u. u.op ≡ 7) earlier → IndexIsRight chunk earlier (top 7 content)
    right others chunk earlier joined kind indexes =
        let same = last_apart (λ (u : Top). u.op ≡ 7) o.others others o.chunk chunk o.earlier earlier (sym o.joined ∙ joined) (let six = o.kind in λ e. omega (arith, six, e)) (λ e. omega (arith, kind, e)) o.indexes indexes in
        record {
          entries = λ own list is.
              let once = message_index_once (top 7 content) channel own entries list (as_index content channel entries shows) is in
              subst (λ (l : List (ℕ × ℕ)). AreEntries (inner_tops chunk) own l) once.1
              (subst (λ (n : ℕ). AreEntries (inner_tops chunk) n entries) once.0
              (subst (λ (u : Top). AreEntries (inner_tops u) channel entries) same.0 are));
          only = λ own u list others_list has is own_is.
              let once = message_index_once (top 7 content) channel own entries list (as_index content channel entries shows) own_is in
              let there = o.shown has.0 u (subst (λ (l : List Top). At l has.0 u) (sym same.1) has.1) in
              let again = message_index_once u there.0 own there.1 others_list there.2 is in
              fresh (subst (Has channels) (again.0 ∙ sym once.0) there.3);
        }

    by : (earlier : List Top) → o.earlier ≡ earlier → BelongsTo before (top 7 content)
    by [] is = record { front = o.others; neighbour = o.chunk; follows = o.joined ∙ ap (λ (l : List Top). o.others ++ o.chunk ∷ l) is; is = inl o.kind; right = right }
    by (u ∷ us) is =
        let (front, last, split) = last_of u us in
        let there : o.earlier ≡ front ++ last ∷ [] = is ∙ split in
        record {
          front = o.others ++ o.chunk ∷ front;
          neighbour = last;
          follows = o.joined ∙ ap (λ (l : List Top). o.others ++ o.chunk ∷ l) there ∙ sym (append_assoc o.others (o.chunk ∷ front) (last ∷ []));
          is = inr (o.indexes (length front) last (subst (λ (l : List Top). At l (length front) last) (sym there) (at_last front last [])));
          right = right;
        }

pub belongs_index : (before : List Top) (messages : List MessageHead) (channels content : List ℕ) (channel : ℕ) (entries : List (ℕ × ℕ)) → (o : IsChunkOpen before messages channels) → ShowsMessageIndex content channel entries
    → BelongsTo before (top 7 content) → AreEntries (inner_tops o.chunk) channel entries × (Has channels channel → ⊥)
belongs_index before messages channels content channel entries o shows belongs =
    let right = belongs.right o.others o.chunk o.earlier o.joined o.kind o.indexes in
    let own = as_index content channel entries shows in
    (right.entries channel entries own, λ has. let there = o.named channel has in right.only channel there.0 entries there.1 there.2 there.3 own)

-- ---- the chunk

pub drop_seam : {X : Type 0} (xs : List X) (x : X) (ys : List X) → drop (suc (length xs)) (xs ++ x ∷ ys) ≡ ys
drop_seam [] x ys = refl
drop_seam (z ∷ xs) x ys = drop_seam xs x ys

-- the Message Indexes behind a chunk, where another record follows them
pub indexes_are : (others : List Top) (chunk : Top) (earlier : List Top) (t : Top) (after : List Top) → Each (λ u. u.op ≡ 7) earlier → (t.op ≡ 7 → ⊥)
    → indexes_behind ((others ++ chunk ∷ earlier) ++ t ∷ after) (length others) ≡ earlier
indexes_are others chunk earlier t after indexes other =
    ap (λ (l : List Top). take_while is_index (drop (suc (length others)) l)) (append_assoc others (chunk ∷ earlier) (t ∷ after))
    ∙ ap (take_while is_index) (drop_seam others chunk (earlier ++ t ∷ after))
    ∙ take_while_front is_index earlier (t ∷ after) (λ n u at. eq-eqb u.op 7 (indexes n u at)) first
  where
    first : (x : Top) → At (t ∷ after) 0 x → is_index x ≡ false
    first x at = ap is_index (sym (same_Some t x at)) ∙ ne_eqb t.op 7 other

pub behind_open : (before after : List Top) (t : Top) (messages : List MessageHead) (channels : List ℕ) (o : IsChunkOpen before messages channels) → (t.op ≡ 7 → ⊥) → indexes_behind (before ++ t ∷ after) (length o.others) ≡ o.earlier
behind_open before after t messages channels o other =
    ap (λ (l : List Top). indexes_behind (l ++ t ∷ after) (length o.others)) o.joined ∙ indexes_are o.others o.chunk o.earlier t after o.indexes other

pub indexed_none : (before after : List Top) (t : Top) (messages : List MessageHead) (channels : List ℕ) (o : IsChunkOpen before messages channels) → (t.op ≡ 7 → ⊥) → channels ≡ [] → IsIndexed (before ++ t ∷ after) (length o.others) o.chunk
indexed_none before after t messages channels o other none = inl (behind_open before after t messages channels o other ∙ empty o.earlier refl)
  where
    empty : (earlier : List Top) → o.earlier ≡ earlier → earlier ≡ []
    empty [] is = refl
    empty (u ∷ us) is =
        let there = o.shown 0 u (subst (λ (l : List Top). At l 0 u) (sym is) refl) in
        let has = subst (λ (l : List ℕ). Has l there.0) none there.3 in
        absurd (at_none has.0 there.0 has.1)

pub indexed_all : (before after : List Top) (t : Top) (messages : List MessageHead) (channels : List ℕ) (o : IsChunkOpen before messages channels) → (t.op ≡ 7 → ⊥) → AreOn messages channels → IsIndexed (before ++ t ∷ after) (length o.others) o.chunk
indexed_all before after t messages channels o other on = inr (λ j channel u m at is.
    let entry : IsEntryOf (inner_tops o.chunk) channel (m.log_time, offset_among (inner_tops o.chunk) j) = record { place = j; top = u; message = m; at = at; is = is; time = refl; offset = refl } in
    let heard = o.holds.all channel (m.log_time, offset_among (inner_tops o.chunk) j) entry in
    let there = o.named channel (on heard.0 (message_at_entry channel (m.log_time, offset_among (inner_tops o.chunk) j)) heard.1) in
    let has = there.2 in
    (has.0, there.0, there.1, subst (λ (l : List Top). At l has.0 there.0) (sym (behind_open before after t messages channels o other)) has.1, there.3))

pub on_indexed : (before after : List Top) (t : Top) (messages : List MessageHead) (channels : List ℕ) (o : IsChunkOpen before messages channels) → (t.op ≡ 7 → ⊥) → (channels ≡ [] → ⊥) → IsIndexed (before ++ t ∷ after) (length o.others) o.chunk → AreOn messages channels
on_indexed before after t messages channels o other some indexed = elim indexed [
  | inl none ↦ absurd (some (no_channel (none_behind none) channels refl))
  | inr each ↦ λ n heard at.
      let holds = o.holds in
      let is = holds.are heard (n, at) in
      let (k, i, entries, there, shows) = each is.place heard.channel is.top is.message is.at is.is in
      let seen = o.shown k i (subst (λ (l : List Top). At l k i) (behind_open before after t messages channels o other) there) in
      let once = message_index_once i seen.0 heard.channel seen.1 entries seen.2 shows in
      subst (Has channels) once.0 seen.3
]
  where
    none_behind : indexes_behind (before ++ t ∷ after) (length o.others) ≡ [] → o.earlier ≡ []
    none_behind none = sym (behind_open before after t messages channels o other) ∙ none

    no_channel : o.earlier ≡ [] → (list : List ℕ) → channels ≡ list → channels ≡ []
    no_channel none [] is = is
    no_channel none (c ∷ cs) is =
        let there = o.named c (0, subst (λ (l : List ℕ). At l 0 c) (sym is) refl) in
        let has = there.2 in
        absurd (at_none has.0 there.0 (subst (λ (l : List Top). At l has.0 there.0) none has.1))
