-- A turn in which a message was published, as a pass says it.
use Rattle.std.proofs.Common.{◌≡◌, ℕ, ◌+◌, ◌<◌, ◌≤◌, true, List, [], ◌∷◌, ◌++◌, length, drop, Option, Some, None, Result, Ok, Err, refl, sym, ap, subst, ◌∙◌, length-append, arith}
use Rattle.std.proofs.Math.Seq.{drop-append_seam}
use Rattle.rec_data.specs.declared.owned.Rec.{Rec}
use Rattle.rec_data.specs.declared.schema.SchemaDef.{SchemaDef}
use Rattle.rec_data.specs.declared.channel.ChannelDef.{ChannelDef}
use Rattle.mcap_model.specs.declared.ends.End.TheVariants as ends
use Rattle.mcap_model.proofs.Places.{at_within}
use Rattle.history_ids.specs.Ids.{channel_place, channel_id, new_records}
use Rattle.history_ids.specs.Tables.{HasFewIds, HasSchemaOf, MayShare}
use Rattle.record_core.specs.Desk.{DeskView, accepted, with_more_records, first_of, found_of, fields_of_message, Published, DeclaredBy}
use Rattle.history_ids.specs.DeclarationFields.{declared_size}
use Rattle.record_core.specs.declared.answers.Declared.{Declared}
use Rattle.record_core.specs.declared.answers.NewMessage.{NewMessage}
use Rattle.record_core.specs.declared.answers.CallRefused.{CallRefused}
use Rattle.record_core.specs.declared.answers.CallRefused.TheVariants as refusing
use Rattle.feed_lane.specs.Pass.{named_by, PassState, full_at, with_places, AreAdded}
use Rattle.feed_lane.specs.PassCalls.{refused_full, Finds, with_found, message_record, MayTakeMessage, HasPlace, IsUnnamed, GetsId, with_declared}
use Rattle.buffer_swap.specs.Shown.{ChannelStands}
use Rattle.buffer_swap.specs.Posts.{Post}
use Rattle.buffer_swap.specs.Turns.{view}
use Rattle.buffer_swap.specs.Plays.{Sat, Stood, Took, fresh_records}
use Rattle.buffer_swap.specs.Calls.{counts_message, pass_published, counts_declared, pass_declared, PublishedInTurn, DeclaredInTurn, reasoned, PublishesMessage, DeclaresChannel, NamesSchema, MayName, TriesBy}
use Rattle.buffer_swap.specs.declared.view.View.{View}
use Rattle.buffer_swap.proofs.Growing.{name_stands}
use Rattle.buffer_swap.proofs.Desks.{parts, known_id, unknown_id}
use Rattle.buffer_swap.proofs.Reasons.{PublishReason, HasRecords, HasAll, MayHave, publish_reason, declare_reason}
use Rattle.buffer_swap.proofs.Numbers.{are_added, lacking_schemas, stands_sharing, stands_nowhere, gets_id}

-- how the desk was found, beside what the pass had
pub finds : (d : DeskView) (p : PassState) (reasons : List CallRefused) → Stood d p → Finds (reasoned p reasons) (found_of d)
finds d p reasons stood =
    let q = parts d stood.s stood.stands in
    record {
      places = λ k pair at. let there = at_within stood.s.history pair.0 pair.1 (stood.fits.own k pair at) in omega (arith, there, q.count);
      ids = λ k pair at. let there = stood.fits.named_ids k pair at in (there.0, omega (arith, there.1, ap length q.contents.channels));
      later = λ last is. (stood.fits.found last is).later;
      within = q.held;
    }

-- nothing refuses the message
may_take : (d : DeskView) (p : PassState) (reasons : List CallRefused) (channel : ℕ) {len : ℕ} → Stood d p → PublishReason d channel len None → MayTakeMessage (reasoned p reasons) (found_of d) channel
may_take d p reasons channel stood (open_end, known, few, room, small) = record {
  finds = finds d p reasons stood;
  unended = ap first_of open_end;
  known = known_id d.ids channel known;
  place = record { few = few; room = omega (arith, room, stood.fits.limit) };
}

-- the view of a seat that took the turn
abbrev pub sees : DeskView → ℕ → PassState → Post → View
sees d missed p post = view true d missed (with_found p (found_of d)) post

abbrev grown : PassState → DeskView → List CallRefused → List Rec → PassState
grown p d reasons records = record p { own = p.own ++ with_places (accepted d) records; reasons = reasons; found = Some (found_of d) }

grown_same : (p : PassState) (d after : DeskView) (reasons : List CallRefused) (records : List Rec) → after ≡ with_more_records d records → grown p d reasons (fresh_records d after) ≡ grown p d reasons records
grown_same p d after reasons records is =
    ap (grown p d reasons) (ap (λ (x : DeskView). drop (length d.primary) x.primary) is ∙ drop-append_seam d.primary records)

publishes : (d after : DeskView) (missed : ℕ) (p : PassState) (post : Post) (m : NewMessage) (result : Result ℕ CallRefused) → Stood d p → length m.payload.now ≤ 33554432
    → Published d m.channel (fields_of_message m) result after → let v = counts_message (sees d missed p post) after result in PublishesMessage p (pass_published v result) m result
publishes d after missed p post m (Ok place) stood small is reasons =
    let why = publish_reason d m.channel (length m.payload.now) None is.0 in
    (reasons, (found_of d, small, may_take d p reasons m.channel stood why, is.1, grown_same p d after reasons (message_record m ∷ []) is.2))
publishes d after missed p post m (Err (refusing.TooLarge len)) stood small is reasons =
    let why = publish_reason d m.channel (length m.payload.now) (Some (refusing.TooLarge len)) is.0 in
    absurd (omega (arith, why.0, why.1, small))
publishes d after missed p post m (Err (refusing.Closed at)) stood small is reasons =
    let why = publish_reason d m.channel (length m.payload.now) (Some (refusing.Closed at)) is.0 in
    (reasons ++ refusing.Closed at ∷ [], (found_of d, why.1, finds d p reasons stood, ap first_of why.0, stood.last ends.Closed at why.0, refl))
publishes d after missed p post m (Err (refusing.Stopped at stop)) stood small is reasons =
    let why = publish_reason d m.channel (length m.payload.now) (Some (refusing.Stopped at stop)) is.0 in
    (reasons ++ refusing.Stopped at stop ∷ [], (found_of d, why.1, finds d p reasons stood, ap first_of why.0, stood.last (ends.Stopped stop) at why.0, refl))
publishes d after missed p post m (Err refusing.UnknownChannel) stood small is reasons =
    let why = publish_reason d m.channel (length m.payload.now) (Some refusing.UnknownChannel) is.0 in
    (reasons ++ refusing.UnknownChannel ∷ [], (found_of d, why.2, finds d p reasons stood, ap first_of why.0, unknown_id d.ids m.channel why.1, refl))
publishes d after missed p post m (Err (refusing.TooManyRecords count)) stood small is reasons =
    let why = publish_reason d m.channel (length m.payload.now) (Some (refusing.TooManyRecords count)) is.0 in
    (reasons ++ refusing.TooManyRecords count ∷ [], (found_of d, why.4, finds d p reasons stood, ap first_of why.0, known_id d.ids m.channel why.3, why.1, why.2, refl))
publishes d after missed p post m (Err (refusing.Full h from to)) stood small is reasons =
    let why = publish_reason d m.channel (length m.payload.now) (Some (refusing.Full h from to)) is.0 in
    (reasons ++ refused_full (full_at (found_of d)) ∷ [], (found_of d, why.5, finds d p reasons stood, ap first_of why.0, known_id d.ids m.channel why.3, why.4, why.1, omega (arith, why.2, stood.fits.limit), refl))
publishes d after missed p post m (Err refusing.TooManySchemas) stood small is reasons = absurd (publish_reason d m.channel (length m.payload.now) (Some refusing.TooManySchemas) is.0)
publishes d after missed p post m (Err refusing.TooManyChannels) stood small is reasons = absurd (publish_reason d m.channel (length m.payload.now) (Some refusing.TooManyChannels) is.0)
publishes d after missed p post m (Err refusing.Memory) stood small is reasons = absurd (publish_reason d m.channel (length m.payload.now) (Some refusing.Memory) is.0)

pub published_answer : (m n behind : Sat) (message : NewMessage) (result : Result ℕ CallRefused) → Took m n → m.0.post.seated ≡ true → length message.payload.now ≤ 33554432
    → PublishedInTurn n message result behind → PublishesMessage m.0.pass behind.0.pass message result
published_answer m n behind message result took seated small published =
    let it = subst (λ (x : Sat). PublishedInTurn x message result behind) took.is published in
    subst (λ (x : Sat). PublishesMessage m.0.pass x.0.pass message result) (sym it.is)
    (publishes took.d it.after took.missed m.0.pass m.0.post message result (took.stood seated) small it.published)

-- a message that is too large is refused without a step
pub too_large : (p : PassState) (message : NewMessage) (len : ℕ) → len ≡ length message.payload.now → 33554432 < len → PublishesMessage p p message (Err (refusing.TooLarge len))
too_large p message len is over reasons = (reasons ++ refusing.TooLarge len ∷ [], (is, over, refl))

-- ---- declarations

unnamed : (d : DeskView) (p : PassState) (reasons : List CallRefused) (c : ChannelDef) → Stood d p → channel_place d.ids c ≡ None → IsUnnamed (reasoned p reasons) c
unnamed d p reasons c stood none = λ k name at same.
    stands_nowhere d.ids stood.s.history c name.id (parts d stood.s stood.stands).contents stood.stands.numbered none
    (subst (ChannelStands stood.s.history name.id) same (name_stands stood.s.history name (stood.fits.named k name at)))

placed : (d : DeskView) (p : PassState) (reasons : List CallRefused) → Stood d p → HasRecords d → HasPlace (reasoned p reasons) (found_of d)
placed d p reasons stood has = let room = has.room in record { few = has.few; room = omega (arith, room, stood.fits.limit) }

abbrev named_grown : PassState → DeskView → ChannelDef → ℕ → List CallRefused → List Rec → PassState
named_grown p d c channel reasons records = with_declared (reasoned p reasons) (found_of d) c channel records

named_same : (p : PassState) (d after : DeskView) (c : ChannelDef) (channel : ℕ) (reasons : List CallRefused) (records : List Rec) → after ≡ with_more_records d records
    → named_grown p d c channel reasons (fresh_records d after) ≡ named_grown p d c channel reasons records
named_same p d after c channel reasons records is =
    ap (named_grown p d c channel reasons) (ap (λ (x : DeskView). drop (length d.primary) x.primary) is ∙ drop-append_seam d.primary records)

-- so many records are behind it
counted_same : (p : PassState) (d after : DeskView) (c : ChannelDef) (channel : ℕ) (reasons : List CallRefused) (records : List Rec) → after ≡ with_more_records d records
    → record (named_grown p d c channel reasons (fresh_records d after)) { named = p.named ++ named_by channel c (accepted after) ∷ [] } ≡ named_grown p d c channel reasons (fresh_records d after)
counted_same p d after c channel reasons records is =
    let fresh : fresh_records d after ≡ records = ap (λ (x : DeskView). drop (length d.primary) x.primary) is ∙ drop-append_seam d.primary records in
    let taken : after.taken ≡ d.taken = ap (λ (x : DeskView). x.taken) is in
    let primary : length after.primary ≡ length (d.primary ++ records) = ap (λ (x : DeskView). length x.primary) is in
    let size : length (fresh_records d after) ≡ length records = ap length fresh in
    let many : accepted after ≡ accepted d + length (fresh_records d after) = omega (arith, taken, primary, length-append d.primary records, size) in
    ap (λ (n : ℕ). record (named_grown p d c channel reasons (fresh_records d after)) { named = p.named ++ named_by channel c n ∷ [] }) many

declares : (d after : DeskView) (missed : ℕ) (p : PassState) (post : Post) (c : ChannelDef) (result : Result Declared CallRefused) → Stood d p → declared_size c ≤ 1048576 → HasFewIds after.ids
    → DeclaredBy d c result after → let v = counts_declared (sees d missed p post) after result in DeclaresChannel p (pass_declared v c result) c result
declares d after missed p post c (Ok given) stood small few is reasons =
    let why = declare_reason d c None is.0 in
    let records = new_records d.ids c in
    let channel : given.channel ≡ channel_id d.ids c = is.1 in (
      reasons,
      (
        found_of d,
        records,
        small,
        finds d p reasons stood,
        ap first_of why.0,
        is.2,
        is.3,
        subst (λ (k : ℕ). AreAdded c k records) (sym channel) (are_added d.ids c),
        subst (λ (k : ℕ). GetsId (reasoned p reasons) (found_of d) k records) (sym channel) (gets_id d c (reasoned p reasons) stood.fits.limit why.1),
        counted_same p d after c given.channel reasons records is.4 ∙ named_same p d after c given.channel reasons records is.4,
      ),
    )
declares d after missed p post c (Err (refusing.TooLarge len)) stood small few is reasons =
    let why = declare_reason d c (Some (refusing.TooLarge len)) is.0 in
    absurd (omega (arith, why.0, why.1, small))
declares d after missed p post c (Err (refusing.Closed at)) stood small few is reasons =
    let why = declare_reason d c (Some (refusing.Closed at)) is.0 in
    (reasons ++ refusing.Closed at ∷ [], (found_of d, small, finds d p reasons stood, ap first_of why, stood.last ends.Closed at why, refl))
declares d after missed p post c (Err (refusing.Stopped at stop)) stood small few is reasons =
    let why = declare_reason d c (Some (refusing.Stopped at stop)) is.0 in
    (reasons ++ refusing.Stopped at stop ∷ [], (found_of d, small, finds d p reasons stood, ap first_of why, stood.last (ends.Stopped stop) at why, refl))
declares d after missed p post c (Err (refusing.TooManyRecords count)) stood small few is reasons =
    let why = declare_reason d c (Some (refusing.TooManyRecords count)) is.0 in
    (reasons ++ refusing.TooManyRecords count ∷ [], (found_of d, small, finds d p reasons stood, ap first_of why.0, unnamed d p reasons c stood why.3, why.1, why.2, refl))
declares d after missed p post c (Err refusing.UnknownChannel) stood small few is reasons = absurd (declare_reason d c (Some refusing.UnknownChannel) is.0)
declares d after missed p post c (Err (refusing.Full h from to)) stood small few is reasons =
    let why = declare_reason d c (Some (refusing.Full h from to)) is.0 in
    (reasons ++ refused_full (full_at (found_of d)) ∷ [], (found_of d, small, finds d p reasons stood, ap first_of why.0, unnamed d p reasons c stood why.3, why.4, why.1, omega (arith, why.2, stood.fits.limit), refl))
declares d after missed p post c (Err refusing.TooManySchemas) stood small few is reasons =
    let why = declare_reason d c (Some refusing.TooManySchemas) is.0 in
    let at_most : length d.ids.schemas ≤ 65535 = subst (λ (x : DeskView). length x.ids.schemas ≤ 65535) is.1 few.few_schemas in
    (reasons ++ refusing.TooManySchemas ∷ [], (found_of d, small, finds d p reasons stood, ap first_of why.0, unnamed d p reasons c stood why.2, placed d p reasons stood why.3, omega (arith, at_most, lacking_schemas d.ids c why.1), refl))
declares d after missed p post c (Err refusing.TooManyChannels) stood small few is reasons =
    let why = declare_reason d c (Some refusing.TooManyChannels) is.0 in
    let at_most : length d.ids.channels ≤ 65535 = subst (λ (x : DeskView). length x.ids.channels ≤ 65535) is.1 few.few_channels in
    (reasons ++ refusing.TooManyChannels ∷ [], (found_of d, small, finds d p reasons stood, ap first_of why.0, unnamed d p reasons c stood why.1, placed d p reasons stood why.4, omega (arith, at_most, why.2), refl))
declares d after missed p post c (Err refusing.Memory) stood small few is reasons =
    let why = declare_reason d c None is.0 in
    let has : HasAll d c = subst (MayHave d c) is.1 why.1 in
    (reasons, (found_of d, small, finds d p reasons stood, ap first_of why.0, unnamed d p reasons c stood is.1, placed d p reasons stood has.place, has.channels, refl))

pub declared_answer : (m n behind : Sat) (c : ChannelDef) (result : Result Declared CallRefused) → Took m n → m.0.post.seated ≡ true → declared_size c ≤ 1048576
    → DeclaredInTurn n c result behind → DeclaresChannel m.0.pass behind.0.pass c result
declared_answer m n behind c result took seated small declared =
    let it = subst (λ (x : Sat). DeclaredInTurn x c result behind) took.is declared in
    subst (λ (x : Sat). DeclaresChannel m.0.pass x.0.pass c result) (sym it.is)
    (declares took.d it.after took.missed m.0.pass m.0.post c result (took.stood seated) small it.few it.declared)

pub too_wide : (p : PassState) (c : ChannelDef) (len : ℕ) → len ≡ declared_size c → 1048576 < len → DeclaresChannel p p c (Err (refusing.TooLarge len))
too_wide p c len is over reasons = (reasons ++ refusing.TooLarge len ∷ [], (is, over, refl))

-- ---- a schema that another channel has

named_sharing : (d : DeskView) (p : PassState) (schema : Option SchemaDef) (id : ℕ) → Stood d p → NamesSchema p id schema → HasSchemaOf d.ids schema id
named_sharing d p schema id stood names =
    let name = names.0 in
    let there : ChannelStands stood.s.history id name.content = subst (λ (k : ℕ). ChannelStands stood.s.history k name.content) names.2 (name_stands stood.s.history name (stood.fits.named names.1.0 name names.1.1)) in
    subst (λ (o : Option SchemaDef). HasSchemaOf d.ids o id) names.3 (stands_sharing d.ids stood.s.history name.content id (parts d stood.s stood.stands).contents stood.stands.numbered there)

pub may_share : (m n : Sat) (schema : Option SchemaDef) (like : Option ℕ) → Took m n → m.0.post.seated ≡ true → MayName m.0.pass like schema → MayShare n.0.hand.ids schema like
may_share m n schema None took seated names = tt
may_share m n schema (Some id) took seated names =
    subst (λ (x : Sat). HasSchemaOf x.0.hand.ids schema id) (sym took.is) (named_sharing took.d m.0.pass schema id (took.stood seated) names)

-- ---- a call that may find the turn taken

counts_missed : (v : View) (d : DeskView) (result : Result ℕ CallRefused) → (counts_message v d result).missed ≡ v.missed
counts_missed v d (Ok place) = refl
counts_missed v d (Err refusal) = refl

pub tried_answer : (m n behind : Sat) (message : NewMessage) (result : Result ℕ CallRefused) → Took m n → n.0.missed ≡ m.0.missed → m.0.post.seated ≡ true
    → length message.payload.now ≤ 33554432 → PublishedInTurn n message result behind → TriesBy m.0.pass m.0.missed behind.0.pass behind.0.missed message (Some result)
tried_answer m n behind message result took missed seated small published = (
  ap (λ (x : Sat). x.0.missed) published.is ∙ counts_missed n.0 published.after result ∙ missed,
  published_answer m n behind message result took seated small published,
)
