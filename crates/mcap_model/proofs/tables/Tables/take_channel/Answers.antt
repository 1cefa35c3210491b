use Rattle.std.proofs.Common.{◌≡◌, refl, sym, subst, inl, inr, ◌∙◌, List, ℕ}
use Rattle.std.proofs.lemmas.Bool.{both_ways}
use Rattle.std.proofs.lemmas.Slice.Eq.{bytes_eq-Decides}
use Rattle.mcap_model.specs.Fields.{ChannelFields, SameChannel, IsChannel}
use Rattle.mcap_model.specs.declared.table.Declared.{Declared}
use Rattle.mcap_model.specs.declared.tables.Tables.{Tables}
use Rattle.rec_data.specs.Parsed.{channel_fields}
use Rattle.mcap_model.specs.Made.{top}
use Rattle.mcap_model.proofs.Meets.{channel_meets}
use Rattle.mcap_model.proofs.Maps.{shows_once}
use Rattle.mcap_model.proofs.Agreeing.{channel_agrees, channel_new_agrees, channel_homeless, channel_apart, channel_again, channel_new, but_metadata, channel_again_but_metadata}
use Rattle.mcap_model.proofs.tables.Tables.take_channel.Goals as goal
use Rattle.mcap_model.proofs.Copies.{channel_refl}

pub returns-in-Err : goal.returns-in-Err
returns-in-Err c = λ records was. inl (refl, λ v6. let s = v6.channel refl in c.in-Err.ensures.none s.0 s.1 s.2.layout)

pub returns-then-not-has_schema : goal.returns-then-not-has_schema
returns-then-not-has_schema c = λ records was.
    let s = c.in-Ok.channel in
    let t = top 4 c.args.content.now in
    let f = channel_fields s in
    let is : IsChannel t s.id f = record { kind = refl; layout = c.in-Ok.ensures.shown } in
    inr (refl, channel_meets t s.id f is, channel_homeless records c.args.self.now t s.id f was is (λ known. both_ways c.has_schema.result c.if-not-has_schema.true (c.has_schema.ensures.1 known)))

pub returns-then-eq : goal.returns-then-eq
returns-then-eq c = λ records was.
    let s = c.in-Ok.channel in
    let t = top 4 c.args.content.now in
    let f = channel_fields s in
    let is : IsChannel t s.id f = record { kind = refl; layout = c.in-Ok.ensures.shown } in
    let known = c.has_schema.ensures.0 c.if-not-has_schema.false in
    let found = c.in-Some.ensures in
    let d = found.1 in
    let same = λ (i : ℕ) (h : ChannelFields) (shown : IsChannel (top 4 d.content) i h).
    subst (SameChannel h) (shows_once t i s.id h f (subst (λ (l : List ℕ). IsChannel (top 4 l) i h) (found.4 ∙ equal_contents) shown) is).1 (channel_refl h) in
    (channel_meets t s.id f is, channel_agrees records c.args.self.now t s.id f found.0 d was found.2 found.3 is known same, channel_again records c.args.self.now t s.id f found.0 d was found.2 found.3 is same)
  where
    equal_contents : c.in-Some.first.now ≡ c.args.content.now
    equal_contents = (bytes_eq-Decides c.in-Some.first.now c.args.content.now).0 (sym c.eq.ensures ∙ c.if-eq.true)

pub returns-in-Ok-true : goal.returns-in-Ok-true
returns-in-Ok-true c = λ records was.
    let s = c.in-Ok.channel in
    let t = top 4 c.args.content.now in
    let f = channel_fields s in
    let is : IsChannel t s.id f = record { kind = refl; layout = c.in-Ok.ensures.shown } in
    let known = c.has_schema.ensures.0 c.if-not-has_schema.false in
    let found = c.in-Some.ensures in
    let d = found.1 in
    let same = λ (i : ℕ) (h : ChannelFields) (shown : IsChannel (top 4 d.content) i h).
    (c.in-Ok-true.ensures.same i h (subst (λ (l : List ℕ). IsChannel (top 4 l) i h) found.4 shown)).0 c.in-Ok-true.field-0-test in
    (channel_meets t s.id f is, channel_agrees records c.args.self.now t s.id f found.0 d was found.2 found.3 is known same, channel_again records c.args.self.now t s.id f found.0 d was found.2 found.3 is same)

pub returns-in-Ok-false : goal.returns-in-Ok-false
returns-in-Ok-false c = λ records was.
    let s = c.in-Ok.channel in
    let t = top 4 c.args.content.now in
    let f = channel_fields s in
    let is : IsChannel t s.id f = record { kind = refl; layout = c.in-Ok.ensures.shown } in
    let found = c.in-Some.ensures in
    let d = found.1 in
    let other = λ (i : ℕ) (h : ChannelFields) (shown : IsChannel (top 4 d.content) i h) (same : SameChannel h f).
    both_ways c.in-Ok-false.field-0 c.in-Ok-false.field-0-test ((c.in-Ok-false.ensures.same i h (subst (λ (l : List ℕ). IsChannel (top 4 l) i h) found.4 shown)).1 same) in
    inr (refl, channel_meets t s.id f is, channel_apart records c.args.self.now t s.id f found.0 d was found.2 found.3 is other)

pub returns-in-Ok-add : goal.returns-in-Ok-add
returns-in-Ok-add c = λ records was.
    let s = c.in-Ok.channel in
    let t = top 4 c.args.content.now in
    let f = channel_fields s in
    let is : IsChannel t s.id f = record { kind = refl; layout = c.in-Ok.ensures.shown } in
    let known = c.has_schema.ensures.0 c.if-not-has_schema.false in
    let d : Declared = record { id = s.id; content = c.args.content.now } in
    let new : Tables = record { schemas = c.args.self.now.schemas; channels = c.add.new.self } in
    (channel_meets t s.id f is, channel_new_agrees records c.args.self.now t s.id f was is known c.in-None.ensures, channel_new records c.args.self.now new d f was refl c.in-Ok-add.ensures.ok is c.in-None.ensures)

pub returns-in-Err-is_same_channel : goal.returns-in-Err-is_same_channel
returns-in-Err-is_same_channel c = λ records was.
    let s = c.in-Ok.channel in
    let t = top 4 c.args.content.now in
    let f = channel_fields s in
    let is : IsChannel t s.id f = record { kind = refl; layout = c.in-Ok.ensures.shown } in
    let known = c.has_schema.ensures.0 c.if-not-has_schema.false in
    let found = c.in-Some.ensures in
    let d = found.1 in
    let same = λ (i : ℕ) (h : ChannelFields) (shown : IsChannel (top 4 d.content) i h).
    c.in-Err-is_same_channel.ensures.lacks i h (subst (λ (l : List ℕ). IsChannel (top 4 l) i h) found.4 shown) in
    (channel_meets t s.id f is, channel_again_but_metadata records c.args.self.now t s.id f found.0 d was found.2 found.3 is known same)

pub returns-in-Err-add : goal.returns-in-Err-add
returns-in-Err-add c = λ records was.
    let s = c.in-Ok.channel in
    let t = top 4 c.args.content.now in
    let f = channel_fields s in
    let is : IsChannel t s.id f = record { kind = refl; layout = c.in-Ok.ensures.shown } in
    let known = c.has_schema.ensures.0 c.if-not-has_schema.false in
    (channel_meets t s.id f is, but_metadata records t (channel_new_agrees records c.args.self.now t s.id f was is known c.in-None.ensures))
