use Rattle.std.proofs.Common.{◌≡◌, sym, ap, subst, ◌∙◌}
use Rattle.std.proofs.lemmas.Bool.{both_ways}
use Rattle.mcap_model.specs.Fields.{ChannelFields, SameChannel}
use Rattle.rec_data.specs.Parsed.{channel_fields}
use Rattle.mcap_model.specs.WantsOfMemory.{SameButMetadata}
use Rattle.mcap_model.proofs.Bits.{false_not}
use Rattle.mcap_model.proofs.Maps.{channel_decided}
use Rattle.mcap_model.proofs.same.is_same_channel.Goals as goal

pub returns-then-not-has_head-clause-same : goal.returns-then-not-has_head-clause-same
returns-then-not-has_head-clause-same c = λ id f is.
    let s = c.in-Ok.first in
    let g = channel_fields s in
    let one : f ≡ g = channel_decided c.args.content.now id s.id f g is c.in-Ok.ensures.shown in (
      λ e. absurd (false_not e),
      λ same. let here = c.has_head.ensures.1 (sym (ap (λ (x : ChannelFields). x.schema) one) ∙ same.schema, sym (ap (λ (x : ChannelFields). x.topic) one) ∙ same.topic, sym (ap (λ (x : ChannelFields). x.encoding) one) ∙ same.encoding) in absurd (both_ways c.has_head.result c.if-not-has_head.true here),
    )

pub returns-in-Ok-is_same_map-clause-same : goal.returns-in-Ok-is_same_map-clause-same
returns-in-Ok-is_same_map-clause-same c = λ id f is.
    let s = c.in-Ok.first in
    let g = channel_fields s in
    let one : f ≡ g = channel_decided c.args.content.now id s.id f g is c.in-Ok.ensures.shown in
    let head = c.has_head.ensures.0 c.if-not-has_head.false in (
      λ e. subst (λ (x : ChannelFields). SameChannel x (channel_fields c.args.channel.now)) (sym one)
          (record { schema = head.0; topic = head.1; encoding = head.2; metadata = c.in-Ok-is_same_map.ensures.0 e }),
      λ same.
          let there = subst (λ (x : ChannelFields). SameChannel x (channel_fields c.args.channel.now)) one same in
          c.in-Ok-is_same_map.ensures.1 there.metadata,
    )

pub returns-in-Err-clause-same : goal.returns-in-Err-clause-same
returns-in-Err-clause-same c = λ id f is. absurd (c.in-Err.ensures.none id f is.layout)

pub returns-in-Err-is_same_map-clause-lacks : goal.returns-in-Err-is_same_map-clause-lacks
returns-in-Err-is_same_map-clause-lacks c = λ id f is.
    let s = c.in-Ok.first in
    let g = channel_fields s in
    let one : f ≡ g = channel_decided c.args.content.now id s.id f g is c.in-Ok.ensures.shown in
    let head = c.has_head.ensures.0 c.if-not-has_head.false in
    subst (λ (x : ChannelFields). SameButMetadata x (channel_fields c.args.channel.now)) (sym one) (record { schema = head.0; topic = head.1; encoding = head.2 })
