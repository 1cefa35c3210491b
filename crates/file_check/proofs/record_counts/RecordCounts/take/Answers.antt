use Rattle.std.proofs.Common.{◌∷◌, ◌++◌, [], ℕ, refl, sym, subst, ◌∙◌}
use Rattle.std.specs.Prelude.{filter}
use Rattle.rec_data.specs.Parsed.{schema_fields, channel_fields}
use Rattle.mcap_model.specs.Tops.{is_flat_kind}
use Rattle.mcap_model.specs.Fields.{IsSchema}
use Rattle.mcap_model.specs.Rules.{V6}
use Rattle.mcap_model.specs.Made.{top}
use Rattle.mcap_model.proofs.Maps.{schema_id}
use Rattle.mcap_model.proofs.ShownMessages.{ok_then}
use Rattle.file_check.specs.RecordCounts.{CountsOf}
use Rattle.file_check.proofs.Counting.{with_ids, counted_schema, counted_channel}
use Rattle.file_check.proofs.record_counts.RecordCounts.take.Goals as goal

pub returns-in-Schema : goal.returns-in-Schema
returns-in-Schema c =
    let old = c.args.self.now in
    let content = c.args.content.now in
    let schema = c.in-Schema.schema in
    let three = c.in-Schema.ensures.0 in
    ok_then c.add_once.result c.add_once.ensures (λ adds records was few.
    let v6 = subst (λ (n : ℕ). V6 (top n content)) three c.requires in
    let s = v6.schema refl in
    let shown = s.2 in
    let is : IsSchema (top 3 content) schema.id (schema_fields schema) = record {
      kind = refl;
      layout = c.in-Schema.ensures.1;
      some = λ none. shown.some (schema_id content s.0 schema.id s.1 (schema_fields schema) shown c.in-Schema.ensures.1 ∙ none);
    } in
    subst (λ (n : ℕ). CountsOf (records ++ filter is_flat_kind (top n content ∷ [])) (with_ids old c.add_once.new.self old.channels)) (sym three)
    (counted_schema records (top 3 content) old schema.id (schema_fields schema) c.add_once.new.self was is adds))

pub returns-in-Channel : goal.returns-in-Channel
returns-in-Channel c =
    let old = c.args.self.now in
    let content = c.args.content.now in
    let channel = c.in-Channel.channel in
    let four = c.in-Channel.ensures.0 in
    ok_then c.add_once-in-Channel.result c.add_once-in-Channel.ensures (λ adds records was few.
    subst (λ (n : ℕ). CountsOf (records ++ filter is_flat_kind (top n content ∷ [])) (with_ids old old.schemas c.add_once-in-Channel.new.self)) (sym four)
    (counted_channel records (top 4 content) old channel.id (channel_fields channel) c.add_once-in-Channel.new.self was (record { kind = refl; layout = c.in-Channel.ensures.1 }) adds))
