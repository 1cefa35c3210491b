use Rattle.std.specs.Prelude.{◌≤◌, length, map, List, ◌++◌, Option, option_to_list}
use Rattle.std.proofs.Common.{sym, ap, subst, ◌∙◌}
use Rattle.mcap_wire.specs.Limits.{id_limit}
use Rattle.rec_data.specs.declared.schema.SchemaDef.{SchemaDef}
use Rattle.id_table.specs.declared.keys.ChannelKey.{ChannelKey}
use Rattle.id_table.specs.Ids.{IdContents, ids}
use Rattle.id_table.specs.Given.{OffersTo, IsFullTo, Declares}
use Rattle.id_table.specs.Keys.{stocked, content_at, AllStand}
use Rattle.id_table.proofs.Keyed.{stand_still, contents_still, same_ids, may_enter, few_with, few_schemas, stand_with, channels_with, schemas_with}
use Rattle.id_table.proofs.table.IdTable.give.Goals as goal

pub invariant_of-self : goal.invariant_of-self
invariant_of-self c =
    let same = c.in-Err.ensures.same in
    record {
      schemas = subst (λ (l : List SchemaDef). length l ≤ id_limit) (sym same) c.self.invariant.schemas;
      channels = c.self.invariant.channels;
      stand = subst (λ (l : List SchemaDef). AllStand (stocked l c.self.inside.parts.texts.keys c.self.inside.parts.maps.keys) c.self.inside.channels.keys) (sym same) c.self.invariant.stand;
    }

pub invariant_of-self-in-Err-keep_channel : goal.invariant_of-self-in-Err-keep_channel
invariant_of-self-in-Err-keep_channel c =
    let schemas = c.in-Ok.ensures.same in
    let kept = c.in-Err-keep_channel.ensures in
    record {
      schemas = subst (λ (l : List SchemaDef). length l ≤ id_limit) (sym schemas) c.self.invariant.schemas;
      channels = subst (λ (l : List ChannelKey). length l ≤ id_limit) (sym kept.same) c.self.invariant.channels;
      stand = stand_still _ _ _ _ _ _ schemas kept.texts kept.maps kept.same c.self.invariant.stand;
    }

pub returns-in-Err-keep_channel-clause-err : goal.returns-in-Err-keep_channel-clause-err
returns-in-Err-keep_channel-clause-err c =
    let schemas = c.in-Ok.ensures.same in
    let kept = c.in-Err-keep_channel.ensures in
    same_ids _ _ _ _ schemas (contents_still _ _ _ _ _ _ schemas kept.texts kept.maps kept.same c.self.invariant.stand) ∙ c.self.view_is

pub enter_channel-requires : goal.enter_channel-requires
enter_channel-requires c =
    let offered = subst (λ (i : IdContents). OffersTo i.schemas c.args.d.now.schema c.args.schema) (sym c.self.view_is) c.requires.offered in
    let schemas = c.in-Ok.ensures in
    let kept = c.in-Ok-keep_channel.ensures in
    let given = c.enter_schema.ensures ∙ ap (λ (l : List SchemaDef). l ++ option_to_list c.in-Ok.kept) schemas.same ∙ ap (λ (o : Option SchemaDef). c.self.inside.schemas.keys ++ option_to_list o) schemas.kept in
    may_enter _ _ _ _ _ _ (record { schema = c.args.schema; channel = c.in-Some.given }) offered given kept.texts kept.maps c.self.invariant.stand c.in-Ok-keep_channel.kept _ _ kept.same kept.kept c.in-Some.ensures.0 kept.room

pub invariant_of-self-2 : goal.invariant_of-self-2
invariant_of-self-2 c =
    let offered = subst (λ (i : IdContents). OffersTo i.schemas c.args.d.now.schema c.args.schema) (sym c.self.view_is) c.requires.offered in
    let room = subst (λ (i : IdContents). IsFullTo i.schemas c.args.d.now.schema → ⊥) (sym c.self.view_is) c.requires.room in
    let schemas = c.in-Ok.ensures in
    let kept = c.in-Ok-keep_channel.ensures in
    let given = c.enter_schema.ensures ∙ ap (λ (l : List SchemaDef). l ++ option_to_list c.in-Ok.kept) schemas.same ∙ ap (λ (o : Option SchemaDef). c.self.inside.schemas.keys ++ option_to_list o) schemas.kept in
    let keys = c.enter_channel.ensures ∙ ap (λ (l : List ChannelKey). l ++ option_to_list c.in-Ok-keep_channel.kept) kept.same in
    record {
      schemas = subst (λ (l : List SchemaDef). length l ≤ id_limit) (sym given) (few_schemas _ _ _ offered room c.self.invariant.schemas);
      channels = subst (λ (l : List ChannelKey). length l ≤ id_limit) (sym keys) (few_with _ _ _ _ _ _ (record { schema = c.args.schema; channel = c.in-Some.given }) offered given kept.texts kept.maps c.self.invariant.stand c.in-Ok-keep_channel.kept kept.kept c.in-Some.ensures.0 c.in-Some.ensures.1 c.self.invariant.channels);
      stand = subst (λ (l : List ChannelKey). AllStand (stocked c.enter_schema.new.set.keys c.keep_channel.new.parts.texts.keys c.keep_channel.new.parts.maps.keys) l) (sym keys) (stand_with _ _ _ _ _ _ (record { schema = c.args.schema; channel = c.in-Some.given }) offered given kept.texts kept.maps c.self.invariant.stand c.in-Ok-keep_channel.kept kept.kept);
    }

pub returns-clause-ok : goal.returns-clause-ok
returns-clause-ok c =
    let offered = subst (λ (i : IdContents). OffersTo i.schemas c.args.d.now.schema c.args.schema) (sym c.self.view_is) c.requires.offered in
    let schemas = c.in-Ok.ensures in
    let kept = c.in-Ok-keep_channel.ensures in
    let given = c.enter_schema.ensures ∙ ap (λ (l : List SchemaDef). l ++ option_to_list c.in-Ok.kept) schemas.same ∙ ap (λ (o : Option SchemaDef). c.self.inside.schemas.keys ++ option_to_list o) schemas.kept in
    let keys = c.enter_channel.ensures ∙ ap (λ (l : List ChannelKey). l ++ option_to_list c.in-Ok-keep_channel.kept) kept.same in
    let stock = stocked c.enter_schema.new.set.keys c.keep_channel.new.parts.texts.keys c.keep_channel.new.parts.maps.keys in
    subst (λ (before : IdContents). Declares before c.args.d.now (record { schema = c.args.schema; channel = c.in-Some.given }) (ids c.enter_schema.new.set.keys (map (content_at stock) c.enter_channel.new.set.keys))) c.self.view_is (record {
      schema = offered;
      channel = c.in-Some.ensures.0;
      schemas = given ∙ schemas_with _ _ _ offered;
      channels = ap (map (content_at stock)) keys ∙ channels_with _ _ _ _ _ _ (record { schema = c.args.schema; channel = c.in-Some.given }) offered given kept.texts kept.maps c.self.invariant.stand c.in-Ok-keep_channel.kept kept.kept;
    })
