-- What a pass names behind a call.
use Rattle.std.proofs.Common.{◌≡◌, ℕ, ◌+◌, List, [], ◌∷◌, ◌++◌, length, Option, Some, None, Result, Ok, Err, refl, sym, ap, subst}
use Rattle.std.specs.Prelude.{OnOk}
use Rattle.rec_data.specs.declared.schema.SchemaDef.{SchemaDef}
use Rattle.rec_data.specs.declared.channel.ChannelDef.{ChannelDef}
use Rattle.mcap_model.specs.Places.{Has}
use Rattle.mcap_model.proofs.Places.{has_last}
use Rattle.record_core.specs.declared.answers.Declared.{Declared}
use Rattle.record_core.specs.declared.answers.CallRefused.{CallRefused}
use Rattle.record_core.specs.declared.answers.CallRefused.TheVariants as refusing
use Rattle.record_core.specs.declared.answers.NewMessage.{NewMessage}
use Rattle.feed_lane.specs.Pass.{NamedBy, named_by, PassState}
use Rattle.feed_lane.specs.PassCalls.{PublishedBy, DeclaredInto}
use Rattle.buffer_swap.specs.Calls.{reasoned, PublishesMessage, DeclaresChannel, NamesSchema, MayName, last_of, LooksOn}

abbrev named_there : {a b : PassState} → a ≡ b → a.named ≡ b.named
named_there is = ap (λ (p : PassState). p.named) is

published_names : (before after : PassState) (m : NewMessage) (result : Result ℕ CallRefused) → PublishedBy before after m result → after.named ≡ before.named
published_names before after m (Ok place) is = named_there is.4
published_names before after m (Err (refusing.TooLarge len)) is = named_there is.2
published_names before after m (Err (refusing.Closed at)) is = named_there is.5
published_names before after m (Err (refusing.Stopped at stop)) is = named_there is.5
published_names before after m (Err refusing.UnknownChannel) is = named_there is.5
published_names before after m (Err (refusing.TooManyRecords count)) is = named_there is.7
published_names before after m (Err (refusing.Full held from to)) is = named_there is.8
published_names before after m (Err refusing.TooManySchemas) is = absurd is
published_names before after m (Err refusing.TooManyChannels) is = absurd is
published_names before after m (Err refusing.Memory) is = absurd is

refused_names : (before after : PassState) (c : ChannelDef) (refusal : CallRefused) → DeclaredInto before after c (Err refusal) → after.named ≡ before.named
refused_names before after c (refusing.TooLarge len) is = named_there is.2
refused_names before after c (refusing.Closed at) is = named_there is.5
refused_names before after c (refusing.Stopped at stop) is = named_there is.5
refused_names before after c (refusing.TooManyRecords count) is = named_there is.7
refused_names before after c refusing.UnknownChannel is = absurd is
refused_names before after c (refusing.Full held from to) is = named_there is.8
refused_names before after c refusing.TooManySchemas is = named_there is.7
refused_names before after c refusing.TooManyChannels is = named_there is.7
refused_names before after c refusing.Memory is = named_there is.7

names_on : (before after : PassState) (id : ℕ) (schema : Option SchemaDef) → after.named ≡ before.named → NamesSchema before id schema → NamesSchema after id schema
names_on before after id schema same names = (names.0, subst (λ (l : List NamedBy). Has l names.0) (sym same) names.1, names.2, names.3)

-- a look at the intake names nothing
pub names_looking : (before after : PassState) (like : Option ℕ) (schema : Option SchemaDef) → LooksOn before after → MayName before like schema → MayName after like schema
names_looking before after None schema looks names = tt
names_looking before after (Some id) schema looks names = names_on before after id schema (named_there looks.same) names

-- nor does a message
pub names_behind_message : (before after : PassState) (m : NewMessage) (result : Result ℕ CallRefused) (last now : ℕ) → PublishesMessage before after m result → now ≡ last
    → (schema : Option SchemaDef) → NamesSchema before last schema → NamesSchema after now schema
names_behind_message before after m result last now published same schema names =
    let call = published [] in
    subst (λ (id : ℕ). NamesSchema after id schema) (sym same)
    (names_on before after last schema (published_names (reasoned before []) (reasoned after call.0) m result call.1) names)

declared_names : (before after : PassState) (c : ChannelDef) (given : Declared) → DeclaresChannel before after c (Ok given) → NamesSchema after given.channel c.schema
declared_names before after c given declared =
    let call = declared [] in
    let name = named_by given.channel c (call.1.0.count + length call.1.1) in
    let named : after.named ≡ before.named ++ name ∷ [] = named_there call.1.9 in
    (name, subst (λ (l : List NamedBy). Has l name) (sym named) (has_last before.named name []), refl, refl)

-- a channel that got an id is named
pub names_if : (before after : PassState) (c : ChannelDef) (result : Result Declared CallRefused) (last now : ℕ) → DeclaresChannel before after c result → now ≡ last_of last result
    → OnOk result (NamesSchema after now c.schema)
names_if before after c (Ok given) last now declared is = subst (λ (id : ℕ). NamesSchema after id c.schema) (sym is) (declared_names before after c given declared)
names_if before after c (Err refusal) last now declared is = tt

-- and else the pass names what it did
pub names_still : (before after : PassState) (c : ChannelDef) (result : Result Declared CallRefused) (last now : ℕ) → DeclaresChannel before after c result → now ≡ last_of last result
    → NamesSchema before last c.schema → NamesSchema after now c.schema
names_still before after c (Ok given) last now declared is names = names_if before after c (Ok given) last now declared is
names_still before after c (Err refusal) last now declared is names =
    let call = declared [] in
    subst (λ (id : ℕ). NamesSchema after id c.schema) (sym is)
    (names_on before after last c.schema (refused_names (reasoned before []) (reasoned after call.0) c refusal call.1) names)
