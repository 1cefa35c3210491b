-- More records of a feed: what was said of the lists still holds.
use Rattle.std.proofs.Common.{◌≡◌, ◌⊎◌, ℕ, ◌+◌, ◌<◌, List, ◌++◌, length, eqb, Option, Some, None, Result, Ok, Err, sym, ap, subst, inl, inr, arith}
use Rattle.std.proofs.lemmas.List.{length-append}
use Rattle.std.proofs.lemmas.List.Elements.{filter-append}
use Rattle.rec_data.specs.declared.channel.ChannelDef.{ChannelDef}
use Rattle.rec_data.specs.declared.schema.SchemaDef.{SchemaDef}
use Rattle.mcap_model.specs.Places.{At, Each}
use Rattle.mcap_model.specs.Tops.{Top}
use Rattle.mcap_model.specs.Fields.{ChannelFields, IsMessage}
use Rattle.mcap_model.specs.Written.{SourceShows}
use Rattle.mcap_model.proofs.Places.{at_within, at_one, at_kept}
use Rattle.mcap_model.proofs.Lists.{at_either}
use Rattle.mcap_model.proofs.Maps.{message_once}
use Rattle.record_core.specs.declared.answers.CallRefused.{CallRefused}
use Rattle.record_core.specs.declared.answers.CallRefused.TheVariants as refusing
use Rattle.feed_lane.specs.declared.report.Accepted.{Accepted}
use Rattle.feed_lane.specs.declared.report.DeclaredAt.{DeclaredAt}
use Rattle.feed_lane.specs.declared.report.Refused.{Refused}
use Rattle.history_ids.specs.declared.describing.KeptSchema.{KeptSchema}
use Rattle.feed_lane.specs.declared.lane.Lane.{Lane}
use Rattle.feed_lane.specs.Pass.{PassState}
use Rattle.feed_lane.specs.Lanes.{ReportLists, messages, IsOn, DeclarationAdds, Accepts, HasTooMuchData, IsChannelOf, IsWide, LacksId, CauseFits, IsUndeclared, IsTried, lacks_of, ShowsDeclaration, IsLacking, InStep, ListsFit}
use Rattle.history_ids.specs.FeedContents.{SchemaShown, DeclaresContent, KeptStands}
use Rattle.feed_lane.specs.Kept.{LaneIds, with_kept}
use Rattle.feed_lane.specs.Sizes.{IsLength}
use Rattle.feed_lane.specs.Steps.{lists_of, DeclaredWithId, IdsStand, ListsStand, LaneStands, ChannelFound}
use Rattle.feed_lane.proofs.Members.{in_step_on}

-- ---- what the records show

pub messages_more : (records more : List Top) → messages (records ++ more) ≡ messages records ++ messages more
messages_more records more = filter-append (λ (u : Top). eqb u.op 5) records more

pub message_more : (records more : List Top) (index : ℕ) (u : Top) → At (messages records) index u → At (messages (records ++ more)) index u
message_more records more index u at =
    subst (λ (l : List Top). At l index u) (sym (messages_more records more)) (at_kept (messages records) (messages more) index u at)

pub message_less : (records more : List Top) (index : ℕ) (u : Top) → At (messages (records ++ more)) index u → index < length (messages records) → At (messages records) index u
message_less records more index u at lt =
    elim (at_either (messages records) (messages more) index u (subst (λ (l : List Top). At l index u) (messages_more records more) at)) [
      | inl old ↦ old
      | inr later ↦ absurd (let e = later.1 in omega arith)
    ]

-- a message is on one channel
pub on_one : (records : List Top) (index a b : ℕ) → IsOn records index a → IsOn records index b → a ≡ b
on_one records index a b one other =
    let same : one.top ≡ other.top = at_one (messages records) index one.top other.top one.at other.at in
    (message_once other.top a b one.message other.message (subst (λ (t : Top). IsMessage t a one.message) same one.is) other.is).0

on_within : (records : List Top) (index channel : ℕ) → IsOn records index channel → index < length (messages records)
on_within records index channel on = at_within (messages records) index on.top on.at

pub on_more : (records more : List Top) (index channel : ℕ) → IsOn records index channel → IsOn (records ++ more) index channel
on_more records more index channel on = record {
  top = on.top;
  message = on.message;
  at = message_more records more index on.top on.at;
  is = on.is;
}

on_less : (records more : List Top) (index channel : ℕ) → IsOn (records ++ more) index channel → index < length (messages records) → IsOn records index channel
on_less records more index channel on lt = record {
  top = on.top;
  message = on.message;
  at = message_less records more index on.top on.at lt;
  is = on.is;
}

shows_more : (records more : List Top) (channel : ℕ) (shown : ChannelFields) → SourceShows records channel shown → SourceShows (records ++ more) channel shown
shows_more records more channel shown shows = record {
  place = shows.place;
  top = shows.top;
  at = at_kept records more shows.place shows.top shows.at;
  is = shows.is;
}

pub schema_more : (records more : List Top) (id : ℕ) (s : Option SchemaDef) → SchemaShown records id s → SchemaShown (records ++ more) id s
schema_more records more id None none = none
schema_more records more id (Some s) some = record {
  place = some.place;
  top = some.top;
  at = at_kept records more some.place some.top some.at;
  is = some.is;
}

describes_more : (records more : List Top) (channel : ℕ) (d : ChannelDef) → DeclaresContent records channel d → DeclaresContent (records ++ more) channel d
describes_more records more channel d was = record {
  shown = was.shown;
  known = shows_more records more channel was.shown was.known;
  topic = was.topic;
  encoding = was.encoding;
  metadata = was.metadata;
  schema = schema_more records more was.shown.schema d.schema was.schema;
}

length_more : (records more : List Top) (channel len : ℕ) → IsLength records channel len → IsLength (records ++ more) channel len
length_more records more channel len was = record {
  content = was.content;
  describes = describes_more records more channel was.content was.describes;
  size = was.size;
}

declares_more : (records more : List Top) (pass : PassState) (d : DeclaredAt) → DeclarationAdds records pass d → DeclarationAdds (records ++ more) pass d
declares_more records more pass d was = record {
  source = was.source;
  on = on_more records more d.index was.source was.on;
  content = was.content;
  describes = describes_more records more was.source was.content was.describes;
  named = was.named;
  added = was.added;
  are = was.are;
  many = was.many;
  own = was.own;
}

accepts_more : (records more : List Top) (declared : List DeclaredAt) (pass : PassState) (a : Accepted) → Accepts records declared pass a → Accepts (records ++ more) declared pass a
accepts_more records more declared pass a was = record {
  source = was.source;
  message = was.message;
  top = was.top;
  at = message_more records more a.index was.top was.at;
  is = was.is;
  small = was.small;
  by = was.by;
  listed = was.listed;
  before = was.before;
  on = on_more records more was.by.index was.source was.on;
  own = was.own;
}

channel_more : (records more : List Top) (index : ℕ) (content : ChannelDef) → IsChannelOf records index content → IsChannelOf (records ++ more) index content
channel_more records more index content was = record {
  source = was.source;
  on = on_more records more index was.source was.on;
  describes = describes_more records more was.source content was.describes;
}

wide_more : (records more : List Top) (index len : ℕ) → IsWide records index len → IsWide (records ++ more) index len
wide_more records more index len wide = (wide.0, channel_more records more index wide.0 wide.1, wide.2, wide.3)

tried_more : (records more : List Top) (declared : List DeclaredAt) (pass : PassState) (r : Refused) → r.index < length (messages records) → Each (DeclarationAdds records pass) declared → IsTried records declared r → IsTried (records ++ more) declared r
tried_more records more declared pass r below declares was = record {
  large = λ len is. elim (was.large len is) [
    | inl wide ↦ inl (wide_more records more r.index len wide)
    | inr d ↦ inr (record {
      source = d.source;
      on = on_more records more r.index d.source d.on;
      by = d.by;
      listed = d.listed;
      before = d.before;
      is_on = on_more records more d.by.index d.source d.is_on;
    })
  ];
  lacking = λ is source d on has on_d.
      was.lacking is source d (on_less records more r.index source on below) has
      (on_less records more d.index source on_d (on_within records d.index (declares has.0 d has.1).source (declares has.0 d has.1).on));
}

-- a channel that got no id was declared for no message
pub undeclared_yet : (records : List Top) (handled source : ℕ) (declared : List DeclaredAt) (ids : LaneIds) → IdsStand records declared ids → At ids.given source 0 → IsOn records handled source → IsUndeclared records declared handled
undeclared_yet records handled source declared ids stand none on other d on_other has on_d =
    absurd (stand.fresh source d none has (subst (IsOn records d.index) (on_one records handled other source on_other on) on_d))

lacks_more : (records more : List Top) (pass : PassState) (index : ℕ) (refusal : CallRefused) → LacksId records pass index refusal → LacksId (records ++ more) pass index refusal
lacks_more records more pass index refusal was = (was.0, channel_more records more index was.0.content was.1, was.2, was.3)

long_more : (records more : List Top) (index len : ℕ) → HasTooMuchData records index len → HasTooMuchData (records ++ more) index len
long_more records more index len was = record {
  source = was.source;
  message = was.message;
  top = was.top;
  at = message_more records more index was.top was.at;
  is = was.is;
  size = was.size;
  over = was.over;
}

large_more : (records more : List Top) (index len : ℕ) → HasTooMuchData records index len ⊎ IsWide records index len → HasTooMuchData (records ++ more) index len ⊎ IsWide (records ++ more) index len
large_more records more index len (inl long) = inl (long_more records more index len long)
large_more records more index len (inr wide) = inr (wide_more records more index len wide)

cause_more : (records more : List Top) (handled : ℕ) (pass : PassState) (index : ℕ) (cause : CallRefused) → CauseFits records handled pass index cause → CauseFits (records ++ more) handled pass index cause
cause_more records more handled pass index (refusing.Full held from to) was = was
cause_more records more handled pass index (refusing.TooLarge len) was = large_more records more index len was
cause_more records more handled pass index (refusing.Closed at) was = was
cause_more records more handled pass index (refusing.Stopped at stop) was = was
cause_more records more handled pass index refusing.TooManySchemas was = lacks_more records more pass index refusing.TooManySchemas was
cause_more records more handled pass index refusing.TooManyChannels was = lacks_more records more pass index refusing.TooManyChannels was
cause_more records more handled pass index (refusing.TooManyRecords count) was = was
cause_more records more handled pass index refusing.UnknownChannel was = was
cause_more records more handled pass index refusing.Memory was = was

named_more : (records more : List Top) (lists : ReportLists) (pass : PassState) → InStep (ShowsDeclaration records) lists.declared pass.named → InStep (ShowsDeclaration (records ++ more)) lists.declared pass.named
named_more records more lists pass was =
    in_step_on (ShowsDeclaration records) (ShowsDeclaration (records ++ more)) lists.declared pass.named (λ d name is. (is.0, is.1, channel_more records more d.index name.content is.2)) was

lacking_more : (records more : List Top) (lists : ReportLists) (pass : PassState) → InStep (IsLacking records) (lacks_of lists.refused) pass.lacks → InStep (IsLacking (records ++ more)) (lacks_of lists.refused) pass.lacks
lacking_more records more lists pass was =
    in_step_on (IsLacking records) (IsLacking (records ++ more)) (lacks_of lists.refused) pass.lacks (λ refusal lack is. (is.0, channel_more records more refusal.0 lack.content is.1)) was

-- ---- the lists

-- a declaration's message stands among the records
declared_less : (records more : List Top) (pass : PassState) (d : DeclaredAt) (channel : ℕ) → DeclarationAdds records pass d → IsOn (records ++ more) d.index channel → IsOn records d.index channel
declared_less records more pass d channel was on = on_less records more d.index channel on (on_within records d.index was.source was.on)

pub fits_more : (records more : List Top) (handled bound : ℕ) (lists : ReportLists) (pass : PassState) → ListsFit records handled bound lists pass → ListsFit (records ++ more) handled bound lists pass
fits_more records more handled bound lists pass was = record {
  accepts = λ k a at. accepts_more records more lists.declared pass a (was.accepts k a at);
  declares = λ k d at. declares_more records more pass d (was.declares k d at);
  refuses = λ k r at. cause_more records more handled pass r.index r.cause (was.refuses k r at);
  once = λ j k d e source at_j at_k on_d on_e.
      was.once j k d e source at_j at_k
      (declared_less records more pass d source (was.declares j d at_j) on_d)
      (declared_less records more pass e source (was.declares k e at_k) on_e);
  given = was.given;
  own_rise = was.own_rise;
  accepted_rise = was.accepted_rise;
  declared_rise = was.declared_rise;
  refused_rise = was.refused_rise;
  in_turn = was.in_turn;
  named = named_more records more lists pass was.named;
  lacks = lacking_more records more lists pass was.lacks;
  lacks_between = was.lacks_between;
  reasons = was.reasons;
  fulls = was.fulls;
  accepted_between = was.accepted_between;
  declared_between = was.declared_between;
  handled_some = omega (arith, was.handled_some, ap length (messages_more records more), length-append (messages records) (messages more));
  count = was.count;
  listed = was.listed;
  accepted_below = was.accepted_below;
  refused_below = was.refused_below;
  declared_below = was.declared_below;
  apart = was.apart;
}

has_id_more : (records more : List Top) (declared : List DeclaredAt) (source id : ℕ) → DeclaredWithId records declared source id → DeclaredWithId (records ++ more) declared source id
has_id_more records more declared source id has = record {
  by = has.by;
  listed = has.listed;
  on = on_more records more has.by.index source has.on;
  is = has.is;
}

pub stands_more : (records more : List Top) (handled bound : ℕ) (ids : LaneIds) (lists : ReportLists) (pass : PassState) → ListsStand records handled bound ids lists pass → ListsStand (records ++ more) handled bound ids lists pass
stands_more records more handled bound ids lists pass was = record {
  fits = fits_more records more handled bound lists pass was.fits;
  ids_stand = record {
    fresh = λ source d at has on. was.ids_stand.fresh source d at has (declared_less records more pass d source (was.fits.declares has.0 d has.1) on);
    known = λ source id at some. has_id_more records more lists.declared source id (was.ids_stand.known source id at some);
    kept = schema_more records more ids.kept.id ids.kept.schema was.ids_stand.kept;
    wide = λ source len at over. length_more records more source len (was.ids_stand.wide source len at over);
  };
  going = was.going;
  firsts = was.firsts;
  tos = was.tos;
  ats = was.ats;
  is_open = was.is_open;
  tried = λ k r at.
      tried_more records more lists.declared pass r
      (let below = was.fits.refused_below k r at in let some = was.fits.handled_some in omega (arith, below, some)) was.fits.declares (was.tried k r at);
}

-- ---- between the steps

-- a declaration may have been made for the message at hand
pub may_declare : (records : List Top) (handled : ℕ) (ids : LaneIds) (lists : ReportLists) (pass : PassState) → ListsStand records handled handled ids lists pass → ListsStand records handled (handled + 1) ids lists pass
may_declare records handled ids lists pass stands =
    let was = stands.fits in
    record {
      fits = record {
        accepts = was.accepts;
        declares = was.declares;
        refuses = was.refuses;
        once = was.once;
        given = was.given;
        own_rise = was.own_rise;
        accepted_rise = was.accepted_rise;
        declared_rise = was.declared_rise;
        refused_rise = was.refused_rise;
        in_turn = was.in_turn;
        named = was.named;
        lacks = was.lacks;
        lacks_between = was.lacks_between;
        reasons = was.reasons;
        fulls = was.fulls;
        accepted_between = was.accepted_between;
        declared_between = was.declared_between;
        handled_some = was.handled_some;
        count = was.count;
        listed = was.listed;
        accepted_below = was.accepted_below;
        refused_below = was.refused_below;
        declared_below = λ k d at. let below = was.declared_below k d at in omega (arith, below);
        apart = was.apart;
      };
      ids_stand = stands.ids_stand;
      going = stands.going;
      firsts = stands.firsts;
      tos = stands.tos;
      ats = stands.ats;
      is_open = stands.is_open;
      tried = stands.tried;
    }

-- ---- what is kept

-- a lane that keeps something else of its channels stands too
pub standing : (lane now : Lane) (records : List Top) (handled : ℕ) (pass : PassState) → now ≡ record lane { ids = now.ids } → ((declared : List DeclaredAt) → IdsStand records declared lane.ids → IdsStand records declared now.ids)
    → LaneStands lane records handled pass → LaneStands now records handled pass
standing lane now records handled pass is stood stands = subst (λ (it : Lane). LaneStands it records handled pass) (sym is) (record {
  fits = stands.fits;
  ids_stand = stood lane.declared.items stands.ids_stand;
  going = stands.going;
  firsts = stands.firsts;
  tos = stands.tos;
  ats = stands.ats;
  is_open = stands.is_open;
  tried = stands.tried;
})

-- the same with another schema of the feed
pub keeping : (records : List Top) (handled bound : ℕ) (ids : LaneIds) (lists : ReportLists) (pass : PassState) (kept : KeptSchema) → KeptStands records kept → ListsStand records handled bound ids lists pass
    → ListsStand records handled bound (with_kept ids kept) lists pass
keeping records handled bound ids lists pass kept stood stands = record {
  fits = stands.fits;
  ids_stand = record { fresh = stands.ids_stand.fresh; known = stands.ids_stand.known; kept = stood; wide = stands.ids_stand.wide };
  going = stands.going;
  firsts = stands.firsts;
  tos = stands.tos;
  ats = stands.ats;
  is_open = stands.is_open;
  tried = stands.tried;
}

pub found_keeping : (lane : Lane) (records : List Top) (handled source : ℕ) (pass : PassState) (kept : KeptSchema) (result : Result ℕ CallRefused) → KeptStands records kept → ChannelFound lane records handled source pass result
    → ChannelFound (record lane { ids = with_kept lane.ids kept }) records handled source pass result
found_keeping lane records handled source pass kept (Ok id) stood found = (found.0, keeping records handled (handled + 1) lane.ids (lists_of lane) pass kept stood found.1)
found_keeping lane records handled source pass kept (Err cause) stood due = record {
  before = due.before;
  stands = keeping records handled (handled + 1) lane.ids (lists_of lane) due.before kept stood due.stands;
  refusal = due.refusal;
  some = due.some;
  tried = due.tried;
}
