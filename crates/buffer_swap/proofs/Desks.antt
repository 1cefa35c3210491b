-- A desk that stands for a state of the machine, behind each of its calls.
use Rattle.std.proofs.Common.{◌≡◌, ◌⊎◌, ℕ, ◌+◌, ◌-◌, ◌<◌, ◌≤◌, Bool, true, false, List, [], ◌∷◌, ◌++◌, length, take, drop, Option, Some, None, Result, Ok, Err, refl, sym, ap, subst, inl, inr, ◌∙◌, append-nil, append_assoc, length-append, arith}
use Rattle.std.specs.Prelude.{OnOk, IfOk, nat_lt, nat_le, ◌&&◌}
use Rattle.std.proofs.lemmas.Bool.{and_parts, ltb-true, leb-true}
use Rattle.std.proofs.lemmas.List.{length-drop, drop_all, take_all, nil_from_length, take-append-drop, append_cancel_right, length-take-le}
use Rattle.std.proofs.Math.Seq.{drop-append_seam}
use Rattle.rec_data.specs.declared.owned.Rec.{Rec}
use Rattle.rec_data.specs.declared.channel.ChannelDef.{ChannelDef}
use Rattle.mcap_model.specs.declared.ends.End.{End}
use Rattle.mcap_model.specs.declared.options.FileOptions.{FileOptions}
use Rattle.mcap_model.specs.Fields.{SchemaFields, ChannelFields, MessageFields}
use Rattle.mcap_model.proofs.Places.{each_front}
use Rattle.mcap_model.specs.History.{Follows, Numbered, message_of, schema_count, channel_count, history_bytes}
use Rattle.history_ids.specs.Ids.{Ids, schemas_in, channels_in, is_known_channel, ids_of, with_ids, channel_place, channel_id, new_records}
use Rattle.history_ids.specs.Tables.{HasFewIds}
use Rattle.record_core.specs.Desk.{DeskView, accepted, with_more_records, swapped, ended, end_unless, found_of, publish_refusal, declare_refusal, Published, DeclaredBy}
use Rattle.record_core.specs.Machine.{State, desk_of, publish, declare, accept, end_with, unless}
use Rattle.record_core.specs.Stands.{DeskStandsFor, DeskSteps, PublishSteps, DeclareSteps}
use Rattle.record_core.specs.declared.answers.Declared.{Declared}
use Rattle.record_core.specs.declared.answers.CallRefused.{CallRefused}
use Rattle.record_core.specs.declared.answers.CallRefused.TheVariants as refusing
use Rattle.history_ids.proofs.Numbering.{HasContents}
use Rattle.history_ids.proofs.Searches.{schemas_counted, channels_counted, schemas_more, channels_more}
use Rattle.feed_lane.specs.Pass.{full_at, named_by, lack_at}
use Rattle.buffer_swap.specs.Shown.{ChannelStands, NameStands, IdsLack, IdsLackAt, HadRoom, HeldThere, FoundThere}
use Rattle.buffer_swap.specs.Turns.{BufferFits}
use Rattle.buffer_swap.specs.Plays.{MayCount, NamedAt, LacksIdAt}
use Rattle.buffer_swap.proofs.Reasons.{publish_reason, declare_reason}
use Rattle.buffer_swap.proofs.Buffers.{room_added, declared_room}
use Rattle.buffer_swap.proofs.Numbers.{message_spares, declared_spares, declared_stands, declared_id, lacks_schema, lacks_channel, schema_left}

-- ---- a desk and its state

-- the fields of a desk that stands for a state
pub record Parts (d : DeskView) (s : State) : Type 0 where
  pub taken : d.taken ≡ s.taken
  pub primary : d.primary ≡ drop s.taken s.history
  pub end : d.end ≡ s.end
  pub ids : d.ids ≡ ids_of s.history
  pub contents : HasContents d.ids s.history
  pub count : accepted d ≡ length s.history
  pub held : d.taken ≤ accepted d

pub parts : (d : DeskView) (s : State) → DeskStandsFor d s → Parts d s
parts d s stands =
    let same : d ≡ desk_of d.limit s = sym stands.desk in
    let taken : d.taken ≡ s.taken = ap (λ (x : DeskView). x.taken) same in
    let primary : d.primary ≡ drop s.taken s.history = ap (λ (x : DeskView). x.primary) same in
    let size : length d.primary ≡ length (drop s.taken s.history) = ap length primary in
    record {
      taken = taken;
      primary = primary;
      end = ap (λ (x : DeskView). x.end) same;
      ids = ap (λ (x : DeskView). x.ids) same;
      contents = record { schemas = ap (λ (x : DeskView). x.ids.schemas) same; channels = ap (λ (x : DeskView). x.ids.channels) same };
      count = omega (arith, taken, size, length-drop s.taken s.history, stands.within);
      held = omega arith;
    }

pub full_there : (swaps : List ℕ) (d : DeskView) (s : State) → DeskStandsFor d s → BufferFits swaps d → HeldThere d.limit s.history swaps (full_at (found_of d))
full_there swaps d s stands buffer =
    let p = parts d s stands in
    let n = accepted d - d.taken in
    let rest : drop d.taken s.history ≡ d.primary = ap (λ (k : ℕ). drop k s.history) p.taken ∙ sym p.primary in
    let same : take n (drop d.taken s.history) ≡ d.primary = ap (take n) rest ∙ take_all n d.primary (omega arith) in
    record {
      order = p.held;
      within = omega (arith, p.count);
      held = ap (λ (l : List Rec). length (history_bytes l)) (sym same);
      begun = buffer.begun;
      unswapped = λ j x at. inl (buffer.before j x at);
      room = subst (HadRoom d.limit) (sym same) buffer.room;
    }

pub found_there : (swaps : List ℕ) (d : DeskView) (s : State) → DeskStandsFor d s → BufferFits swaps d → FoundThere d.limit s.history swaps (found_of d)
found_there swaps d s stands buffer =
    let p = parts d s stands in
    let all : take (accepted d) s.history ≡ s.history = take_all (accepted d) s.history (omega (arith, p.count)) in
    record {
      held = full_there swaps d s stands buffer;
      schemas = ap length p.contents.schemas ∙ sym (schemas_counted s.history) ∙ ap schema_count (sym all);
      channels = ap length p.contents.channels ∙ sym (channels_counted s.history) ∙ ap channel_count (sym all);
    }

-- a channel that stands at the end of the history
pub name_there : (d : DeskView) (s : State) (pair : ℕ × ChannelDef) → DeskStandsFor d s → ChannelStands s.history pair.0 pair.1 → NameStands s.history (named_by pair.0 pair.1 (accepted d))
name_there d s pair stands there =
    let p = parts d s stands in
    record {
      within = omega (arith, p.count);
      stands = subst (λ (l : List Rec). ChannelStands l pair.0 pair.1) (sym (take_all (accepted d) s.history (omega (arith, p.count)))) there;
    }

-- no id is left for a declaration at the end of the history
pub lack_there : (d : DeskView) (s : State) (pair : ChannelDef × CallRefused) → DeskStandsFor d s → IdsLack s.history pair.0 pair.1 → IdsLackAt s.history (lack_at pair.0 pair.1 (accepted d))
lack_there d s pair stands lacks =
    let p = parts d s stands in
    record {
      within = omega (arith, p.count);
      there = subst (λ (l : List Rec). IdsLack l pair.0 pair.1) (sym (take_all (accepted d) s.history (omega (arith, p.count)))) lacks;
      still = lacks;
    }

-- ---- ids that a desk has

pub known_id : (ids : Ids) (channel : ℕ) → is_known_channel ids channel ≡ true → (1 ≤ channel) × (channel ≤ length ids.channels)
known_id ids channel known =
    let both = and_parts (nat_lt 0 channel) (nat_le channel (length ids.channels)) known in
    (let some = ltb-true 0 channel both.0 in omega (arith, some), leb-true channel (length ids.channels) both.1)

unknown_by : (ids : Ids) (channel : ℕ) (some known : Bool) → nat_lt 0 channel ≡ some → nat_le channel (length ids.channels) ≡ known → (some && known) ≡ false → (channel ≡ 0) ⊎ (length ids.channels < channel)
unknown_by ids channel false known is all no_more = let le : channel ≤ 0 = grind arith in inl (omega (arith, le))
unknown_by ids channel true false is all no_more = inr (grind arith)
unknown_by ids channel true true is all no_more = cc

pub unknown_id : (ids : Ids) (channel : ℕ) → is_known_channel ids channel ≡ false → (channel ≡ 0) ⊎ (length ids.channels < channel)
unknown_id ids channel unknown = unknown_by ids channel (nat_lt 0 channel) (nat_le channel (length ids.channels)) refl refl unknown

-- ---- records that are counted

some_options : FileOptions
some_options = record { profile = []; chunk = None; span = None }

pub published_state : (d after : DeskView) (s : State) (channel : ℕ) (m : MessageFields) → publish_refusal d channel (length m.payload) ≡ None → DeskSteps d (publish 0 channel m) after → DeskStandsFor d s
    → DeskStandsFor after (accept 0 (message_of channel m ∷ []) s)
published_state d after s channel m none steps stands =
    let open_there : publish_refusal (desk_of d.limit s) channel (length m.payload) ≡ None = ap (λ (x : DeskView). publish_refusal x channel (length m.payload)) stands.desk ∙ none in
    subst (λ (r : Option CallRefused). DeskStandsFor after (unless r 0 (message_of channel m ∷ []) s)) open_there (steps some_options s stands)

pub declared_state : (d after : DeskView) (s : State) (c : ChannelDef) → declare_refusal d c ≡ None → DeskSteps d (declare 0 c) after → DeskStandsFor d s
    → DeskStandsFor after (accept 0 (new_records d.ids c) s)
declared_state d after s c none steps stands =
    let open_there : declare_refusal (desk_of d.limit s) c ≡ None = ap (λ (x : DeskView). declare_refusal x c) stands.desk ∙ none in
    let there = subst (λ (r : Option CallRefused). DeskStandsFor after (unless r 0 (new_records (ids_of s.history) c) s)) open_there (steps some_options s stands) in
    subst (λ (ids : Ids). DeskStandsFor after (accept 0 (new_records ids c) s)) (sym (parts d s stands).ids) there

pub message_counts : (d after : DeskView) (channel : ℕ) (m : MessageFields) (place : ℕ) → Published d channel m (Ok place) after → PublishSteps d channel m after → MayCount d (message_of channel m ∷ []) after
message_counts d after channel m place is steps = record {
  is = is.2;
  unended = (publish_reason d channel (length m.payload) None is.0).0;
  room = λ was.
      subst (λ (x : DeskView). HadRoom x.limit x.primary) (sym is.2)
      (room_added d.primary (message_of channel m ∷ []) d.limit (inr (inl (channel, m, refl))) (publish_reason d channel (length m.payload) None is.0).3);
  stands = λ s stands. published_state d after s channel m is.0 (steps 0) stands;
  spares = λ s stands. message_spares s.history channel m;
}

few : (d after : DeskView) (c : ChannelDef) → after ≡ with_more_records d (new_records d.ids c) → HasFewIds after.ids → HasFewIds (with_ids d.ids (new_records d.ids c))
few d after c is table = subst HasFewIds (ap (λ (x : DeskView). x.ids) is) table

pub channel_counts : (d after : DeskView) (c : ChannelDef) (given : Declared) → DeclaredBy d c (Ok given) after → DeclareSteps d c (Ok given) after → HasFewIds after.ids → MayCount d (new_records d.ids c) after
channel_counts d after c given is steps table =
    let small = few d after c is.4 table in
    record {
      is = is.4;
      unended = (declare_reason d c None is.0).0;
      room = λ was.
          subst (λ (x : DeskView). HadRoom x.limit x.primary) (sym is.4)
          (declared_room d c (channel_place d.ids c) refl (declare_reason d c None is.0).1 was);
      stands = λ s stands. declared_state d after s c is.0 (steps 0) stands;
      spares = λ s stands. declared_spares d.ids s.history c (parts d s stands).contents small.few_schemas small.few_channels;
    }

abbrev built : ℕ → ℕ → List Rec → Option (End × ℕ) → List SchemaFields → List ChannelFields → DeskView
built limit taken primary end schemas channels = record { limit = limit; taken = taken; primary = primary; end = end; ids = record { schemas = schemas; channels = channels } }

built_same : (limit taken other : ℕ) (primary rest : List Rec) (end last : Option (End × ℕ)) (schemas more : List SchemaFields) (channels others : List ChannelFields)
    → taken ≡ other → primary ≡ rest → end ≡ last → schemas ≡ more → channels ≡ others → built limit taken primary end schemas channels ≡ built limit other rest last more others
built_same limit taken other primary rest end last schemas more channels others a b c d e = cc

no_ids_more : (d : DeskView) → with_more_records d [] ≡ d
no_ids_more d =
    built_same d.limit d.taken d.taken (d.primary ++ []) d.primary d.end d.end (d.ids.schemas ++ []) d.ids.schemas (d.ids.channels ++ []) d.ids.channels
    refl (append-nil d.primary) refl (append-nil d.ids.schemas) (append-nil d.ids.channels)

-- nothing was added
pub nothing_added : (d after : DeskView) (c : ChannelDef) (given : Declared) → DeclaredBy d c (Ok given) after → given.count ≡ 0 → after ≡ d
nothing_added d after c given is none =
    let no_records : new_records d.ids c ≡ [] = nil_from_length (new_records d.ids c) (omega (arith, none, is.3)) in
    is.4 ∙ ap (with_more_records d) no_records ∙ no_ids_more d

-- ---- the state before records were added

made_is : (d : DeskView) (s : State) (history : List Rec) → s.taken ≡ d.taken → drop s.taken history ≡ d.primary → s.end ≡ d.end → schemas_in history ≡ d.ids.schemas → channels_in history ≡ d.ids.channels
    → desk_of d.limit (record s { history = history }) ≡ d
made_is d s history taken primary end schemas channels =
    built_same d.limit s.taken d.taken (drop s.taken history) d.primary s.end d.end (schemas_in history) d.ids.schemas (channels_in history) d.ids.channels taken primary end schemas channels

-- the state before the records that were added last
pub record Before (d : DeskView) (records : List Rec) (later : State) : Type 0 where
  pub s : State
  pub stands : DeskStandsFor d s
  pub whole : later.history ≡ s.history ++ records

pub before : (d after : DeskView) (records : List Rec) (later : State) → after ≡ with_more_records d records → DeskStandsFor after later → Before d records later
before d after records later is stands =
    let p = parts after later stands in
    let start = take later.taken later.history in
    let history = start ++ d.primary in
    let primary : d.primary ++ records ≡ drop later.taken later.history = sym (ap (λ (x : DeskView). x.primary) is) ∙ p.primary in
    let whole : later.history ≡ history ++ records =
    sym (take-append-drop later.taken later.history) ∙ ap (λ (l : List Rec). start ++ l) (sym primary) ∙ sym (append_assoc start d.primary records) in
    let size : length start ≡ later.taken = length-take-le later.taken later.history stands.within in
    let rest : drop later.taken history ≡ d.primary = ap (λ (n : ℕ). drop n history) (sym size) ∙ drop-append_seam start d.primary in
    let schemas : schemas_in history ≡ d.ids.schemas = append_cancel_right (schemas_in history) d.ids.schemas (schemas_in records)
    (sym (schemas_more history records) ∙ ap schemas_in (sym whole) ∙ sym p.contents.schemas ∙ ap (λ (x : DeskView). x.ids.schemas) is) in
    let channels : channels_in history ≡ d.ids.channels = append_cancel_right (channels_in history) d.ids.channels (channels_in records)
    (sym (channels_more history records) ∙ ap channels_in (sym whole) ∙ sym p.contents.channels ∙ ap (λ (x : DeskView). x.ids.channels) is) in
    let taken : later.taken ≡ d.taken = sym p.taken ∙ ap (λ (x : DeskView). x.taken) is in
    let end : later.end ≡ d.end = sym p.end ∙ ap (λ (x : DeskView). x.end) is in
    record {
      s = record later { history = history };
      stands = record {
        desk = made_is d later history taken rest end schemas channels;
        within = omega (arith, size, length-append start d.primary);
        numbered = each_front Follows history records (subst Numbered whole stands.numbered);
      };
      whole = whole;
    }

-- ---- ids that were given, or are lacking

pub named_after : (d after : DeskView) (c : ChannelDef) (given : Declared) → DeclaredBy d c (Ok given) after → NamedAt after (given.channel, c)
named_after d after c given is later stands =
    let records = new_records d.ids c in
    let b = before d after records later is.4 stands in
    let p = parts d b.s b.stands in
    let there : ChannelStands (b.s.history ++ records) (channel_id d.ids c) c = declared_stands d.ids b.s.history c p.contents b.stands.numbered in
    let id = declared_id d.ids b.s.history c p.contents in
    let size : length (channels_in (b.s.history ++ records)) ≡ length after.ids.channels = ap (λ (l : List Rec). length (channels_in l)) (sym b.whole) ∙ ap length (sym (parts after later stands).contents.channels) in
    let channel : given.channel ≡ channel_id d.ids c = is.1 in (
      subst (λ (l : List Rec). ChannelStands l given.channel c) (sym b.whole) (subst (λ (k : ℕ). ChannelStands (b.s.history ++ records) k c) (sym channel) there),
      omega (arith, id.0, channel),
      omega (arith, id.1, channel, size),
    )

pub lacks_schemas : (d after : DeskView) (c : ChannelDef) → DeclaredBy d c (Err refusing.TooManySchemas) after → HasFewIds after.ids → LacksIdAt d (c, refusing.TooManySchemas)
lacks_schemas d after c is table s stands =
    let why = declare_reason d c (Some refusing.TooManySchemas) is.0 in
    let few : length d.ids.schemas ≤ 65535 = subst (λ (x : DeskView). length x.ids.schemas ≤ 65535) is.1 table.few_schemas in
    lacks_schema d.ids s.history c.schema (parts d s stands).contents few why.1

pub lacks_channels : (d after : DeskView) (c : ChannelDef) → DeclaredBy d c (Err refusing.TooManyChannels) after → HasFewIds after.ids → LacksIdAt d (c, refusing.TooManyChannels)
lacks_channels d after c is table s stands =
    let why = declare_reason d c (Some refusing.TooManyChannels) is.0 in
    let few : length d.ids.channels ≤ 65535 = subst (λ (x : DeskView). length x.ids.channels ≤ 65535) is.1 table.few_channels in
    let has = (parts d s stands).contents in
    (lacks_channel d.ids s.history c has stands.numbered few why.2 why.1, schema_left d.ids s.history c.schema has stands.numbered why.3)

-- ---- a desk that is swapped or ended

abbrev pub all_taken : State → State
all_taken s = record s { taken = length s.history }

pub swapped_stands : (d : DeskView) (s : State) → DeskStandsFor d s → DeskStandsFor (swapped d) (all_taken s)
swapped_stands d s stands =
    let size : length s.history ≡ s.taken + length (drop s.taken s.history) = omega (arith, length-drop s.taken s.history, stands.within) in
    let nothing : drop (length s.history) s.history ≡ [] = drop_all (length s.history) s.history (omega arith) in
    record {
      desk = ap (λ (rest : List Rec). record (desk_of d.limit (all_taken s)) { primary = rest }) nothing
          ∙ ap (λ (n : ℕ). record (desk_of d.limit (all_taken s)) { primary = []; taken = n }) size
          ∙ ap swapped stands.desk;
      within = omega arith;
      numbered = stands.numbered;
    }

pub ended_stands : (d : DeskView) (s : State) (end : End) → DeskStandsFor d s → DeskStandsFor (ended d end) (end_with end s)
ended_stands d s end stands =
    let size : length s.history ≡ s.taken + length (drop s.taken s.history) = omega (arith, length-drop s.taken s.history, stands.within) in
    record {
      desk = ap (λ (n : ℕ). record (desk_of d.limit s) { end = end_unless s.end end n }) size ∙ ap (λ (x : DeskView). ended x end) stands.desk;
      within = stands.within;
      numbered = stands.numbered;
    }

-- ---- by the answer

pub message_counts_if : (d after : DeskView) (channel : ℕ) (m : MessageFields) (result : Result ℕ CallRefused) → Published d channel m result after → PublishSteps d channel m after
    → OnOk result (MayCount d (message_of channel m ∷ []) after)
message_counts_if d after channel m (Ok place) is steps = message_counts d after channel m place is steps
message_counts_if d after channel m (Err refusal) is steps = tt

pub channel_counts_if : (d after : DeskView) (c : ChannelDef) (result : Result Declared CallRefused) → DeclaredBy d c result after → DeclareSteps d c result after → HasFewIds after.ids
    → OnOk result (MayCount d (new_records d.ids c) after)
channel_counts_if d after c (Ok given) is steps table = channel_counts d after c given is steps table
channel_counts_if d after c (Err refusal) is steps table = tt

pub nothing_added_if : (d after : DeskView) (c : ChannelDef) (result : Result Declared CallRefused) → DeclaredBy d c result after → IfOk result (λ given. given.count ≡ 0 → after ≡ d)
nothing_added_if d after c (Ok given) is = nothing_added d after c given is
nothing_added_if d after c (Err refusal) is = tt

pub named_after_if : (d after : DeskView) (c : ChannelDef) (result : Result Declared CallRefused) → DeclaredBy d c result after → IfOk result (λ given. NamedAt after (given.channel, c))
named_after_if d after c (Ok given) is = named_after d after c given is
named_after_if d after c (Err refusal) is = tt

pub lacks_schemas_if : (d after : DeskView) (c : ChannelDef) (result : Result Declared CallRefused) → DeclaredBy d c result after → HasFewIds after.ids → result ≡ Err refusing.TooManySchemas → LacksIdAt d (c, refusing.TooManySchemas)
lacks_schemas_if d after c result is table why = lacks_schemas d after c (subst (λ (r : Result Declared CallRefused). DeclaredBy d c r after) why is) table

pub lacks_channels_if : (d after : DeskView) (c : ChannelDef) (result : Result Declared CallRefused) → DeclaredBy d c result after → HasFewIds after.ids → result ≡ Err refusing.TooManyChannels → LacksIdAt d (c, refusing.TooManyChannels)
lacks_channels_if d after c result is table why = lacks_channels d after c (subst (λ (r : Result Declared CallRefused). DeclaredBy d c r after) why is) table
