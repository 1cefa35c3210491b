use Rattle.std.proofs.Common.{◌≡◌, ℕ, ◌≤◌, List, [], ◌∷◌, ◌++◌, length, drop, sym, ap, subst, ◌∙◌}
use Rattle.rec_data.specs.Parsed.{channel_fields}
use Rattle.rec_data.specs.Records.{channel_text, ShowsChannel}
use Rattle.indexed_replay.proofs.Firsts.{channel_shows, known_channel, new_channel, framed_content}
use Rattle.indexed_replay.proofs.channels.take_channel.Goals as goal

pub returns-in-Some : goal.returns-in-Some
returns-in-Some c = λ were.
    let (t, at, is) = c.channel-channel.ensures in
    let find = c.in-Some.ensures in
    known_channel c.args.loaded.now.channels c.args.i t c.channel-channel.result.id (channel_fields c.channel-channel.result) at is c.args.tables.now.channels (find.0, find.1, find.2, find.3) were

pub split_at-requires : goal.split_at-requires
split_at-requires c =
    let framed = framed_content c.frame.new.out.items c.new-record.result.items (channel_text c.channel-channel.result.id (channel_fields c.channel-channel.result)) 4 c.in-Ok.ensures.ok c.new-record.ensures.items in
    subst (λ (l : List ℕ). 9 ≤ length l) (sym c.deref.ensures.value) framed.1

pub add-requires-clause-shown : goal.add-requires-clause-shown
add-requires-clause-shown c =
    let (t, at, is) = c.channel-channel.ensures in
    let id = c.channel-channel.result.id in
    let f = channel_fields c.channel-channel.result in
    let framed = framed_content c.frame.new.out.items c.new-record.result.items (channel_text id f) 4 c.in-Ok.ensures.ok c.new-record.ensures.items in
    let content : c.split_at.result.1.now ≡ channel_text id f = c.split_at.ensures.back ∙ ap (drop 9) c.deref.ensures.value ∙ framed.0 in
    (f, subst (λ (l : List ℕ). ShowsChannel l id f) (sym content) (channel_shows c.args.loaded.now.channels c.args.i t id f at is))

pub returns-in-Ok-add : goal.returns-in-Ok-add
returns-in-Ok-add c = λ were.
    let (t, at, is) = c.channel-channel.ensures in
    let f = channel_fields c.channel-channel.result in
    let framed = framed_content c.frame.new.out.items c.new-record.result.items (channel_text c.channel-channel.result.id f) 4 c.in-Ok.ensures.ok c.new-record.ensures.items in
    let content : c.split_at.result.1.now ≡ channel_text c.channel-channel.result.id f = c.split_at.ensures.back ∙ ap (drop 9) c.deref.ensures.value ∙ framed.0 in
    new_channel c.args.loaded.now.channels c.args.i t c.channel-channel.result.id f at is c.args.tables.now.channels c.add.new.self c.in-None.ensures
    (c.in-Ok-add.ensures.ok ∙ ap (λ (l : List ℕ). c.args.tables.now.channels ++ (record { id = c.channel-channel.result.id; content = l }) ∷ []) content) were
