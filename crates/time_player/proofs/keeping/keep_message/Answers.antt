use Rattle.std.proofs.Common.{ℕ, sym, subst, ap, ◌∷◌, [], ◌∙◌}
use Rattle.mcap_model.specs.declared.replay.Shown.{Shown}
use Rattle.mcap_model.specs.Made.{top}
use Rattle.mcap_model.specs.Scan.{HasTopic}
use Rattle.mcap_model.specs.Plain.{asked_topic}
use Rattle.mcap_model.proofs.ShownMessages.{ok_then}
use Rattle.time_player.specs.Keeping.{kept_in, shown_at}
use Rattle.time_player.specs.Asking.{KeepsAsked}
use Rattle.time_player.proofs.Chosen.{read_once, untimely, off_topic, asked_for, message_dropped, message_kept}
use Rattle.time_player.proofs.keeping.keep_message.Goals as goal

pub returns-then-not-is_within : goal.returns-then-not-is_within
returns-then-not-is_within c = λ content shown.
    let s = shown_at c.args.place c.args.message.now in
    message_dropped c.args.range (asked_topic c.args.topic) c.args.tables.now c.args.place content (kept_in c.args.kept.now)
    (λ records seen knows is. untimely c.args.range (asked_topic c.args.topic) s seen (read_once records content s seen shown is) (sym c.is_within.ensures ∙ c.if-not-is_within.true))

pub returns-then-not-is_on_topic : goal.returns-then-not-is_on_topic
returns-then-not-is_on_topic c = λ content shown.
    let s = shown_at c.args.place c.args.message.now in
    message_dropped c.args.range (asked_topic c.args.topic) c.args.tables.now c.args.place content (kept_in c.args.kept.now)
    (λ records seen knows is.
    let same = read_once records content s seen shown is in
    let known = subst (λ (n : ℕ). HasTopic records n seen.topic) (sym (ap (λ (r : Shown). r.channel) same)) is.known in
    off_topic c.args.range (asked_topic c.args.topic) seen (sym (c.is_on_topic.ensures records seen.topic knows known) ∙ c.if-not-is_on_topic.true))

pub returns : goal.returns
returns c = λ content shown.
    let s = shown_at c.args.place c.args.message.now in
    ok_then c.add.result c.add.ensures (λ added.
    subst (KeepsAsked c.args.range (asked_topic c.args.topic) c.args.tables.now (record { place = c.args.place; top = top 5 content } ∷ []) (kept_in c.args.kept.now)) (sym added)
    (message_kept c.args.range (asked_topic c.args.topic) c.args.tables.now c.args.place content (kept_in c.args.kept.now) s
    (λ records seen knows is.
    let same = read_once records content s seen shown is in
    let known = subst (λ (n : ℕ). HasTopic records n seen.topic) (sym (ap (λ (r : Shown). r.channel) same)) is.known in
    (asked_for c.args.range (asked_topic c.args.topic) s seen same (sym c.is_within.ensures ∙ c.if-not-is_within.false) (sym (c.is_on_topic.ensures records seen.topic knows known) ∙ c.if-not-is_on_topic.false), same))))
