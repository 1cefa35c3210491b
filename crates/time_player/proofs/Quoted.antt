-- The topics of channels as JSON strings, and the lines with them.
use Rattle.std.proofs.Common.{◌≡◌, ◌⊎◌, ℕ, ◌+◌, ◌==◌, zero, suc, Bool, true, false, cond, List, [], ◌∷◌, ◌++◌, length, take, map, decimal, refl, sym, ap, subst, inl, inr, ◌∙◌, append_assoc}
use Rattle.std.proofs.lemmas.List.{append-nil}
use Rattle.std.specs.List.{flat_map}
use Rattle.std.proofs.lemmas.Grind.{flat_map-append}
use Rattle.std.proofs.lemmas.List.Folds.{flat_map-map}
use Rattle.std.proofs.lemmas.Bool.{ne_eqb}
use Rattle.std.proofs.lemmas.Bool.Decides.{Decides-eqb}
use Rattle.json.specs.Print.{quoted}
use Rattle.mcap_model.specs.declared.replay.Shown.{Shown}
use Rattle.mcap_model.specs.declared.replay.Topic.{Topic}
use Rattle.mcap_model.specs.declared.replay.Replayed.{Replayed}
use Rattle.mcap_model.specs.declared.table.Declared.{Declared}
use Rattle.mcap_model.specs.Places.{At, Has}
use Rattle.mcap_model.specs.Scan.{Seen}
use Rattle.mcap_model.specs.Showing.{shown_as, topic_as, TopicsOf, Shows}
use Rattle.time_player.specs.Text.{cat_line, cat_text, data_text}
use Rattle.mcap_model.proofs.Places.{at_none}
use Rattle.std.proofs.lemmas.Option.{same_Some}
use Rattle.mcap_model.proofs.NamedTopics.{unmapped}
use Rattle.mcap_model.proofs.OneMore.{taken_more}
use Rattle.mcap_model.proofs.Replays.{first_topic, first_found}
use Rattle.time_player.specs.Stretches.{TimedLine, timed_line, timed_lines, held_lines}
use Rattle.time_player.specs.Lines.{line_of, lines_of, spelling, EachDeclaredOnce, Quotes, Spells}

-- ---- places in longer lists

at_front : {X : Type 0} (xs : List X) (t : X) (n : ℕ) (x : X) → At xs n x → At (xs ++ t ∷ []) n x
at_front [] t n x at = absurd (at_none n x at)
at_front (y ∷ xs) t zero x at = at
at_front (y ∷ xs) t (suc n) x at = at_front xs t n x at

at_end : {X : Type 0} (xs : List X) (t : X) → At (xs ++ t ∷ []) (length xs) t
at_end [] t = refl
at_end (x ∷ xs) t = at_end xs t

at_last : {X : Type 0} (xs : List X) (t : X) (n : ℕ) (x : X) → At (xs ++ t ∷ []) n x → At xs n x ⊎ (t ≡ x)
at_last [] t zero x at = inr (same_Some t x at)
at_last [] t (suc n) x at = absurd (at_none n x at)
at_last (y ∷ xs) t zero x at = inl at
at_last (y ∷ xs) t (suc n) x at = at_last xs t n x at

-- ---- topics

-- a topic whose channel has one already
pub quotes_known : (topics : List Topic) (table : List Declared) (t : Topic) → Quotes topics table → (k : ℕ) × (d : Declared) × At table k d × (d.id ≡ t.channel) → Quotes (topics ++ t ∷ []) table
quotes_known topics table t was known = record {
  are = λ k d at. let a = was.are k d at in (a.0, a.1, at_front topics t a.0 a.1 a.2, a.3, a.4);
  all = λ n u at. elim (at_last topics t n u at) [
    | inl front ↦ was.all n u front
    | inr last ↦ (known.0, known.1, known.2, known.3 ∙ ap (λ (v : Topic). v.channel) last)
  ];
  apart = was.apart;
}

-- an entry of a channel that has none yet stands once
apart_more : (table : List Declared) (e : Declared) → EachDeclaredOnce table → ((k : ℕ) (d : Declared) → At table k d → d.id ≡ e.id → ⊥) → EachDeclaredOnce (table ++ e ∷ [])
apart_more table e was none j k d f first second same = elim (at_last table e j d first) [
  | inl one ↦ elim (at_last table e k f second) [
    | inl other ↦ was j k d f one other same
    | inr last ↦ absurd (none j d one (same ∙ ap (λ (v : Declared). v.id) (sym last)))
  ]
  | inr last ↦ elim (at_last table e k f second) [
    | inl other ↦ absurd (none k f other (sym same ∙ ap (λ (v : Declared). v.id) (sym last)))
    | inr also ↦ sym last ∙ also
  ]
]

-- a topic that is added
pub quotes_new : (topics : List Topic) (table : List Declared) (t : Topic) → ((k : ℕ) (d : Declared) → At table k d → d.id ≡ t.channel → ⊥) → Quotes topics table → Quotes (topics ++ t ∷ []) (table ++ record { id = t.channel; content = quoted t.topic } ∷ [])
quotes_new topics table t none was =
    let e : Declared = record { id = t.channel; content = quoted t.topic } in
    record {
      are = λ k d at. elim (at_last table e k d at) [
        | inl front ↦ let a = was.are k d front in (a.0, a.1, at_front topics t a.0 a.1 a.2, a.3, a.4)
        | inr last ↦ (length topics, t, at_end topics t, ap (λ (f : Declared). f.id) last, sym (ap (λ (f : Declared). f.content) last))
      ];
      all = λ n u at. elim (at_last topics t n u at) [
        | inl front ↦ let a = was.all n u front in (a.0, a.1, at_front table e a.0 a.1 a.2, a.3)
        | inr last ↦ (length table, e, at_end table e, ap (λ (v : Topic). v.channel) last)
      ];
      apart = apart_more table e was.apart none;
    }

-- what stands for the channel of a message is its topic
spelled_topic : (messages : List Seen) (topics : List Topic) (table : List Declared) (m : Seen) (text : List ℕ) → TopicsOf messages topics → Quotes topics table → Has messages m → Spells table m.channel text → text ≡ quoted m.topic
spelled_topic messages topics table m text of quotes has (inl (k, d, at, id, same)) =
    let a = quotes.are k d at in
    let there = of.all m has in
    let channel : a.1.channel ≡ m.channel = a.3 ∙ id in
    let topic : a.1.topic ≡ m.topic =
    sym (first_found topics of.rises a.0 a.1 a.2) ∙ ap (first_topic topics) channel ∙ first_found topics of.rises there.0 (topic_as m) there.1 in
    sym same ∙ a.4 ∙ ap quoted topic
spelled_topic messages topics table m text of quotes has (inr (none, same)) =
    let there = of.all m has in
    let first = quotes.all there.0 (topic_as m) there.1 in
    absurd (none first.0 first.1 first.2 first.3)

-- ---- what is read off a table

spelling_found : (table : List Declared) (k : ℕ) (d : Declared) → EachDeclaredOnce table → At table k d → spelling table d.id ≡ d.content
spelling_found [] k d apart at = absurd (at_none k d at)
spelling_found (u ∷ us) zero d apart at =
    let same : u ≡ d = same_Some u d at in
    subst (λ (v : Declared). spelling (u ∷ us) v.id ≡ v.content) same (ap (λ (b : Bool). cond b u.content (spelling us u.id)) ((Decides-eqb u.id u.id).1 refl))
spelling_found (u ∷ us) (suc k) d apart at = by (u.id == d.id) refl (spelling_found us k d (λ i j e f. apart (suc i) (suc j) e f) at)
  where
    by : (b : Bool) → (u.id == d.id) ≡ b → spelling us d.id ≡ d.content → cond b u.content (spelling us d.id) ≡ d.content
    by true is later = ap (λ (v : Declared). v.content) (apart 0 (suc k) u d refl at ((Decides-eqb u.id d.id).0 is))
    by false is later = later

spelling_missing : (table : List Declared) (channel : ℕ) → ((k : ℕ) (d : Declared) → At table k d → d.id ≡ channel → ⊥) → spelling table channel ≡ quoted []
spelling_missing [] channel none = refl
spelling_missing (u ∷ us) channel none =
    ap (λ (b : Bool). cond b u.content (spelling us channel)) (ne_eqb u.id channel (λ e. none 0 u refl e))
    ∙ spelling_missing us channel (λ k d at. none (suc k) d at)

pub spelled_first : (table : List Declared) (channel : ℕ) (text : List ℕ) → Spells table channel text → EachDeclaredOnce table → text ≡ spelling table channel
spelled_first table channel text (inl (k, d, at, id, same)) apart = sym same ∙ sym (spelling_found table k d apart at) ∙ ap (spelling table) id
spelled_first table channel text (inr (none, same)) apart = same ∙ sym (spelling_missing table channel none)

-- ---- lines

spaced : (a b c d rest : List ℕ) → ((a ++ 32 ∷ []) ++ ((b ++ 32 ∷ []) ++ ((c ++ 32 ∷ []) ++ (d ++ 32 ∷ [])))) ++ rest ≡ a ++ 32 ∷ (b ++ 32 ∷ (c ++ 32 ∷ (d ++ 32 ∷ rest)))
spaced a b c d rest = rw (append_assoc, append_assoc, append_assoc, append_assoc, append_assoc, append_assoc, append_assoc) refl

line_is : (m : Seen) → line_of (shown_as m) (quoted m.topic) ≡ cat_line m
unfolding cat_line
line_is m =
    spaced (decimal m.message.log_time) (decimal m.message.publish_time) (decimal m.channel) (decimal m.message.sequence)
    (quoted m.topic ++ (32 ∷ [] ++ (data_text m.message.payload ++ 10 ∷ [])))

-- a line more
pub lines_on : (replayed : Replayed) (table : List Declared) (messages : List Seen) (i : ℕ) (s : Shown) (text old new : List ℕ) → Shows replayed messages → Quotes replayed.topics.items table → At replayed.shown.items i s
    → Spells table s.channel text → new ≡ old ++ line_of s text → old ≡ cat_text (take i messages) → new ≡ cat_text (take (i + 1) messages)
lines_on replayed table messages i s text old new shows quotes at spells added was =
    let m = unmapped shown_as messages i s (subst (λ (l : List Shown). At l i s) shows.shown at) in
    let seen : Seen = m.0 in
    let channel : s.channel ≡ seen.channel = sym (ap (λ (z : Shown). z.channel) m.2) in
    let topic : text ≡ quoted seen.topic = spelled_topic messages replayed.topics.items table seen text shows.topics quotes (i, m.1) (subst (λ (n : ℕ). Spells table n text) channel spells) in
    let line : line_of s text ≡ cat_line seen = ap (λ (z : Shown). line_of z text) (sym m.2) ∙ ap (line_of (shown_as seen)) topic ∙ line_is seen in
    let one : cat_text (seen ∷ []) ≡ cat_line seen = append-nil (cat_line seen) in
    added
    ∙ ap (λ (l : List ℕ). old ++ l) line
    ∙ ap (λ (l : List ℕ). l ++ cat_line seen) was
    ∙ ap (λ (l : List ℕ). cat_text (take i messages) ++ l) (sym one)
    ∙ sym (flat_map-append cat_line (take i messages) (seen ∷ []))
    ∙ ap cat_text (sym (taken_more messages i seen m.1))

lines_same : {X : Type 0} (f g : X → List ℕ) (xs : List X) → ((x : X) → Has xs x → f x ≡ g x) → flat_map f xs ≡ flat_map g xs
lines_same f g [] same = refl
lines_same f g (x ∷ xs) same =
    ap (λ (l : List ℕ). l ++ flat_map f xs) (same x (0, refl))
    ∙ ap (λ (l : List ℕ). g x ++ l) (lines_same f g xs (λ y has. same y (suc has.0, has.1)))

-- the line of a message with what is read off the table
line_read : (replayed : Replayed) (table : List Declared) (messages : List Seen) → Shows replayed messages → Quotes replayed.topics.items table → (m : Seen) → Has messages m → line_of (shown_as m) (spelling table m.channel) ≡ cat_line m
line_read replayed table messages shows quotes m has =
    let there = shows.topics.all m has in
    let entry = quotes.all there.0 (topic_as m) there.1 in
    let text : entry.1.content ≡ quoted m.topic = spelled_topic messages replayed.topics.items table m entry.1.content shows.topics quotes has (inl (entry.0, entry.1, entry.2, entry.3, refl)) in
    let is : spelling table m.channel ≡ entry.1.content = sym (ap (spelling table) entry.3) ∙ spelling_found table entry.0 entry.1 quotes.apart entry.2 in
    ap (line_of (shown_as m)) (is ∙ text) ∙ line_is m

-- the lines of the messages that are shown
pub lines_are : (replayed : Replayed) (table : List Declared) (messages : List Seen) → Shows replayed messages → Quotes replayed.topics.items table → lines_of table replayed.shown.items ≡ cat_text messages
lines_are replayed table messages shows quotes =
    ap (lines_of table) shows.shown
    ∙ flat_map-map (λ (s : Shown). line_of s (spelling table s.channel)) shown_as messages
    ∙ lines_same (λ (m : Seen). line_of (shown_as m) (spelling table m.channel)) cat_line messages (line_read replayed table messages shows quotes)

timed_same : (table : List Declared) (messages : List Seen) → ((m : Seen) → Has messages m → line_of (shown_as m) (spelling table m.channel) ≡ cat_line m) → held_lines table (map shown_as messages) ≡ timed_lines messages
timed_same table [] same = refl
timed_same table (m ∷ ms) same =
    ap (λ (l : List ℕ). record { time = m.message.log_time; text = l } ∷ held_lines table (map shown_as ms)) (same m (0, refl))
    ∙ ap (λ (l : List TimedLine). timed_line m ∷ l) (timed_same table ms (λ s has. same s (suc has.0, has.1)))

-- and with their log times
pub timed_are : (replayed : Replayed) (table : List Declared) (messages : List Seen) → Shows replayed messages → Quotes replayed.topics.items table → held_lines table replayed.shown.items ≡ timed_lines messages
timed_are replayed table messages shows quotes =
    ap (held_lines table) shows.shown ∙ timed_same table messages (line_read replayed table messages shows quotes)
