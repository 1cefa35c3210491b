-- What each step tells: of the step, the seat before, the number found and the seat after.
use Rattle.std.specs.Prelude.{◌≡◌, ◌≢◌, ℕ, ◌+◌, ◌<◌, ◌≤◌, List, [], ◌∷◌, ◌++◌, length, drop, Bool, true, false, Option, Some, None}
use Rattle.atomic_table.specs.Table.{Me, Step, rest}
use Rattle.rec_data.specs.declared.owned.Rec.{Rec}
use Rattle.rec_data.specs.declared.channel.ChannelDef.{ChannelDef}
use Rattle.mcap_model.specs.declared.ends.End.{End}
use Rattle.mcap_model.specs.declared.ends.End.TheVariants.{Closed, Stopped}
use Rattle.mcap_model.specs.declared.ends.Stop.{Stop}
use Rattle.mcap_model.specs.Places.{Each}
use Rattle.mcap_model.specs.History.{Numbered}
use Rattle.record_core.specs.Desk.{DeskView, new_desk, accepted, with_more_records, desk_end, found_of, EndIsLast}
use Rattle.record_core.specs.Machine.{State, accept}
use Rattle.record_core.specs.Stands.{DeskStandsFor}
use Rattle.record_core.specs.declared.answers.CallRefused.{CallRefused}
use Rattle.record_core.specs.declared.answers.Found.{Found}
use Rattle.feed_lane.specs.Pass.{PassState, with_places, full_at, named_by, lack_at}
use Rattle.feed_lane.specs.PassCalls.{with_found}
use Rattle.buffer_swap.specs.Weights.{total, below}
use Rattle.buffer_swap.specs.Shown.{ChannelStands, IdsLack, AreHandOvers, HadRoom}
use Rattle.buffer_swap.specs.ShownSteps.{Spares, ShownTo}
use Rattle.buffer_swap.specs.Posts.{Gathered, Post, drain_post, publisher_post, note_post}
use Rattle.buffer_swap.specs.Turns.{view, newcomer, PassFits}
use Rattle.buffer_swap.specs.declared.view.View.{View}

abbrev pub Sat : Type 0
Sat = Me DeskView View

abbrev pub StepTold : Type 1
StepTold = Step DeskView → Sat → ℕ → Sat → Type 0

-- the desk that the seat has out
abbrev pub desk_out : List (ℕ × DeskView) → DeskView
desk_out [] = new_desk 0
desk_out (x ∷ xs) = x.1

-- between two steps of a turn: the seat holds the turn, and has out the desk that it counts
pub record HasDesk (m : Sat) : Type 0 where
  pub holds : m.0.holds ≡ true
  pub out : m.1 ≡ (0, m.0.hand) ∷ []

-- it holds the turn and has the desk out, changed or not since it was counted
abbrev pub HasDeskOut : Sat → Type 0
HasDeskOut m = (m.0.holds ≡ true) × (m.1 ≡ (0, desk_out m.1) ∷ [])

-- it neither holds the turn nor has the desk out
pub record IsIdle (m : Sat) : Type 0 where
  pub holds : m.0.holds ≡ false
  pub out : m.1 ≡ []

-- ---- steps

-- the one step that tries for the turn: it makes the turn word 1 where that was 0
pub record TriesTurn (st : Step DeskView) : Type 0 where
  pub word : st.word ≡ 0
  pub free : st.first ≡ 0
  pub taken : st.second ≡ 1

-- the step of an event: the event word rises by one
pub record IsEvent (st : Step DeskView) : Type 0 where
  pub word : st.word ≡ 1
  pub one : st.first ≡ 1
  pub alone : st.second ≡ 0

-- the step that frees the turn: it makes the turn word 0, and is taken by a seat that holds the turn
pub record FreesTurn (st : Step DeskView) (m : Sat) : Type 0 where
  pub word : st.word ≡ 0
  pub free : st.first ≡ 0
  pub alone : st.second ≡ 0
  pub holds : m.0.holds ≡ true

-- ---- taking the turn

-- a desk stands for a state in whose history is what the pass showed
pub record Stood (d : DeskView) (p : PassState) : Type 0 where
  pub s : State
  pub swaps : List ℕ
  pub stands : DeskStandsFor d s
  pub last : EndIsLast d
  pub fits : PassFits s.history swaps d p

-- the desk came out so, with the turn, for a seat that missed it so often
abbrev pub taking : View → ℕ → DeskView → Sat
taking v missed d = (view true d missed (with_found v.pass (found_of d)) v.post, (0, d) ∷ [])

-- the turn was taken, and the desk came out
pub record Took (m n : Sat) : Type 0 where
  pub d : DeskView
  pub missed : ℕ
  pub is : n ≡ taking m.0 missed d
  pub stood : m.0.post.seated ≡ true → Stood d m.0.pass
  pub drained : m.0.post.drains ≡ true → length m.0.post.taken ≡ d.taken
  pub halted : (stop : Stop) → m.0.post.stop ≡ Some stop → desk_end d ≡ Some (Stopped stop)

-- the turn was another's
abbrev pub missing : View → View
missing v = view false v.hand (v.missed + 1) v.pass v.post

abbrev pub took : StepTold
took st m r n = TriesTurn st × (r ≡ 0 → Took m n × (n.0.missed ≡ m.0.missed)) × (r ≢ 0 → n ≡ (missing m.0, m.1))

-- ---- events

-- the records that the desk has got since it came out
abbrev pub fresh_records : DeskView → DeskView → List Rec
fresh_records hand d = drop (length hand.primary) d.primary

-- the desk has these records more, in whatever state it stood
pub record MayCount (hand : DeskView) (records : List Rec) (d : DeskView) : Type 0 where
  pub is : d ≡ with_more_records hand records
  pub unended : hand.end ≡ None
  pub room : HadRoom hand.limit hand.primary → HadRoom d.limit d.primary
  pub stands : (s : State) → DeskStandsFor hand s → DeskStandsFor d (accept 0 records s)
  pub spares : (s : State) → DeskStandsFor hand s → Spares s.history records

abbrev pub counts : View → DeskView → View
counts v d =
    view true d v.missed (record v.pass { own = v.pass.own ++ with_places (accepted v.hand) (fresh_records v.hand d) })
    v.post

abbrev pub records_counted : StepTold
records_counted st m r n = IsEvent st × (n ≡ (counts m.0 (desk_out m.1), m.1))

-- the primary is handed over
abbrev pub hands_over : View → DeskView → View
hands_over v d = view true d v.missed v.pass (drain_post v.post.stop (v.post.taken ++ v.hand.primary))

abbrev pub handed_over : StepTold
handed_over st m r n =
    IsEvent st × (n ≡ (hands_over m.0 (desk_out m.1), m.1)) × Numbered (m.0.post.taken ++ m.0.hand.primary)

abbrev pub shuts : Post → Post
shuts p = record p { closed = true }

abbrev pub closes : View → DeskView → View
closes v d = view true d v.missed v.pass (shuts v.post)

abbrev pub closed : StepTold
closed st m r n = IsEvent st × (n ≡ (closes m.0 (desk_out m.1), m.1))

-- the stop that is an end
abbrev pub stop_in : Option (End × ℕ) → Option Stop
stop_in None = None
stop_in (Some (Closed, at)) = None
stop_in (Some (Stopped stop, at)) = Some stop

abbrev pub stops : View → DeskView → View
stops v d = view true d v.missed v.pass (drain_post (stop_in d.end) v.post.taken)

abbrev pub stopped : StepTold
stopped st m r n = IsEvent st × (n ≡ (stops m.0 (desk_out m.1), m.1))

-- ---- freeing the turn

-- the turn is free again, and the pass shows this
abbrev pub frees : View → PassState → View
frees v pass = view false v.hand v.missed pass v.post

abbrev pub freed : (View → PassState) → StepTold
freed f st m r n = FreesTurn st m × (n ≡ (frees m.0 (f m.0), rest m.1))

abbrev pub same_pass : View → PassState
same_pass v = v.pass

-- the turn is free again, and the records that the desk got are counted
abbrev pub frees_counting : View → DeskView → View
frees_counting v d = frees (counts v d) (counts v d).pass

abbrev pub freed_counting : StepTold
freed_counting st m r n = FreesTurn st m × (n ≡ (frees_counting m.0 (desk_out m.1), rest m.1))

-- where the buffer was full
abbrev pub with_full_hand : View → PassState
with_full_hand v = record v.pass { fulls = v.pass.fulls ++ full_at (found_of v.hand) ∷ [] }

-- an id and its channel, for a declaration that was accepted, with how many records there are after it
abbrev pub with_name : ℕ × ChannelDef → View → PassState
with_name pair v = record v.pass { named = v.pass.named ++ named_by pair.0 pair.1 (accepted v.hand) ∷ [] }

-- a channel and why it got no id, with how many records were accepted
abbrev pub with_lacking : ChannelDef × CallRefused → View → PassState
with_lacking pair v = record v.pass { lacks = v.pass.lacks ++ lack_at pair.0 pair.1 (accepted v.hand) ∷ [] }

-- the channel stands under that id, in whatever state the desk stands
abbrev pub NamedAt : DeskView → ℕ × ChannelDef → Type 0
NamedAt d pair = (s : State) → DeskStandsFor d s
    → ChannelStands s.history pair.0 pair.1 × (1 ≤ pair.0) × (pair.0 ≤ length d.ids.channels)

abbrev pub LacksIdAt : DeskView → ChannelDef × CallRefused → Type 0
LacksIdAt d pair = (s : State) → DeskStandsFor d s → IdsLack s.history pair.0 pair.1

-- ---- seats that are made and spent

-- the control has given the drain out
abbrev pub starts : View → View
starts v = view v.holds v.hand v.missed v.pass (record v.post { started = true })

abbrev pub drainer : View → View
drainer v = newcomer v.pass.limit (drain_post None [])

-- it has made one more publisher
abbrev pub hires : View → View
hires v = view v.holds v.hand v.missed v.pass (record v.post { made = v.post.made + 1 })

abbrev pub hired : View → View
hired v = newcomer v.pass.limit (publisher_post v.post.made)

-- what a publisher has shown
abbrev pub gathered : View → Gathered
gathered w = record { number = w.post.number; missed = w.missed; pass = w.pass }

-- it knows all that a publisher has shown
abbrev pub gathers : View → View → View
gathers v w = view v.holds v.hand v.missed v.pass (record v.post { known = v.post.known ++ gathered w ∷ [] })

-- a note of what the drain took and found
abbrev pub drain_noted : View → View
drain_noted v = newcomer 0 (note_post v.post.stop v.post.taken v.pass.found)

abbrev pub reads : View → View → View
reads v w =
    view v.holds v.hand v.missed v.pass (record v.post { stop = w.post.stop; taken = w.post.taken; told = w.post.told })

-- ---- looks

-- the pass found no intake that was closed
abbrev pub Unclosed : PassState → Type 0
Unclosed p = (f : Found) → p.found ≡ Some f → f.end ≡ Some Closed → ⊥

-- where the control hasn't closed, no pass that it knows found that
abbrev pub settled : StepTold
settled st m r n =
    (n ≡ m) × (m.0.post.controls ≡ true → m.0.post.closed ≡ false → Each (λ g. Unclosed g.pass) m.0.post.known)

-- All publishers were gathered, and the drain that is noted took all and found the end.
pub record IsMet (v : View) (end : End) : Type 0 where
  pub controls : v.post.controls ≡ true
  pub quiet : v.post.publishes ≡ false
  pub own : v.pass.own ≡ []
  pub all : length v.post.known ≡ v.post.made
  pub found : Found
  pub told : v.post.told ≡ Some found
  pub ended : found.end ≡ Some end
  pub count : found.count ≡ length v.post.taken

-- However pairs of a place and a record are weighed, those of the passes weigh what the records weigh at their places.
abbrev pub WeighAlike : List Gathered → List Rec → Type 0
WeighAlike known taken =
    (h : ℕ × Rec → ℕ) → total (λ (g : Gathered). total h g.pass.own) known ≡ total h (with_places 0 taken)

-- the publishers that are known are all that were made, each once
abbrev pub AreAll : List Gathered → ℕ → Type 0
AreAll known made = (h : ℕ → ℕ) → total (λ (g : Gathered). h g.number) known ≡ total h (below made)

-- What a control, which has made so many publishers, knows and what a drain took are one history, which came to this end: what
-- each publisher showed is so of the records that were taken, and of the same places at which buffers were handed over. Their
-- places with their records are those of the publishers, each once, and the end is that of the control or of the drain: that
-- of whichever set one.
pub record Met (made : ℕ) (known : List Gathered) (closed : Bool) (stop : Option Stop) (taken : List Rec) (end : End)
    : Type 0 where
  pub publishers : AreAll known made
  pub numbered : Numbered taken
  pub pairs : WeighAlike known taken
  pub swaps : List ℕ
  pub handed : AreHandOvers taken swaps
  pub shown : Each (λ g. ShownTo taken swaps end g.pass) known
  pub closes : end ≡ Closed → closed ≡ true
  pub stops : (s : Stop) → end ≡ Stopped s → stop ≡ Some s
  pub closed_is : closed ≡ true → end ≡ Closed
  pub stop_is : (s : Stop) → stop ≡ Some s → end ≡ Stopped s

abbrev pub met : StepTold
met st m r n = (n ≡ m)
    × ((end : End) → IsMet m.0 end → Met m.0.post.made m.0.post.known m.0.post.closed m.0.post.stop m.0.post.taken end)
