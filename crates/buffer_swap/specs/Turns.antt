-- The rule of a turn. Word 0 is 1 where a seat holds the turn, word 1 rises with each event, and slot 0 has the desk.
use Rattle.std.specs.Prelude.{◌≡◌, ℕ, ◌+◌, ◌<◌, ◌≤◌, List, [], ◌∷◌, length, take, AllPairs, slice_index, Bool, true, false, cond, Option, Some, None}
use mathlib.Core.Option.{none, some}
use lib.ListN.{get_elem?}
use Rattle.atomic_table.specs.Table.{State as TableState}
use Rattle.rec_data.specs.declared.owned.Rec.{Rec}
use Rattle.mcap_model.specs.declared.ends.End.{End}
use Rattle.mcap_model.specs.declared.ends.End.TheVariants.{Closed, Stopped}
use Rattle.mcap_model.specs.declared.ends.Stop.{Stop}
use Rattle.mcap_model.specs.Places.{At, Has, Each}
use Rattle.history_ids.specs.Ids.{channels_in}
use Rattle.record_core.specs.Desk.{DeskView, new_desk, accepted, desk_end, found_of, EndIsLast}
use Rattle.record_core.specs.Machine.{State}
use Rattle.record_core.specs.Stands.{DeskStandsFor}
use Rattle.record_core.specs.declared.answers.Found.{Found}
use Rattle.feed_lane.specs.Pass.{PassState, with_places}
use Rattle.feed_lane.specs.PassCalls.{no_calls, IsLater}
use Rattle.buffer_swap.specs.Weights.{total, one_if, below}
use Rattle.buffer_swap.specs.Shown.{NameStands, IdsLackAt, HadRoom, HeldThere, FoundThere}
use Rattle.buffer_swap.specs.Posts.{Gathered, Post, no_post}
use Rattle.buffer_swap.specs.declared.view.View.{View}

abbrev pub view : Bool → DeskView → ℕ → PassState → Post → View
view holds hand missed pass post = record { holds = holds; hand = hand; missed = missed; pass = pass; post = post }

-- a seat that has the post alone, at a desk with that limit
abbrev pub newcomer : ℕ → Post → View
newcomer limit post = view false (new_desk 0) 0 (no_calls limit) post

abbrev pub nobody : View
nobody = newcomer 0 no_post

abbrev pub has_turn : View → ℕ
has_turn v = one_if v.holds

abbrev pub is_drain : View → ℕ
is_drain v = one_if v.post.drains

-- the numbers of publishers in a post: its own, and those of the publishers that it knows
abbrev pub numbers_in : (ℕ → ℕ) → Post → ℕ
numbers_in h p = cond p.publishes (h p.number) 0 + total (λ (g : Gathered). h g.number) p.known

abbrev pub seat_numbers : (ℕ → ℕ) → View → ℕ
seat_numbers h v = numbers_in h v.post

-- the pairs of a view: those of its pass, and those of the passes that it knows
abbrev pub weigh : (ℕ × Rec → ℕ) → View → ℕ
weigh h v = total h v.pass.own + total (λ (g : Gathered). total h g.pass.own) v.post.known

-- ---- what one view says

-- The desk was found so, and has but grown since; where an end stood, nothing was accepted behind it.
pub record FoundFits (d : DeskView) (f : Found) : Type 0 where
  pub later : IsLater f (found_of d)
  pub all : (e : End) → f.end ≡ Some e → f.count ≡ accepted d

-- what a pass showed is so of the history of the desk
pub record PassFits (history : List Rec) (swaps : List ℕ) (d : DeskView) (p : PassState) : Type 0 where
  pub own : Each (λ pair. At history pair.0 pair.1) p.own
  pub named : Each (NameStands history) p.named
  pub named_ids : Each (λ name. (1 ≤ name.id) × (name.id ≤ length (channels_in history))) p.named
  pub fulls : Each (HeldThere p.limit history swaps) p.fulls
  pub lacks : Each (IdsLackAt history) p.lacks
  pub found : (f : Found) → p.found ≡ Some f → FoundFits d f
  pub there : (f : Found) → p.found ≡ Some f → FoundThere p.limit history swaps f
  pub limit : p.limit ≡ d.limit

pub record IsFront (taken history : List Rec) : Type 0 where
  pub within : length taken ≤ length history
  pub same : taken ≡ take (length taken) history

-- What a drain or a note tells: the records that were taken are the first of the history; an end that the drain found stands,
-- and where that is a stop, the drain set it; a stop that the drain set is the desk's end.
pub record NoteFits (history : List Rec) (d : DeskView) (p : Post) : Type 0 where
  pub taken : IsFront p.taken history
  pub told : (f : Found) → p.told ≡ Some f → FoundFits d f
  pub cause : (f : Found) (stop : Stop) → p.told ≡ Some f → f.end ≡ Some (Stopped stop) → p.stop ≡ Some stop
  pub stood : (stop : Stop) → p.stop ≡ Some stop → desk_end d ≡ Some (Stopped stop)

-- What a view says of the history and of the desk. The last stop that the drain set is handed in.
pub record ViewFits (history : List Rec) (swaps : List ℕ) (d : DeskView) (halt : Option Stop) (v : View) : Type 0 where
  pub hand : v.holds ≡ true → v.hand ≡ d
  pub pass : v.post.seated ≡ true → PassFits history swaps d v.pass
  pub known : Each (λ g. PassFits history swaps d g.pass) v.post.known
  pub note : NoteFits history d v.post
  pub drains : v.post.drains ≡ true → (length v.post.taken ≡ d.taken) × (v.post.stop ≡ halt)
  pub idle : v.post.publishes ≡ false → v.pass.own ≡ []

-- ---- the rule

-- The desk stands for a state of the machine; it is closed exactly where the control closed it, and stopped exactly where the
-- drain stopped it.
pub record World (s : State) (d : DeskView) (head : Post) (halt : Option Stop) : Type 0 where
  pub stands : DeskStandsFor d s
  pub last : EndIsLast d
  pub controls : head.controls ≡ true
  pub unstarted : head.started ≡ false → (d.taken ≡ 0) × (halt ≡ None)
  pub closed : desk_end d ≡ Some Closed → head.closed ≡ true
  pub shut : head.closed ≡ true → desk_end d ≡ Some Closed
  pub halted : (stop : Stop) → desk_end d ≡ Some (Stopped stop) → halt ≡ Some stop
  pub stood : (stop : Stop) → halt ≡ Some stop → desk_end d ≡ Some (Stopped stop)

-- Buffers were handed over at these places, and the desk's begins at the last of them. Before its last call it was below the
-- limit.
pub record BufferFits (swaps : List ℕ) (d : DeskView) : Type 0 where
  pub rise : AllPairs (λ a b. a < b) (0 ∷ swaps)
  pub begun : Has (0 ∷ swaps) d.taken
  pub before : Each (λ s. s ≤ d.taken) swaps
  pub room : HadRoom d.limit d.primary

-- the words and the slot of a table: where no seat holds the turn, the desk is at home
pub record Wired (words : List ℕ) (homes : List (mathlib.Core.Option.Option DeskView)) (d : DeskView) : Type 0 where
  pub wide : length words ≡ 2
  pub homes_one : length homes ≡ 1
  pub turn : slice_index words 0 ≤ 1
  pub free : slice_index words 0 ≡ 0 → get_elem? homes 0 ≡ some (some d)
  pub out : slice_index words 0 ≡ 1 → get_elem? homes 0 ≡ some none

pub record KeepsTurnRule (t : TableState DeskView View) : Type 0 where
  pub s : State
  pub swaps : List ℕ
  pub d : DeskView
  pub head : Post
  pub halt : Option Stop
  pub world : World s d head halt
  pub buffer : BufferFits swaps d
  pub wired : Wired t.words t.homes d
  -- the turn word is 1 exactly where one seat holds the turn
  pub holders : total has_turn t.views ≡ slice_index t.words 0
  pub each : (j : ℕ) (v : View) → get_elem? t.views j ≡ some v → ViewFits s.history swaps d halt v
  -- the first seat is the control's
  pub first : (c : View) × (get_elem? t.views 0 ≡ some c) × (c.post ≡ head)
  pub controls : (j : ℕ) (v : View) → get_elem? t.views j ≡ some v → v.post.controls ≡ true → j ≡ 0
  -- the numbers of publishers in all views are those that the control gave out, each once, and there is one drain once that
  -- was given out
  pub made : (h : ℕ → ℕ) → total (seat_numbers h) t.views ≡ total h (below head.made)
  pub drains : total is_drain t.views ≡ one_if head.started
  -- the pairs of all views are the places of the history with their records, each once
  pub pairs : (h : ℕ × Rec → ℕ) → total (weigh h) t.views ≡ total h (with_places 0 s.history)
