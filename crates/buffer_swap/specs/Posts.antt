-- What a seat at the turn is for.
use Rattle.std.specs.Prelude.{◌≡◌, ℕ, List, [], Bool, true, false, Option, None}
use Rattle.rec_data.specs.declared.owned.Rec.{Rec}
use Rattle.mcap_model.specs.declared.ends.Stop.{Stop}
use Rattle.record_core.specs.declared.answers.Found.{Found}
use Rattle.feed_lane.specs.Pass.{PassState}

-- What a publisher that ended has shown: its number, how often it found the turn taken, and what its calls showed.
pub record Gathered : Type 0 where
  pub number : ℕ
  pub missed : ℕ
  pub pass : PassState

-- A seat is in use; it is the control's, the drain's, or that of the publisher with that number. A control has made so many
-- publishers, has given the drain out, has closed the intake, and knows what the publishers that it gathered have shown. A
-- drain has set a stop, and has taken records; a note tells both, and how the drain found the intake last.
pub record Post : Type 0 where
  pub seated : Bool
  pub controls : Bool
  pub drains : Bool
  pub publishes : Bool
  pub number : ℕ
  pub made : ℕ
  pub started : Bool
  pub closed : Bool
  pub known : List Gathered
  pub stop : Option Stop
  pub taken : List Rec
  pub told : Option Found

abbrev pub no_post : Post
no_post = record
    { seated = false; controls = false; drains = false; publishes = false; number = 0; made = 0; started = false; closed = false; known = []; stop = None; taken = []; told = None }

abbrev pub first_post : Post
first_post = record no_post { seated = true; controls = true }

abbrev pub drain_post : Option Stop → List Rec → Post
drain_post stop taken = record no_post { seated = true; drains = true; stop = stop; taken = taken }

-- that of a drain, whatever it took, and whether it stopped or not
abbrev pub IsDrain : Post → Type 0
IsDrain post = post ≡ drain_post post.stop post.taken

abbrev pub publisher_post : ℕ → Post
publisher_post number = record no_post { seated = true; publishes = true; number = number }

abbrev pub note_post : Option Stop → List Rec → Option Found → Post
note_post stop taken told = record no_post { stop = stop; taken = taken; told = told }
