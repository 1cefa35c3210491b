-- What a tape shows as a pass: it takes records one behind the other, for one lane alone.
use Rattle.std.specs.Prelude.{ℕ, ◌+◌, List, [], ◌∷◌, Bool, true, false, Option, Some, None}
use Rattle.rec_data.specs.declared.owned.Rec.{Rec}
use Rattle.rec_data.specs.declared.channel.ChannelDef.{ChannelDef}
use Rattle.mcap_model.specs.declared.ends.End.{End}
use Rattle.mcap_model.specs.declared.ends.End.TheVariants.{Stopped}
use Rattle.mcap_model.specs.declared.ends.Stop.TheVariants.{Memory}
use Rattle.record_core.specs.declared.answers.Found.{Found}
use Rattle.record_core.specs.declared.answers.CallRefused.{CallRefused}
use Rattle.feed_lane.specs.Pass.{NamedBy, named_by, PassState, with_places}

-- channels, each with its id; each comes with how many records there were after its declaration
abbrev pub numbered_from : ℕ → List (ChannelDef × ℕ) → List NamedBy
numbered_from id [] = []
numbered_from id (d ∷ ds) = named_by id d.0 d.1 ∷ numbered_from (id + 1) ds

abbrev pub end_when : Bool → Option End
end_when true = Some (Stopped Memory)
end_when false = None

-- as it stands with so many records and channels, ended or not
abbrev pub found_now : ℕ → ℕ → Bool → Found
found_now count channels ended =
    record { taken = 0; count = count; held = 0; schemas = 0; channels = channels; end = end_when ended }

-- the same, if it was looked at
abbrev pub found_when : Bool → ℕ → ℕ → Bool → Option Found
found_when true count channels ended = Some (found_now count channels ended)
found_when false count channels ended = None

abbrev pub tape_pass : List Rec → List (ChannelDef × ℕ) → List CallRefused → Option Found → PassState
tape_pass records channels reasons found = record
    { own = with_places 0 records; named = numbered_from 1 channels; fulls = []; lacks = []; reasons = reasons; found = found; limit = 1 }
