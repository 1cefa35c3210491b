-- The messages that a printer holds.
use Rattle.std.specs.Prelude.{List}
use Rattle.mcap_model.specs.declared.replay.Shown.{Shown}
use Rattle.time_player.specs.declared.messages.Messages.{Messages}
use Rattle.time_player.specs.declared.messages.Messages.TheVariants as forms
use Rattle.time_player.specs.Keeping.{kept_in}

abbrev pub messages_in : Messages → List Shown
messages_in (forms.Owned shown) = shown.items
messages_in (forms.Kept kept) = kept_in kept
