-- A scene of its parts.
use Rattle.mcap_io.specs.Outside.{SinkState, WorldState}
use Rattle.command_base.specs.Ran.{Scene}

abbrev pub scene : WorldState → SinkState → SinkState → Scene
scene world out err = record { world = world; out = out; err = err }
