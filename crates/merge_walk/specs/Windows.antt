-- What a window holds.
use Rattle.std.specs.Prelude.{List}
use Rattle.merge_walk.specs.declared.window.Loaded.{Loaded}
use Rattle.merge_walk.specs.declared.window.Window.{Window}

-- the parts that are loaded, in the order of loading
abbrev pub loaded_in : Window → List Loaded
loaded_in w = w.loaded.items
