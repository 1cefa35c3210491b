-- The command line as it is given to the parser: a command with a subcommand for each of the commands.
use Rattle.std.specs.Prelude.{◌≡◌, true, false, List, [], ◌∷◌, ◌++◌, codes, fold, map, Option, Some, None}
use Rattle.clap.specs.Words.{App, Rule, app_of, new_app, new_rule, with_rule, with_subcommand}
use Rattle.clap.specs.Simple.{new_shape}
use Rattle.clap.specs.declared.builder.action.ArgAction.TheVariants.{Append, SetTrue}
use Rattle.clap.specs.declared.builder.command.Command.{Command}
use Rattle.clap.specs.declared.builder.command.Command.TheViews.{out-Command}
use Rattle.command_words.specs.Synopses.{Synopsis}
use Rattle.command_words.specs.Defaults.{Word}
use Rattle.command_words.specs.Commands.{synopsis_of, verbs}
use Rattle.command_words.specs.declared.command.FileCommand.{FileCommand}
use Rattle.command_words.specs.declared.verbs.Verb.{Verb}
use Rattle.command_words.specs.declared.verbs.Verb.TheVariants.{OfFile}

abbrev pub flag_given : Word → Rule
flag_given name = record (new_rule name) { long = Some name; action = Some SetTrue }

abbrev pub option_given : Word → Rule
option_given name = record (new_rule name) { long = Some name }

-- a positional that takes every word from its place on
abbrev pub rest_given : Word → Rule
rest_given name = record (new_rule name) { action = Some Append }

abbrev pub rest_args : Option Word → List Rule
rest_args None = []
rest_args (Some name) = rest_given name ∷ []

-- a command's flags, options and positionals
abbrev pub args_given : Synopsis → List Rule
args_given s = map flag_given s.flags ++ (map option_given s.options ++ (new_rule s.first ∷ rest_args s.rest))

abbrev pub app_given : Synopsis → App
app_given s = fold with_rule (new_app s.name) (args_given s)

abbrev pub verb_app : Verb → App
verb_app verb = app_given (synopsis_of verb)

abbrev pub bare_top : App
bare_top = record {
  top = record (new_shape (codes "mcaprec")) {
    no_binary_name = true;
    disable_help_flag = true;
    disable_help_subcommand = true;
    subcommand_required = true;
  };
  subs = [];
}

abbrev pub with_verb : App → Verb → App
with_verb app verb = with_subcommand app (verb_app verb).top

abbrev pub with_command : App → FileCommand → App
with_command app what = with_verb app (OfFile what)

abbrev pub program : App
program = fold with_verb bare_top verbs

-- the command is this one, and no argument is shared with what stands below
pub record IsMade (app : App) (command : Command) : Type 0 where
  pub is : app_of command ≡ app
  pub alone : (out-Command command).has_globals ≡ false
