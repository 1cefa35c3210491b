-- The command, made argument by argument.
use Rattle.std.proofs.Common.{◌≡◌, ◌||◌, Bool, true, false, Result, Ok, IfOk, ap, ap₂, ◌∙◌, codes}
use Rattle.std.proofs.lemmas.Result.{IfOk-at_ok, IfOk-weaker}
use Rattle.clap.specs.Words.{AddsArg, AddsSubcommand, App, Rule, app_of, new_app, rule_of, with_rule, with_subcommand}
use Rattle.clap.specs.Simple.{app_of_fields}
use Rattle.clap.specs.declared.builder.arg.Arg.{Arg}
use Rattle.clap.specs.declared.builder.command.Command.{Command}
use Rattle.clap.specs.declared.builder.command.Command.TheOpen.{Command-F}
use Rattle.clap.specs.declared.builder.command.Command.TheViews.{out-Command}
use Rattle.command_words.specs.CommandLine.{IsMade, bare_top}

-- one argument more
pub made_arg : (app : App) (rule : Rule) (old new : Command) (a : Arg) → IsMade app old → AddsArg old a new → rule_of a ≡ rule → a.global ≡ false → IsMade (with_rule app rule) new
made_arg app rule old new a made adds is alone = record {
  is = adds.shape alone ∙ ap₂ with_rule made.is is;
  alone = adds.globals ∙ ap₂ (λ (x y : Bool). x || y) made.alone alone;
}

-- one subcommand more
pub made_sub : (app below : App) (old sub new : Command) → IsMade app old → IsMade below sub → AddsSubcommand old sub new → IsMade (with_subcommand app below.top) new
made_sub app below old sub new made is adds = record {
  is = adds.shape is.alone ∙ ap₂ with_subcommand made.is (ap (λ (x : App). x.top) is.is);
  alone = adds.globals ∙ ap₂ (λ (x y : Bool). x || y) made.alone is.alone;
}

abbrev without_name : Command-F Command → Command-F Command
without_name f = record f { no_binary_name = true }

abbrev without_help_flag : Command-F Command → Command-F Command
without_help_flag f = record f { disable_help_flag = true }

abbrev without_help_command : Command-F Command → Command-F Command
without_help_command f = record f { disable_help_subcommand = true }

abbrev with_subcommand_required : Command-F Command → Command-F Command
with_subcommand_required f = record f { subcommand_required = true }

-- where there was a command, so there is one with one argument more
pub more_args : {E : Type 0} (app : App) (rule : Rule) (old : Command) (was new : Result Command E) (a : Arg) → was ≡ Ok old → IfOk new (AddsArg old a) → rule_of a ≡ rule → a.global ≡ false → IfOk was (IsMade app) → IfOk new (IsMade (with_rule app rule))
more_args app rule old was new a there adds is alone made = IfOk-weaker new _ _ (λ more adding. made_arg app rule old more a (IfOk-at_ok (IsMade app) there made) adding is alone) adds

-- the program without its subcommands
pub made_top : (new one two three four : Command) → app_of new ≡ new_app (codes "mcaprec") → (out-Command new).has_globals ≡ false → out-Command one ≡ without_name (out-Command new) → out-Command two ≡ without_help_flag (out-Command one)
    → out-Command three ≡ without_help_command (out-Command two) → out-Command four ≡ with_subcommand_required (out-Command three) → IsMade bare_top four
made_top new one two three four is alone first second third fourth =
    let all : out-Command four ≡ with_subcommand_required (without_help_command (without_help_flag (without_name (out-Command new)))) = fourth ∙ ap with_subcommand_required (third ∙ ap without_help_command (second ∙ ap without_help_flag first)) in
    record {
      is = ap app_of_fields all ∙ ap (λ (a : App). record a { top = record a.top { no_binary_name = true; disable_help_flag = true; disable_help_subcommand = true; subcommand_required = true } }) is;
      alone = ap (λ (f : Command-F Command). f.has_globals) all ∙ alone;
    }
