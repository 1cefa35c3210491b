-- All the values of a name stand in its row.
use Rattle.std.proofs.Common.{◌≡◌, ◌∙◌, List, ℕ, Option, Some, None, [], ap, sym}
use Rattle.std.specs.Prelude.{MatchOption, option_map, unwrap_or}
use Rattle.std.specs.Borrow.{Bor}
use Rattle.clap.specs.Words.{found_of}
use Rattle.clap.proofs.WalkLemmas.{raw_values-rows}
use Rattle.command_words.specs.Items.{Word, texts}
use Rattle.command_words.proofs.found.values_of.Goals as goal

all_are : (result : Option (Bor (List (Bor (List ℕ))))) (there : Option (List Word)) → option_map (λ s. texts s.now) result ≡ there → MatchOption result (unwrap_or there [] ≡ []) (λ values. texts values.now ≡ unwrap_or there [])
all_are None there is = ap (λ (o : Option (List Word)). unwrap_or o []) (sym is)
all_are (Some values) there is = ap (λ (o : Option (List Word)). unwrap_or o []) is

pub returns : goal.returns
returns c = all_are c.get_strs.result _ (c.get_strs.ensures ∙ raw_values-rows (found_of c.args.found.now) c.args.name.now)
