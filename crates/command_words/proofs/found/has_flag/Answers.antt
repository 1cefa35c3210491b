-- The text of a flag stands in its row.
use Rattle.std.proofs.Common.{◌≡◌, ◌∙◌, Bool, true, false, Some, codes}
use Rattle.clap.specs.Words.{found_of, one_of, one_text, rows_of}
use Rattle.clap.specs.Values.{bool_text}
use Rattle.clap.specs.declared.parser.matches.Found.{Found}
use Rattle.clap.proofs.WalkLemmas.{one_text-rows}
use Rattle.command_words.proofs.found.has_flag.Goals as goal

flag_is : (f : Found) (id : _) (flag : Bool) → (one_text f id ≡ Some (codes "true") → flag ≡ true) → (one_text f id ≡ Some (codes "false") → flag ≡ false)
    → (is_there : Bool) → one_of id (rows_of f) ≡ Some (bool_text is_there) → flag ≡ is_there
flag_is f id flag when_true when_false true is = when_true (one_text-rows f id ∙ is)
flag_is f id flag when_true when_false false is = when_false (one_text-rows f id ∙ is)

pub returns : goal.returns
returns c = flag_is (found_of c.args.found.now) c.args.name.now c.get_flag.result c.get_flag.ensures.value c.get_flag.ensures.other
