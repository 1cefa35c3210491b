use Rattle.command_base.proofs.Behind.{all_put}
use Rattle.command_base.proofs.complaining.tell.Goals as goal

pub returns : goal.returns
returns g c = all_put _ _ _ _ _ _ _ c.new-waiting.ensures.broken c.new-waiting.ensures.bytes c.put_text.ensures c.write_out.ensures.puts c.write_out.ensures.none
