use Rattle.command_base.proofs.Behind.{all_put}
use Rattle.command_base.proofs.Asked.{said_of_all}
use Rattle.command_base.proofs.Taken.{takes_same}
use Rattle.command_base.proofs.complaining.complain_of.Goals as goal

pub returns : goal.returns
returns g c = record {
  status_is = c.status.ensures;
  text = takes_same _ _ _ _ (said_of_all c.args.complaints.now) (all_put _ _ _ _ _ _ _ c.new-waiting.ensures.broken c.new-waiting.ensures.bytes c.put_lines.ensures c.write_out.ensures.puts c.write_out.ensures.none);
}
