use Rattle.command_base.proofs.Behind.{all_put, puts_behind}
use Rattle.command_base.proofs.complaining.refuse_words.Goals as goal

pub returns : goal.returns
returns g c =
    let both = puts_behind _ _ _ _ _ _ _ _ c.put_text.ensures c.put_text-2.ensures in
    all_put _ _ _ _ _ _ _ c.new-waiting.ensures.broken c.new-waiting.ensures.bytes both c.write_out.ensures.puts c.write_out.ensures.none
