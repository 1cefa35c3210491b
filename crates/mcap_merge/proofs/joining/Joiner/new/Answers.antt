use Rattle.mcap_merge.proofs.Joined.{stands_none}
use Rattle.mcap_merge.proofs.joining.Joiner.new.Goals as goal

pub returns-in-Ok-none_given-clause-stands : goal.returns-in-Ok-none_given-clause-stands
returns-in-Ok-none_given-clause-stands c = λ inputs.
    stands_none inputs (record { table = c.in-Ok.table; given = c.in-Ok-none_given.given }) c.in-Ok.ensures.0 c.in-Ok.ensures.1 c.in-Ok-none_given.ensures.none
