use Rattle.std.proofs.Common.{◌∙◌, ap, get_or}
use Rattle.mcap_crc.proofs.Gathering.{zeros_behind}
use Rattle.mcap_crc.proofs.gathered.with_zeros.Goals as goal

pub returns : goal.returns
returns c k = zeros_behind c.copy_from_slice.new.self 2400 3640 k ∙ ap (λ l. get_or l k 0) c.copy_from_slice.ensures.after
