use Rattle.mcap_crc.proofs.Entries.{entry_is}
use Rattle.mcap_crc.proofs.bytewise.entry.Goals as goal

pub returns : goal.returns
returns c = entry_is c.args.table c.args.byte c.requires.in_tables c.requires.in_table
