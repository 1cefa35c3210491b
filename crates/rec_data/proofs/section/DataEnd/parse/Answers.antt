use Rattle.std.proofs.Common.{rules}
use Rattle.rec_data.proofs.Contents.{data_end_none}
use Rattle.rec_data.proofs.section.DataEnd.parse.Goals as goal

pub returns-in_err-data_section_crc-clause-none : goal.returns-in_err-data_section_crc-clause-none
returns-in_err-data_section_crc-clause-none c = data_end_none c.args.content.now c.from_residual.result (search rules)
