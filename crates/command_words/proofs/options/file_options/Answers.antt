-- Where the words lack a chunk size or a profile there are no options.
use Rattle.command_words.proofs.options.file_options.Goals as goal

pub returns-in_default-clause-bad : goal.returns-in_default-clause-bad
returns-in_default-clause-bad c = λ items places shows why file is. c.in_default.ensures.bad items places shows file.chunk is.chunk

pub returns-in_default-profile_of-clause-bad : goal.returns-in_default-profile_of-clause-bad
returns-in_default-profile_of-clause-bad c = λ items places shows why file is. c.in_default-profile_of.ensures.bad items places shows file.profile is.profile
