-- The troubles of complaints.
use Rattle.std.specs.Prelude.{ℕ, List, [], ◌∷◌, codes, Option, Some, None}
use Rattle.command_base.specs.declared.complaint.Complaint.{Complaint}
use Rattle.command_base.specs.declared.complaint.Complaint.TheVariants as complaints
use Rattle.command_base.specs.Texts.{Trouble, bad_line, compressed, fault, flaw, grammar, limit, no_memory, not_indexed, output_fault, output_limit}

-- what is said of words that are no command
abbrev pub bad_words_line : List ℕ
bad_words_line = codes "mcaprec: bad words\n"

-- the trouble of a complaint
abbrev pub trouble_of : Complaint → Trouble
trouble_of (complaints.Fault name) = fault name.now
trouble_of complaints.OutputFault = output_fault
trouble_of (complaints.Grammar name n) = grammar name.now n
trouble_of (complaints.Compressed name compression n) = compressed name.now compression.now n
trouble_of (complaints.Limit name n) = limit name.now n
trouble_of (complaints.OutputLimit name) = output_limit name.now
trouble_of (complaints.NotIndexed name why) = not_indexed name.now why
trouble_of (complaints.Flaw name rule n) = flaw name.now rule n
trouble_of (complaints.BadLine name n) = bad_line name.now n
trouble_of complaints.NoMemory = no_memory

-- that of a complaint that there may be
abbrev pub complained : Option Complaint → List Trouble
complained None = []
complained (Some complaint) = trouble_of complaint ∷ []
