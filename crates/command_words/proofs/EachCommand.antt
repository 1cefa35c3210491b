-- What holds of each command, a line for each: it is listed, it is of one variant, its words fit it, and they are those of no other.
use Rattle.std.proofs.Common.{◌≡◌, ◌⊎◌, Bool, true, false, List, [], ◌∷◌, ◌++◌, map, Option, Some, None, refl, sym, ap, subst, inl, inr, codes, arith}
use Rattle.std.specs.Prelude.{if◌then◌else◌}
use Rattle.std.specs.Str.{bytes_eq}
use Rattle.std.proofs.lemmas.Option.{same_Some}
use Rattle.command_words.specs.Items.{Word, given}
use Rattle.command_words.specs.Commands.{WordsMean, IsFilter, IsGenerate, IsMerge, IsPlay, IsRecover, IsSort, Rewrites, command_name, file_commands, file_synopsis, synopsis_of, verb_of, verbs}
use Rattle.command_words.specs.declared.command.FileCommand.{FileCommand}
use Rattle.command_words.specs.declared.command.FileFilter.{FileFilter}
use Rattle.command_words.specs.declared.command.FileMerge.{FileMerge}
use Rattle.command_words.specs.declared.command.FileRecovery.{FileRecovery}
use Rattle.command_words.specs.declared.command.FileSort.{FileSort}
use Rattle.command_words.specs.declared.command.Generation.{Generation}
use Rattle.command_words.specs.declared.command.Playing.{Playing}
use Rattle.command_words.specs.declared.command.Printing.{Printing}
use Rattle.command_words.specs.declared.command.Recording.{Recording}
use Rattle.command_words.specs.declared.command.Command.{Command}
use Rattle.command_words.specs.declared.command.Command.TheVariants.{Record, OfFile, Cat, Recover, Merge, Generate, Filter, Sort, Play}
use Rattle.command_words.specs.declared.verbs.Verb.{Verb}
use Rattle.command_words.specs.declared.verbs.Verb.TheVariants as verb
use Rattle.command_words.proofs.CommandLemmas.{Fitting, fit_cat, fit_file, fit_filter, fit_play, fit_record, fit_with, once_number}
use Rattle.command_words.proofs.OneCommand.{one_cat, one_file, one_filter, one_generate, one_merge, one_play, one_record, one_recover, one_sort}

-- the command is one of these
abbrev pub IsListed : List Verb → Verb → Type 0
IsListed [] verb = ⊥
IsListed (v ∷ some) verb = (verb ≡ v) ⊎ IsListed some verb

listed_left : (some more : List Verb) (v : Verb) → IsListed some v → IsListed (some ++ more) v
listed_left [] more v is = absurd is
listed_left (u ∷ some) more v (inl same) = inl same
listed_left (u ∷ some) more v (inr later) = inr (listed_left some more v later)

listed_right : (some more : List Verb) (v : Verb) → IsListed more v → IsListed (some ++ more) v
listed_right [] more v is = is
listed_right (u ∷ some) more v is = inr (listed_right some more v is)

-- the first of the commands of one file that has this name
abbrev first_named : Word → List FileCommand → Option FileCommand
first_named name [] = None
first_named name (w ∷ some) = if bytes_eq (command_name w) name then Some w else first_named name some

pick : (b : Bool) (w what : FileCommand) (rest : Option FileCommand) (more : List Verb) → (if b then Some w else rest) ≡ Some what → (rest ≡ Some what → IsListed more (verb.OfFile what)) → IsListed (verb.OfFile w ∷ more) (verb.OfFile what)
pick true w what rest more is later = inl (ap verb.OfFile (sym (same_Some w what is)))
pick false w what rest more is later = inr (later is)

listed_by : (name : Word) (some : List FileCommand) (what : FileCommand) → first_named name some ≡ Some what → IsListed (map verb.OfFile some) (verb.OfFile what)
listed_by name [] what is = cc
listed_by name (w ∷ some) what is = pick (bytes_eq (command_name w) name) w what (first_named name some) (map verb.OfFile some) is (listed_by name some what)

-- each of them is found by its name
found_again : (what : FileCommand) → first_named (command_name what) file_commands ≡ Some what
found_again what = grind arith

of_files : (what : FileCommand) → IsListed (map verb.OfFile file_commands) (verb.OfFile what)
of_files what = listed_by (command_name what) file_commands what (found_again what)

abbrev others : List Verb
others = verb.Cat ∷ verb.Recover ∷ verb.Merge ∷ verb.Generate ∷ verb.Filter ∷ verb.Sort ∷ verb.Play ∷ []

pub listed : (v : Verb) → IsListed verbs v
listed verb.Record = inl refl
listed (verb.OfFile what) = inr (listed_left (map verb.OfFile file_commands) others (verb.OfFile what) (of_files what))
listed verb.Cat = inr (listed_right (map verb.OfFile file_commands) others verb.Cat (inl refl))
listed verb.Recover = inr (listed_right (map verb.OfFile file_commands) others verb.Recover (inr (inl refl)))
listed verb.Merge = inr (listed_right (map verb.OfFile file_commands) others verb.Merge (inr (inr (inl refl))))
listed verb.Generate = inr (listed_right (map verb.OfFile file_commands) others verb.Generate (inr (inr (inr (inl refl)))))
listed verb.Filter = inr (listed_right (map verb.OfFile file_commands) others verb.Filter (inr (inr (inr (inr (inl refl))))))
listed verb.Sort = inr (listed_right (map verb.OfFile file_commands) others verb.Sort (inr (inr (inr (inr (inr (inl refl)))))))
listed verb.Play = inr (listed_right (map verb.OfFile file_commands) others verb.Play (inr (inr (inr (inr (inr (inr (inl refl))))))))

-- it holds of each command with this verb
abbrev pub OfVerb : Verb → (Command → Type 0) → Type 0
OfVerb verb.Record P = (recording : Recording) → P (Record recording)
OfVerb (verb.OfFile what) P = (file : Word) → P (OfFile (record { what = what; file = file }))
OfVerb verb.Cat P = (printing : Printing) → P (Cat printing)
OfVerb verb.Recover P = (recovery : FileRecovery) → P (Recover recovery)
OfVerb verb.Merge P = (merge : FileMerge) → P (Merge merge)
OfVerb verb.Generate P = (generation : Generation) → P (Generate generation)
OfVerb verb.Filter P = (filtering : FileFilter) → P (Filter filtering)
OfVerb verb.Sort P = (sorting : FileSort) → P (Sort sorting)
OfVerb verb.Play P = (playing : Playing) → P (Play playing)

of_its : (P : Command → Type 0) (command : Command) → OfVerb (verb_of command) P → P command
of_its P (Record recording) all = all recording
of_its P (OfFile inspection) all = all inspection.file
of_its P (Cat printing) all = all printing
of_its P (Recover recovery) all = all recovery
of_its P (Merge merge) all = all merge
of_its P (Generate generation) all = all generation
of_its P (Filter filtering) all = all filtering
of_its P (Sort sorting) all = all sorting
of_its P (Play playing) all = all playing

pub of_verb : (v : Verb) (P : Command → Type 0) → OfVerb v P → (command : Command) → verb_of command ≡ v → P command
of_verb v P all command same = of_its P command (subst (λ (u : Verb). OfVerb u P) (sym same) all)

-- the words behind a command fit it
pub fitting : (words : List Word) (command : Command) → WordsMean words command → Fitting (synopsis_of (verb_of command)) words
fitting words (Record recording) is = fit_record words recording is
fitting words (OfFile inspection) is = fit_file (file_synopsis (command_name inspection.what)) words inspection.file (command_name inspection.what, refl) is
fitting words (Cat printing) is = fit_cat words printing is
fitting words (Recover recovery) is =
    let one : Rewrites (synopsis_of verb.Recover) words recovery.input recovery.out recovery.chunk = is in
    fit_with (synopsis_of verb.Recover) words one.items (recovery.input ∷ recovery.out ∷ []) one.reads (once_number 1 67108864 (given (codes "chunk") one.items) one.size one.sized, tt) tt tt
fitting words (Merge merge) is =
    let one : IsMerge words merge = is in fit_with (synopsis_of verb.Merge) words one.items (merge.out ∷ merge.inputs) one.reads (once_number 1 67108864 (given (codes "chunk") one.items) one.size one.sized, tt) tt tt
fitting words (Filter filtering) is = fit_filter words filtering is
fitting words (Sort sorting) is =
    let one : Rewrites (synopsis_of verb.Sort) words sorting.input sorting.out sorting.chunk = is in
    fit_with (synopsis_of verb.Sort) words one.items (sorting.input ∷ sorting.out ∷ []) one.reads (once_number 1 67108864 (given (codes "chunk") one.items) one.size one.sized, tt) tt tt
fitting words (Play playing) is = fit_play words playing is
fitting words (Generate generation) is =
    let one : IsGenerate words generation = is in fit_with (synopsis_of verb.Generate) words one.items (one.seed_word ∷ one.feeds_word ∷ one.messages_word ∷ generation.out ∷ []) one.reads tt tt tt

-- two with one verb are the same
pub one_behind : (words : List Word) (a b : Command) → verb_of b ≡ verb_of a → WordsMean words a → WordsMean words b → b ≡ a
one_behind words (Record recording) b same is = of_verb verb.Record (λ c. WordsMean words c → c ≡ Record recording) (λ recording' other. ap Record (one_record words recording recording' is other)) b same
one_behind words (OfFile inspection) b same is =
    of_verb (verb.OfFile inspection.what) (λ c. WordsMean words c → c ≡ OfFile inspection)
    (λ file' other. ap (λ (f : Word). OfFile (record { what = inspection.what; file = f })) (one_file (file_synopsis (command_name inspection.what)) words inspection.file file' is other)) b same
one_behind words (Cat printing) b same is = of_verb verb.Cat (λ c. WordsMean words c → c ≡ Cat printing) (λ printing' other. ap Cat (one_cat words printing printing' is other)) b same
one_behind words (Recover recovery) b same is = of_verb verb.Recover (λ c. WordsMean words c → c ≡ Recover recovery) (λ recovery' other. ap Recover (one_recover words recovery recovery' is other)) b same
one_behind words (Merge merge) b same is = of_verb verb.Merge (λ c. WordsMean words c → c ≡ Merge merge) (λ merge' other. ap Merge (one_merge words merge merge' is other)) b same
one_behind words (Generate generation) b same is = of_verb verb.Generate (λ c. WordsMean words c → c ≡ Generate generation) (λ generation' other. ap Generate (one_generate words generation generation' is other)) b same
one_behind words (Filter filtering) b same is = of_verb verb.Filter (λ c. WordsMean words c → c ≡ Filter filtering) (λ filtering' other. ap Filter (one_filter words filtering filtering' is other)) b same
one_behind words (Sort sorting) b same is = of_verb verb.Sort (λ c. WordsMean words c → c ≡ Sort sorting) (λ sorting' other. ap Sort (one_sort words sorting sorting' is other)) b same
one_behind words (Play playing) b same is = of_verb verb.Play (λ c. WordsMean words c → c ≡ Play playing) (λ playing' other. ap Play (one_play words playing playing' is other)) b same
