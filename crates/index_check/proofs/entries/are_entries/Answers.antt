use Rattle.std.proofs.Common.{map, refl, sym, ◌∙◌}
use Rattle.std.proofs.lemmas.List.Sorted.{IsPermutation-refl}
use Rattle.index_check.specs.Messages.{entry_of}
use Rattle.index_check.proofs.Runs.{lists_run}
use Rattle.index_check.proofs.SortedEntries.{entries_right, entries_same}
use Rattle.index_check.proofs.entries.are_entries.Goals as goal

pub returns-then-are_listed : goal.returns-then-are_listed
returns-then-are_listed c = λ records holds.
    let run = c.on_channel-run.result.now in
    let entries = c.args.entries.now in
    let lists = lists_run records c.args.messages.now run c.args.channel holds c.on_channel-run.ensures.rises c.on_channel-run.ensures.among in (
      λ e. entries_right records c.args.channel (map entry_of run) entries entries lists (IsPermutation-refl entries) (c.are_listed.ensures.0 c.if-are_listed.true),
      λ right. refl,
    )

pub returns : goal.returns
returns c = λ records holds.
    let run = c.on_channel-run.result.now in
    let entries = c.args.entries.now in
    let sorted = c.in-Ok.sorted.items in
    let moved = c.in-Ok.ensures.same in
    let lists = lists_run records c.args.messages.now run c.args.channel holds c.on_channel-run.ensures.rises c.on_channel-run.ensures.among in (
      λ e. entries_right records c.args.channel (map entry_of run) entries sorted lists moved (c.are_listed-2.ensures.0 e ∙ c.of.ensures ∙ c.deref.ensures.value),
      λ right. c.are_listed-2.ensures.1 (entries_same records c.args.channel (map entry_of run) entries sorted lists moved c.in-Ok.ensures.order right ∙ sym (c.of.ensures ∙ c.deref.ensures.value)),
    )
