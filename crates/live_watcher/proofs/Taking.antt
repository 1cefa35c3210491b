-- What a sink took, in several calls.
use Rattle.std.proofs.Common.{ℕ, List, [], ◌++◌, take, drop, Option, Some, sym, ap, ◌∙◌, inr, append_assoc}
use Rattle.std.proofs.lemmas.List.{take-append-drop, append-nil}
use Rattle.mcap_io.specs.Outside.{Adds, AddsPart}
use Rattle.live_watcher.specs.Watching.{TakesSuchText}
use Rattle.live_watcher.specs.Putting.{IsPartOf}

pub takes_more : (P Q R : List ℕ → Type 0) (old mid new : Option (List ℕ)) → ((s t : List ℕ) → P s → Q t → R (s ++ t)) → TakesSuchText P old mid → TakesSuchText Q mid new → TakesSuchText R old new
takes_more P Q R old mid new both first second before told =
    let a = first before told in
    let b = second (before ++ a.0) a.2 in
    (a.0 ++ b.0, both a.0 b.0 a.1 b.1, b.2 ∙ ap Some (append_assoc before a.0 b.0))

pub takes_as : (P Q : List ℕ → Type 0) (old new : Option (List ℕ)) → ((t : List ℕ) → P t → Q t) → TakesSuchText P old new → TakesSuchText Q old new
takes_as P Q old new is took before told = let a = took before told in (a.0, is a.0 a.1, a.2)

pub takes_none : (P : List ℕ → Type 0) (old : Option (List ℕ)) → P [] → TakesSuchText P old old
takes_none P old p before told = ([], p, told ∙ ap Some (sym (append-nil before)))

pub takes_bytes : (P : List ℕ → Type 0) (old new : Option (List ℕ)) (bytes : List ℕ) → P bytes → Adds old new bytes → TakesSuchText P old new
takes_bytes P old new bytes p adds before told = (bytes, p, adds before told)

pub takes_part : (P : List ℕ → Type 0) (old new : Option (List ℕ)) (bytes : List ℕ) → P bytes → AddsPart old new 0 bytes → TakesSuchText (IsPartOf P) old new
takes_part P old new bytes p adds before told =
    let q = adds before told in
    (take q.0 bytes, inr (bytes, p, (drop q.0 bytes, take-append-drop q.0 bytes)), q.3)
