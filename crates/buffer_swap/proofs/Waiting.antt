-- Calls that wait while the buffer is full.
use Rattle.std.proofs.Common.{◌≡◌, ℕ, ◌≤◌, List, [], length, true, Option, Some, Result, Ok, Err, refl, sym, ap, subst, inl, inr, ◌∙◌, arith}
use Rattle.rec_data.specs.declared.owned.Rec.{Rec}
use Rattle.rec_data.specs.declared.channel.ChannelDef.{ChannelDef}
use Rattle.record_core.specs.Desk.{DeskView, found_of}
use Rattle.history_ids.specs.DeclarationFields.{declared_size}
use Rattle.record_core.specs.declared.answers.Declared.{Declared}
use Rattle.record_core.specs.declared.answers.Found.{Found}
use Rattle.record_core.specs.declared.answers.NewMessage.{NewMessage}
use Rattle.record_core.specs.declared.answers.CallRefused.{CallRefused}
use Rattle.record_core.specs.declared.answers.CallRefused.TheVariants as refusing
use Rattle.feed_lane.specs.Pass.{PassState}
use Rattle.feed_lane.specs.PassCalls.{IsLater, Finds, with_found, MayTakeMessage, HasPlace, GetsId, PublishedBy, DeclaredInto}
use Rattle.buffer_swap.specs.Plays.{Sat, Stood, Took, taking, frees}
use Rattle.buffer_swap.specs.Calls.{counts_message, pass_published, counts_declared, pass_declared, pass_named, TriedInTurn, NamedInTurn, reasoned, PublishesMessage, DeclaresChannel, LooksOn, NotFull, NeverFull}
use Rattle.buffer_swap.specs.declared.view.View.{View}
use Rattle.buffer_swap.proofs.Publishing.{finds, published_answer, declared_answer}

-- ---- one turn

same_pass_published : (v : View) (result : Result ℕ CallRefused) → NotFull result → v.pass ≡ pass_published v result
same_pass_published v (Ok place) unfull = refl
same_pass_published v (Err (refusing.Full held from to)) unfull = absurd (unfull held from to refl)
same_pass_published v (Err refusal) unfull = refl

abbrev freed_with : View → PassState → Sat
freed_with v pass = (frees v pass, [])

pub tried_published : (m n behind : Sat) (message : NewMessage) (result : Result ℕ CallRefused) → Took m n → m.0.post.seated ≡ true → length message.payload.now ≤ 33554432
    → TriedInTurn n message result behind → NotFull result → PublishesMessage m.0.pass behind.0.pass message result
tried_published m n behind message result took seated small tried unfull =
    let v = counts_message n.0 tried.after result in
    published_answer m n behind message result took seated small (record {
      after = tried.after;
      published = tried.published;
      is = tried.is ∙ ap (freed_with v) (same_pass_published v result unfull);
    })

same_pass_declared : (v : View) (c : ChannelDef) (result : Result Declared CallRefused) → NeverFull result → pass_named v c result ≡ pass_declared v c result
same_pass_declared v c (Ok given) unfull = refl
same_pass_declared v c (Err (refusing.Full held from to)) unfull = absurd (unfull held from to refl)
same_pass_declared v c (Err refusal) unfull = refl

pub named_declared : (m n behind : Sat) (c : ChannelDef) (result : Result Declared CallRefused) → Took m n → m.0.post.seated ≡ true → declared_size c ≤ 1048576
    → NamedInTurn n c result behind → NeverFull result → DeclaresChannel m.0.pass behind.0.pass c result
named_declared m n behind c result took seated small named unfull =
    let v = counts_declared n.0 named.after result in
    declared_answer m n behind c result took seated small (record {
      after = named.after;
      declared = named.declared;
      few = named.few;
      is = named.is ∙ ap (freed_with v) (same_pass_declared v c result unfull);
    })

-- where the buffer was full, the pass has but looked
looked_on : (d : DeskView) (p : PassState) → Stood d p → LooksOn p (with_found p (found_of d))
looked_on d p stood = record { same = refl; later = λ last is. (found_of d, refl, (finds d p p.reasons stood).later last is) }

pub tried_full : (m n behind : Sat) (message : NewMessage) (result : Result ℕ CallRefused) (held from to : ℕ) → result ≡ Err (refusing.Full held from to) → Took m n → m.0.post.seated ≡ true
    → TriedInTurn n message result behind → LooksOn m.0.pass behind.0.pass
tried_full m n behind message result held from to is took seated tried =
    let it = subst (λ (r : Result ℕ CallRefused). TriedInTurn (taking m.0 took.missed took.d) message r behind) is (subst (λ (x : Sat). TriedInTurn x message result behind) took.is tried) in
    subst (λ (x : Sat). LooksOn m.0.pass x.0.pass) (sym it.is) (looked_on took.d m.0.pass (took.stood seated))

pub named_full : (m n behind : Sat) (c : ChannelDef) (result : Result Declared CallRefused) (held from to : ℕ) → result ≡ Err (refusing.Full held from to) → Took m n → m.0.post.seated ≡ true
    → NamedInTurn n c result behind → LooksOn m.0.pass behind.0.pass
named_full m n behind c result held from to is took seated named =
    let it = subst (λ (r : Result Declared CallRefused). NamedInTurn (taking m.0 took.missed took.d) c r behind) is (subst (λ (x : Sat). NamedInTurn x c result behind) took.is named) in
    subst (λ (x : Sat). LooksOn m.0.pass x.0.pass) (sym it.is) (looked_on took.d m.0.pass (took.stood seated))

-- ---- many turns

pub looks_self : (p : PassState) → LooksOn p p
looks_self p = record {
  same = refl;
  later = λ last is. (last, is, record { taken = omega arith; count = omega arith; schemas = omega arith; channels = omega arith; end = λ e there. there });
}

later_later : (a b c : Found) → IsLater a b → IsLater b c → IsLater a c
later_later a b c one other = record {
  taken = omega (arith, one.taken, other.taken);
  count = omega (arith, one.count, other.count);
  schemas = omega (arith, one.schemas, other.schemas);
  channels = omega (arith, one.channels, other.channels);
  end = λ e is. other.end e (one.end e is);
}

pub looks_on : (p q r : PassState) → LooksOn p q → LooksOn q r → LooksOn p r
looks_on p q r one other = record {
  same = other.same ∙ ap (λ (x : PassState). record x { found = r.found }) one.same;
  later = λ last is.
      let (now, there, first) = one.later last is in
      let (behind, here, second) = other.later now there in
      (behind, here, later_later last now behind first second);
}

-- what a pass that has but looked finds, the pass before finds
abbrev seen : PassState → Option Found → List CallRefused → PassState
seen p found reasons = record p { found = found; reasons = reasons }

-- an earlier look
abbrev Earlier : PassState → Option Found → Type 0
Earlier p found = (last : Found) → p.found ≡ Some last → (now : Found) × (found ≡ Some now) × IsLater last now

found_earlier : (p : PassState) (found : Option Found) (reasons : List CallRefused) (f : Found) → Earlier p found → Finds (seen p found reasons) f → Finds (reasoned p reasons) f
found_earlier p found reasons f earlier is = record {
  places = is.places;
  ids = is.ids;
  later = λ last there. let (now, here, first) = earlier last there in later_later last now f first (is.later now here);
  within = is.within;
}

may_earlier : (p : PassState) (found : Option Found) (reasons : List CallRefused) (f : Found) (channel : ℕ) → Earlier p found → MayTakeMessage (seen p found reasons) f channel → MayTakeMessage (reasoned p reasons) f channel
may_earlier p found reasons f channel earlier may = record {
  finds = found_earlier p found reasons f earlier may.finds;
  unended = may.unended;
  known = may.known;
  place = record { few = may.place.few; room = may.place.room };
}

abbrev NotTooLarge : Result ℕ CallRefused → Type 0
NotTooLarge result = (len : ℕ) → result ≡ Err (refusing.TooLarge len) → ⊥

published_earlier : (p after : PassState) (found : Option Found) (reasons : List CallRefused) (m : NewMessage) (result : Result ℕ CallRefused) → Earlier p found
    → NotTooLarge result → PublishedBy (seen p found reasons) after m result → PublishedBy (reasoned p reasons) after m result
published_earlier p after found reasons m (Ok place) earlier short is = (is.0, is.1, may_earlier p found reasons is.0 m.channel earlier is.2, is.3, is.4)
published_earlier p after found reasons m (Err (refusing.TooLarge len)) earlier short is = absurd (short len refl)
published_earlier p after found reasons m (Err (refusing.Closed at)) earlier short is = (is.0, is.1, found_earlier p found reasons is.0 earlier is.2, is.3, is.4, is.5)
published_earlier p after found reasons m (Err (refusing.Stopped at stop)) earlier short is = (is.0, is.1, found_earlier p found reasons is.0 earlier is.2, is.3, is.4, is.5)
published_earlier p after found reasons m (Err refusing.UnknownChannel) earlier short is = (is.0, is.1, found_earlier p found reasons is.0 earlier is.2, is.3, is.4, is.5)
published_earlier p after found reasons m (Err (refusing.TooManyRecords count)) earlier short is = (is.0, is.1, found_earlier p found reasons is.0 earlier is.2, is.3, is.4, is.5, is.6, is.7)
published_earlier p after found reasons m (Err refusing.TooManySchemas) earlier short is = absurd is
published_earlier p after found reasons m (Err refusing.TooManyChannels) earlier short is = absurd is
published_earlier p after found reasons m (Err refusing.Memory) earlier short is = absurd is
published_earlier p after found reasons m (Err (refusing.Full held from to)) earlier short is = (is.0, is.1, found_earlier p found reasons is.0 earlier is.2, is.3, is.4, is.5, is.6, is.7, is.8)

-- a message short enough isn't refused for its size
short_enough : (before after : PassState) (m : NewMessage) (result : Result ℕ CallRefused) (reasons : List CallRefused) → length m.payload.now ≤ 33554432 → PublishedBy before after m result → NotTooLarge result
short_enough before after m result reasons small is len there =
    let it = subst (PublishedBy before after m) there is in
    omega (arith, it.0, it.1, small)

pub published_behind : (p q after : PassState) (m : NewMessage) (result : Result ℕ CallRefused) → LooksOn p q → length m.payload.now ≤ 33554432 → PublishesMessage q after m result → PublishesMessage p after m result
published_behind p q after m result looks small publishes reasons =
    let (more, is) = publishes reasons in
    let there = subst (λ (x : PassState). PublishedBy (reasoned x reasons) (reasoned after more) m result) looks.same is in
    (more, published_earlier p (reasoned after more) q.found reasons m result looks.later (short_enough _ _ m result reasons small is) there)

place_earlier : (p : PassState) (found : Option Found) (reasons : List CallRefused) (f : Found) → HasPlace (seen p found reasons) f → HasPlace (reasoned p reasons) f
place_earlier p found reasons f has = record { few = has.few; room = has.room }

gets_earlier : (p : PassState) (found : Option Found) (reasons : List CallRefused) (f : Found) (channel : ℕ) (records : List Rec) → GetsId (seen p found reasons) f channel records → GetsId (reasoned p reasons) f channel records
gets_earlier p found reasons f channel records gets = elim gets [
  | inl known ↦ inl known
  | inr next ↦ inr (record { next = next.next; some = next.some; place = place_earlier p found reasons f next.place; channels = next.channels; schemas = next.schemas })
]

abbrev NotTooWide : Result Declared CallRefused → Type 0
NotTooWide result = (len : ℕ) → result ≡ Err (refusing.TooLarge len) → ⊥

declared_earlier : (p after : PassState) (found : Option Found) (reasons : List CallRefused) (c : ChannelDef) (result : Result Declared CallRefused) → Earlier p found
    → NotTooWide result → DeclaredInto (seen p found reasons) after c result → DeclaredInto (reasoned p reasons) after c result
declared_earlier p after found reasons c (Ok given) earlier short is = (is.0, is.1, is.2, found_earlier p found reasons is.0 earlier is.3, is.4, is.5, is.6, is.7, gets_earlier p found reasons is.0 given.channel is.1 is.8, is.9)
declared_earlier p after found reasons c (Err (refusing.TooLarge len)) earlier short is = absurd (short len refl)
declared_earlier p after found reasons c (Err (refusing.Closed at)) earlier short is = (is.0, is.1, found_earlier p found reasons is.0 earlier is.2, is.3, is.4, is.5)
declared_earlier p after found reasons c (Err (refusing.Stopped at stop)) earlier short is = (is.0, is.1, found_earlier p found reasons is.0 earlier is.2, is.3, is.4, is.5)
declared_earlier p after found reasons c (Err (refusing.TooManyRecords count)) earlier short is = (is.0, is.1, found_earlier p found reasons is.0 earlier is.2, is.3, is.4, is.5, is.6, is.7)
declared_earlier p after found reasons c (Err refusing.UnknownChannel) earlier short is = absurd is
declared_earlier p after found reasons c (Err (refusing.Full held from to)) earlier short is = (is.0, is.1, found_earlier p found reasons is.0 earlier is.2, is.3, is.4, is.5, is.6, is.7, is.8)
declared_earlier p after found reasons c (Err refusing.TooManySchemas) earlier short is = (is.0, is.1, found_earlier p found reasons is.0 earlier is.2, is.3, is.4, place_earlier p found reasons is.0 is.5, is.6, is.7)
declared_earlier p after found reasons c (Err refusing.TooManyChannels) earlier short is = (is.0, is.1, found_earlier p found reasons is.0 earlier is.2, is.3, is.4, place_earlier p found reasons is.0 is.5, is.6, is.7)
declared_earlier p after found reasons c (Err refusing.Memory) earlier short is = (is.0, is.1, found_earlier p found reasons is.0 earlier is.2, is.3, is.4, place_earlier p found reasons is.0 is.5, is.6, is.7)

narrow_enough : (before after : PassState) (c : ChannelDef) (result : Result Declared CallRefused) → declared_size c ≤ 1048576 → DeclaredInto before after c result → NotTooWide result
narrow_enough before after c result small is len there =
    let it = subst (DeclaredInto before after c) there is in
    omega (arith, it.0, it.1, small)

pub declared_behind : (p q after : PassState) (c : ChannelDef) (result : Result Declared CallRefused) → LooksOn p q → declared_size c ≤ 1048576 → DeclaresChannel q after c result → DeclaresChannel p after c result
declared_behind p q after c result looks small declares reasons =
    let (more, is) = declares reasons in
    let there = subst (λ (x : PassState). DeclaredInto (reasoned x reasons) (reasoned after more) c result) looks.same is in
    (more, declared_earlier p (reasoned after more) q.found reasons c result looks.later (narrow_enough _ _ c result small is) there)
