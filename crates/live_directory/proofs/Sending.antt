-- Batches on their way to the readers.
use Rattle.std.proofs.Common.{◌≡◌, List, [], ◌∷◌, ◌++◌, Option, Some, None, refl, sym, ◌∙◌, ap, append_assoc, append-nil}
use Rattle.std.specs.Prelude.{Bool, true, false}
use Rattle.live_entry.specs.declared.entry.Entry.{Entry}
use Rattle.mcap_model.specs.declared.ends.End.{End}
use Rattle.live_directory.specs.declared.front.Added.{Added}
use Rattle.live_directory.specs.Published.{entries_of, end_of}
use Rattle.live_directory.specs.Histories.{added_batch}
use Rattle.live_directory.specs.Writing.{OutboxState, outbox_history, unseen, seen_of, Waits, EndAdded, EndWaits, Publishes, Defers, Seals, StaysUnsealed}
use Rattle.live_directory.proofs.Histories.{entries_of-append, entries_of_snoc, end_of_snoc}

module _ {X : Type 0} where
  -- of an empty list both parts are empty
  none_joined : (xs ys : List (Added X)) → xs ++ ys ≡ [] → (xs ≡ []) × (ys ≡ [])
  none_joined [] ys e = (refl, e)
  none_joined (x ∷ xs) ys e = absurd (cc (e))

  -- the outbox with this behind
  abbrev pub sent : OutboxState X → List (Added X) → OutboxState X
  sent o behind = record { shown = o.shown; behind = behind; listed = []; unlisted = [] }

  pub none_waits : (o : OutboxState X) → unseen o ≡ [] → (o.listed ≡ []) × (o.unlisted ≡ [])
  none_waits o e = none_joined o.listed o.unlisted (none_joined o.behind (o.listed ++ o.unlisted) e).1

  pub all_shown : (o : OutboxState X) → unseen o ≡ [] → outbox_history o ≡ o.shown
  all_shown o e =
      let behind = (none_joined o.behind (o.listed ++ o.unlisted) e).0 in
      let listed = (none_waits o e).0 in
      (λ i. o.shown ++ (behind i ++ listed i)) ∙ append-nil o.shown

  -- ---- publishing

  pub publishes : (o n s : OutboxState X) (entries : List (Entry X)) (short : Bool) (note : List (Added X)) → unseen o ≡ []
      → n ≡ sent o (o.behind ++ added_batch entries None ∷ [])
      → s ≡ record { shown = n.shown ++ n.behind; behind = []; listed = n.listed; unlisted = n.unlisted }
      → note ≡ outbox_history s → short ≡ false → end_of o.shown ≡ None
      → Publishes (seen_of o short) (seen_of s short) entries note
  publishes o n s entries short note e is shown noted not_short unsealed =
      let behind = (none_joined o.behind (o.listed ++ o.unlisted) e).0 in
      let here : n.behind ≡ added_batch entries None ∷ [] = ap (λ x. x.behind) is ∙ ap (λ (l : List (Added X)). l ++ added_batch entries None ∷ []) behind in
      let listed : s.listed ≡ [] = ap (λ x. x.listed) shown ∙ ap (λ x. x.listed) is in
      let unlisted : s.unlisted ≡ [] = ap (λ x. x.unlisted) shown ∙ ap (λ x. x.unlisted) is in
      let none : s.behind ≡ [] = ap (λ x. x.behind) shown in
      let now : s.shown ≡ o.shown ++ added_batch entries None ∷ [] = ap (λ x. x.shown) shown ∙ (λ i. (is i).shown ++ here i) in record {
        shown = now;
        unsealed = ap end_of now ∙ end_of_snoc o.shown (added_batch entries None) unsealed;
        pending = ap entries_of (λ i. none i ++ (listed i ++ unlisted i));
        short = not_short;
        note_is = noted ∙ (λ i. s.shown ++ (none i ++ listed i)) ∙ append-nil s.shown;
      }

  pub defers_waiting : (o n : OutboxState X) (entries : List (Entry X)) (short : Bool) → unseen o ≡ [] → Waits o n (added_batch entries None)
      → Defers (seen_of o short) (seen_of n true) entries
  defers_waiting o n entries short e w =
      let behind = (none_joined o.behind (o.listed ++ o.unlisted) e).0 in
      let all : unseen n ≡ added_batch entries None ∷ [] = (λ i. w.behind i ++ w.waits i) ∙ ap (λ (l : List (Added X)). l ++ added_batch entries None ∷ []) behind in record {
        shown = w.shown;
        pending = ap entries_of all ∙ append-nil entries ∙ sym (ap (λ (l : List (Added X)). entries_of l ++ entries) e);
        short = refl;
      }

  pub defers_shown : (o n s : OutboxState X) (entries : List (Entry X)) (short : Bool) → unseen o ≡ []
      → n ≡ sent o (o.behind ++ added_batch entries None ∷ []) → s ≡ n
      → Defers (seen_of o short) (seen_of s true) entries
  defers_shown o n s entries short e is same =
      let behind = (none_joined o.behind (o.listed ++ o.unlisted) e).0 in
      let all : unseen s ≡ added_batch entries None ∷ [] =
      ap unseen (same ∙ is) ∙ append-nil (o.behind ++ added_batch entries None ∷ []) ∙ ap (λ (l : List (Added X)). l ++ added_batch entries None ∷ []) behind in record {
        shown = ap (λ x. x.shown) (same ∙ is);
        pending = ap entries_of all ∙ append-nil entries ∙ sym (ap (λ (l : List (Added X)). entries_of l ++ entries) e);
        short = refl;
      }

  -- ---- sealing

  -- a batch without entries adds none
  none_more : (xs : List (Added X)) (end : Option End) → entries_of (xs ++ added_batch [] end ∷ []) ≡ entries_of xs
  none_more xs end = entries_of_snoc xs (added_batch [] end) ∙ append-nil (entries_of xs)

  pub end_added : (o n : OutboxState X) (end : End) → o.listed ≡ [] → end_of (outbox_history o) ≡ None → n ≡ sent o (o.behind ++ added_batch [] (Some end) ∷ [])
      → EndAdded o n end
  end_added o n end listed unsealed is =
      let all : outbox_history o ≡ o.shown ++ o.behind = (λ i. o.shown ++ (o.behind ++ listed i)) ∙ ap (λ (l : List (Added X)). o.shown ++ l) (append-nil o.behind) in record {
        shown = ap (λ x. x.shown) is;
        listed = ap (λ x. x.listed) is;
        unlisted = ap (λ x. x.unlisted) is;
        entries = ap (λ x. entries_of x.behind) is ∙ none_more o.behind (Some end);
        ended = (λ i. end_of ((is i).shown ++ (is i).behind)) ∙ ap end_of (sym (append_assoc o.shown o.behind (added_batch [] (Some end) ∷ [])))
            ∙ end_of_snoc (o.shown ++ o.behind) (added_batch [] (Some end)) (ap end_of (sym all) ∙ unsealed);
      }

  pub end_waits : (o n : OutboxState X) (end : End) → o.listed ≡ [] → o.unlisted ≡ [] → Waits o n (added_batch [] (Some end)) → EndWaits o n
  end_waits o n end listed unlisted w =
      let was : unseen o ≡ o.behind = (λ i. o.behind ++ (listed i ++ unlisted i)) ∙ append-nil o.behind in record {
        shown = w.shown;
        entries = ap entries_of (λ i. w.behind i ++ w.waits i) ∙ none_more o.behind (Some end) ∙ sym (ap entries_of was);
      }

  -- a batch that waited was settled, the end was added and all was shown
  pub seals : (o t n s : OutboxState X) (end : End) (short now_short : Bool) (note : List (Added X)) → o.unlisted ≡ []
      → t ≡ record { shown = o.shown; behind = o.behind ++ o.listed; listed = []; unlisted = o.unlisted }
      → EndAdded t n end
      → s ≡ record { shown = n.shown ++ n.behind; behind = []; listed = n.listed; unlisted = n.unlisted }
      → note ≡ outbox_history s
      → Seals (seen_of o short) (seen_of s now_short) end note
  seals o t n s end short now_short note unlisted settled ending shown noted =
      let same : n.shown ≡ o.shown = ending.shown ∙ ap (λ x. x.shown) settled in
      let now : s.shown ≡ o.shown ++ n.behind = ap (λ x. x.shown) shown ∙ ap (λ (l : List (Added X)). l ++ n.behind) same in
      let none : s.behind ≡ [] = ap (λ x. x.behind) shown in
      let listed : s.listed ≡ [] = ap (λ x. x.listed) shown ∙ ending.listed in
      let left : s.unlisted ≡ [] = ap (λ x. x.unlisted) shown ∙ ending.unlisted in
      let was : unseen o ≡ o.behind ++ o.listed = (λ i. o.behind ++ (o.listed ++ unlisted i)) ∙ ap (λ (l : List (Added X)). o.behind ++ l) (append-nil o.listed) in
      let some : entries_of n.behind ≡ entries_of (unseen o) = ending.entries ∙ ap (λ x. entries_of x.behind) settled ∙ sym (ap entries_of was) in record {
        grows = (n.behind, sym now);
        entries = ap entries_of now ∙ entries_of-append o.shown n.behind ∙ ap (λ (es : List (Entry X)). entries_of o.shown ++ es) some;
        sealed = ap end_of (ap (λ x. x.shown) shown) ∙ ending.ended;
        pending = ap entries_of (λ i. none i ++ (listed i ++ left i));
        note_is = noted ∙ (λ i. s.shown ++ (none i ++ listed i)) ∙ append-nil s.shown;
      }

  pub stays_unsealed : (o t n s : OutboxState X) (end : End) (short : Bool) → o.unlisted ≡ []
      → t ≡ record { shown = o.shown; behind = o.behind ++ o.listed; listed = []; unlisted = o.unlisted }
      → EndAdded t n end → s ≡ n
      → StaysUnsealed (seen_of o short) (seen_of s true)
  stays_unsealed o t n s end short unlisted settled ending same =
      let was : unseen o ≡ o.behind ++ o.listed = (λ i. o.behind ++ (o.listed ++ unlisted i)) ∙ ap (λ (l : List (Added X)). o.behind ++ l) (append-nil o.listed) in
      let now : unseen s ≡ n.behind = ap unseen same ∙ (λ i. n.behind ++ (ending.listed i ++ ending.unlisted i)) ∙ append-nil n.behind in record {
        shown = ap (λ x. x.shown) same ∙ ending.shown ∙ ap (λ x. x.shown) settled;
        pending = ap entries_of now ∙ ending.entries ∙ ap (λ x. entries_of x.behind) settled ∙ sym (ap entries_of was);
        short = refl;
      }
