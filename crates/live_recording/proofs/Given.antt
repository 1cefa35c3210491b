-- What one publishing comes to.
use Rattle.std.proofs.Common.{◌≡◌, List, [], ◌∷◌, ◌++◌, None, inr, refl, sym, ap, subst, ◌∙◌, append-nil, append_assoc}
use Rattle.std.specs.Prelude.{Bool, true, false}
use Rattle.std.proofs.lemmas.Bool.{false≢true}
use Rattle.live_entry.specs.declared.entry.Entry.{Entry}
use Rattle.live_directory.specs.declared.front.Added.{Added}
use Rattle.live_directory.specs.Published.{entries_of, end_of}
use Rattle.live_directory.specs.Histories.{added_batch}
use Rattle.live_directory.specs.Writing.{DirectoryState, Publishes, Defers}
use Rattle.live_recording.specs.Publishing.{Board, KnowsLack, GivesTo, entries_held}

entries_more : {X : Type 0} (history : List (Added X)) (entries : List (Entry X)) → entries_of (history ++ added_batch entries None ∷ []) ≡ entries_of history ++ entries
entries_more [] entries = append-nil entries
entries_more (a ∷ more) entries = ap (λ (l : List (Entry _)). a.entries ++ l) (entries_more more entries) ∙ sym (append_assoc a.entries (entries_of more) entries)

none_behind : {A : Type 0} (xs ys : List A) → xs ++ ys ≡ [] → ys ≡ []
none_behind [] ys is = is
none_behind (x ∷ xs) ys is = absurd (cc is)

abbrev pub board : {X : Type 0} → DirectoryState X → Bool → Bool → Board X
board directory short lost = record { directory = directory; short = short; lost = lost }

pub gives_same : {X : Type 0} (before now : Board X) (one other : List (Entry X)) → one ≡ other → GivesTo before now one → GivesTo before now other
gives_same before now one other is gives = subst (λ (l : List (Entry _)). GivesTo before now l) is gives

module _ {X : Type 0} (before now : DirectoryState X) (short lost : Bool) (entries : List (Entry X)) (none : short ≡ false) (known : KnowsLack (board before short lost)) where
  unlost : lost ≡ true → ⊥
  unlost is = false≢true (sym (known.all none).0 ∙ is)

  pub published_so : (note : List (Added X)) → Publishes before now entries note → GivesTo (board before short lost) (board now short lost) entries
  published_so note done = record {
    missing = [];
    held = append-nil (entries_held now) ∙ ap (λ (l : List (Entry X)). entries_of now.shown ++ l) done.pending ∙ append-nil (entries_of now.shown) ∙ ap (λ (h : List (Added X)). entries_of h) done.shown ∙ entries_more before.shown entries
        ∙ ap (λ (l : List (Entry X)). l ++ entries) (sym (append-nil (entries_of before.shown)) ∙ ap (λ (l : List (Entry X)). entries_of before.shown ++ l) (sym (known.all none).1));
    whole = λ is. refl;
    lost_so = λ is. absurd (unlost is);
    stays = λ is. absurd (unlost is);
    unsealed = λ is. done.unsealed;
    known = λ was. record { short = none ∙ sym done.short; all = λ is. ((known.all none).0, done.pending); some = λ is. absurd (false≢true (sym none ∙ is)) };
  }

  pub deferred_so : (entries ≡ [] → ⊥) → Defers before now entries → GivesTo (board before short lost) (board now true lost) entries
  deferred_so some done = record {
    missing = [];
    held = append-nil (entries_held now) ∙ ap (λ (h : List (Added X)). entries_of h ++ now.pending) done.shown ∙ ap (λ (l : List (Entry X)). entries_of before.shown ++ l) done.pending
        ∙ sym (append_assoc (entries_of before.shown) before.pending entries);
    whole = λ is. refl;
    lost_so = λ is. absurd (unlost is);
    stays = λ is. absurd (unlost is);
    unsealed = λ is. ap (λ (h : List (Added X)). end_of h) done.shown ∙ is;
    known = λ was. record { short = sym done.short; all = λ is. absurd (false≢true (sym is)); some = λ is none_waits. some (none_behind before.pending entries (sym done.pending ∙ none_waits)) };
  }

-- entries that come behind a want of memory are lost
pub dropped_so : {X : Type 0} (before : DirectoryState X) (short lost : Bool) (entries : List (Entry X)) → short ≡ true → (entries ≡ [] → ⊥) → KnowsLack (board before short lost) → GivesTo (board before short lost) (board before short true) entries
dropped_so before short lost entries is some known = record {
  missing = entries;
  held = refl;
  whole = λ kept. absurd (false≢true (sym kept));
  lost_so = λ gone. inr (some, known.some is);
  stays = λ was. (refl, refl);
  unsealed = λ was. was;
  known = λ was. record { short = was.short; all = λ not_short. absurd (false≢true (sym not_short ∙ is)); some = was.some };
}
