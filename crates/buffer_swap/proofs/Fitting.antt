-- What a view says is so of a desk that has gone on.
use Rattle.std.proofs.Common.{◌≡◌, ℕ, ◌≤◌, true, false, List, [], ◌∷◌, ◌++◌, length, Option, Some, None, refl, sym, ap, subst, ◌∙◌, length-append, arith, true≢false}
use Rattle.std.proofs.lemmas.List.{take-append-le}
use Rattle.std.proofs.lemmas.Option.{none-some}
use Rattle.rec_data.specs.declared.owned.Rec.{Rec}
use Rattle.mcap_model.specs.declared.ends.End.{End}
use Rattle.mcap_model.specs.declared.ends.End.TheVariants.{Stopped}
use Rattle.mcap_model.specs.declared.ends.Stop.{Stop}
use Rattle.mcap_model.proofs.Places.{at_none, at_kept}
use Rattle.history_ids.specs.Ids.{schemas_in, channels_in}
use Rattle.record_core.specs.Desk.{DeskView, accepted, with_more_records, swapped, ended, first_of, desk_end, found_of}
use Rattle.record_core.specs.declared.answers.Found.{Found}
use Rattle.history_ids.proofs.Searches.{channels_more}
use Rattle.feed_lane.specs.Pass.{PassState}
use Rattle.feed_lane.specs.PassCalls.{no_calls, IsLater}
use Rattle.buffer_swap.specs.ShownSteps.{Spares}
use Rattle.buffer_swap.specs.Posts.{Post}
use Rattle.buffer_swap.specs.Turns.{FoundFits, PassFits, IsFront, NoteFits, ViewFits}
use Rattle.buffer_swap.specs.declared.view.View.{View}
use Rattle.buffer_swap.proofs.Growing.{name_stands_on, lacks_at_on, held_there_on, held_there_handed, found_there_on, found_there_handed}

pub no : {X : Type 0} → false ≡ true → X
no e = absurd (true≢false (sym e))

-- ---- a later desk

-- the desk has but grown
pub record Later (d after : DeskView) : Type 0 where
  pub later : IsLater (found_of d) (found_of after)
  pub all : (e : End) → desk_end d ≡ Some e → accepted d ≡ accepted after
  pub limit : after.limit ≡ d.limit

pub later_added : (d : DeskView) (records : List Rec) → d.end ≡ None → Later d (with_more_records d records)
later_added d records unended =
    let none : desk_end d ≡ None = ap first_of unended in
    record {
      later = record {
        taken = omega arith;
        count = omega (arith, length-append d.primary records);
        schemas = omega (arith, length-append d.ids.schemas (schemas_in records));
        channels = omega (arith, length-append d.ids.channels (channels_in records));
        end = λ e is. is;
      };
      all = λ e is. absurd (none-some _ (sym none ∙ is));
      limit = refl;
    }

pub later_swapped : (d : DeskView) → Later d (swapped d)
later_swapped d = record {
  later = record { taken = omega arith; count = omega arith; schemas = omega arith; channels = omega arith; end = λ e is. is };
  all = λ e is. omega arith;
  limit = refl;
}

pub later_ended : (d : DeskView) (end : End) → d.end ≡ None → Later d (ended d end)
later_ended d end unended =
    let none : desk_end d ≡ None = ap first_of unended in
    record {
      later = record { taken = omega arith; count = omega arith; schemas = omega arith; channels = omega arith; end = λ e is. absurd (none-some _ (sym none ∙ is)) };
      all = λ e is. absurd (none-some _ (sym none ∙ is));
      limit = refl;
    }

-- ---- how it was found

pub found_self : (d : DeskView) → FoundFits d (found_of d)
found_self d = record {
  later = record { taken = omega arith; count = omega arith; schemas = omega arith; channels = omega arith; end = λ e is. is };
  all = λ e is. refl;
}

pub found_later : (d after : DeskView) (f : Found) → Later d after → FoundFits d f → FoundFits after f
found_later d after f go fits = record {
  later = record {
    taken = omega (arith, fits.later.taken, go.later.taken);
    count = omega (arith, fits.later.count, go.later.count);
    schemas = omega (arith, fits.later.schemas, go.later.schemas);
    channels = omega (arith, fits.later.channels, go.later.channels);
    end = λ e is. go.later.end e (fits.later.end e is);
  };
  all = λ e is. fits.all e is ∙ go.all e (fits.later.end e is);
}

-- ---- passes

pub pass_later : (history : List Rec) (swaps : List ℕ) (d after : DeskView) (p : PassState) → Later d after → PassFits history swaps d p → PassFits history swaps after p
pass_later history swaps d after p go fits = record {
  own = fits.own;
  named = fits.named;
  named_ids = fits.named_ids;
  fulls = fits.fulls;
  lacks = fits.lacks;
  found = λ f is. found_later d after f go (fits.found f is);
  there = fits.there;
  limit = fits.limit ∙ sym go.limit;
}

pub pass_grown : (history records : List Rec) (swaps : List ℕ) (d : DeskView) (p : PassState) → d.end ≡ None → Spares history records → PassFits history swaps d p → PassFits (history ++ records) swaps (with_more_records d records) p
pass_grown history records swaps d p unended spares fits = record {
  own = λ n pair at. at_kept history records pair.0 pair.1 (fits.own n pair at);
  named = λ n name at. name_stands_on history records name (fits.named n name at);
  named_ids = λ n pair at.
      let there = fits.named_ids n pair at in
      (there.0, omega (arith, there.1, ap length (channels_more history records), length-append (channels_in history) (channels_in records)));
  fulls = λ n full at. held_there_on p.limit history records swaps full (fits.fulls n full at);
  lacks = λ n lack at. lacks_at_on history records lack spares (fits.lacks n lack at);
  found = λ f is. found_later d (with_more_records d records) f (later_added d records unended) (fits.found f is);
  there = λ f is. found_there_on p.limit history records swaps f (fits.there f is);
  limit = fits.limit;
}

-- a pass without calls
pub fits_none : (history : List Rec) (swaps : List ℕ) (d : DeskView) (limit : ℕ) → limit ≡ d.limit → PassFits history swaps d (no_calls limit)
fits_none history swaps d limit same = record {
  own = λ n pair at. absurd (at_none n pair at);
  named = λ n pair at. absurd (at_none n pair at);
  named_ids = λ n pair at. absurd (at_none n pair at);
  fulls = λ n full at. absurd (at_none n full at);
  lacks = λ n pair at. absurd (at_none n pair at);
  found = λ f is. absurd (none-some _ is);
  there = λ f is. absurd (none-some _ is);
  limit = same;
}

-- ---- a buffer that is handed over

-- what a view says holds still where one more was handed over, at the end of the history
pub pass_handed : (history : List Rec) (swaps : List ℕ) (at : ℕ) (d : DeskView) (p : PassState) → length history ≤ at → PassFits history swaps d p → PassFits history (swaps ++ at ∷ []) d p
pass_handed history swaps at d p end fits = record {
  own = fits.own;
  named = fits.named;
  named_ids = fits.named_ids;
  fulls = λ n full here. held_there_handed p.limit history swaps at full end (fits.fulls n full here);
  lacks = fits.lacks;
  found = fits.found;
  there = λ f is. found_there_handed p.limit history swaps at f end (fits.there f is);
  limit = fits.limit;
}

pub view_handed : (history : List Rec) (swaps : List ℕ) (at : ℕ) (d : DeskView) (halt : Option Stop) (u : View) → length history ≤ at → ViewFits history swaps d halt u → ViewFits history (swaps ++ at ∷ []) d halt u
view_handed history swaps at d halt u end fits = record {
  hand = fits.hand;
  pass = λ e. pass_handed history swaps at d u.pass end (fits.pass e);
  known = λ n p here. pass_handed history swaps at d p.pass end (fits.known n p here);
  note = fits.note;
  drains = fits.drains;
  idle = fits.idle;
}

-- ---- notes

front_grown : (taken history records : List Rec) → IsFront taken history → IsFront taken (history ++ records)
front_grown taken history records front = record {
  within = omega (arith, front.within, length-append history records);
  same = front.same ∙ sym (take-append-le (length taken) history records front.within);
}

pub front_none : (history : List Rec) → IsFront [] history
front_none history = record { within = omega arith; same = refl }

pub note_later : (history : List Rec) (d after : DeskView) (p : Post) → Later d after → NoteFits history d p → NoteFits history after p
note_later history d after p go note = record {
  taken = note.taken;
  told = λ f is. found_later d after f go (note.told f is);
  cause = note.cause;
  stood = λ stop is. go.later.end (Stopped stop) (note.stood stop is);
}

pub note_grown : (history records : List Rec) (d : DeskView) (p : Post) → d.end ≡ None → NoteFits history d p → NoteFits (history ++ records) (with_more_records d records) p
note_grown history records d p unended note = record {
  taken = front_grown p.taken history records note.taken;
  told = λ f is. found_later d (with_more_records d records) f (later_added d records unended) (note.told f is);
  cause = note.cause;
  stood = note.stood;
}

-- a post that tells nothing
pub note_none : (history : List Rec) (d : DeskView) (p : Post) → p.taken ≡ [] → p.told ≡ None → p.stop ≡ None → NoteFits history d p
note_none history d p none untold unset = record {
  taken = subst (λ (l : List Rec). IsFront l history) (sym none) (front_none history);
  told = λ f is. absurd (none-some _ (sym untold ∙ is));
  cause = λ f stop is end. absurd (none-some _ (sym untold ∙ is));
  stood = λ stop is. absurd (none-some _ (sym unset ∙ is));
}

-- ---- views of seats that don't hold the turn

pub view_grown : (history records : List Rec) (swaps : List ℕ) (d : DeskView) (halt : Option Stop) (u : View) → d.end ≡ None → Spares history records → u.holds ≡ false → ViewFits history swaps d halt u → ViewFits (history ++ records) swaps (with_more_records d records) halt u
view_grown history records swaps d halt u unended spares idle fits = record {
  hand = λ e. no (sym idle ∙ e);
  pass = λ e. pass_grown history records swaps d u.pass unended spares (fits.pass e);
  known = λ n p at. pass_grown history records swaps d p.pass unended spares (fits.known n p at);
  note = note_grown history records d u.post unended fits.note;
  drains = fits.drains;
  idle = fits.idle;
}

-- where it is no drain, or what a drain says holds still
pub view_later : (history : List Rec) (swaps : List ℕ) (d after : DeskView) (halt other : Option Stop) (u : View) → Later d after → u.holds ≡ false
    → (u.post.drains ≡ true → (length u.post.taken ≡ after.taken) × (u.post.stop ≡ other)) → ViewFits history swaps d halt u → ViewFits history swaps after other u
view_later history swaps d after halt other u go idle drains fits = record {
  hand = λ e. no (sym idle ∙ e);
  pass = λ e. pass_later history swaps d after u.pass go (fits.pass e);
  known = λ n p at. pass_later history swaps d after p.pass go (fits.known n p at);
  note = note_later history d after u.post go fits.note;
  drains = drains;
  idle = fits.idle;
}
