-- How what a control knows and what a drain took make up a history.
use Rattle.std.proofs.Common.{◌≡◌, ℕ, zero, suc, ◌+◌, ◌-◌, ◌<◌, ◌≤◌, List, [], ◌∷◌, length, map, Bool, Option, Some, refl, sym, ap, subst, inl, inr, ◌∙◌, arith}
use Rattle.std.proofs.lemmas.Option.{same_Some}
use mathlib.Core.Logic.{dite}
use native.Mathlib.Decide.{ℕ_discrete}
use Rattle.rec_data.specs.declared.owned.Rec.{Rec}
use Rattle.mcap_io.specs.Outside.{SourceState}
use Rattle.mcap_model.specs.declared.ends.End.{End}
use Rattle.mcap_model.specs.declared.ends.End.TheVariants as ends
use Rattle.mcap_model.specs.declared.ends.Stop.{Stop}
use Rattle.mcap_model.specs.Places.{At, Has}
use Rattle.mcap_model.proofs.Places.{at_none}
use Rattle.record_core.specs.declared.answers.Found.{Found}
use Rattle.record_core.specs.declared.answers.CallRefused.{CallRefused}
use Rattle.feed_lane.specs.Pass.{PassState, with_places}
use Rattle.feed_lane.specs.Lanes.{IsGiven}
use Rattle.feed_lane.specs.Feeds.{reported}
use Rattle.buffer_swap.specs.Shown.{ShownBy}
use Rattle.buffer_swap.specs.ShownSteps.{ShownTo}
use Rattle.buffer_swap.specs.Plays.{Unclosed, Met}
use Rattle.buffer_swap.specs.Posts.{Gathered, Post}
use Rattle.buffer_swap.specs.Calls.{reasoned, DrainIsOver}
use Rattle.buffer_swap.specs.Laws.{PlacesKnown, PlacesAreKnown}
use Rattle.recorder.proofs.Collecting.{partner}
use Rattle.recorder.specs.Assembled.{LanePart, LanePartStands, Assembled}
use Rattle.recorder.specs.Recorded.{FeedRecorded, lane_of}
use Rattle.recorder.specs.Lanes.{ControlKnows, LanesRan}
use Rattle.recorder.specs.declared.report.Report.{Report}
use Rattle.recorder.specs.Onto.{IsReported}

-- ---- lists in step

pub map_at : {X Y : Type 0} (f : X → Y) (xs : List X) (k : ℕ) (x : X) → At xs k x → At (map f xs) k (f x)
map_at f [] k x at = absurd (at_none k x at)
map_at f (y ∷ ys) zero x at = ap (λ (z : _). Some (f z)) (same_Some y x at)
map_at f (y ∷ ys) (suc k) x at = map_at f ys k x at

pub at_map : {X Y : Type 0} (f : X → Y) (xs : List X) (k : ℕ) (y : Y) → At (map f xs) k y → (x : X) × At xs k x × (y ≡ f x)
at_map f [] k y at = absurd (at_none k y at)
at_map f (x ∷ xs) zero y at = (x, refl, same_Some y (f x) (sym at))
at_map f (x ∷ xs) (suc k) y at = at_map f xs k y at

-- ---- what a pass showed

same_last : (end last e : End) (p : PassState) (f : Found) → Unclosed p → p.found ≡ Some f → ((stop : Stop) → end ≡ ends.Stopped stop → last ≡ ends.Stopped stop) → f.end ≡ Some e → e ≡ end → e ≡ last
same_last end last ends.Closed p f unclosed is stops ended same = absurd (unclosed f is ended)
same_last end last (ends.Stopped stop) p f unclosed is stops ended same = sym (stops stop (sym same))

shown_by : (history : List Rec) (swaps : List ℕ) (end last : End) (p : PassState) (reasons : List CallRefused) → ShownTo history swaps end p → Unclosed p → ((stop : Stop) → end ≡ ends.Stopped stop → last ≡ ends.Stopped stop)
    → ShownBy history swaps last (reasoned p reasons)
shown_by history swaps end last p reasons shown unclosed stops = record {
  own = shown.own;
  named = shown.named;
  fulls = shown.fulls;
  lacks = shown.lacks;
  found = λ f is. let to = shown.found f is in record {
    within = to.within;
    numbers = to.numbers;
    all = to.all;
    same = λ e ended. same_last end last e p f unclosed is stops ended (to.same e ended);
    unclosed = unclosed f is;
  };
}

-- a place that a report gives is one of its pass
abbrev placed : ℕ → Rec → ℕ × Rec
placed n r = (n, r)

own_at : (added : List Rec) (first place : ℕ) → first ≤ place → place < first + length added → (n : ℕ) × (r : Rec) × At (with_places first added) n (place, r)
own_at [] first place le lt = absurd (omega (arith, le, lt))
own_at (r ∷ rs) first place le lt = dite (ℕ_discrete first place)
    (λ is. (zero, r, ap (λ (n : ℕ). Some (placed n r)) is))
    (λ not. let later = own_at rs (first + 1) place (grind arith) (omega (arith, lt)) in (suc later.0, later.1, later.2))

given_own : (f : FeedRecorded) (place : ℕ) → IsGiven (reported f.feed) place → (pair : ℕ × Rec) × Has f.pass.own pair × (pair.0 ≡ place)
given_own f place (inl (a, (n, at), is)) =
    let accepts = f.reports.fits.accepts n a at in
    (_, accepts.own, is)
given_own f place (inr (d, (n, at), le, lt)) =
    let declares = f.reports.fits.declares n d at in
    let (m, r, there) = own_at declares.added d.first place le (omega (arith, lt, declares.many)) in
    (_, declares.own m _ there, refl)

-- ---- the history

pub assembled : PlacesAreKnown → (limit : ℕ) (feeds : List FeedRecorded) (made : ℕ) (known : List Gathered) (closed : Bool) (halt : Option Stop) (taken : List Rec) (end last : End)
    → ControlKnows limit feeds known → Met made known closed halt taken end → ((stop : Stop) → halt ≡ Some stop → last ≡ ends.Stopped stop)
    → Assembled limit (map lane_of feeds) taken last
assembled places_are_known limit feeds made known closed halt taken end last are met stops =
    let places : PlacesKnown known taken = places_are_known known taken met.pairs in
    let ends_so : (stop : Stop) → end ≡ ends.Stopped stop → last ≡ ends.Stopped stop = λ stop is. stops stop (met.stops stop is) in
    record {
      numbered = met.numbered;
      swaps = met.swaps;
      handed = met.handed;
      stand = λ k lane at.
          let (f, at_f, is) = at_map lane_of feeds k lane at in
          let (p, at_p) = partner known feeds k f (sym are.alike.0) at_f in
          let alike = are.alike.1 k f p at_f at_p in
          subst (LanePartStands limit taken met.swaps last) (sym is) (record {
            fits = f.reports.fits;
            shown = subst (ShownBy taken met.swaps last) (sym alike) (shown_by taken met.swaps end last p.pass f.pass.reasons (met.shown k p at_p) (are.unclosed k p at_p) ends_so);
            limit_is = are.limits k f at_f;
          });
      given = λ place less.
          let (k, p, pair, at_p, (n, has), is) = places.given place less in
          let (f, at_f) = partner feeds known k p are.alike.0 at_p in
          let alike = are.alike.1 k f p at_f at_p in
          let own : At f.pass.own n pair = subst (λ (q : PassState). At q.own n pair) (sym alike) has in
          (k, lane_of f, map_at lane_of feeds k f at_f, subst (IsGiven (reported f.feed)) is (f.reports.fits.given n pair own));
      once = λ j k place one other at_j at_k in_one in_other.
          let (f, at_f, is_f) = at_map lane_of feeds j one at_j in
          let (h, at_h, is_h) = at_map lane_of feeds k other at_k in
          let (p, at_p) = partner known feeds j f (sym are.alike.0) at_f in
          let (q, at_q) = partner known feeds k h (sym are.alike.0) at_h in
          let (x, (m, has_x), x_is) = given_own f place (subst (λ (l : LanePart). IsGiven l.lists place) is_f in_one) in
          let (y, (n, has_y), y_is) = given_own h place (subst (λ (l : LanePart). IsGiven l.lists place) is_h in_other) in
          places.one_pass j k p q x y at_p at_q
          (m, subst (λ (s : PassState). At s.own m x) (are.alike.1 j f p at_f at_p) has_x)
          (n, subst (λ (s : PassState). At s.own n y) (are.alike.1 k h q at_h at_q) has_y)
          (x_is ∙ sym y_is);
    }

pub is_reported : PlacesAreKnown → (limit : ℕ) (lossless listed : Bool) (before now : List SourceState) (post : Post) (pass : PassState) (drain : Post) (r : Report) → LanesRan limit lossless listed before now r.feeds.items post
    → (end : End) × DrainIsOver pass drain end → ((end : End) → DrainIsOver pass drain end → Met post.made post.known post.closed drain.stop drain.taken end)
    → ((stop : Stop) → drain.stop ≡ Some stop → r.writer.end ≡ ends.Stopped stop) → IsReported limit lossless before now drain.taken r
is_reported places_are_known limit lossless listed before now post pass drain r ran (end, over) met stops = record {
  feeds = ran.feeds;
  are = ran.are;
  assembled = assembled places_are_known limit ran.feeds post.made post.known post.closed drain.stop drain.taken end r.writer.end ran.known (met end over) stops;
  unfull = ran.unfull;
}

-- what was taken where nobody published
pub none_taken : PlacesAreKnown → (made : ℕ) (closed : Bool) (halt : Option Stop) (taken : List Rec) (known : List Gathered) (end : End) → known ≡ [] → Met made known closed halt taken end → taken ≡ []
none_taken places_are_known made closed halt [] known end none met = refl
none_taken places_are_known made closed halt (r ∷ rs) known end none met =
    let places : PlacesKnown known (r ∷ rs) = places_are_known known (r ∷ rs) met.pairs in
    let (k, g, pair, at, has, is) = places.given 0 (omega arith) in
    absurd (at_none k g (subst (λ (l : List Gathered). At l k g) none at))
