-- What lanes that ran come to together.
use Rattle.std.proofs.Common.{◌≡◌, ℕ, zero, suc, List, [], ◌∷◌, ◌++◌, length, map, take, drop, Bool, Option, Some, None, refl, sym, ap, subst, ◌∙◌, arith}
use Rattle.std.specs.Prelude.{true}
use Rattle.std.specs.List.{AllZip}
use Rattle.std.proofs.lemmas.Option.{same_Some}
use Rattle.mcap_io.specs.Outside.{SourceState}
use Rattle.mcap_model.specs.declared.ends.End.{End}
use Rattle.mcap_model.specs.Places.{At, Each}
use Rattle.mcap_model.proofs.Places.{at_none}
use Rattle.feed_lane.specs.declared.report.FeedReport.{FeedReport}
use Rattle.feed_lane.specs.Lanes.{InStep}
use Rattle.buffer_swap.specs.Calls.{reasoned, closed_at}
use Rattle.buffer_swap.specs.Plays.{Unclosed}
use Rattle.buffer_swap.specs.Posts.{Gathered, Post}
use Rattle.recorder.specs.Recorded.{FeedRecorded}
use Rattle.feed_lane.specs.Steps.{ListsMessages}
use Rattle.recorder.specs.Lanes.{LaneRan, LanesRan}

-- ---- lists

pub map_map : {X Y Z : Type 0} (f : X → Y) (g : Y → Z) (h : X → Z) → ((x : X) → g (f x) ≡ h x) → (xs : List X) → map g (map f xs) ≡ map h xs
map_map f g h same [] = refl
map_map f g h same (x ∷ xs) = ap (λ (z : _). z ∷ map g (map f xs)) (same x) ∙ ap (λ (l : List _). h x ∷ l) (map_map f g h same xs)

cons_head : {X : Type 0} (x y : X) (xs ys : List X) → x ∷ xs ≡ y ∷ ys → x ≡ y
cons_head x y xs ys e = cc

cons_tail : {X : Type 0} (x y : X) (xs ys : List X) → x ∷ xs ≡ y ∷ ys → xs ≡ ys
cons_tail x y xs ys e = cc

pub somes_same : {X : Type 0} (xs ys : List X) → map Some xs ≡ map Some ys → xs ≡ ys
somes_same [] [] e = refl
somes_same [] (y ∷ ys) e = absurd (omega (arith, ap length e))
somes_same (x ∷ xs) [] e = absurd (omega (arith, ap length e))
somes_same (x ∷ xs) (y ∷ ys) e =
    ap (λ (z : _). z ∷ xs) (same_Some x y (cons_head (Some x) (Some y) (map Some xs) (map Some ys) e)) ∙ ap (λ (l : List _). y ∷ l) (somes_same xs ys (cons_tail (Some x) (Some y) (map Some xs) (map Some ys) e))

pub zipped : {X Y : Type 0} (R : X → Y → Type 0) (xs : List X) (ys : List Y) → InStep R xs ys → AllZip R xs ys
zipped R [] [] it = tt
zipped R [] (y ∷ ys) it = absurd (omega (arith, it.0))
zipped R (x ∷ xs) [] it = absurd (omega (arith, it.0))
zipped R (x ∷ xs) (y ∷ ys) it = (it.1 zero x y refl refl, zipped R xs ys (omega (arith, it.0), λ n a b at_a at_b. it.1 (suc n) a b at_a at_b))

pub zipped_map : {X Y A B : Type 0} (R : A → B → Type 0) (f : X → A) (g : Y → B) (xs : List X) (ys : List Y) → AllZip (λ x y. R (f x) (g y)) xs ys → AllZip R (map f xs) (map g ys)
zipped_map R f g [] [] it = tt
zipped_map R f g [] (y ∷ ys) it = absurd it
zipped_map R f g (x ∷ xs) [] it = absurd it
zipped_map R f g (x ∷ xs) (y ∷ ys) it = (it.0, zipped_map R f g xs ys it.1)

step_cons : {X Y : Type 0} (R : X → Y → Type 0) (x : X) (y : Y) (xs : List X) (ys : List Y) → R x y → InStep R xs ys → InStep R (x ∷ xs) (y ∷ ys)
step_cons R x y xs ys is it = (ap suc it.0, λ n a b at_a at_b. by n a b at_a at_b)
  where
    by : (n : ℕ) (a : _) (b : _) → At (x ∷ xs) n a → At (y ∷ ys) n b → R a b
    by zero a b at_a at_b = subst (λ (z : _). R z b) (same_Some x a at_a) (subst (R x) (same_Some y b at_b) is)
    by (suc n) a b at_a at_b = it.1 n a b at_a at_b

each_map : {X Y : Type 0} (P : Y → Type 0) (f : X → Y) (xs : List X) → Each (λ x. P (f x)) xs → Each P (map f xs)
each_map P f [] it n y at = absurd (at_none n y at)
each_map P f (x ∷ xs) it zero y at = subst P (same_Some (f x) y at) (it zero x refl)
each_map P f (x ∷ xs) it (suc n) y at = each_map P f xs (λ k z there. it (suc k) z there) n y at

each_more : {X : Type 0} (P : X → Type 0) (x : X) (xs : List X) → P x → Each P xs → Each P (x ∷ xs)
each_more P x xs is it zero y at = subst P (same_Some x y at) is
each_more P x xs is it (suc n) y at = it n y at

pub length_map : {X Y : Type 0} (f : X → Y) (xs : List X) → length (map f xs) ≡ length xs
length_map f [] = refl
length_map f (x ∷ xs) = ap suc (length_map f xs)

pub partner : {X Y : Type 0} (xs : List X) (ys : List Y) (k : ℕ) (y : Y) → length xs ≡ length ys → At ys k y → (x : X) × At xs k x
partner xs [] k y same at = absurd (at_none k y at)
partner [] (z ∷ zs) k y same at = absurd (omega (arith, same))
partner (x ∷ xs) (z ∷ zs) zero y same at = (x, refl)
partner (x ∷ xs) (z ∷ zs) (suc k) y same at = partner xs zs k y (omega (arith, same)) at

-- the elements of a vector behind a loan of all of them
pub lent : {X : Type 0} (n : ℕ) (now old : List X) → length old ≡ length now → n ≡ length old → take n (now ++ drop (length now) old) ≡ now
lent zero [] [] same is = refl
lent (suc n) [] [] same is = absurd (omega (arith, is))
lent n [] (y ∷ ys) same is = absurd (omega (arith, same))
lent n (x ∷ xs) [] same is = absurd (omega (arith, same))
lent zero (x ∷ xs) (y ∷ ys) same is = absurd (omega (arith, is))
lent (suc n) (x ∷ xs) (y ∷ ys) same is = ap (λ (l : List _). x ∷ l) (lent n xs ys (omega (arith, same)) (omega (arith, is)))

-- what was put behind nothing
pub behind_none : {X Y : Type 0} (f : X → Y) (all before : List Y) (lent ys : List X) → all ≡ before ++ map f lent → before ≡ [] → lent ≡ ys → all ≡ map f ys
behind_none f all before lent ys is none same = is ∙ ap (λ (l : List _). l ++ map f lent) none ∙ ap (map f) same

-- ---- a close

pub closed_known : (end : Option End) (post now : Post) → now ≡ closed_at end post → now.known ≡ post.known
closed_known None post now is = ap (λ (p : Post). p.known) is
closed_known (Some e) post now is = ap (λ (p : Post). p.known) is

pub closed_made : (end : Option End) (post now : Post) → now ≡ closed_at end post → now.made ≡ post.made
closed_made None post now is = ap (λ (p : Post). p.made) is
closed_made (Some e) post now is = ap (λ (p : Post). p.made) is

-- ---- lanes

module _ {X : Type 0} (limit : ℕ) (lossless listed : Bool) (waits : X → Bool) (state : X → SourceState) (shown : X → Gathered) (report : X → Option FeedReport) where
  abbrev Ran : X → X → Type 0
  Ran x y = LaneRan limit (waits x) listed (state x) (state y) (shown y).pass (report y)

  record Collected (xs ys : List X) : Type 0 where
    pub feeds : List FeedRecorded
    pub before : map state xs ≡ map (λ (f : FeedRecorded). f.before) feeds
    pub now : map state ys ≡ map (λ (f : FeedRecorded). f.now) feeds
    pub reports : map report ys ≡ map Some (map (λ (f : FeedRecorded). f.feed) feeds)
    pub alike : InStep (λ (f : FeedRecorded) (g : Gathered). f.pass ≡ reasoned g.pass f.pass.reasons) feeds (map shown ys)
    pub limits : Each (λ (f : FeedRecorded). f.pass.limit ≡ limit) feeds
    pub unfull : lossless ≡ true → Each (λ (f : FeedRecorded). f.pass.fulls ≡ []) feeds
    pub lists : Each (λ (f : FeedRecorded). ListsMessages f.feed listed) feeds

  collect : (xs ys : List X) → InStep Ran xs ys → Each (λ x. waits x ≡ lossless) xs → Collected xs ys
  collect [] [] it wait = record {
    feeds = [];
    before = refl;
    now = refl;
    reports = refl;
    alike = (refl, λ n f p at_f at_p. absurd (at_none n f at_f));
    limits = λ n f at. absurd (at_none n f at);
    unfull = λ is n f at. absurd (at_none n f at);
    lists = λ n f at. absurd (at_none n f at);
  }
  collect [] (y ∷ ys) it wait = absurd (omega (arith, it.0))
  collect (x ∷ xs) [] it wait = absurd (omega (arith, it.0))
  collect (x ∷ xs) (y ∷ ys) it wait =
      let ran : Ran x y = it.1 zero x y refl refl in
      let more : Collected xs ys = collect xs ys (omega (arith, it.0), λ n a b at_a at_b. it.1 (suc n) a b at_a at_b) (λ n a at. wait (suc n) a at) in
      let f : FeedRecorded = record { before = state x; now = state y; feed = ran.feed; pass = ran.shown; reports = ran.reports } in
      record {
        feeds = f ∷ more.feeds;
        before = ap (λ (l : List SourceState). state x ∷ l) more.before;
        now = ap (λ (l : List SourceState). state y ∷ l) more.now;
        reports = ap (λ (o : Option FeedReport). o ∷ map report ys) ran.is ∙ ap (λ (l : List (Option FeedReport)). Some ran.feed ∷ l) more.reports;
        alike = step_cons (λ (f : FeedRecorded) (g : Gathered). f.pass ≡ reasoned g.pass f.pass.reasons) f (shown y) more.feeds (map shown ys) ran.same more.alike;
        limits = each_more (λ (f : FeedRecorded). f.pass.limit ≡ limit) f more.feeds ran.limited more.limits;
        unfull = λ is. each_more (λ (f : FeedRecorded). f.pass.fulls ≡ []) f more.feeds (ran.unfull (wait zero x refl ∙ is)) (more.unfull is);
        lists = each_more (λ (f : FeedRecorded). ListsMessages f.feed listed) f more.feeds ran.lists more.lists;
      }

  pub lanes_ran : (xs ys : List X) (now : List SourceState) (reports : List FeedReport) (post : Post)
      → InStep Ran xs ys → Each (λ x. waits x ≡ lossless) xs → Each (λ y. Unclosed (shown y).pass) ys
      → now ≡ map state ys → map Some reports ≡ map report ys → post.known ≡ map shown ys → post.made ≡ length xs
      → LanesRan limit lossless listed (map state xs) now reports post
  lanes_ran xs ys now reports post it wait unclosed now_is reports_are known made =
      let all : Collected xs ys = collect xs ys it wait in
      let same = somes_same reports (map (λ (f : FeedRecorded). f.feed) all.feeds) (reports_are ∙ all.reports) in
      record {
        feeds = all.feeds;
        are = record { before_are = all.before; now_are = now_is ∙ all.now; reports_are = same };
        known = record {
          alike = subst (InStep (λ (f : FeedRecorded) (g : Gathered). f.pass ≡ reasoned g.pass f.pass.reasons) all.feeds) (sym known) all.alike;
          unclosed = subst (Each (λ (g : Gathered). Unclosed g.pass)) (sym known) (each_map (λ (g : Gathered). Unclosed g.pass) shown ys unclosed);
          limits = all.limits;
        };
        all = ap length known ∙ length_map shown ys ∙ sym it.0 ∙ sym made;
        unfull = all.unfull;
        lists = subst (Each (λ (f : FeedReport). ListsMessages f listed)) (sym same) (each_map (λ (f : FeedReport). ListsMessages f listed) (λ (f : FeedRecorded). f.feed) all.feeds all.lists);
      }
